-- Laws of the masked columns of a moment, fragment by fragment from the last down, and of a sprite that has no column.
use Rattle.picture_rules.proofs.Common.{[], and-false_right, ap, arith, Bool, cond, false, IfSome, int_le, int_lt, ints, length, List, None, not, Option, pos, refl, slice_get, Some, suc, sym, true, ℕ, ℤ, ◌&&◌, ◌++◌, ◌+◌, ◌-◌, ◌<◌, ◌∷◌, ◌||◌, ◌∙◌, ◌≡◌}
use Rattle.masked_draw.specs.Rules.{Drawseg, FragmentNote, SpriteEntry, ViewValue, columns_at, entry_has, is_behind, joined_lists, listed_from, same_number, sprite_in_front}
use Rattle.brush.specs.Strips.{Picture, Strip}
use Rattle.receiver_rules.proofs.FirstLemmas.{first_lists, first-left, first-more, first-none, first-past}
use Rattle.masked_draw.specs.Marks.{is_passed, is_before, AreBefore, MarkedTo}
use Rattle.masked_draw.specs.Strips.{masked_column_strips, middles_strips, moment_strips, shown_sprite, sprite_strips, step_strips}
use Rattle.masked_draw.proofs.MomentLemmas.{front-now, front-more}
use Rattle.masked_draw.proofs.MarkLemmas.{range_none}

module _ (v : ViewValue) (ds : List Drawseg) (es : List SpriteEntry) (moment : Option ℕ) where
  -- the strips of the fragment of that number, counted from the last down
  abbrev pub down_strips : ℕ → List Strip
  down_strips n = moment_strips v es moment (length ds - suc n) (slice_get ds (length ds - suc n))

  -- those of fragment m
  down_at : (m : ℕ) → m < length ds → down_strips (length ds - (m + 1)) ≡ moment_strips v es moment m (slice_get ds m)
  down_at m l =
      let comes_to_m : length ds - suc (length ds - (m + 1)) ≡ m = omega (arith, l) in
      ap (λ (k : ℕ). moment_strips v es moment k (slice_get ds k)) comes_to_m

  -- at the start there are none
  pub down-start : (n : ℕ) → length ds ≡ n → [] ≡ first_lists down_strips (length ds - n)
  down-start n same =
      let none_left : 0 ≡ length ds - n = omega (arith, same) in
      sym (first-none down_strips) ∙ ap (first_lists down_strips) none_left

  -- one fragment more
  pub down-more : (m : ℕ) → m < length ds →
      first_lists down_strips (length ds - (m + 1)) ++ moment_strips v es moment m (slice_get ds m) ≡ first_lists down_strips (length ds - m)
  down-more m l =
      let next : length ds - (m + 1) + 1 ≡ length ds - m = omega (arith, l) in
      ap (λ (xs : List Strip). first_lists down_strips (length ds - (m + 1)) ++ xs) (sym (down_at m l))
      ∙ first-more down_strips (length ds - (m + 1)) ∙ ap (first_lists down_strips) next

  -- what is left behind it
  pub down-left : (m : ℕ) → m < length ds →
      (rest : List Strip) × (first_lists down_strips (length ds - (m + 1)) ++ (moment_strips v es moment m (slice_get ds m) ++ rest) ≡ middles_strips v ds es moment)
  unfolding middles_strips
  down-left m l =
      let left = first-left down_strips (length ds - (m + 1)) (length ds) (omega (arith, l)) in
      (left.0, ap (λ (xs : List Strip). first_lists down_strips (length ds - (m + 1)) ++ (xs ++ left.0)) (sym (down_at m l)) ∙ left.1)

  -- after the first fragment there are all
  pub down-end : first_lists down_strips (length ds - 0) ≡ middles_strips v ds es moment
  unfolding middles_strips
  down-end = let all_left : length ds - 0 ≡ length ds = omega arith in ap (first_lists down_strips) all_left

  -- where no fragment has one there are none
  down_none : ((n : ℕ) → n < length ds → down_strips n ≡ []) → middles_strips v ds es moment ≡ []
  unfolding middles_strips
  down_none none =
      sym (first-past down_strips 0 (length ds) (λ n from to. none n to) (λ n from to. absurd (omega (arith, to))))
      ∙ first-none down_strips

-- a sprite without a column
no_column : (first last : ℤ) (x : ℕ) → int_lt last first ≡ true → (int_le first (pos x) && int_le (pos x) last) ≡ false
no_column first last x h = grind (arith, ints)

not_passed : (e : SpriteEntry) (d : Drawseg) (x : ℕ) → int_lt e.last e.first ≡ true → is_passed e d x ≡ false
unfolding entry_has
not_passed e d x h = ap (λ (b : Bool). b && is_behind d e) (no_column e.first e.last x h)

no_columns : (es : List SpriteEntry) (i : ℕ) (e : SpriteEntry) (d : Drawseg) → i < length es → slice_get es i ≡ Some e → int_lt e.last e.first ≡ true →
    columns_at es (Some i) d ≡ []
unfolding columns_at listed_from
no_columns es i e d l g h =
    range_none (λ x. d.masked && same_number (sprite_in_front es d x) (Some i)) d.first (d.last + 1 - d.first)
    (λ x a b. and-false_right d.masked (same_number (sprite_in_front es d x) (Some i))
    (front-now es d x i e l g ∙ and-false_right (not (is_before (sprite_in_front es d x) i)) (is_passed e d x) (not_passed e d x h)))

no_moment : (v : ViewValue) (es : List SpriteEntry) (i k : ℕ) (e : SpriteEntry) (o : Option Drawseg) → i < length es → slice_get es i ≡ Some e →
    int_lt e.last e.first ≡ true → moment_strips v es (Some i) k o ≡ []
unfolding moment_strips joined_lists
no_moment v es i k e None l g h = refl
no_moment v es i k e (Some d) l g h = ap (joined_lists (masked_column_strips v k d)) (no_columns es i e d l g h)

-- there is no strip of it, nor before it
pub step-none : (v : ViewValue) (ds : List Drawseg) (es : List SpriteEntry) (i : ℕ) (e : SpriteEntry) → i < length es → slice_get es i ≡ Some e →
    int_lt e.last e.first ≡ true → step_strips v ds es i (Some e) ≡ []
unfolding step_strips sprite_strips
step-none v ds es i e l g h =
    ap (λ (xs : List Strip). xs ++ sprite_strips v ds e) (down_none v ds es (Some i) (λ n m. no_moment v es i (length ds - suc n) e (slice_get ds (length ds - suc n)) l g h))
    ∙ ap (λ (b : Bool). cond b [] (Picture (shown_sprite v ds e) ∷ [])) h

or_off : (a b : Bool) → b ≡ false → (a || b) ≡ a
or_off true b h = refl
or_off false b h = h

skip_note : (seg : FragmentNote → Drawseg) (es : List SpriteEntry) (marks : List Bool) (d : FragmentNote) (i : ℕ) (e : SpriteEntry) (masked : Option ℕ) →
    i < length es → slice_get es i ≡ Some e → int_lt e.last e.first ≡ true → AreBefore seg es marks d i masked → AreBefore seg es marks d (i + 1) masked
skip_note seg es marks d i e None l g h b = tt
skip_note seg es marks d i e (Some place) l g h b =
    λ x p q. b x p q ∙ sym (front-more es (seg d) x i e l g ∙ or_off (is_before (sprite_in_front es (seg d) x) i) (is_passed e (seg d) x) (not_passed e (seg d) x h))

skip_some : (seg : FragmentNote → Drawseg) (es : List SpriteEntry) (marks : List Bool) (i : ℕ) (e : SpriteEntry) (o : Option FragmentNote) → i < length es →
    slice_get es i ≡ Some e → int_lt e.last e.first ≡ true → IfSome o (λ d. AreBefore seg es marks d i d.masked) →
    IfSome o (λ d. AreBefore seg es marks d (i + 1) d.masked)
skip_some seg es marks i e None l g h b = tt
skip_some seg es marks i e (Some d) l g h b = skip_note seg es marks d i e d.masked l g h b

-- and the marks say of it what they said
pub marked-skip : (seg : FragmentNote → Drawseg) (notes : List FragmentNote) (es : List SpriteEntry) (n i : ℕ) (marks : List Bool) (e : SpriteEntry) →
    i < length es → slice_get es i ≡ Some e → int_lt e.last e.first ≡ true → MarkedTo seg notes es n (λ k. i) marks → MarkedTo seg notes es n (λ k. i + 1) marks
marked-skip seg notes es n i marks e l g h m = record { at = λ k s. skip_some seg es marks i e (slice_get notes k) l g h (m.at k s) }
