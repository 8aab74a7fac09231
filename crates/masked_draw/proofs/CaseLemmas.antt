-- What each strip of the masked pass is.
use Rattle.picture_rules.proofs.Common.{[], and_parts, arith, Bool, cond, Contains, Contains-append_cases, false, filter, get_or, gets, inl, inr, int_lt, length, List, map, None, Option, range_with_len, refl, slice_get, slice_get_within, Some, subst, suc, true, zero, ℕ, ◌&&◌, ◌+◌, ◌-◌, ◌<◌, ◌∷◌, ◌≡◌, ◌≤◌, ◌⊎◌}
use Rattle.std.proofs.lemmas.List.Elements.{Contains-push_cases}
use Rattle.receiver_rules.proofs.FirstLemmas.{first-cases, joined-cases}
use Rattle.masked_draw.specs.Rules.{Drawseg, SpriteEntry, ViewValue, columns_at, listed_from, same_number, sprite_in_front}
use Rattle.brush.specs.Strips.{Middle, Picture, Strip}
use Rattle.masked_draw.specs.Strips.{masked_column_strip, masked_column_strips, masked_strips, middles_strips, moment_strips, shown_sprite, sprite_strips, sprites_strips, step_strips}
use Rattle.masked_draw.proofs.{DownLemmas.down_strips, MiddleLemmas.only-one, PassLemmas.turn_strips}

-- a masked column of one of the fragments
pub record IsColumnStrip (v : ViewValue) (ds : List Drawseg) (strip : Strip) : Type 0 where
  pub number : ℕ
  pub fragment : Drawseg
  pub there : slice_get ds number ≡ Some fragment
  pub masked : fragment.masked ≡ true
  pub x : ℕ
  pub first : fragment.first ≤ x
  pub last : x ≤ fragment.last
  pub is : Middle (masked_column_strip v number fragment x) ≡ strip

-- one of the sprites, which has a column
pub record IsSpriteStrip (v : ViewValue) (ds : List Drawseg) (es : List SpriteEntry) (strip : Strip) : Type 0 where
  pub sprite : SpriteEntry
  pub among : Contains es sprite
  pub some : int_lt sprite.last sprite.first ≡ false
  pub is : Picture (shown_sprite v ds sprite) ≡ strip

-- a number that a filter of a range keeps
kept_by : (p : ℕ → Bool) (a n x : ℕ) (ys : List ℕ) (b : Bool) → p a ≡ b → (Contains ys x → (a + 1 ≤ x) × ((x < a + 1 + n) × (p x ≡ true))) →
    Contains (cond b (a ∷ ys) ys) x → (a ≤ x) × ((x < a + suc n) × (p x ≡ true))
kept_by p a n x ys true is later h =
    elim (Contains-append_cases (a ∷ []) ys x h) [
      | inl here ↦ elim (Contains-push_cases [] a x here) [
        | inl none ↦ absurd (omega (arith, none.1))
        | inr same ↦ (omega (arith, same), (omega (arith, same), subst (λ (y : ℕ). p y ≡ true) same is))
      ]
      | inr there ↦ (let found = later there in (omega (arith, found.0), (omega (arith, found.1.0), found.1.1)))
    ]
kept_by p a n x ys false is later h = let found = later h in (omega (arith, found.0), (omega (arith, found.1.0), found.1.1))

kept : (p : ℕ → Bool) (a n x : ℕ) → Contains (filter p (map (λ y. y) (range_with_len a n))) x → (a ≤ x) × ((x < a + n) × (p x ≡ true))
kept p a zero x h = absurd (omega (arith, h.1))
kept p a (suc n) x h = kept_by p a n x (filter p (map (λ y. y) (range_with_len (a + 1) n))) (p a) refl (kept p (a + 1) n x) h

-- a column of a fragment that is drawn at a moment
column_at : (es : List SpriteEntry) (moment : Option ℕ) (d : Drawseg) (x : ℕ) → Contains (columns_at es moment d) x → (d.first ≤ x) × ((x ≤ d.last) × (d.masked ≡ true))
unfolding columns_at listed_from
column_at es moment d x h =
    let found = kept (λ y. d.masked && same_number (sprite_in_front es d y) moment) d.first (d.last + 1 - d.first) x h in
    (found.0, (omega (arith, found.0, found.1.0), (and_parts d.masked (same_number (sprite_in_front es d x) moment) found.1.1).0))

none_there : (strip : Strip) → Contains [] strip → ⊥
none_there strip h = omega (arith, h.1)

module _ (v : ViewValue) (ds : List Drawseg) (es : List SpriteEntry) where
  moment_cases : (moment : Option ℕ) (k : ℕ) (o : Option Drawseg) (strip : Strip) → slice_get ds k ≡ o → Contains (moment_strips v es moment k o) strip → IsColumnStrip v ds strip
  unfolding moment_strips masked_column_strips
  moment_cases moment k None strip is h = absurd (none_there strip h)
  moment_cases moment k (Some d) strip is h =
      let found = joined-cases (masked_column_strips v k d) (columns_at es moment d) strip h in
      let column = column_at es moment d found.0 found.1.0 in
      record {
        number = k;
        fragment = d;
        there = is;
        masked = column.1.1;
        x = found.0;
        first = column.0;
        last = column.1.0;
        is = only-one (Middle (masked_column_strip v k d found.0)) strip found.1.1;
      }

  middles_cases : (moment : Option ℕ) (strip : Strip) → Contains (middles_strips v ds es moment) strip → IsColumnStrip v ds strip
  unfolding middles_strips
  middles_cases moment strip h =
      let found = first-cases (down_strips v ds es moment) (length ds) strip h in
      moment_cases moment (length ds - suc found.number) (slice_get ds (length ds - suc found.number)) strip refl found.among

  sprite_by : (e : SpriteEntry) (b : Bool) (strip : Strip) → Contains es e → int_lt e.last e.first ≡ b → Contains (cond b [] (Picture (shown_sprite v ds e) ∷ [])) strip → IsSpriteStrip v ds es strip
  sprite_by e true strip among is h = absurd (none_there strip h)
  sprite_by e false strip among is h = record { sprite = e; among = among; some = is; is = only-one (Picture (shown_sprite v ds e)) strip h }

  step_cases : (i : ℕ) (o : Option SpriteEntry) (strip : Strip) → slice_get es i ≡ o → Contains (step_strips v ds es i o) strip → IsColumnStrip v ds strip ⊎ IsSpriteStrip v ds es strip
  unfolding step_strips sprite_strips
  step_cases i None strip is h = absurd (none_there strip h)
  step_cases i (Some e) strip is h =
      elim (Contains-append_cases (middles_strips v ds es (Some i)) (sprite_strips v ds e) strip h) [
        | inl before ↦ inl (middles_cases (Some i) strip before)
        | inr own ↦ inr (sprite_by e (int_lt e.last e.first) strip (i, slice_get_within es i e is, got i e is) refl own)
      ] where
        got : (i : ℕ) (e : SpriteEntry) → slice_get es i ≡ Some e → get_or es i e ≡ e
        got i e is = grind (arith, gets)

  -- a strip of the pass
  pub masked-cases : (strip : Strip) → Contains (masked_strips v ds es) strip → IsColumnStrip v ds strip ⊎ IsSpriteStrip v ds es strip
  unfolding masked_strips sprites_strips
  masked-cases strip h =
      elim (Contains-append_cases (sprites_strips v ds es) (middles_strips v ds es None) strip h) [
        | inl before ↦ (let found = first-cases (turn_strips v ds es) (length es) strip before in step_cases found.number (slice_get es found.number) strip refl found.among)
        | inr left ↦ inl (middles_cases None strip left)
      ]
