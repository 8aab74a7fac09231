-- The dots of the strips of the masked pass are its own.
use Rattle.picture_rules.proofs.Common.{[], ap, append-nil, append_assoc, arith, Bool, cond, false, int_lt, length, List, map, None, Option, range_with_len, refl, slice_get, Some, suc, sym, true, zero, ℕ, ◌++◌, ◌+◌, ◌-◌, ◌<◌, ◌∙◌, ◌∷◌, ◌≡◌, ℤ, unwrap_or, option_map, pos}
use Rattle.picture_rules.proofs.Laws.{get_or-listed, joined_lists-append, rows_between-none}
use Rattle.masked_draw.specs.Rules.{Art, Dot, Drawseg, SpriteEntry, ViewValue, MaskedColumn, columns_at, clip_of_number, clip_of_some, greatest_that, gives_bottom, gives_top, joined_lists, listed, listed_from, masked_dots, middle_column, middles_at, middles_of, minus_one, natural, posts_dots, rows_between, sprite_bottom, sprite_column, sprite_dots, sprite_masked, sprite_step, sprite_top, sprites_from, painter_of, lump_source, picture_column, SPRITE}
use Rattle.picture_rules.specs.Words.{middle_by as dots_by}
use Rattle.receiver_rules.proofs.FirstLemmas.{first_lists, first-from, first-more, first-none, first-same, joined-joined}
use Rattle.brush.specs.Strips.{Picture, column_of_picture, dots_of_strip, middle_dots, picture_dots, picture_masked, strips_dots}
use Rattle.masked_draw.specs.Clipped.{row_in}
use Rattle.masked_draw.specs.Strips.{bottom_taken, masked_column_strip, masked_column_strips, masked_strips, middles_strips, moment_strips, noted_clip, shown_sprite, sprite_strip, sprite_strips, sprites_strips, step_strips, top_taken}
use Rattle.masked_draw.proofs.{DownLemmas.down_strips, PassLemmas.turn_strips}

rows_some : (first last : ℤ) → int_lt last first ≡ false → rows_between first last ≡ listed_from (λ y. y) (natural first) (natural last)
unfolding rows_between
rows_some first last h = rw h

joined_same : {X : Type 0} (f g : X → List Dot) (xs : List X) → ((x : X) → f x ≡ g x) → joined_lists f xs ≡ joined_lists g xs
unfolding joined_lists
joined_same f g [] same = refl
joined_same f g (x ∷ xs) same = ap (λ (ys : List Dot). ys ++ joined_lists f xs) (same x) ∙ ap (λ (ys : List Dot). g x ++ ys) (joined_same f g xs same)

-- a masked column
column_dots : (v : ViewValue) (art : Art) (k : ℕ) (d : Drawseg) (x : ℕ) → strips_dots art (masked_column_strips v k d x) ≡ middle_column v art k d x
unfolding strips_dots masked_column_strips joined_lists middle_dots masked_column_strip middle_column dots_by
column_dots v art k d x = append-nil (middle_column v art k d x)

-- the masked columns of a fragment at a moment
moment_dots : (v : ViewValue) (art : Art) (es : List SpriteEntry) (moment : Option ℕ) (k : ℕ) (o : Option Drawseg) →
    strips_dots art (moment_strips v es moment k o) ≡ middles_of v art es moment k o
unfolding strips_dots moment_strips middles_of joined_lists
moment_dots v art es moment k None = refl
moment_dots v art es moment k (Some d) =
    joined-joined (dots_of_strip art) (masked_column_strips v k d) (columns_at es moment d)
    ∙ joined_same (λ x. strips_dots art (masked_column_strips v k d x)) (middle_column v art k d) (columns_at es moment d) (column_dots v art k d)

-- lists that come number by number, by the first
first_cons : {X : Type 0} (f : ℕ → List X) (n : ℕ) → f 0 ++ first_lists (λ k. f (suc k)) n ≡ first_lists f (suc n)
first_cons {X} f zero =
    let one : 0 + 1 ≡ suc zero = omega arith in
    ap (λ (xs : List X). f 0 ++ xs) (first-none (λ k. f (suc k))) ∙ append-nil (f 0)
    ∙ sym (ap (λ (xs : List X). xs ++ f 0) (first-none f)) ∙ first-more f 0 ∙ ap (first_lists f) one
first_cons {X} f (suc n) =
    let next : n + 1 ≡ suc n = omega arith in
    let after : suc n + 1 ≡ suc (suc n) = omega arith in
    ap (λ (xs : List X). f 0 ++ xs) (sym (first-more (λ k. f (suc k)) n ∙ ap (first_lists (λ k. f (suc k))) next))
    ∙ sym (append_assoc (f 0) (first_lists (λ k. f (suc k)) n) (f (suc n)))
    ∙ ap (λ (xs : List X). xs ++ f (suc n)) (first_cons f n) ∙ first-more f (suc n) ∙ ap (first_lists f) after

module _ (v : ViewValue) (ds : List Drawseg) where
  -- the clips of a sprite
  clip_some : (clip : Drawseg → ℤ) (without : ℤ) (o : Option Drawseg) → unwrap_or (option_map clip o) without ≡ clip_of_some clip without o
  unfolding clip_of_some
  clip_some clip without None = refl
  clip_some clip without (Some d) = refl

  clip_number : (clip : Drawseg → ℤ) (without : ℤ) (o : Option ℕ) → unwrap_or (noted_clip clip ds o) without ≡ clip_of_number clip without ds o
  unfolding noted_clip clip_of_number clip_of_some
  clip_number clip without None = refl
  clip_number clip without (Some k) = clip_some clip without (slice_get ds k)

  listed_clip : (row : ℕ → Option ℤ) (first count n : ℕ) → n < count → row_in (listed (λ k. row (first + k)) count) (first + n - first) ≡ row (first + n)
  listed_clip row first count n l =
      let back : first + n - first ≡ n = omega arith in
      ap (λ (k : ℕ). row_in (listed (λ k. row (first + k)) count) k) back ∙ get_or-listed (λ k. row (first + k)) count n None l

  -- a column of its strip is drawn as the sprite's
  pub masked-same : (e : SpriteEntry) (n : ℕ) → n < natural e.last + 1 - natural e.first →
      picture_masked (shown_sprite v ds e) (natural e.first + n) ≡ sprite_masked v ds e (natural e.first + n)
  unfolding picture_masked shown_sprite sprite_strip sprite_masked sprite_top sprite_bottom top_taken bottom_taken
  masked-same e n l =
      let x : ℕ = natural e.first + n in
      let count : ℕ = natural e.last + 1 - natural e.first in
      let top = ap (λ (o : Option ℤ). unwrap_or o minus_one) (listed_clip (top_taken ds e) (natural e.first) count n l) ∙ clip_number (λ d. d.top_clip x) minus_one (greatest_that (gives_top e x) ds) in
      let bottom = ap (λ (o : Option ℤ). unwrap_or o (pos v.shape.height)) (listed_clip (bottom_taken ds e) (natural e.first) count n l) ∙ clip_number (λ d. d.bottom_clip x) (pos v.shape.height) (greatest_that (gives_bottom e x) ds) in
      λ i. record { scale = e.scale; mid = e.mid; iscale = e.iscale; top_clip = top i; bottom_clip = bottom i }

module _ (v : ViewValue) (art : Art) (ds : List Drawseg) (es : List SpriteEntry) where
  middles_down : (moment : Option ℕ) (n : ℕ) → first_lists (λ c. middles_of v art es moment (n - suc c) (slice_get ds (n - suc c))) n ≡ middles_at v art ds es moment n
  unfolding middles_at
  middles_down moment zero = first-none (λ c. middles_of v art es moment (zero - suc c) (slice_get ds (zero - suc c)))
  middles_down moment (suc n) =
      let at = λ (k : ℕ). middles_of v art es moment k (slice_get ds k) in
      let last : suc n - suc 0 ≡ n = omega arith in
      sym (first_cons (λ c. at (suc n - suc c)) n)
      ∙ ap (λ (k : ℕ). at k ++ first_lists (λ c. at (suc n - suc (suc c))) n) last
      ∙ ap (λ (xs : List Dot). at n ++ xs)
      (first-same (λ c. at (suc n - suc (suc c))) (λ c. at (n - suc c)) n (λ c l. let less : suc n - suc (suc c) ≡ n - suc c = omega (arith, l) in ap at less)
      ∙ middles_down moment n)

  -- those of all fragments at a moment
  middles_dots : (moment : Option ℕ) → strips_dots art (middles_strips v ds es moment) ≡ middles_at v art ds es moment (length ds)
  unfolding strips_dots middles_strips
  middles_dots moment =
      joined-joined (dots_of_strip art) (down_strips v ds es moment) (listed (λ n. n) (length ds))
      ∙ first-same (λ n. strips_dots art (down_strips v ds es moment n)) (λ n. middles_of v art es moment (length ds - suc n) (slice_get ds (length ds - suc n))) (length ds)
      (λ n l. moment_dots v art es moment (length ds - suc n) (slice_get ds (length ds - suc n)))
      ∙ middles_down moment (length ds)

  column_same : (e : SpriteEntry) (n : ℕ) → n < natural e.last + 1 - natural e.first →
      column_of_picture art (shown_sprite v ds e) (natural e.first + n) ≡ sprite_column v art ds e (natural e.first + n)
  unfolding column_of_picture shown_sprite sprite_strip sprite_column
  column_same e n l =
      let x : ℕ = natural e.first + n in
      ap (λ (m : MaskedColumn). posts_dots v.shape (painter_of SPRITE e.number (lump_source e.lump)) x m (art.byte e.lump) (art.shade e.map)
      (art.picture_posts e.lump (picture_column e.flip e.width e.a1 e.iscale x))) (masked-same v ds e n l)

  sprite_by : (e : SpriteEntry) (b : Bool) → int_lt e.last e.first ≡ b → strips_dots art (cond b [] (Picture (shown_sprite v ds e) ∷ [])) ≡ sprite_dots v art ds e
  unfolding strips_dots joined_lists sprite_dots picture_dots shown_sprite sprite_strip
  sprite_by e true is = sym (ap (joined_lists (sprite_column v art ds e)) (rows_between-none e.first e.last is))
  sprite_by e false is =
      let first : ℕ = natural e.first in
      let last : ℕ = natural e.last in
      append-nil (picture_dots art (shown_sprite v ds e))
      ∙ sym (first-from (column_of_picture art (shown_sprite v ds e)) first last)
      ∙ first-same (λ n. column_of_picture art (shown_sprite v ds e) (first + n)) (λ n. sprite_column v art ds e (first + n)) (last + 1 - first) (λ n l. column_same e n l)
      ∙ first-from (sprite_column v art ds e) first last
      ∙ ap (joined_lists (sprite_column v art ds e)) (sym (rows_some e.first e.last is))

  -- a sprite after the masked columns just before it
  step_dots : ℕ → Option SpriteEntry → List Dot
  step_dots i None = []
  step_dots i (Some e) = sprite_step v art ds es i e

  step_same : (i : ℕ) (o : Option SpriteEntry) → strips_dots art (step_strips v ds es i o) ≡ step_dots i o
  unfolding strips_dots step_strips sprite_step joined_lists sprite_strips step_dots
  step_same i None = refl
  step_same i (Some e) =
      joined_lists-append (dots_of_strip art) (middles_strips v ds es (Some i)) (sprite_strips v ds e)
      ∙ ap (λ (xs : List Dot). xs ++ strips_dots art (sprite_strips v ds e)) (middles_dots (Some i))
      ∙ ap (λ (xs : List Dot). middles_at v art ds es (Some i) (length ds) ++ xs) (sprite_by e (int_lt e.last e.first) refl)

  -- the sprites, one after the other
  from_listed : (f : ℕ → List Dot) (n : ℕ) (rest : List SpriteEntry) → ((k : ℕ) → k < length rest → f (n + k) ≡ step_dots (n + k) (slice_get rest k)) →
      joined_lists f (map (λ k. k) (range_with_len n (length rest))) ≡ sprites_from v art ds es n rest
  unfolding joined_lists sprites_from step_dots sprite_step
  from_listed f n [] same = refl
  from_listed f n (e ∷ rest) same =
      let plus_zero : n + 0 ≡ n = omega arith in
      let here : f n ≡ sprite_step v art ds es n e = sym (ap f plus_zero) ∙ same 0 (omega arith) ∙ ap (λ (m : ℕ). sprite_step v art ds es m e) plus_zero in
      let next : (k : ℕ) → n + 1 + k ≡ n + (k + 1) = λ k. omega arith in
      ap (λ (xs : List Dot). xs ++ joined_lists f (map (λ k. k) (range_with_len (n + 1) (length rest)))) here
      ∙ ap (λ (xs : List Dot). sprite_step v art ds es n e ++ xs)
      (from_listed f (n + 1) rest (λ k inside.
      let next_is : k + 1 ≡ suc k = omega arith in
      ap f (next k) ∙ same (k + 1) (omega arith)
      ∙ ap (λ (m : ℕ). step_dots (n + (k + 1)) (slice_get (e ∷ rest) m)) next_is
      ∙ ap (λ (m : ℕ). step_dots m (slice_get rest k)) (sym (next k))))

  sprites_dots : strips_dots art (sprites_strips v ds es) ≡ sprites_from v art ds es 0 es
  unfolding strips_dots sprites_strips listed
  sprites_dots =
      let plus_zero : (k : ℕ) → 0 + k ≡ k = λ k. omega arith in
      joined-joined (dots_of_strip art) (turn_strips v ds es) (listed (λ i. i) (length es))
      ∙ first-same (λ i. strips_dots art (turn_strips v ds es i)) (λ i. step_dots i (slice_get es i)) (length es) (λ i l. step_same i (slice_get es i))
      ∙ from_listed (λ i. step_dots i (slice_get es i)) 0 es (λ k l. ap (λ (m : ℕ). step_dots (0 + k) (slice_get es m)) (plus_zero k))

  -- the strips of the masked pass have the dots of a picture's
  pub masked-dots : strips_dots art (masked_strips v ds es) ≡ masked_dots v art ds es
  unfolding strips_dots masked_strips masked_dots
  masked-dots =
      joined_lists-append (dots_of_strip art) (sprites_strips v ds es) (middles_strips v ds es None)
      ∙ ap (λ (xs : List Dot). xs ++ strips_dots art (middles_strips v ds es None)) sprites_dots
      ∙ ap (λ (xs : List Dot). sprites_from v art ds es 0 es ++ xs) (middles_dots None)
