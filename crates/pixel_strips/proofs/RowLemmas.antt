-- Strips as the rules of pixels have them: at each row the fraction of that row.
use Rattle.word_rules.proofs.Common.{ap, arith, false, int_lt, List, map, pos, range_with_len, refl, slice_index, suc, sym, zero, ℕ, ℤ, ◌+◌, ◌-◌, ◌∙◌, ◌∷◌, ◌≡◌}
use Rattle.pixel_strips.specs.Rules.{Dot, Painter, column_colour, column_dots, listed_from, natural, row_fraction, rows_between, shade, step_at, texel_row}
use Rattle.pixel_rules.proofs.StripLemmas.{row_fraction-steps, rows_between-some}
use Rattle.pixel_strips.specs.Strips.{strip_colour, column_strip_dots}

-- two strips with the same colours from the first row on
rows-same : (painter : Painter) (x : ℕ) (f g : ℕ → ℕ) (first n : ℕ) →
    ((k : ℕ) → f (first + k) ≡ g (first + k)) →
    column_dots painter x f (map (λ y. y) (range_with_len first n))
    ≡ column_dots painter x g (map (λ y. y) (range_with_len first n))
unfolding column_dots
rows-same painter x f g first zero same = refl
rows-same painter x f g first (suc n) same =
    let first_row_is : first + 0 ≡ first = omega arith in
    let first_alike : f first ≡ g first = sym (ap f first_row_is) ∙ same 0 ∙ ap g first_row_is in
    let row_is : (k : ℕ) → first + 1 + k ≡ first + (k + 1) = λ k. omega arith in
    let rest_alike : (k : ℕ) → f (first + 1 + k) ≡ g (first + 1 + k) =
    λ k. ap f (row_is k) ∙ same (k + 1) ∙ sym (ap g (row_is k)) in
    ap (λ (colour : ℕ). record { x = x; y = first; colour = colour; painter = painter }
    ∷ column_dots painter x f (map (λ y. y) (range_with_len (first + 1) n))) first_alike
    ∙ ap (λ (ds : List Dot). record { x = x; y = first; colour = g first; painter = painter } ∷ ds)
    (rows-same painter x f g (first + 1) n rest_alike)

-- the colour of a texel row of these bytes
abbrev pub row_shade : List ℕ → ℕ → List ℕ → ℕ → ℕ → ℤ → ℤ → ℕ → ℕ
row_shade source base colormap m centre mid step y =
    shade colormap m (slice_index source (base + texel_row (row_fraction centre mid step y)))

-- a strip that begins with the fraction of its first row
pub strip-rows : (painter : Painter) (x : ℕ) (source : List ℕ) (base : ℕ) (colormap : List ℕ)
    (m centre : ℕ) (mid step fraction : ℤ) (first last : ℕ) →
    fraction ≡ row_fraction centre mid step first →
    column_strip_dots painter x (strip_colour source base colormap m fraction step first) first last
    ≡ column_dots painter x (row_shade source base colormap m centre mid step)
    (listed_from (λ y. y) first last)
unfolding strip_colour column_colour listed_from
strip-rows painter x source base colormap m centre mid step fraction first last is =
    rows-same painter x
    (λ y. shade colormap m (slice_index source (base + texel_row (step_at fraction step (y - first)))))
    (row_shade source base colormap m centre mid step) first (last + 1 - first)
    (λ k. ap (λ (f : ℤ). shade colormap m (slice_index source (base + texel_row f)))
    (at k ∙ sym (row_fraction-steps centre mid step first k))) where
      at : (k : ℕ) → step_at fraction step (first + k - first)
          ≡ step_at (row_fraction centre mid step first) step k
      at k = let offset_is : first + k - first ≡ k = omega arith in
          ap (λ (n : ℕ). step_at fraction step n) offset_is ∙ ap (λ (f : ℤ). step_at f step k) is

-- rows by whole numbers
pub rows-between : (from to : ℤ) (first last : ℕ) → pos first ≡ from → pos last ≡ to →
    int_lt to from ≡ false → listed_from (λ y. y) first last ≡ rows_between from to
unfolding natural
rows-between from to first last is_first is_last ordered =
    ap (λ (z : ℤ). listed_from (λ y. y) (natural z) last) is_first
    ∙ ap (λ (z : ℤ). listed_from (λ y. y) (natural from) (natural z)) is_last
    ∙ sym (rows_between-some from to ordered)
