-- The views of a path by number, and as many as rows.
use Rattle.picture_rules.proofs.Common.{[], ap, arith, length, List, option_map, refl, slice_get, Some, suc, zero, ℕ, ◌+◌, ◌∙◌, ◌∷◌, ◌≡◌}
use Rattle.doom_run.specs.Layers.{seen_from}

pub seen_from-length : {A B : Type 0} (view : ℕ → A → B) (k : ℕ) (rows : List A) → length (seen_from view k rows) ≡ length rows
unfolding seen_from
seen_from-length view k [] = refl
seen_from-length view k (row ∷ rows) = ap suc (seen_from-length view (k + 1) rows)

pub seen_from-at : {A B : Type 0} (view : ℕ → A → B) (k i : ℕ) (rows : List A) → slice_get (seen_from view k rows) i ≡ option_map (view (k + i)) (slice_get rows i)
unfolding seen_from
seen_from-at view k i [] = refl
seen_from-at view k zero (row ∷ rows) = let number_same : k ≡ k + 0 = omega arith in ap (λ m. Some (view m row)) number_same
seen_from-at view k (suc i) (row ∷ rows) =
    let number_same : k + 1 + i ≡ k + suc i = omega arith in
    seen_from-at view (k + 1) i rows ∙ ap (λ m. option_map (view m) (slice_get rows i)) number_same

-- view number i of a path that begins with number 0
pub seen_at : {A B : Type 0} (view : ℕ → A → B) (i : ℕ) (rows : List A) → slice_get (seen_from view 0 rows) i ≡ option_map (view i) (slice_get rows i)
seen_at view i rows = let number_same : 0 + i ≡ i = omega arith in seen_from-at view 0 i rows ∙ ap (λ m. option_map (view m) (slice_get rows i)) number_same
