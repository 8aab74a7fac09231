-- A palette whose colours stand four bytes apart, so that each is written as one word.
use Rattle.std.specs.Prelude.{◌≡◌, ℕ, ◌+◌, ◌*◌, List, [], ◌∷◌, slice_index, refl}

-- red, green and blue of an index; the fourth byte does not count
abbrev pub word_colour : List ℕ → ℕ → List ℕ
word_colour words index =
    slice_index words (4 * index) ∷ slice_index words (4 * index + 1) ∷ slice_index words (4 * index + 2) ∷ []

-- the second of two words
pub word_colour_row : word_colour (10 ∷ 20 ∷ 30 ∷ 0 ∷ 40 ∷ 50 ∷ 60 ∷ 0 ∷ []) 1 ≡ 40 ∷ 50 ∷ 60 ∷ []
word_colour_row = refl
