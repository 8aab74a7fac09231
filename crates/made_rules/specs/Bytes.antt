-- Numbers as bytes, names of eight bytes, and records one after the other.
use Rattle.std.specs.Prelude.{◌≡◌, ℕ, List, [], ◌∷◌, ◌++◌, take, replicate, refl}
use Rattle.std.specs.List.{flat_map, range_with_len}
use Rattle.std.specs.Int.{w16, w32, to_le_bytes}

-- the two low bytes of a number, the lowest first
unfoldable pub half : ℕ → List ℕ
half n = to_le_bytes w16 n

-- the four low bytes of a number, the lowest first
unfoldable pub word_bytes : ℕ → List ℕ
word_bytes n = to_le_bytes w32 n

-- numbers of two bytes each, one after the other
unfoldable pub halves : List ℕ → List ℕ
halves ns = flat_map half ns

-- numbers of four bytes each, one after the other
unfoldable pub words : List ℕ → List ℕ
words ns = flat_map word_bytes ns

-- the lists f 0, f 1 and so on, n of them, one after the other
unfoldable pub records : (ℕ → List ℕ) → ℕ → List ℕ
records f n = flat_map f (range_with_len 0 n)

-- a name of a lump or texture: eight bytes, filled up with zeros
abbrev pub padded : List ℕ → List ℕ
padded name = take 8 (name ++ replicate 8 0)

pub halves_row : halves (1 ∷ 65535 ∷ 520 ∷ []) ≡ 1 ∷ 0 ∷ 255 ∷ 255 ∷ 8 ∷ 2 ∷ []
unfolding halves half
halves_row = refl

pub records_row : records (λ n. n ∷ n ∷ []) 3 ≡ 0 ∷ 0 ∷ 1 ∷ 1 ∷ 2 ∷ 2 ∷ []
unfolding records
records_row = refl
