-- A frame as a PPM file.
use Rattle.std.specs.Prelude.{◌≡◌, ℕ, ◌+◌, ◌*◌, List, [], ◌∷◌, ◌++◌, slice_index, codes, refl}
use Rattle.std.specs.List.{flat_map}

-- P6, then 320 200, then 255, each with the byte 10 at its end
unfoldable pub ppm_header : List ℕ
ppm_header = codes "P6\n320 200\n255\n"

-- red, green and blue of an index
abbrev pub colour : List ℕ → ℕ → List ℕ
colour palette index =
    slice_index palette (3 * index) ∷ slice_index palette (3 * index + 1) ∷ slice_index palette (3 * index + 2) ∷ []

-- the header, and then the colour of each pixel in turn
unfoldable pub ppm : List ℕ → List ℕ → List ℕ
ppm frame palette = ppm_header ++ flat_map (colour palette) frame

-- a frame of the pixels 1 and 0, with the palette (10, 20, 30), (40, 50, 60)
pub ppm_of_two_pixels : ppm (1 ∷ 0 ∷ []) (10 ∷ 20 ∷ 30 ∷ 40 ∷ 50 ∷ 60 ∷ []) ≡
    80 ∷ 54 ∷ 10 ∷ 51 ∷ 50 ∷ 48 ∷ 32 ∷ 50 ∷ 48 ∷ 48 ∷ 10 ∷ 50 ∷ 53 ∷ 53 ∷ 10 ∷ 40 ∷ 50 ∷ 60 ∷ 10 ∷ 20 ∷ 30 ∷ []
unfolding ppm ppm_header
ppm_of_two_pixels = refl
