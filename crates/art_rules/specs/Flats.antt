-- Flats and palettes. What a colormap makes of a colour is `shade` of `pixel_rules`.
use Rattle.std.specs.Prelude.{ℕ, ◌+◌, ◌*◌, List, [], ◌∷◌}
use Rattle.pixel_rules.specs.declared.TheConstants.{FLAT_SIDE}
use Rattle.word_rules.specs.Bytes.{byte_at}
use Rattle.art_rules.specs.declared.TheConstants.{COLOUR_SIZE}

-- the texel of a flat at column x and row y
unfoldable pub flat_byte : List ℕ → ℕ → ℕ → ℕ
flat_byte bytes x y = byte_at bytes (FLAT_SIDE * y + x)

-- red, green and blue of a colour
unfoldable pub palette_colour : List ℕ → ℕ → List ℕ
palette_colour playpal index =
    byte_at playpal (COLOUR_SIZE * index) ∷ byte_at playpal (COLOUR_SIZE * index + 1)
    ∷ byte_at playpal (COLOUR_SIZE * index + 2) ∷ []
