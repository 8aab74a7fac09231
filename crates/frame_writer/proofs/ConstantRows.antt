-- The value of each constant that a clause or a definition cites, by evaluation.
use Rattle.std.specs.Prelude.{refl, ◌≡◌}
use Rattle.frame_writer.specs.declared.TheConstants.{COLOUR_BYTES, FRAME_BYTES, PALETTE_BYTES, PPM_BYTES}
use Rattle.frame_writer.specs.declared.ppm.TheConstants.{BAND_BYTES, COLOURS, WORD_BYTES}

-- src/lib.rt
frame_bytes_row : FRAME_BYTES ≡ 64000
frame_bytes_row = refl

palette_bytes_row : PALETTE_BYTES ≡ 768
palette_bytes_row = refl

ppm_bytes_row : PPM_BYTES ≡ 192015
ppm_bytes_row = refl

colour_bytes_row : COLOUR_BYTES ≡ 3
colour_bytes_row = refl

-- src/ppm.rt
band_bytes_row : BAND_BYTES ≡ 12800
band_bytes_row = refl

word_bytes_row : WORD_BYTES ≡ 4
word_bytes_row = refl

colours_row : COLOURS ≡ 256
colours_row = refl
