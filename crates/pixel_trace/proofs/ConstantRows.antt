-- The value of each constant that a clause or a definition cites, by evaluation.
use Rattle.std.specs.Prelude.{refl, ◌≡◌}
use Rattle.pixel_trace.specs.declared.record.TheConstants.{RECORD_BYTES}
use Rattle.pixel_trace.specs.declared.write.TheConstants.{BAND_CELLS}

-- src/record.rt
record_bytes_row : RECORD_BYTES ≡ 8
record_bytes_row = refl

-- src/write.rt
band_cells_row : BAND_CELLS ≡ 2560
band_cells_row = refl
