-- The value of each constant that a clause or a definition cites, by evaluation.
use Rattle.std.specs.Prelude.{refl, ◌≡◌}
use Rattle.pixel_strips.specs.declared.places.TheConstants.{CARRIES, FLAT_LIFT, ROW_LIFT}
use Rattle.pixel_strips.specs.declared.texels.TheConstants.{FLAT_BYTES}

-- src/places.rt
row_lift_row : ROW_LIFT ≡ 9
row_lift_row = refl

flat_lift_row : FLAT_LIFT ≡ 10
flat_lift_row = refl

carries_row : CARRIES ≡ 1024
carries_row = refl

-- src/texels.rt
flat_bytes_row : FLAT_BYTES ≡ 4096
flat_bytes_row = refl
