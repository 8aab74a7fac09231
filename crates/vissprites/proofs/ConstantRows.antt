-- The value of each constant that a clause or a definition cites, by evaluation.
use Rattle.std.specs.Prelude.{refl, ◌≡◌}
use Rattle.vissprites.specs.declared.seen.TheConstants.{ROTATIONS}

-- src/seen.rt
rotations_row : ROTATIONS ≡ 8
rotations_row = refl
