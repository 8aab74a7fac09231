-- The value of each constant that a clause or a definition cites, by evaluation.
use Rattle.std.specs.Prelude.{refl, ◌≡◌}
use Rattle.frame_core.specs.declared.entered.TheConstants.{MOST_SECTORS}

-- src/entered.rt
most_sectors_row : MOST_SECTORS ≡ 65536
most_sectors_row = refl
