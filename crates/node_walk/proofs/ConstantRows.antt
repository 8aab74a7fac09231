-- The value of each constant that a clause or a definition cites, by evaluation.
use Rattle.std.specs.Prelude.{refl, ◌≡◌}
use Rattle.node_walk.specs.declared.ranges.TheConstants.{MAX_RANGES}

-- src/ranges.rt
max_ranges_row : MAX_RANGES ≡ 161
max_ranges_row = refl
