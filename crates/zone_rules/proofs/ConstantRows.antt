-- The value of each constant that a clause or a definition cites, by evaluation.
use Rattle.std.specs.Prelude.{refl, ◌≡◌}
use Rattle.zone_rules.specs.declared.TheConstants.{HEADER_SIZE, MAX_ZONE_SIZE, MIN_FRAGMENT, MIN_ZONE_SIZE, SLOT_LIMIT}

-- src/lib.rt
header_size_row : HEADER_SIZE ≡ 24
header_size_row = refl

min_fragment_row : MIN_FRAGMENT ≡ 64
min_fragment_row = refl

min_zone_size_row : MIN_ZONE_SIZE ≡ 64
min_zone_size_row = refl

max_zone_size_row : MAX_ZONE_SIZE ≡ 536870912
max_zone_size_row = refl

slot_limit_row : SLOT_LIMIT ≡ 16777216
slot_limit_row = refl
