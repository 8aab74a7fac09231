-- The value of each constant that a clause or a definition cites, by evaluation.
use Rattle.std.specs.Prelude.{refl, ◌≡◌}
use Rattle.command_line.specs.declared.choices.TheConstants.{DEFAULT_OPENINGS, DEFAULT_PLANES, DEFAULT_SIZE, DEFAULT_SKILL, DEFAULT_ZONE}

-- src/choices.rt
default_zone_row : DEFAULT_ZONE ≡ 6291456
default_zone_row = refl

default_skill_row : DEFAULT_SKILL ≡ 3
default_skill_row = refl

default_size_row : DEFAULT_SIZE ≡ 11
default_size_row = refl

default_planes_row : DEFAULT_PLANES ≡ 128
default_planes_row = refl

default_openings_row : DEFAULT_OPENINGS ≡ 20480
default_openings_row = refl
