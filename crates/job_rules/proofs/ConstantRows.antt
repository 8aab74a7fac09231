-- The value of each constant that a clause or a definition cites, by evaluation.
use Rattle.std.specs.Prelude.{[], codes, map, refl, ◌∷◌, ◌≡◌}
use Rattle.job_rules.specs.declared.options.TheConstants.{OPTIONS}
use Rattle.job_rules.specs.declared.ranges.TheConstants.{MAX_COUNT, MAX_PLANES, MAX_SIZE, MAX_SKILL, MAX_WADS, MAX_ZONE, MIN_COUNT, MIN_OPENINGS, MIN_PLANES, MIN_SIZE, MIN_SKILL, MIN_ZONE, MOST_OPENINGS, ZONE_STEP}
use Rattle.job_rules.specs.declared.trim.TheConstants.{MAX_FILE_BYTES}

-- src/options.rt
options_row : map (λ w. w.now) OPTIONS
    ≡ codes "tables" ∷ codes "things" ∷ codes "path" ∷ codes "weapon" ∷ codes "format" ∷ codes "skill" ∷ codes "size" ∷ codes "spans" ∷
    codes "zone" ∷ codes "planes" ∷ codes "openings" ∷ []
options_row = refl

-- src/ranges.rt
min_zone_row : MIN_ZONE ≡ 64
min_zone_row = refl

max_zone_row : MAX_ZONE ≡ 536870912
max_zone_row = refl

zone_step_row : ZONE_STEP ≡ 4
zone_step_row = refl

min_skill_row : MIN_SKILL ≡ 1
min_skill_row = refl

max_skill_row : MAX_SKILL ≡ 5
max_skill_row = refl

min_size_row : MIN_SIZE ≡ 3
min_size_row = refl

max_size_row : MAX_SIZE ≡ 11
max_size_row = refl

min_planes_row : MIN_PLANES ≡ 128
min_planes_row = refl

max_planes_row : MAX_PLANES ≡ 1024
max_planes_row = refl

min_openings_row : MIN_OPENINGS ≡ 20480
min_openings_row = refl

most_openings_row : MOST_OPENINGS ≡ 245760
most_openings_row = refl

max_wads_row : MAX_WADS ≡ 16
max_wads_row = refl

min_count_row : MIN_COUNT ≡ 1
min_count_row = refl

max_count_row : MAX_COUNT ≡ 32
max_count_row = refl

-- src/trim.rt
max_file_bytes_row : MAX_FILE_BYTES ≡ 4294967295
max_file_bytes_row = refl
