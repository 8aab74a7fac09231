-- The value of each constant that a clause or a definition cites, by evaluation.
use Rattle.std.specs.Prelude.{refl, ◌≡◌}
use Rattle.zone_heap.specs.declared.headers.TheConstants.{ASKED_AT, CACHE_CODE, FREE_OWNER, KIND_UNIT, LEVEL_CODE, NEXT_AT, OWNER_AT, PREVIOUS_AT, STATIC_CODE, TAG_AT}
use Rattle.zone_heap.specs.declared.homes.TheConstants.{NO_HOME}

-- src/headers.rt
asked_at_row : ASKED_AT ≡ 4
asked_at_row = refl

owner_at_row : OWNER_AT ≡ 8
owner_at_row = refl

tag_at_row : TAG_AT ≡ 12
tag_at_row = refl

next_at_row : NEXT_AT ≡ 16
next_at_row = refl

previous_at_row : PREVIOUS_AT ≡ 20
previous_at_row = refl

free_owner_row : FREE_OWNER ≡ 4294967295
free_owner_row = refl

kind_unit_row : KIND_UNIT ≡ 16777216
kind_unit_row = refl

static_code_row : STATIC_CODE ≡ 1
static_code_row = refl

level_code_row : LEVEL_CODE ≡ 50
level_code_row = refl

cache_code_row : CACHE_CODE ≡ 101
cache_code_row = refl

-- src/homes.rt
no_home_row : NO_HOME ≡ 4294967295
no_home_row = refl
