-- The value of each constant that a clause or a definition cites, by evaluation.
use Rattle.std.specs.Prelude.{[], codes, refl, ◌++◌, ◌∷◌, ◌≡◌}
use Rattle.lump_rules.specs.declared.name.TheConstants.{NAME_SIZE}
use Rattle.lump_rules.specs.declared.names.TheConstants.{BEHAVIOR, BEHAVIOR_AFTER, FF_END, FF_START, F_END, F_START, IWAD, LETTER_COUNT, MAP_LUMPS, PWAD, SS_END, SS_START, S_END, S_START}
use Rattle.lump_rules.specs.declared.wad.TheConstants.{COUNT_AT, ENTRY_SIZE, HEADER_SIZE, MAX_LUMPS, NAME_AT, PLACE_AT, SIZE_AT}

-- src/name.rt
name_size_row : NAME_SIZE ≡ 8
name_size_row = refl

-- src/names.rt
letter_count_row : LETTER_COUNT ≡ 4
letter_count_row = refl

iwad_row : IWAD ≡ codes "IWAD"
iwad_row = refl

pwad_row : PWAD ≡ codes "PWAD"
pwad_row = refl

f_start_row : F_START ≡ codes "F_START" ++ 0 ∷ []
f_start_row = refl

ff_start_row : FF_START ≡ codes "FF_START"
ff_start_row = refl

f_end_row : F_END ≡ codes "F_END" ++ 0 ∷ 0 ∷ 0 ∷ []
f_end_row = refl

ff_end_row : FF_END ≡ codes "FF_END" ++ 0 ∷ 0 ∷ []
ff_end_row = refl

s_start_row : S_START ≡ codes "S_START" ++ 0 ∷ []
s_start_row = refl

ss_start_row : SS_START ≡ codes "SS_START"
ss_start_row = refl

s_end_row : S_END ≡ codes "S_END" ++ 0 ∷ 0 ∷ 0 ∷ []
s_end_row = refl

ss_end_row : SS_END ≡ codes "SS_END" ++ 0 ∷ 0 ∷ []
ss_end_row = refl

map_lumps_row : MAP_LUMPS
    ≡ (codes "THINGS" ++ 0 ∷ 0 ∷ []) ∷ codes "LINEDEFS" ∷ codes "SIDEDEFS" ∷ codes "VERTEXES" ∷ (codes "SEGS" ++ 0 ∷ 0 ∷ 0 ∷ 0 ∷ []) ∷
    codes "SSECTORS" ∷ (codes "NODES" ++ 0 ∷ 0 ∷ 0 ∷ []) ∷ (codes "SECTORS" ++ 0 ∷ []) ∷ []
map_lumps_row = refl

behavior_row : BEHAVIOR ≡ codes "BEHAVIOR"
behavior_row = refl

behavior_after_row : BEHAVIOR_AFTER ≡ 11
behavior_after_row = refl

-- src/wad.rt
header_size_row : HEADER_SIZE ≡ 12
header_size_row = refl

count_at_row : COUNT_AT ≡ 4
count_at_row = refl

place_at_row : PLACE_AT ≡ 8
place_at_row = refl

entry_size_row : ENTRY_SIZE ≡ 16
entry_size_row = refl

size_at_row : SIZE_AT ≡ 4
size_at_row = refl

name_at_row : NAME_AT ≡ 8
name_at_row = refl

max_lumps_row : MAX_LUMPS ≡ 65535
max_lumps_row = refl
