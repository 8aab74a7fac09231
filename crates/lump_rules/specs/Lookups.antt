-- The lumps of a directory, by number and by name.
use Rattle.std.specs.Prelude.{◌≡◌, refl, ℕ, suc, ◌+◌, Bool, true, false, ◌==◌, ◌&&◌, ◌||◌, not, if◌then◌else◌, List, [], ◌∷◌, length, filter, Option, Some, None, slice_get, slice_index_or}
use Rattle.std.specs.List.{range_with_len}
use Rattle.std.specs.Option.{option_map_or, option_and_then}
use Rattle.std.specs.Str.{bytes_eq}
use Rattle.word_rules.specs.Least.{greatest}
use Rattle.lump_rules.specs.{declared.names.Group.Group, declared.wad.Lump.Lump}
use Rattle.lump_rules.specs.declared.names.Group.TheVariants.{Flats, Sprites}
use Rattle.lump_rules.specs.declared.names.TheConstants.{F_START, FF_START, F_END, FF_END, S_START, SS_START, S_END, SS_END, MAP_LUMPS, BEHAVIOR, BEHAVIOR_AFTER}

-- a lump for numbers that no lump has
abbrev pub no_lump : Lump
no_lump = record { file = 0; place = 0; size = 0; name = [] }

-- the lump of that number
abbrev pub lump_at : List Lump → ℕ → Lump
lump_at lumps number = slice_index_or lumps number no_lump

-- there is a lump of that number, and it passes
abbrev pub is_lump : (Lump → Bool) → List Lump → ℕ → Bool
is_lump passes lumps number = option_map_or passes (slice_get lumps number) false

-- the lump of that number has this name
abbrev pub has_name : List Lump → List ℕ → ℕ → Bool
has_name lumps name = is_lump (λ lump. bytes_eq lump.name name) lumps

-- the last lump of a name
abbrev pub last_of : List Lump → List ℕ → Option ℕ
last_of lumps name = greatest (has_name lumps name) (length lumps)

-- a mark before the lumps of a group
abbrev pub is_start : Group → List ℕ → Bool
is_start Flats name = bytes_eq name F_START || bytes_eq name FF_START
is_start Sprites name = bytes_eq name S_START || bytes_eq name SS_START

-- a mark after them
abbrev pub is_end : Group → List ℕ → Bool
is_end Flats name = bytes_eq name F_END || bytes_eq name FF_END
is_end Sprites name = bytes_eq name S_END || bytes_eq name SS_END

-- the nearest mark before the lump of that number
abbrev pub mark_before : Group → List Lump → ℕ → Option ℕ
mark_before group lumps = greatest (is_lump (λ lump. is_start group lump.name || is_end group lump.name) lumps)

-- a mark starts the group in this file
abbrev pub starts_in : Group → List Lump → ℕ → Option ℕ → Bool
starts_in group lumps file None = false
starts_in group lumps file (Some mark) = is_lump (λ lump. is_start group lump.name && lump.file == file) lumps mark

-- A lump stands in a group where it is no end, and the nearest mark before it is a start of the same file.
abbrev pub is_member : Group → List Lump → ℕ → Bool
is_member group lumps number =
    is_lump (λ lump. not (is_end group lump.name) && starts_in group lumps lump.file (mark_before group lumps number)) lumps number

-- the numbers of the lumps in a group
unfoldable pub members : Group → List Lump → List ℕ
members group lumps = filter (is_member group lumps) (range_with_len 0 (length lumps))

-- the last flat of a name
abbrev pub flat_of : List Lump → List ℕ → Option ℕ
flat_of lumps name = greatest (λ number. is_member Flats lumps number && has_name lumps name number) (length lumps)

-- the lump of that number has this name and stands in this file
abbrev pub is_named_in : List Lump → ℕ → List ℕ → ℕ → Bool
is_named_in lumps file name = is_lump (λ lump. lump.file == file && bytes_eq lump.name name) lumps

-- the lumps from a number on have these names, one after the other, and stand in this file
unfoldable pub are_named : List Lump → ℕ → ℕ → List (List ℕ) → Bool
are_named lumps file number [] = true
are_named lumps file number (name ∷ names) = is_named_in lumps file name number && are_named lumps file (suc number) names

-- The lump of that number is followed by the eight lumps of a map, and not by those of another format.
unfoldable pub is_label : List Lump → ℕ → Bool
is_label lumps number =
    are_named lumps (lump_at lumps number).file (suc number) MAP_LUMPS
    && not (is_named_in lumps (lump_at lumps number).file BEHAVIOR (number + BEHAVIOR_AFTER))

abbrev pub if_label : List Lump → ℕ → Option ℕ
if_label lumps number = if is_label lumps number then Some number else None

-- the label of a map: the last lump of its name, where the map's lumps follow it
abbrev pub map_of : List Lump → List ℕ → Option ℕ
map_of lumps name = option_and_then (if_label lumps) (last_of lumps name)

-- F_START and a lump of one file, and a lump and F_END of the next: the file's end ends the group
pub members_row : members Flats (
    record { file = 0; place = 0; size = 0; name = F_START } ∷ record { file = 0; place = 0; size = 1; name = BEHAVIOR } ∷
    record { file = 1; place = 0; size = 1; name = BEHAVIOR } ∷ record { file = 1; place = 0; size = 0; name = F_END } ∷ []) ≡ 1 ∷ []
unfolding members greatest
members_row = refl
