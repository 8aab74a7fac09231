-- The parts of the trimmed file of a level, in their order, or why there is none.
use Rattle.std.specs.Prelude.{ℕ, suc, ◌+◌, ◌*◌, ◌==◌, ◌&&◌, ◌||◌, Bool, false, not, cond, nat_lt, List, [], ◌∷◌, ◌++◌, length, map, filter, sum_by, Option, Some, None, option_map, Result, Ok, Err}
use Rattle.std.specs.List.{list_any, range_with_len}
use Rattle.trim_rules.specs.Rules.{COLORMAP, ENTRY_SIZE, F_END, F_START, Flats, HEAD_SIZE, Lump, MAP_LUMPS, MAX_FILE_BYTES, MAX_LUMPS, MarkName, PLAYPAL, PNAMES, PreparedTexture, S_END, S_START, SceneArt, SectorFlats, Sprites, TEXTURE1, TEXTURE2, TrimRefusal, TrimTooLarge, TrimTooMany, has_flat, has_name, is_end, is_start, last_of, least, lump_at, map_of, or_else, patch_lumps}
use Rattle.trim_rules.specs.declared.part.TrimPart.{TrimPart}
use Rattle.trim_rules.specs.declared.part.TrimPart.TheVariants.{Mark, Label, Copy}

-- the label of the map, and any lump that is copied
abbrev pub label_part : ℕ → TrimPart
label_part lump = Label (record { 0 = lump })

abbrev pub copy_part : ℕ → TrimPart
copy_part lump = Copy (record { 0 = lump })

-- the lumps that are flats of sectors, ascending and each once
unfoldable pub flat_lumps : List Lump → List SectorFlats → List ℕ
flat_lumps lumps flats = filter (λ n. list_any (has_flat n) flats) (range_with_len 0 (length lumps))

-- the lumps of pictures, ascending and each once
unfoldable pub picture_lumps : List Lump → List ℕ → List ℕ
picture_lumps lumps pictures = filter (λ n. list_any (λ m. m == n) pictures) (range_with_len 0 (length lumps))

-- the last lump of a name, where there is one
abbrev pub last_list : Option ℕ → List ℕ
last_list None = []
last_list (Some lump) = lump ∷ []

unfoldable pub listed_last : List Lump → List ℕ → List ℕ
listed_last lumps name = last_list (last_of lumps name)

-- the lumps of colours and the lists of textures
unfoldable pub fixed_lumps : List Lump → List ℕ
fixed_lumps lumps =
    listed_last lumps PLAYPAL
    ++ (listed_last lumps COLORMAP
    ++ (listed_last lumps PNAMES
    ++ (listed_last lumps TEXTURE1
    ++ listed_last lumps TEXTURE2)))

-- all that is found by its name: these, and the patches that are none of these. Each is the last
-- lump of its name, so that each name comes once.
unfoldable pub called_lumps : List Lump → List (Option PreparedTexture) → List ℕ
called_lumps lumps prepared =
    fixed_lumps lumps
    ++ filter (λ n. not (list_any (λ m. m == n) (fixed_lumps lumps))) (patch_lumps prepared (length lumps))

-- lumps between two marks
unfoldable pub group_parts : List ℕ → List ℕ → List ℕ → List TrimPart
group_parts start lumps end = Mark start ∷ (map copy_part lumps ++ Mark end ∷ [])

-- The label of the map and the eight lumps behind it. The label has its bytes only where it is also
-- found by its name.
unfoldable pub label_or_copy : Bool → ℕ → TrimPart
label_or_copy called label = cond called (copy_part label) (label_part label)

unfoldable pub map_parts : Bool → Option ℕ → List TrimPart
map_parts called None = []
map_parts called (Some label) =
    label_or_copy called label ∷ map copy_part (range_with_len (suc label) (length MAP_LUMPS))

-- flats, pictures, the map, and what is found by its name but for the label
unfoldable pub trim_parts : List Lump → SceneArt → List ℕ → List TrimPart
trim_parts lumps art name =
    group_parts F_START (flat_lumps lumps art.flats) F_END
    ++ (group_parts S_START (picture_lumps lumps art.pictures) S_END
    ++ (map_parts (list_any (has_name lumps name) (called_lumps lumps art.prepared)) (map_of lumps name)
    ++ map copy_part (filter (λ n. not (has_name lumps name n)) (called_lumps lumps art.prepared))))

-- the name of a part, and how many bytes it has
unfoldable pub part_name : List Lump → TrimPart → List ℕ
part_name lumps (Mark name) = name
part_name lumps (Label lump) = (lump_at lumps lump.0).name
part_name lumps (Copy lump) = (lump_at lumps lump.0).name

unfoldable pub part_size : List Lump → TrimPart → ℕ
part_size lumps (Mark name) = 0
part_size lumps (Label lump) = 0
part_size lumps (Copy lump) = (lump_at lumps lump.0).size

-- the header, the bytes of all parts, and an entry for each
unfoldable pub parts_size : List Lump → List TrimPart → ℕ
parts_size lumps parts = sum_by (part_size lumps) parts

unfoldable pub file_size : List Lump → List TrimPart → ℕ
file_size lumps parts = HEAD_SIZE + parts_size lumps parts + ENTRY_SIZE * length parts

-- the name of a mark
unfoldable pub is_mark : List ℕ → Bool
is_mark name = (is_start Flats name || is_end Flats name) || (is_start Sprites name || is_end Sprites name)

-- the part is that lump, with its bytes or without
unfoldable pub is_lump_part : ℕ → TrimPart → Bool
is_lump_part n (Mark name) = false
is_lump_part n (Label lump) = lump.0 == n
is_lump_part n (Copy lump) = lump.0 == n

-- the least lump of the parts that has the name of a mark
unfoldable pub marked_lump : List Lump → List TrimPart → Option ℕ
marked_lump lumps parts =
    least (λ n. list_any (is_lump_part n) parts && is_mark (lump_at lumps n).name) (length lumps)

unfoldable pub too_many : ℕ → Option TrimRefusal
too_many count = cond (nat_lt MAX_LUMPS count) (Some (TrimTooMany count)) None

unfoldable pub too_large : ℕ → Option TrimRefusal
too_large bytes = cond (nat_lt MAX_FILE_BYTES bytes) (Some (TrimTooLarge bytes)) None

-- the first refusal of the parts
unfoldable pub trim_refusal : List Lump → List TrimPart → Option TrimRefusal
trim_refusal lumps parts =
    or_else (option_map MarkName (marked_lump lumps parts))
    (or_else (too_many (length parts)) (too_large (file_size lumps parts)))

-- the parts, unless they are refused
abbrev pub unless_trim_refused : Option TrimRefusal → List TrimPart → Result (List TrimPart) TrimRefusal
unless_trim_refused None parts = Ok parts
unless_trim_refused (Some refusal) parts = Err refusal

unfoldable pub trim_plan : List Lump → SceneArt → List ℕ → Result (List TrimPart) TrimRefusal
trim_plan lumps art name = unless_trim_refused (trim_refusal lumps (trim_parts lumps art name)) (trim_parts lumps art name)
