-- The made WAD file: its lumps without gaps, and then the directory.
use Rattle.std.specs.Prelude.{ℕ, ◌+◌, ◌*◌, List, [], ◌∷◌, ◌++◌, length, codes}
use Rattle.std.specs.List.{flat_map}
use Rattle.made_rules.specs.declared.map.TheConstants.{CELLS_PER_NUMBER, EDGES}
use Rattle.made_rules.specs.declared.pictures.TheConstants.{WALL, WALL_NARROW, GRATE, SKY, TREE, FLATS}
use Rattle.word_rules.specs.Listed.{listed}
use Rattle.made_rules.specs.declared.wad.TheConstants.{HEAD_SIZE}
use Rattle.made_rules.specs.Bytes.{word_bytes, records, padded}
use Rattle.made_rules.specs.Pictures.{made_palette, made_colormaps, made_flat, made_patch, whole_column, grate_column}
use Rattle.made_rules.specs.{Textures.made_patch_names, Textures.made_textures, Nodes.made_nodes}
use Rattle.made_rules.specs.Maps.{flat_name, thing_bytes, line_bytes, side_bytes, vertex_bytes, seg_bytes, leaf_bytes, sector_bytes}

pub record Lump : Type 0 where
  pub name : List ℕ
  pub bytes : List ℕ

abbrev pub lump_of : List ℕ → List ℕ → Lump
lump_of name bytes = record { name = name; bytes = bytes }

-- a lump of eight letters at most
abbrev pub lump : List ℕ → List ℕ → Lump
lump name bytes = lump_of (padded name) bytes

-- a lump that only marks a place
abbrev pub marker : List ℕ → Lump
marker name = lump name []

-- palette, light maps, and the tables of wall textures
unfoldable pub table_lumps : List Lump
table_lumps =
    lump (codes "PLAYPAL") made_palette
    ∷ lump (codes "COLORMAP") made_colormaps
    ∷ lump (codes "PNAMES") made_patch_names
    ∷ lump (codes "TEXTURE1") made_textures
    ∷ []

unfoldable pub patch_lumps : List Lump
patch_lumps =
    lump (codes "WPATA") (made_patch WALL (whole_column 128))
    ∷ lump (codes "WPATB") (made_patch WALL_NARROW (whole_column 128))
    ∷ lump (codes "GRATP") (made_patch GRATE grate_column)
    ∷ lump (codes "SKYP") (made_patch SKY (whole_column 128))
    ∷ []

unfoldable pub made_flat_lump : ℕ → Lump
made_flat_lump a = lump_of (flat_name a) (made_flat a)

unfoldable pub flat_lumps : List Lump
flat_lumps = marker (codes "F_START") ∷ [] ++ listed made_flat_lump FLATS ++ marker (codes "F_END") ∷ []

unfoldable pub sprite_lumps : List Lump
sprite_lumps =
    marker (codes "S_START")
    ∷ lump (codes "TREEA0") (made_patch TREE (whole_column 64))
    ∷ marker (codes "S_END")
    ∷ []

-- the level of a square of cells: its label, and the things
unfoldable pub thing_lumps : ℕ → List Lump
thing_lumps side = marker (codes "MAP01") ∷ lump (codes "THINGS") (records (thing_bytes side) (side * side)) ∷ []

-- the walls
unfoldable pub wall_lumps : ℕ → List Lump
wall_lumps side =
    lump (codes "LINEDEFS") (records (line_bytes side) (EDGES * (side * side)))
    ∷ lump (codes "SIDEDEFS") (records (side_bytes side) (EDGES * (side * side)))
    ∷ lump (codes "VERTEXES") (records (vertex_bytes side) ((side + 1) * (side + 1)))
    ∷ []

-- the tree of nodes, and the sectors
unfoldable pub tree_lumps : ℕ → List Lump
tree_lumps side =
    lump (codes "SEGS") (records (seg_bytes side) (EDGES * (side * side)))
    ∷ lump (codes "SSECTORS") (records leaf_bytes (side * side))
    ∷ lump (codes "NODES") (made_nodes side)
    ∷ lump (codes "SECTORS") (records (sector_bytes side) (side * side))
    ∷ []

-- what is the same in all made files
abbrev pub art_lumps : List Lump
art_lumps = table_lumps ++ patch_lumps ++ flat_lumps ++ sprite_lumps

abbrev pub level_lumps : ℕ → List Lump
level_lumps side = thing_lumps side ++ wall_lumps side ++ tree_lumps side

unfoldable pub made_lumps : ℕ → List Lump
made_lumps side = art_lumps ++ level_lumps side

-- the bytes of lumps, one after the other
unfoldable pub contents : List Lump → List ℕ
contents lumps = flat_map (λ lump. lump.bytes) lumps

-- the entries of lumps that stand from a place on without gaps: place, size and name
unfoldable pub entries : ℕ → List Lump → List ℕ
entries place [] = []
entries place (lump ∷ rest) = word_bytes place ++ word_bytes (length lump.bytes) ++ lump.name ++ entries (place + length lump.bytes) rest

-- the lumps and the directory of a file that is being put together
pub record WadParts : Type 0 where
  pub lumps : List ℕ
  pub directory : List ℕ

abbrev pub parts_of : List ℕ → List ℕ → WadParts
parts_of lumps directory = record { lumps = lumps; directory = directory }

-- a file without lumps
abbrev pub no_lumps : WadParts
no_lumps = parts_of [] []

-- the parts with more lumps behind the others
unfoldable pub with_lumps : WadParts → List Lump → WadParts
with_lumps wad lumps = parts_of (wad.lumps ++ contents lumps) (wad.directory ++ entries (HEAD_SIZE + length wad.lumps) lumps)

-- the whole file: the head, with how many lumps there are and where the directory begins, the lumps
-- and the directory
unfoldable pub file_of : ℕ → WadParts → List ℕ
file_of count wad =
    codes "IWAD" ++ word_bytes count ++ word_bytes (HEAD_SIZE + length wad.lumps) ++ wad.lumps ++ wad.directory

-- the file of some lumps
unfoldable pub wad_file : List Lump → List ℕ
wad_file lumps = file_of (length lumps) (parts_of (contents lumps) (entries HEAD_SIZE lumps))

unfoldable pub made_wad : ℕ → List ℕ
made_wad n = wad_file (made_lumps (CELLS_PER_NUMBER * n))
