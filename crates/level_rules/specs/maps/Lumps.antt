-- The eight map lumps: their numbers, the size of a record, and how many records a lump may have.
use Rattle.std.specs.Prelude.{ℕ, ◌/◌, nat_lt, cond, List, length, Option, Some, None}
use Rattle.level_rules.specs.declared.maps.lumps.MapLump.{MapLump}
use Rattle.level_rules.specs.declared.maps.lumps.MapLump.TheVariants.{Things, Linedefs, Sidedefs, Vertexes, Segs, Ssectors, Nodes, Sectors}
use Rattle.level_rules.specs.declared.maps.refusal.MapRefusal.{MapRefusal}
use Rattle.level_rules.specs.declared.maps.refusal.MapRefusal.TheVariants.{Size}
use Rattle.level_rules.specs.declared.maps.lumps.TheConstants.{MAX_RECORDS}
use Rattle.level_rules.specs.declared.maps.layout.TheConstants.{THING_SIZE, LINE_SIZE, SIDE_SIZE, VERTEX_SIZE, SEG_SIZE, LEAF_SIZE, NODE_SIZE, SECTOR_SIZE}

-- the lump's number
unfoldable pub lump_no : MapLump → ℕ
lump_no Things = 0
lump_no Linedefs = 1
lump_no Sidedefs = 2
lump_no Vertexes = 3
lump_no Segs = 4
lump_no Ssectors = 5
lump_no Nodes = 6
lump_no Sectors = 7

-- the bytes of a record
unfoldable pub record_size : MapLump → ℕ
record_size Things = THING_SIZE
record_size Linedefs = LINE_SIZE
record_size Sidedefs = SIDE_SIZE
record_size Vertexes = VERTEX_SIZE
record_size Segs = SEG_SIZE
record_size Ssectors = LEAF_SIZE
record_size Nodes = NODE_SIZE
record_size Sectors = SECTOR_SIZE

-- a lump with more whole records than have a number
unfoldable pub size_refusal : MapLump → List ℕ → Option MapRefusal
size_refusal lump bytes =
    cond (nat_lt MAX_RECORDS (length bytes / record_size lump)) (Some (Size (lump_no lump))) None
