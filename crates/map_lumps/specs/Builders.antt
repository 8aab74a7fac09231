-- What a contract sees of a `LevelBuilder`: the records of the lumps that it has, and which lumps these are.
use Rattle.std.specs.Prelude.{ℕ, Bool, true, false, List, [], replicate, slice_index_or, slice_set}
use Rattle.map_lumps.specs.Rules.{Linedefs, MapLump, MapRecords, Nodes, Sectors, Segs, Sidedefs, Ssectors, Things, Vertexes, leaves_in, lines_in, lump_no, nodes_in, sectors_in, segs_in, sides_in, things_in, vertexes_in}

-- the records, none of a lump that was not added, and of each lump whether it was, by its number
pub record BuilderValue : Type 0 where
  pub map_records : MapRecords
  pub added : List Bool

-- nothing is added yet
unfoldable pub empty_builder : BuilderValue
empty_builder = record { map_records = record { things = []; lines = []; sides = []; vertexes = []; segs = []; leaves = []; nodes = []; sectors = [] }; added = replicate 8 false }

unfoldable pub is_added : BuilderValue → MapLump → Bool
is_added b lump = slice_index_or b.added (lump_no lump) false

-- all eight are added
abbrev pub all_added : List Bool
all_added = replicate 8 true

-- the records with those of one lump read from its bytes
unfoldable pub with_records : MapRecords → MapLump → List ℕ → MapRecords
with_records m Things bytes = record m { things = things_in bytes }
with_records m Linedefs bytes = record m { lines = lines_in bytes }
with_records m Sidedefs bytes = record m { sides = sides_in bytes }
with_records m Vertexes bytes = record m { vertexes = vertexes_in bytes }
with_records m Segs bytes = record m { segs = segs_in bytes }
with_records m Ssectors bytes = record m { leaves = leaves_in bytes }
with_records m Nodes bytes = record m { nodes = nodes_in bytes }
with_records m Sectors bytes = record m { sectors = sectors_in bytes }

-- the builder with one lump more
unfoldable pub with_lump : BuilderValue → MapLump → List ℕ → BuilderValue
with_lump b lump bytes = record { map_records = with_records b.map_records lump bytes; added = slice_set b.added (lump_no lump) true }
