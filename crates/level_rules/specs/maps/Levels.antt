-- The level that the records of the eight map lumps give, or the first refusal.
use Rattle.std.specs.Prelude.{ℕ, ◌-◌, ◌==◌, ◌&&◌, Bool, not, cond, List, length, map, Option, Some, None, Result, Ok, Err, pos, bit_and, slice_index_or}
use Rattle.word_rules.specs.Least.{or_else}
use Rattle.level_rules.specs.{declared.Thing.Thing, declared.Side.Side, declared.Seg.Seg}
use Rattle.level_rules.specs.{declared.Leaf.Leaf, declared.Node.Node, declared.Sector.Sector}
use Rattle.level_rules.specs.{declared.Child.Child, declared.TheConstants.TWO_SIDED, Levels.no_seg}
use Rattle.level_rules.specs.declared.maps.records.MapLine.{MapLine}
use Rattle.level_rules.specs.declared.maps.records.MapVertex.{MapVertex}
use Rattle.level_rules.specs.declared.maps.records.MapSeg.{MapSeg}
use Rattle.level_rules.specs.declared.maps.records.MapLeaf.{MapLeaf}
use Rattle.level_rules.specs.declared.maps.lumps.MapLump.TheVariants as lump
use Rattle.level_rules.specs.declared.maps.refusal.MapRefusal.{MapRefusal}
use Rattle.level_rules.specs.declared.maps.refusal.MapRefusal.TheVariants.{NoLeaf}
use Rattle.level_rules.specs.{declared.maps.lumps.TheConstants.NO_SIDE, maps.Lumps.size_refusal}
use Rattle.level_rules.specs.maps.Records.{things_in, lines_in, sides_in, vertexes_in, segs_in, leaves_in, nodes_in, sectors_in}
use Rattle.level_rules.specs.maps.Firsts.{first_refusal}
use Rattle.level_rules.specs.maps.Ranges.{line_by, side_on, line_refusal, side_refusal, seg_refusal, leaf_refusal, node_refusal}
use Rattle.level_rules.specs.maps.Trees.{root_of, tree_refusal}

-- the bytes of the eight lumps
pub record MapBytes : Type 0 where
  pub things : List ℕ
  pub lines : List ℕ
  pub sides : List ℕ
  pub vertexes : List ℕ
  pub segs : List ℕ
  pub leaves : List ℕ
  pub nodes : List ℕ
  pub sectors : List ℕ

-- their records, as they are read
pub record MapRecords : Type 0 where
  pub things : List Thing
  pub lines : List MapLine
  pub sides : List Side
  pub vertexes : List MapVertex
  pub segs : List MapSeg
  pub leaves : List MapLeaf
  pub nodes : List Node
  pub sectors : List Sector

-- a level: its lists, with what the records name by number joined to them, and the root of its nodes
pub record LevelValue : Type 0 where
  pub things : List Thing
  pub sides : List Side
  pub segs : List Seg
  pub leaves : List Leaf
  pub nodes : List Node
  pub sectors : List Sector
  pub root : Child

-- entries for numbers that are out of range
abbrev pub no_vertex : MapVertex
no_vertex = record { x = pos 0; y = pos 0 }

unfoldable pub vertex_by : List MapVertex → ℕ → MapVertex
vertex_by vertexes n = slice_index_or vertexes n no_vertex

-- the sectors of the sides of a level, by the number of a side
unfoldable pub sector_of : List Side → ℕ → ℕ
sector_of sides n = slice_index_or (map (λ side. side.sector) sides) n 0

-- the sector behind a seg: that of the line's other side, where the line is two-sided and has that
-- side
unfoldable pub has_back : MapLine → ℕ → Bool
has_back line side =
    not (bit_and line.flags TWO_SIDED == 0) && not (side_on line (1 - side) == NO_SIDE)

unfoldable pub back_sector : List Side → MapLine → ℕ → Option ℕ
back_sector sides line side =
    cond (has_back line side) (Some (sector_of sides (side_on line (1 - side)))) None

-- a seg of a line, between two vertices
unfoldable pub seg_between : List Side → MapLine → MapVertex → MapVertex → MapSeg → Seg
seg_between sides line v1 v2 seg = record {
  x1 = v1.x;
  y1 = v1.y;
  x2 = v2.x;
  y2 = v2.y;
  angle = seg.angle;
  offset = seg.offset;
  flags = line.flags;
  side = side_on line seg.side;
  front = sector_of sides (side_on line seg.side);
  back = back_sector sides line seg.side;
}

unfoldable pub seg_of : List Side → List MapLine → List MapVertex → MapSeg → Seg
seg_of sides lines vertexes seg =
    seg_between sides (line_by lines seg.line) (vertex_by vertexes seg.start) (vertex_by vertexes seg.end) seg

-- a leaf has the sector in front of its first seg
unfoldable pub leaf_of : List Seg → MapLeaf → Leaf
leaf_of segs leaf = record {
  first = leaf.first;
  count = leaf.count;
  sector = (slice_index_or segs leaf.first no_seg).front;
}

unfoldable pub joined_segs : MapRecords → List Seg
joined_segs m = map (seg_of m.sides m.lines m.vertexes) m.segs

unfoldable pub joined_leaves : MapRecords → List Leaf
joined_leaves m = map (leaf_of (joined_segs m)) m.leaves

unfoldable pub joined_level : MapRecords → LevelValue
joined_level m = record {
  things = m.things;
  sides = m.sides;
  segs = joined_segs m;
  leaves = joined_leaves m;
  nodes = m.nodes;
  sectors = m.sectors;
  root = root_of m.nodes;
}

-- a map has a leaf
unfoldable pub no_leaf_refusal : List MapLeaf → Option MapRefusal
no_leaf_refusal leaves = cond (length leaves == 0) (Some NoLeaf) None

-- the first number out of range, lump by lump, record by record and field by field
unfoldable pub range_refusal : MapRecords → Option MapRefusal
range_refusal m =
    or_else (first_refusal (line_refusal (length m.sides)) 0 m.lines)
    (or_else (first_refusal (side_refusal (length m.sectors)) 0 m.sides)
    (or_else (first_refusal (seg_refusal (length m.vertexes) m.lines) 0 m.segs)
    (or_else (first_refusal (leaf_refusal (length m.segs)) 0 m.leaves)
    (first_refusal (node_refusal (length m.nodes) (length m.leaves)) 0 m.nodes))))

-- the first refusal of the records
unfoldable pub records_refusal : MapRecords → Option MapRefusal
records_refusal m = or_else (no_leaf_refusal m.leaves) (or_else (range_refusal m) (tree_refusal m.nodes))

-- a value, unless something is refused
unfoldable pub unless : {V : Type 0} → Option MapRefusal → V → Result V MapRefusal
unless None value = Ok value
unless (Some refusal) value = Err refusal

unfoldable pub level_from : MapRecords → Result LevelValue MapRefusal
level_from m = unless (records_refusal m) (joined_level m)

-- the records of the eight lumps
unfoldable pub records_of : MapBytes → MapRecords
records_of b = record {
  things = things_in b.things;
  lines = lines_in b.lines;
  sides = sides_in b.sides;
  vertexes = vertexes_in b.vertexes;
  segs = segs_in b.segs;
  leaves = leaves_in b.leaves;
  nodes = nodes_in b.nodes;
  sectors = sectors_in b.sectors;
}

-- the first lump that is too large
unfoldable pub sizes_refusal : MapBytes → Option MapRefusal
sizes_refusal b =
    or_else (size_refusal lump.Things b.things)
    (or_else (size_refusal lump.Linedefs b.lines)
    (or_else (size_refusal lump.Sidedefs b.sides)
    (or_else (size_refusal lump.Vertexes b.vertexes)
    (or_else (size_refusal lump.Segs b.segs)
    (or_else (size_refusal lump.Ssectors b.leaves)
    (or_else (size_refusal lump.Nodes b.nodes)
    (size_refusal lump.Sectors b.sectors)))))))

-- the first refusal of a map whose lumps are there
unfoldable pub map_refusal : MapBytes → Option MapRefusal
map_refusal b = or_else (sizes_refusal b) (records_refusal (records_of b))

-- the level of eight lumps
unfoldable pub level_of : MapBytes → Result LevelValue MapRefusal
level_of b = unless (map_refusal b) (joined_level (records_of b))
