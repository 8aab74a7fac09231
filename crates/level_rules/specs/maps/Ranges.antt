-- The numbers of a map that have to name something that is there, in the order of their check.
use Rattle.std.specs.Prelude.{ℕ, ◌+◌, ◌==◌, ◌||◌, nat_lt, Bool, false, not, cond, List, length, Option, Some, None, option_map, slice_index_or}
use Rattle.level_rules.specs.{declared.Side.Side, declared.Node.Node, declared.Child.Child}
use Rattle.level_rules.specs.declared.Child.TheVariants.{Node as NodeChild, Leaf as LeafChild}
use Rattle.level_rules.specs.{Levels.child_on, declared.maps.records.MapLine.MapLine}
use Rattle.level_rules.specs.declared.maps.records.MapSeg.{MapSeg}
use Rattle.level_rules.specs.declared.maps.records.MapLeaf.{MapLeaf}
use Rattle.level_rules.specs.declared.maps.lumps.MapLump.{MapLump}
use Rattle.level_rules.specs.declared.maps.lumps.MapLump.TheVariants as lump
use Rattle.level_rules.specs.declared.maps.refusal.MapRefusal.{MapRefusal}
use Rattle.level_rules.specs.declared.maps.refusal.MapRefusal.TheVariants.{Index, EmptyLeaf}
use Rattle.level_rules.specs.{declared.maps.lumps.TheConstants.NO_SIDE, maps.Lumps.lump_no}
use Rattle.level_rules.specs.declared.maps.layout.TheConstants as at

-- the refusal of a record's first field that is out of range, if there is one
unfoldable pub index_refusal : MapLump → ℕ → Option ℕ → Option MapRefusal
index_refusal lump n field = option_map (λ f. Index (lump_no lump) n f) field

-- a side of a line is not there, or is one of the sides
unfoldable pub is_side : ℕ → ℕ → Bool
is_side sides number = number == NO_SIDE || nat_lt number sides

-- the first side of a line that is out of range, by its field
unfoldable pub line_field : ℕ → MapLine → Option ℕ
line_field sides line =
    cond (is_side sides line.front)
    (cond (is_side sides line.back) None (Some at.LINE_BACK_FIELD))
    (Some at.LINE_FRONT_FIELD)

-- the sector of a side, where it is out of range, by its field
unfoldable pub side_field : ℕ → Side → Option ℕ
side_field sectors side = cond (nat_lt side.sector sectors) None (Some at.SIDE_SECTOR_FIELD)

-- a line by its number; past the end, one without sides
abbrev pub no_line : MapLine
no_line = record { flags = 0; front = NO_SIDE; back = NO_SIDE }

unfoldable pub line_by : List MapLine → ℕ → MapLine
line_by lines n = slice_index_or lines n no_line

-- side 0 or side 1 of a line
unfoldable pub side_on : MapLine → ℕ → ℕ
side_on line side = cond (side == 0) line.front line.back

-- the line has that side: 0 or 1, and it is there
unfoldable pub has_side : MapLine → ℕ → Bool
has_side line side = cond (nat_lt side 2) (not (side_on line side == NO_SIDE)) false

-- the first number of a seg that is out of range, by its field: its vertices, its line, and the
-- side of that line
unfoldable pub seg_field : ℕ → List MapLine → MapSeg → Option ℕ
seg_field vertexes lines seg =
    cond (nat_lt seg.start vertexes)
    (cond (nat_lt seg.end vertexes)
    (cond (nat_lt seg.line (length lines))
    (cond (has_side (line_by lines seg.line) seg.side) None (Some at.SEG_SIDE_FIELD))
    (Some at.SEG_LINE_FIELD)) (Some at.SEG_END_FIELD)) (Some at.SEG_START_FIELD)

-- an end of a leaf's segs past the last seg is told by the field of its first seg
unfoldable pub leaf_field : ℕ → MapLeaf → Option ℕ
leaf_field segs leaf = cond (nat_lt segs (leaf.first + leaf.count)) (Some at.LEAF_FIRST_FIELD) None

-- the child is a node or a leaf that is there
unfoldable pub is_there : ℕ → ℕ → Child → Bool
is_there nodes leaves (NodeChild n) = nat_lt n nodes
is_there nodes leaves (LeafChild n) = nat_lt n leaves

-- the first child of a node that is not there, by its field
unfoldable pub node_field : ℕ → ℕ → Node → Option ℕ
node_field nodes leaves node =
    cond (is_there nodes leaves (child_on node 0))
    (cond (is_there nodes leaves (child_on node 1)) None (Some at.NODE_CHILD_1_FIELD))
    (Some at.NODE_CHILD_0_FIELD)

-- the refusals of record n of each lump
unfoldable pub line_refusal : ℕ → ℕ → MapLine → Option MapRefusal
line_refusal sides n line = index_refusal lump.Linedefs n (line_field sides line)

unfoldable pub side_refusal : ℕ → ℕ → Side → Option MapRefusal
side_refusal sectors n side = index_refusal lump.Sidedefs n (side_field sectors side)

unfoldable pub seg_refusal : ℕ → List MapLine → ℕ → MapSeg → Option MapRefusal
seg_refusal vertexes lines n seg = index_refusal lump.Segs n (seg_field vertexes lines seg)

-- a leaf without a seg is refused before its first seg is looked at
unfoldable pub leaf_refusal : ℕ → ℕ → MapLeaf → Option MapRefusal
leaf_refusal segs n leaf =
    cond (leaf.count == 0) (Some (EmptyLeaf n)) (index_refusal lump.Ssectors n (leaf_field segs leaf))

unfoldable pub node_refusal : ℕ → ℕ → ℕ → Node → Option MapRefusal
node_refusal nodes leaves n node = index_refusal lump.Nodes n (node_field nodes leaves node)
