-- The records of each map lump.
use Rattle.std.specs.Prelude.{ℕ, ◌+◌, ◌-◌, nat_lt, cond, List, [], ◌∷◌, ◌≡◌, refl}
use Rattle.level_rules.specs.{declared.Thing.Thing, declared.Side.Side, declared.Sector.Sector}
use Rattle.level_rules.specs.{declared.Partition4.Partition4, declared.Box4.Box4}
use Rattle.level_rules.specs.{declared.Node.Node, declared.Child.Child}
use Rattle.level_rules.specs.declared.Child.TheVariants.{Node as NodeChild, Leaf as LeafChild}
use Rattle.level_rules.specs.declared.maps.records.MapLine.{MapLine}
use Rattle.level_rules.specs.declared.maps.records.MapVertex.{MapVertex}
use Rattle.level_rules.specs.declared.maps.records.MapSeg.{MapSeg}
use Rattle.level_rules.specs.declared.maps.records.MapLeaf.{MapLeaf}
use Rattle.level_rules.specs.declared.maps.layout.TheConstants as at
use Rattle.level_rules.specs.declared.maps.lumps.TheConstants.{LEAF_BIT}
use Rattle.word_rules.specs.Bytes.{half_at, signed_half_at}
use Rattle.level_rules.specs.maps.Fields.{fixed_at, angle_field, name_field, records_in}

unfoldable pub thing_in : List ℕ → Thing
thing_in e = record {
  x = fixed_at e at.THING_X;
  y = fixed_at e at.THING_Y;
  angle = signed_half_at e at.THING_ANGLE;
  kind = half_at e at.THING_KIND;
  options = half_at e at.THING_OPTIONS;
}

unfoldable pub line_in : List ℕ → MapLine
line_in e = record {
  flags = half_at e at.LINE_FLAGS;
  front = half_at e at.LINE_FRONT;
  back = half_at e at.LINE_BACK;
}

unfoldable pub side_in : List ℕ → Side
side_in e = record {
  x_offset = fixed_at e at.SIDE_X_OFFSET;
  y_offset = fixed_at e at.SIDE_Y_OFFSET;
  top = name_field e at.SIDE_TOP;
  bottom = name_field e at.SIDE_BOTTOM;
  middle = name_field e at.SIDE_MIDDLE;
  sector = half_at e at.SIDE_SECTOR;
}

unfoldable pub vertex_in : List ℕ → MapVertex
vertex_in e = record { x = fixed_at e at.VERTEX_X; y = fixed_at e at.VERTEX_Y }

unfoldable pub seg_in : List ℕ → MapSeg
seg_in e = record {
  start = half_at e at.SEG_START;
  end = half_at e at.SEG_END;
  angle = angle_field e at.SEG_ANGLE;
  line = half_at e at.SEG_LINE;
  side = half_at e at.SEG_SIDE;
  offset = fixed_at e at.SEG_OFFSET;
}

unfoldable pub leaf_in : List ℕ → MapLeaf
leaf_in e = record { count = half_at e at.LEAF_COUNT; first = half_at e at.LEAF_FIRST }

-- the leaf bit marks a leaf, whose number the other bits are
unfoldable pub child_of : ℕ → Child
child_of number = cond (nat_lt number LEAF_BIT) (NodeChild number) (LeafChild (number - LEAF_BIT))

unfoldable pub child_at : List ℕ → ℕ → Child
child_at e offset = child_of (half_at e offset)

unfoldable pub line_at : List ℕ → Partition4
line_at e = record {
  x = fixed_at e at.NODE_X;
  y = fixed_at e at.NODE_Y;
  dx = fixed_at e at.NODE_DX;
  dy = fixed_at e at.NODE_DY;
}

-- a box: top, bottom, left and right, one after the other
unfoldable pub box_at : List ℕ → ℕ → Box4
box_at e offset = record {
  top = fixed_at e (offset + at.BOX_TOP);
  bottom = fixed_at e (offset + at.BOX_BOTTOM);
  left = fixed_at e (offset + at.BOX_LEFT);
  right = fixed_at e (offset + at.BOX_RIGHT);
}

unfoldable pub node_in : List ℕ → Node
node_in e = record {
  line = line_at e;
  boxes = box_at e at.NODE_BOX_0 ∷ box_at e at.NODE_BOX_1 ∷ [];
  children = child_at e at.NODE_CHILD_0 ∷ child_at e at.NODE_CHILD_1 ∷ [];
}

unfoldable pub sector_in : List ℕ → Sector
sector_in e = record {
  floor = fixed_at e at.SECTOR_FLOOR;
  ceiling = fixed_at e at.SECTOR_CEILING;
  floor_name = name_field e at.SECTOR_FLOOR_NAME;
  ceiling_name = name_field e at.SECTOR_CEILING_NAME;
  light = signed_half_at e at.SECTOR_LIGHT;
}

-- the records of the whole lumps
unfoldable pub things_in : List ℕ → List Thing
things_in = records_in thing_in at.THING_SIZE

unfoldable pub lines_in : List ℕ → List MapLine
lines_in = records_in line_in at.LINE_SIZE

unfoldable pub sides_in : List ℕ → List Side
sides_in = records_in side_in at.SIDE_SIZE

unfoldable pub vertexes_in : List ℕ → List MapVertex
vertexes_in = records_in vertex_in at.VERTEX_SIZE

unfoldable pub segs_in : List ℕ → List MapSeg
segs_in = records_in seg_in at.SEG_SIZE

unfoldable pub leaves_in : List ℕ → List MapLeaf
leaves_in = records_in leaf_in at.LEAF_SIZE

unfoldable pub nodes_in : List ℕ → List Node
nodes_in = records_in node_in at.NODE_SIZE

unfoldable pub sectors_in : List ℕ → List Sector
sectors_in = records_in sector_in at.SECTOR_SIZE

-- the number of leaf 1, and the number of node 1
pub child_of_row : (child_of 32769 ≡ LeafChild 1) × (child_of 1 ≡ NodeChild 1)
unfolding child_of
child_of_row = (refl, refl)
