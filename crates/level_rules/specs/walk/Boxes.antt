-- Near and far children of a node, and whether a far box is to be entered (R_RenderBSPNode, R_CheckBBox, r_bsp.c).
use Rattle.std.specs.Prelude.{ℕ, ◌-◌, ◌==◌, pos, int_lt, int_le, Bool, true, false, not, cond, List, slice_index_or}
use Rattle.view_rules.specs.{View.ViewValue, Sides.side_of, Bearings.point_angle}
use Rattle.view_rules.specs.{Ranges.column_range, declared.Partition.Partition}
use Rattle.view_rules.specs.declared.ColumnRange.{ColumnRange}
use Rattle.view_rules.specs.declared.ColumnRange.TheVariants.{Behind, Outside, Columns}
use Rattle.level_rules.specs.{declared.Partition4.Partition4, declared.Box4.Box4}
use Rattle.level_rules.specs.{declared.Node.Node, declared.Child.Child, Levels.child_on}
use Rattle.level_rules.specs.{walk.Covered.hides, declared.walk.Corners.Corners}

unfoldable pub partition_of : Partition4 → Partition
partition_of line = record { x = line.x; y = line.y; dx = line.dx; dy = line.dy }

-- the side of the node's line on which the viewpoint is
unfoldable pub eye_side : ViewValue → Node → ℕ
eye_side v node = side_of (partition_of node.line) v.eye.x v.eye.y

abbrev pub no_box : Box4
no_box = record { top = pos 0; bottom = pos 0; left = pos 0; right = pos 0 }

unfoldable pub box_on : Node → ℕ → Box4
box_on node side = slice_index_or node.boxes side no_box

-- the child that is walked first, the other one, and that one's box
unfoldable pub near_child : ViewValue → Node → Child
near_child v node = child_on node (eye_side v node)

unfoldable pub far_child : ViewValue → Node → Child
far_child v node = child_on node (1 - eye_side v node)

unfoldable pub far_box : ViewValue → Node → Box4
far_box v node = box_on node (1 - eye_side v node)

-- the viewpoint is left of the box, within its columns, or right of it: 0, 1, 2
unfoldable pub box_column : ViewValue → Box4 → ℕ
box_column v b = cond (int_le v.eye.x b.left) 0 (cond (int_lt v.eye.x b.right) 1 2)

-- the viewpoint is above the box, within its rows, or below it: 0, 1, 2
unfoldable pub box_row : ViewValue → Box4 → ℕ
box_row v b = cond (int_le b.top v.eye.y) 0 (cond (int_lt b.bottom v.eye.y) 1 2)

-- the table of corners (checkcoord): a row for each of above, within and below; within both nothing is to be tested
unfoldable pub corners_above : Box4 → ℕ → Corners
corners_above b column =
    cond (column == 0) (record { x1 = b.right; y1 = b.top; x2 = b.left; y2 = b.bottom })
    (cond (column == 1) (record { x1 = b.right; y1 = b.top; x2 = b.left; y2 = b.top })
    (record { x1 = b.right; y1 = b.bottom; x2 = b.left; y2 = b.top }))

unfoldable pub corners_beside : Box4 → ℕ → Corners
corners_beside b column =
    cond (column == 0) (record { x1 = b.left; y1 = b.top; x2 = b.left; y2 = b.bottom })
    (record { x1 = b.right; y1 = b.bottom; x2 = b.right; y2 = b.top })

unfoldable pub corners_below : Box4 → ℕ → Corners
corners_below b column =
    cond (column == 0) (record { x1 = b.left; y1 = b.top; x2 = b.right; y2 = b.bottom })
    (cond (column == 1) (record { x1 = b.left; y1 = b.bottom; x2 = b.right; y2 = b.bottom })
    (record { x1 = b.left; y1 = b.bottom; x2 = b.right; y2 = b.top }))

unfoldable pub box_corners : Box4 → ℕ → ℕ → Corners
box_corners b row column =
    cond (row == 0) (corners_above b column)
    (cond (row == 1) (corners_beside b column) (corners_below b column))

unfoldable pub corners_range : ViewValue → Corners → ColumnRange
corners_range v c = column_range v (point_angle v c.x1 c.y1) (point_angle v c.x2 c.y2)

-- some column of the range is not covered; what begins behind the viewpoint counts as seen
unfoldable pub range_is_open : List Bool → ColumnRange → Bool
range_is_open covered Behind = true
range_is_open covered Outside = false
range_is_open covered (Columns x1 x2) = cond (x1 == x2) false (not (hides covered x1 (x2 - 1)))

-- the viewpoint is within the box
unfoldable pub is_within_box : ℕ → ℕ → Bool
is_within_box row column = cond (row == 1) (column == 1) false

unfoldable pub box_passes : ViewValue → List Bool → Box4 → Bool
box_passes v covered b =
    cond (is_within_box (box_row v b) (box_column v b)) true
    (range_is_open covered (corners_range v (box_corners b (box_row v b) (box_column v b))))
