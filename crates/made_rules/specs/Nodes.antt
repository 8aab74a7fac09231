-- The nodes of a made level: each divides a rectangle of cells in two, the wider way, until one cell
-- is left, which is a leaf.
use Rattle.std.specs.Prelude.{ℕ, zero, suc, ◌+◌, ◌-◌, ◌*◌, ◌/◌, ◌^◌, ◌<◌, ◌≤◌, ◌==◌, ◌&&◌, nat_le, List, [], ◌∷◌, ◌++◌, Bool, cond}
use Rattle.made_rules.specs.declared.map.TheConstants.{CELL_SIZE, LEAF_MARK}
use Rattle.made_rules.specs.{declared.map.Part.Part, Bytes.halves}

abbrev pub width : Part → ℕ
width part = part.east - part.west

abbrev pub height : Part → ℕ
height part = part.north - part.south

-- a rectangle of cells, within a square of 256 by 256
pub record IsPart (part : Part) : Type 0 where
  pub columns : part.west < part.east
  pub rows : part.south < part.north
  pub east : part.east ≤ 2 ^ 8
  pub north : part.north ≤ 2 ^ 8

-- how many nodes divide a part of so many cells
unfoldable pub node_count : Part → ℕ
node_count part = width part * height part - 1

unfoldable pub is_one_cell : Part → Bool
is_one_cell part = width part == 1 && height part == 1

-- the line goes from south to north, where the part is not higher than it is wide
unfoldable pub divides_columns : Part → Bool
divides_columns part = nat_le (height part) (width part)

unfoldable pub made_middle_column : Part → ℕ
made_middle_column part = (part.west + part.east) / 2

unfoldable pub middle_row : Part → ℕ
middle_row part = (part.south + part.north) / 2

-- in front of the line, child 0: the east, or the south
unfoldable pub front_part : Part → Part
front_part part = cond (divides_columns part) (record part { west = made_middle_column part }) (record part { north = middle_row part })

-- behind the line, child 1: the west, or the north
unfoldable pub back_part : Part → Part
back_part part = cond (divides_columns part) (record part { east = made_middle_column part }) (record part { south = middle_row part })

-- the line: where it begins, and how far it goes
unfoldable pub line_halves : Part → List ℕ
line_halves part =
    cond (divides_columns part)
    (halves ((CELL_SIZE * made_middle_column part) ∷ (CELL_SIZE * part.south) ∷ 0 ∷ (CELL_SIZE * height part) ∷ []))
    (halves ((CELL_SIZE * part.west) ∷ (CELL_SIZE * middle_row part) ∷ (CELL_SIZE * width part) ∷ 0 ∷ []))

-- the box of a part: top, bottom, left, right
unfoldable pub box_halves : Part → List ℕ
box_halves part = halves ((CELL_SIZE * part.north) ∷ (CELL_SIZE * part.south) ∷ (CELL_SIZE * part.west) ∷ (CELL_SIZE * part.east) ∷ [])

-- a child by number: the leaf of its cell, or the last of its nodes, which begin at number `first`
unfoldable pub child_number : ℕ → ℕ → Part → ℕ
child_number side first part = cond (is_one_cell part) (LEAF_MARK + (part.south * side + part.west)) (first + node_count part - 1)

-- the node that divides a part, where the nodes within it begin at number `first`
unfoldable pub node_bytes : ℕ → ℕ → Part → List ℕ
node_bytes side first part =
    line_halves part
    ++ box_halves (front_part part)
    ++ box_halves (back_part part)
    ++ halves (child_number side first (front_part part) ∷ child_number side (first + node_count (front_part part)) (back_part part) ∷ [])

-- the nodes of a part that needs at most so many divisions one within the other: those in front of its
-- line, then those behind it, then its own
unfoldable pub nodes_within : ℕ → ℕ → ℕ → Part → List ℕ
nodes_within zero side first part = []
nodes_within (suc depth) side first part =
    cond (is_one_cell part) []
    (nodes_within depth side first (front_part part)
    ++ nodes_within depth side (first + node_count (front_part part)) (back_part part)
    ++ node_bytes side first part)

-- each division takes at least a column or a row
unfoldable pub part_nodes : ℕ → ℕ → Part → List ℕ
part_nodes side first part = nodes_within (width part + height part) side first part

-- the nodes of the whole level
unfoldable pub made_nodes : ℕ → List ℕ
made_nodes side = part_nodes side 0 (record { west = 0; east = side; south = 0; north = side })
