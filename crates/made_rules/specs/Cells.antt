-- The cells of a made level, a square of `side` by `side`, and their walls. Cell 0 stands in the
-- south west; the next one is east of it, and then come the rows to the north.
use Rattle.std.specs.Prelude.{ℕ, ◌+◌, ◌-◌, ◌*◌, ◌/◌, ◌%◌, ◌==◌, [], ◌∷◌, Bool, cond, slice_index}
use Rattle.made_rules.specs.declared.map.TheConstants.{EDGES, NO_SIDE}

-- the column and the row of a cell
unfoldable pub made_column : ℕ → ℕ → ℕ
made_column side cell = cell % side

unfoldable pub made_row : ℕ → ℕ → ℕ
made_row side cell = cell / side

-- of four values the one of a cell's edge: 0 south, 1 west, 2 north, 3 east
abbrev pub at_edge : ℕ → ℕ → ℕ → ℕ → ℕ → ℕ
at_edge south west north east edge = slice_index (south ∷ west ∷ north ∷ east ∷ []) edge

-- the number of the vertex that is so many cells from the west and from the south
unfoldable pub vertex_number : ℕ → ℕ → ℕ → ℕ
vertex_number side a b = b * (side + 1) + a

-- the vertex where an edge begins, the cell being on its right hand: the cell's south eastern corner,
-- and then its south western, north western and north eastern one
unfoldable pub corner : ℕ → ℕ → ℕ → ℕ
corner side cell edge =
    let i = made_column side cell in
    let j = made_row side cell in
    vertex_number side (at_edge (i + 1) i i (i + 1) edge) (at_edge j j (j + 1) (j + 1) edge)

-- the next edge, and the one across
unfoldable pub next_edge : ℕ → ℕ
next_edge edge = (edge + 1) % EDGES

unfoldable pub opposite_edge : ℕ → ℕ
opposite_edge edge = (edge + 2) % EDGES

-- an edge within a room of two by two cells
unfoldable pub is_inner : ℕ → ℕ → ℕ → Bool
is_inner side cell edge =
    let i = made_column side cell in
    let j = made_row side cell in
    at_edge j i (j + 1) (i + 1) edge % 2 == 1

-- the cell across an edge
unfoldable pub cell_across : ℕ → ℕ → ℕ → ℕ
cell_across side cell edge = at_edge (cell - side) (cell - 1) (cell + side) (cell + 1) edge

-- the side across an edge, which is that of the cell there
unfoldable pub side_across : ℕ → ℕ → ℕ → ℕ
side_across side cell edge = cond (is_inner side cell edge) (EDGES * cell_across side cell edge + opposite_edge edge) NO_SIDE

-- the direction of an edge: west, north, east, south, as an angle's upper 16 bits
unfoldable pub edge_angle : ℕ → ℕ
edge_angle edge = at_edge 32768 16384 0 49152 edge
