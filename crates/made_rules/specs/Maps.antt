-- The records of a made level by number. Line, side and seg 4 c + e are edge e of cell c; sector,
-- leaf and thing c are those of cell c.
use Rattle.std.specs.Prelude.{ℕ, ◌+◌, ◌*◌, ◌/◌, ◌%◌, ◌==◌, ◌&&◌, List, [], ◌∷◌, ◌++◌, Bool, cond, bit_xor, codes}
use Rattle.made_rules.specs.declared.map.TheConstants.{CELL_SIZE, EDGES, ONE_SIDED, TWO_SIDED, LEVEL_THING, THING_OPTIONS}
use Rattle.made_rules.specs.declared.pictures.TheConstants.{FLATS}
use Rattle.made_rules.specs.Bytes.{half, halves, padded}
use Rattle.made_rules.specs.Cells.{made_column, made_row, corner, next_edge, is_inner, side_across, edge_angle}

-- a thing in the middle of its cell; it turns by an eighth from cell to cell
unfoldable pub thing_bytes : ℕ → ℕ → List ℕ
thing_bytes side cell =
    let i = made_column side cell in
    let j = made_row side cell in
    halves ((CELL_SIZE * i + CELL_SIZE / 2) ∷ (CELL_SIZE * j + CELL_SIZE / 2) ∷ (45 * ((i + j) % 8)) ∷ LEVEL_THING ∷ THING_OPTIONS ∷ [])

-- the flags of an edge's line
unfoldable pub line_flags : ℕ → ℕ → ℕ → ℕ
line_flags side cell edge = cond (is_inner side cell edge) TWO_SIDED ONE_SIDED

-- the line of an edge: its vertices, flags, no special, no tag, and its sides
unfoldable pub line_bytes : ℕ → ℕ → List ℕ
line_bytes side k =
    let cell = k / EDGES in
    let edge = k % EDGES in
    halves (corner side cell edge ∷ corner side cell (next_edge edge) ∷ line_flags side cell edge ∷ 0 ∷ 0 ∷ k ∷ side_across side cell edge ∷ [])

-- an inner edge to the west or east, in every other room a grate
unfoldable pub has_grate : ℕ → ℕ → ℕ → Bool
has_grate side cell edge = edge % 2 == 1 && (made_column side cell / 2 + made_row side cell / 2) % 2 == 1

-- the wall of an edge that is not inner
unfoldable pub wall_name : ℕ → ℕ → List ℕ
wall_name side cell = cond ((made_column side cell + made_row side cell) % 2 == 1) (padded (codes "WALL2")) (padded (codes "WALL1"))

-- the masked mid texture of an inner edge, or none
unfoldable pub inner_name : ℕ → ℕ → ℕ → List ℕ
inner_name side cell edge = cond (has_grate side cell edge) (padded (codes "GRATE")) (padded (codes "-"))

unfoldable pub middle_name : ℕ → ℕ → ℕ → List ℕ
middle_name side cell edge = cond (is_inner side cell edge) (inner_name side cell edge) (wall_name side cell)

-- the side of an edge: no offsets, its three textures, and its sector
unfoldable pub side_bytes : ℕ → ℕ → List ℕ
side_bytes side k =
    let cell = k / EDGES in
    let edge = k % EDGES in
    halves (0 ∷ 0 ∷ []) ++ padded (codes "WALL1") ++ padded (codes "WALL2") ++ middle_name side cell edge ++ half cell

-- a corner of the cells
unfoldable pub vertex_bytes : ℕ → ℕ → List ℕ
vertex_bytes side k = halves ((CELL_SIZE * (k % (side + 1))) ∷ (CELL_SIZE * (k / (side + 1))) ∷ [])

-- the seg of an edge: its vertices and angle, its line, the front side, no offset
unfoldable pub seg_bytes : ℕ → ℕ → List ℕ
seg_bytes side k =
    let cell = k / EDGES in
    let edge = k % EDGES in
    halves (corner side cell edge ∷ corner side cell (next_edge edge) ∷ edge_angle edge ∷ k ∷ 0 ∷ 0 ∷ [])

-- a leaf: four segs, from the cell's first one on
unfoldable pub leaf_bytes : ℕ → List ℕ
leaf_bytes cell = halves (EDGES ∷ (EDGES * cell) ∷ [])

-- a flat by number
unfoldable pub flat_name : ℕ → List ℕ
flat_name a = codes "FLAT" ++ (48 + a) ∷ 0 ∷ 0 ∷ 0 ∷ []

-- which of the four flats the floor has
unfoldable pub floor_flat : ℕ → ℕ → ℕ
floor_flat side cell = (made_column side cell + made_row side cell) % FLATS

-- a room whose ceiling is the sky
unfoldable pub has_made_sky : ℕ → ℕ → Bool
has_made_sky side cell = (made_column side cell / 2 + made_row side cell / 2) % 3 == 2

unfoldable pub ceiling_name : ℕ → ℕ → List ℕ
ceiling_name side cell = cond (has_made_sky side cell) (padded (codes "F_SKY1")) (flat_name (bit_xor (floor_flat side cell) 1))

-- the heights and the light of a cell's sector
unfoldable pub floor_height : ℕ → ℕ → ℕ
floor_height side cell = 8 * ((made_column side cell + 2 * made_row side cell) % 4)

unfoldable pub ceiling_height : ℕ → ℕ → ℕ
ceiling_height side cell = 128 + 16 * ((2 * made_column side cell + made_row side cell) % 3)

unfoldable pub sector_light : ℕ → ℕ → ℕ
sector_light side cell = 96 + 16 * ((made_column side cell + made_row side cell) % 4)

-- a sector: heights, flats, light, no special, no tag
unfoldable pub sector_bytes : ℕ → ℕ → List ℕ
sector_bytes side cell =
    halves (floor_height side cell ∷ ceiling_height side cell ∷ [])
    ++ flat_name (floor_flat side cell)
    ++ ceiling_name side cell
    ++ halves (sector_light side cell ∷ 0 ∷ 0 ∷ [])
