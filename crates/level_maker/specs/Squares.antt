-- The records of a made level by lump, and the squares of cells that have them.
use Rattle.std.specs.Prelude.{ℕ, ◌<◌, ◌^◌, List}
use Rattle.level_maker.specs.Rules.{EDGES, leaf_bytes, line_bytes, sector_bytes, seg_bytes, side_bytes, thing_bytes, vertex_bytes}
use Rattle.level_maker.specs.declared.map.MadeLump.{MadeLump}
use Rattle.level_maker.specs.declared.map.MadeLump.TheVariants.{Leaves, Lines, Sectors, Segs, Sides, Things, Vertices}

-- a square has cells, and so few that their numbers are halves
abbrev pub IsSquare : ℕ → Type 0
IsSquare side = (0 < side) × (side < 2 ^ 8)

-- a record's number in a lump over a square
abbrev pub IsRecord : ℕ → ℕ → Type 0
IsRecord side k = (0 < side) × (side < 2 ^ 8) × (k < 2 ^ 16)

-- an edge of a cell of a square
abbrev pub IsEdge : ℕ → ℕ → ℕ → Type 0
IsEdge side cell edge = (0 < side) × (side < 2 ^ 8) × (cell < 2 ^ 16) × (edge < EDGES)

-- record k of a lump over a square of that side
abbrev pub record_bytes : MadeLump → ℕ → ℕ → List ℕ
record_bytes Things side = thing_bytes side
record_bytes Lines side = line_bytes side
record_bytes Sides side = side_bytes side
record_bytes Vertices side = vertex_bytes side
record_bytes Segs side = seg_bytes side
record_bytes Leaves side = leaf_bytes
record_bytes Sectors side = sector_bytes side
