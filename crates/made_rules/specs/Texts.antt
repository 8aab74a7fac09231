-- The thing table, and the paths: tables as text, a row a line.
use Rattle.std.specs.Prelude.{ℕ, ◌+◌, ◌*◌, ◌%◌, ◌^◌, List, ◌++◌, codes, decimal}
use Rattle.made_rules.specs.declared.path.TheConstants.{VIEWS_PER_NUMBER, ROOM_SIZE, WALL_DISTANCE, FREE_STEPS, EAST_ROOMS, EAST_STEPS, NORTH_ROOMS, NORTH_STEPS, ANGLE_STEP}
use Rattle.view_rules.specs.declared.formula.TheConstants.{ONE}
use Rattle.made_rules.specs.Bytes.{records}

-- the tree, which stands in every cell of a made level
unfoldable pub made_things : List ℕ
made_things = codes "type,sprite,frame,bright,hang,shadow\n2035,TREE,A,0,0,0\n"

-- where view k stands, in map units in 16.16: in a room of 256 by 256, at least 40 within its walls;
-- from view to view so many rooms and so many map units on
unfoldable pub path_place : ℕ → ℕ → ℕ → ℕ → ℕ
path_place n rooms steps k = (ROOM_SIZE * (rooms * k % n) + WALL_DISTANCE + steps * k % FREE_STEPS) * ONE

-- where view k looks: a 15th of a turn on from view to view
unfoldable pub path_angle : ℕ → ℕ
path_angle k = k * ANGLE_STEP % 2 ^ 32

-- the row of view k, 72 map units up
unfoldable pub made_path_row : ℕ → ℕ → List ℕ
made_path_row n k =
    (decimal (path_place n EAST_ROOMS EAST_STEPS k) ++ codes ",")
    ++ (decimal (path_place n NORTH_ROOMS NORTH_STEPS k) ++ codes ",4718592,")
    ++ (decimal (path_angle k) ++ codes "\n")

-- three views a room of the level's width
unfoldable pub made_path : ℕ → List ℕ
made_path n = codes "x,y,z,angle\n" ++ records (made_path_row n) (VIEWS_PER_NUMBER * n)
