-- The drawn fragments of a view and the dots of its walls.
use Rattle.std.specs.Prelude.{ℕ, ◌+◌, List, [], ◌∷◌, ◌++◌, map}
use Rattle.picture_rules.specs.Rules.{Dot, Event, LeafFragment, ViewValue, drawsegs}
use Rattle.picture_rules.specs.{wall.Walls.Wall, wall.Walls.wall_of, wall.Strips.wall_dots}
use Rattle.picture_rules.specs.Scene.{Scene, fragment_facts}

unfoldable pub fragment_wall : ViewValue → Scene → LeafFragment → Wall
fragment_wall v scene s = wall_of v (fragment_facts scene s) s.first s.last

-- the drawn fragments of a list of events, in order
unfoldable pub walls_of : ViewValue → Scene → List Event → List Wall
walls_of v scene events = map (fragment_wall v scene) (drawsegs events)

-- the dots of the fragments from number k on
unfoldable pub walls_from : ViewValue → Scene → List Wall → ℕ → List Wall → List Dot
walls_from v scene walls k [] = []
walls_from v scene walls k (w ∷ ws) = wall_dots v scene.art walls k w ++ walls_from v scene walls (k + 1) ws

unfoldable pub walls_dots : ViewValue → Scene → List Wall → List Dot
walls_dots v scene walls = walls_from v scene walls 0 walls
