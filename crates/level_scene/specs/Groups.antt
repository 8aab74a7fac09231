-- What a contract sees of the private lists of things by sector.
use Rattle.std.specs.Prelude.{◌≡◌, ◌<◌, ℕ, List, [], map, Vec, slice_index_or}
use Rattle.std.specs.declared.alloc.Global.{Global}
use Rattle.level_scene.specs.Rules.{Placed, PlacedThing, things_of}

-- the thing stands in one of so many sectors
abbrev pub IsIn : ℕ → Placed → Type 0
IsIn count placed = placed.sector < count

-- the list of a sector, empty where there is none
abbrev pub group_at : List (Vec PlacedThing Global) → ℕ → List PlacedThing
group_at groups sector = slice_index_or (map (λ group. group.items) groups) sector []

-- of each sector, there or not, its things in drawing order
pub record AreGroupsOf (all : List Placed) (groups : List (Vec PlacedThing Global)) : Type 0 where
  pub group : (sector : ℕ) → group_at groups sector ≡ things_of all sector
