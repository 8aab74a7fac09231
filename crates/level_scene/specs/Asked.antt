-- The lumps of a map that are asked for.
use Rattle.std.specs.Prelude.{◌≡◌, ℕ, true, List, Ok}
use Rattle.level_scene.specs.Rules.{Lump, is_map_lump, label_of}

-- one of the eight lumps behind the label of the map of that name
pub record IsLumpOfMap (lumps : List Lump) (name : List ℕ) (lump : ℕ) : Type 0 where
  pub label : ℕ
  pub is : label_of lumps name ≡ Ok label
  pub among : is_map_lump label lump ≡ true
