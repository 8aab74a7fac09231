-- The weapon layers of the views of a path (R_DrawPlayerSprites, r_things.c).
use Rattle.std.specs.Prelude.{ℕ, ◌+◌, ◌==◌, cond, ℤ, List, [], ◌∷◌, ◌++◌, option_map, Option, Some, None}
use Rattle.std.specs.Option.{option_to_list}
use Rattle.doom_run.specs.Rules.{Eye, Frame, SceneValue, Shape, ViewValue, WeaponLayer, picked, sector_at, surface_at, view_of}
use Rattle.csv_tables.specs.declared.weapons.WeaponRow.{WeaponRow}
use Rattle.level_audit.specs.scene_load.Loads.{LoadedValue}
use Rattle.sound_scene.specs.Pictures.{drawn_shape, lists_of}

-- a view of a path with the layers that lie over it
pub record SeenView : Type 0 where
  pub view : ViewValue
  pub layers : List WeaponLayer

-- the light of the sector where the viewpoint stands
unfoldable pub layer_light : SceneValue → Eye → ℤ
layer_light scene eye = (surface_at (lists_of scene) (sector_at scene.base.level eye.x eye.y)).light

-- a row of the weapon table as a layer, with its picture of rotation 0
unfoldable pub layer_with : ℤ → ℕ → WeaponRow → Shape → WeaponLayer
layer_with light number row shape = record {
  row = number;
  shape = drawn_shape shape;
  sx = row.sx;
  sy = row.sy;
  bright = row.bright;
  light = light;
}

-- where its frame has a picture, as it has after an audit
unfoldable pub layer_of : List Frame → ℤ → ℕ → WeaponRow → Option WeaponLayer
layer_of book light number row = option_map (layer_with light number row) (picked book row.sprite row.frame 0)

-- the layers of view number k in the order of the rows, of which the first has that number
unfoldable pub layers_from : List Frame → ℤ → ℕ → ℕ → List WeaponRow → List WeaponLayer
layers_from book light k number [] = []
layers_from book light k number (row ∷ rows) =
    cond (row.view == k) (option_to_list (layer_of book light number row)) [] ++ layers_from book light k (number + 1) rows

-- none where no file of weapon layers is named
abbrev pub layers_by : Option (List WeaponRow) → Option (List Frame) → ℤ → ℕ → List WeaponLayer
layers_by None book light k = []
layers_by (Some rows) None light k = []
layers_by (Some rows) (Some book) light k = layers_from book light k 1 rows

-- the layers of view number k, seen from that viewpoint
unfoldable pub layers_of : LoadedValue → ℕ → Eye → List WeaponLayer
layers_of loaded k eye = layers_by loaded.files.weapons loaded.weapons (layer_light loaded.scene eye) k

-- view number k of a path, with its layers
abbrev pub seen_view : LoadedValue → ℕ → Eye → SeenView
seen_view loaded k eye = record {
  view = view_of loaded.files.tables eye;
  layers = layers_of loaded k eye;
}

-- the views of the rows of a path, of which the first has that number
unfoldable pub seen_from : {A B : Type 0} → (ℕ → A → B) → ℕ → List A → List B
seen_from view k [] = []
seen_from view k (row ∷ rows) = view k row ∷ seen_from view (k + 1) rows

abbrev pub seen_views : LoadedValue → List SeenView
seen_views loaded = seen_from (seen_view loaded) 0 loaded.files.path
