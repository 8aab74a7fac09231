-- What a picture is made from: of a scene that passed its audit, and of the bytes of lumps.
use Rattle.std.specs.Prelude.{ℕ, List, option_map, unwrap_or}
use Rattle.picture_rules.specs.{Words.LevelLists, Words.Scene, declared.sprite.Shape5.Shape5}
use Rattle.sound_scene.specs.Rules.{SceneValue, Shape, picked, surfaces_of, texture_at, things_of}
use Rattle.texture_build.specs.Arts.{view_art}
use Rattle.sound_scene.specs.Sound.{middles_of, textures_view}

-- the lists that the walk reads
abbrev pub lists_of : SceneValue → LevelLists
lists_of scene = record {
  segs = scene.base.level.segs;
  leaves = scene.base.level.leaves;
  nodes = scene.base.level.nodes;
  root = scene.base.level.root;
  surfaces = surfaces_of scene.base.level.sectors scene.faces.flats;
  middles = middles_of scene.faces.sides;
}

-- a picture of the book as it is drawn
abbrev pub drawn_shape : Shape → Shape5
drawn_shape shape = record {
  lump = shape.lump.0;
  flip = shape.flip;
  width = shape.width;
  left = shape.left;
  top = shape.top;
}

-- no sky is asked for where there is no texture of it
unfoldable pub scene_of : (ℕ → List ℕ) → SceneValue → Scene
scene_of bytes scene = record {
  level = lists_of scene;
  sides = scene.base.level.sides;
  side_textures = scene.faces.sides;
  texture_height = λ number. (texture_at scene.base.lists.textures number).height;
  things_of = λ sector. things_of scene.placed sector;
  pick = λ sprite frame rotation. option_map drawn_shape (picked scene.book sprite frame rotation);
  sky = unwrap_or scene.faces.sky 0;
  art = view_art bytes (textures_view scene) scene.base.colormap;
}
