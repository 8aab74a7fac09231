-- What contracts see of what the names in a level mean, and of a scene.
use Rattle.std.specs.Prelude.{option_map}
use Rattle.texture_build.specs.TexNo.{TexNo}
use Rattle.scene_rules.specs.Words.{Faces, SceneValue}
use Rattle.sound_scene.specs.{Bases.base_of, declared.parts.ReadFaces.ReadFaces}
use Rattle.sound_scene.specs.declared.parts.ReadScene.{ReadScene}

abbrev pub faces_of : ReadFaces → Faces
faces_of f = record { sides = f.sides.items; sky = option_map (λ (tex : TexNo). tex.0) f.sky; flats = f.flats.items }

abbrev pub scene_value : ReadScene → SceneValue
scene_value s = record {
  base = base_of s.base;
  faces = faces_of s.faces;
  prepared = s.base.textures.prepared;
  placed = s.placed;
  book = s.book;
}
