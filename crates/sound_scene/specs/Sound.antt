-- What contracts see of a scene that passed its audit.
use Rattle.std.specs.Prelude.{ℕ, List, ◌++◌, map}
use Rattle.sound_scene.specs.Rules.{Frame, Lump, SceneArt, SceneValue, SideTextures, ZoneSizes, book_lumps, needed_lumps, zone_sizes}
pub use Rattle.scene_rules.specs.Words.{art_with}
use Rattle.texture_build.specs.Views.{TexturesView}

-- the scene, the lumps that it needs, and how large a zone has to be for them
pub record SoundValue : Type 0 where
  pub scene : SceneValue
  pub named : List ℕ
  pub sizes : ZoneSizes

-- the middle textures of sides
abbrev pub middles_of : List SideTextures → List ℕ
middles_of sides = map (λ (side : SideTextures). side.middle) sides

-- the textures, with those that are prepared
abbrev pub textures_view : SceneValue → TexturesView
textures_view scene = record { lists = scene.base.lists; prepared = scene.prepared }

-- the same scene, which needs the pictures of a further book too
abbrev pub art_with_book : SceneValue → List Frame → SceneArt
art_with_book scene book = art_with scene (book_lumps scene.book ++ book_lumps book)

unfoldable pub with_book : List Lump → List Frame → SoundValue → SoundValue
with_book lumps book sound = record {
  scene = sound.scene;
  named = needed_lumps lumps (art_with_book sound.scene book);
  sizes = zone_sizes lumps (art_with_book sound.scene book);
}
