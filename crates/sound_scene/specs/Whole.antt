-- What drawing asks of a scene that passed its audit, whatever the bytes of its lumps were.
use Rattle.std.specs.Prelude.{◌≡◌, ◌<◌, ◌≤◌, ◌⊎◌, ℕ, List, length, All, IfSome, IsSome, Ok}
use Rattle.sound_scene.specs.Rules.{Lump, MAX_TEXTURES, PreparedTexture, SceneValue, Seg, SideTextures, ThingLine, book_lumps, faces_in, mask_of, middle_of, placed_things, single_place}
use Rattle.texture_build.specs.Sources.{own_lookup}
use Rattle.texture_build.specs.Views.{TexturesView, AllTexturesListed, AllThere, IsPrepared, prepared_texture}
use Rattle.level_scene.specs.Bounds.{AreBelow, AreThere}
use Rattle.sound_scene.specs.Sound.{textures_view}

-- a texture number is 0, or that of a prepared texture
abbrev pub IsNoneOrPrepared : TexturesView → ℕ → Type 0
IsNoneOrPrepared textures number = (number ≡ 0) ⊎ IsPrepared textures number

pub record AreSidePrepared (textures : TexturesView) (side : SideTextures) : Type 0 where
  pub top : IsNoneOrPrepared textures side.top
  pub bottom : IsNoneOrPrepared textures side.bottom
  pub middle : IsNoneOrPrepared textures side.middle

-- each column that a texture column can stand for is read from one patch
abbrev pub AllColumnsSingle : PreparedTexture → Type 0
AllColumnsSingle t =
    (x : ℕ) → x ≤ mask_of (length t.columns) → IsSome (single_place (own_lookup t x))

-- a middle texture is none, or one of such columns
abbrev pub IsNoneOrSingle : TexturesView → ℕ → Type 0
IsNoneOrSingle textures number =
    (number ≡ 0) ⊎ AllColumnsSingle (prepared_texture textures number)

-- so is that of a seg with a sector behind it
abbrev pub IsMiddleSingle : TexturesView → List SideTextures → Seg → Type 0
IsMiddleSingle textures sides seg =
    IsSome seg.back → IsNoneOrSingle textures (middle_of sides seg.side)

-- of the art: the things stand where the level that was read says; the textures of sides and sky
-- are prepared, from patches of the directory, and as wide and high as the lists say; the middles
-- of segs with a sector behind them are of single columns; the pictures are lumps of the directory
pub record IsWholeArt (lumps : List Lump) (lines : List ThingLine) (skill : ℕ)
    (scene : SceneValue) : Type 0 where
  pub placed : scene.placed ≡ placed_things scene.base.level lines skill
  pub textures : All (AreSidePrepared (textures_view scene)) scene.faces.sides
  pub sky : IfSome scene.faces.sky (IsPrepared (textures_view scene))
  pub patches : AllThere lumps (textures_view scene)
  pub listed : AllTexturesListed (textures_view scene)
  pub middles : All (IsMiddleSingle (textures_view scene) scene.faces.sides) scene.base.level.segs
  pub pictures : All (λ lump. lump < length lumps) (book_lumps scene.book)

-- of the whole scene: its faces are what the names mean by the level and the lists that were read,
-- with an entry for each side and each sector; their numbers are those of textures and lumps that
-- are there; and the art is so
pub record IsWholeScene (lumps : List Lump) (lines : List ThingLine) (name : List ℕ) (skill : ℕ)
    (scene : SceneValue) : Type 0 where
  pub faces : faces_in lumps name scene.base.level scene.base.lists ≡ Ok scene.faces
  pub sides : length scene.faces.sides ≡ length scene.base.level.sides
  pub flats : length scene.faces.flats ≡ length scene.base.level.sectors
  pub flats_there : All (AreThere (length lumps)) scene.faces.flats
  pub below : All (AreBelow (length scene.base.lists.textures)) scene.faces.sides
  pub few : length scene.base.lists.textures ≤ MAX_TEXTURES
  pub art : IsWholeArt lumps lines skill scene
