-- What is drawn in a view, what it is drawn with, and what a part of it paints.
use Rattle.std.specs.Prelude.{◌≡◌, ◌≤◌, ◌<◌, ◌||◌, ◌==◌, ◌⊎◌, ℕ, true, List, All, IfSome, IsSome, Result, length, ⊤, ℤ}
use Rattle.std.specs.List.{list_any}
use Rattle.frame_core.specs.Rules.{Dot, Heap, Lump, Painter, SKY_FLAT, Scene, SceneValue, SectorFlats, ShelfView, Surface, ViewValue, book_lumps, has_flat, lump_bytes, surfaces_of}
use Rattle.texture_build.specs.{DirectoryView.DirectoryView, Views.AllThere, Views.IsPrepared}
use Rattle.scene_rules.specs.declared.Flat.TheVariants.{Sky}
use Rattle.pixel_strips.specs.Canvases.{CanvasView, placed_at}
use Rattle.texture_build.specs.Paints.{PaintState, PaintTools, Paints, paint_state, paint_tools}
use Rattle.sound_scene.specs.{Sound.textures_view, Whole.AreSidePrepared, Whole.IsMiddleSingle}
use Rattle.level_scene.specs.Bounds.{AreBelow, AreThere}
use Rattle.frame_core.specs.{declared.fault.ViewFault.ViewFault, declared.tools.ViewTools.ViewTools}
use Rattle.frame_core.specs.Faults.{view_fault}
use Rattle.sound_scene.specs.Pictures.{scene_of}

-- a flat is that of a lump that may be there, or the sky
pub record AreFlatNumbers (surface : Surface) : Type 0 where
  pub floor : surface.floor_flat ≤ SKY_FLAT
  pub ceiling : surface.ceiling_flat ≤ SKY_FLAT

-- the floor or the ceiling of a sector is sky
abbrev pub ShowsSky : SectorFlats → Type 0
ShowsSky both = (both.floor ≡ Sky) ⊎ (both.ceiling ≡ Sky)

-- what of a scene a view is counted by is there: so it is of one that passed its audit
pub record CanCount (scene : SceneValue) : Type 0 where
  pub sides : length scene.faces.sides ≡ length scene.base.level.sides
  pub flats : length scene.faces.flats ≡ length scene.base.level.sectors
  pub numbers : All AreFlatNumbers (surfaces_of scene.base.level.sectors scene.faces.flats)

-- Each number that a scene has is that of something there: its lumps are below the count of a directory, its textures
-- are among those that were read, and those that it shows are prepared; where a sector shows the sky, the sky has a
-- texture; the middles of segs with a sector behind them are of single columns. So it is over the directory of its
-- audit, and over each that has as many lumps.
pub record IsDrawable (lumps : List Lump) (scene : SceneValue) : Type 0 where
  pub sides : length scene.faces.sides ≡ length scene.base.level.sides
  pub flats : length scene.faces.flats ≡ length scene.base.level.sectors
  pub flats_there : All (AreThere (length lumps)) scene.faces.flats
  pub below : All (AreBelow (length scene.base.lists.textures)) scene.faces.sides
  pub listed : IfSome scene.faces.sky (λ number. number < length scene.base.lists.textures)
  pub shown : All (λ both. ShowsSky both → IsSome scene.faces.sky) scene.faces.flats
  pub textures : All (AreSidePrepared (textures_view scene)) scene.faces.sides
  pub sky : IfSome scene.faces.sky (IsPrepared (textures_view scene))
  pub patches : AllThere lumps (textures_view scene)
  pub middles : All (IsMiddleSingle (textures_view scene) scene.faces.sides) scene.base.level.segs
  pub pictures : All (λ lump. lump < length lumps) (book_lumps scene.book)

-- a scene that can be drawn with the lumps of a directory, and a cache that has a slot for each of
-- them and for each texture
pub record CanDrawView (lumps : List Lump) (scene : SceneValue) (z : Heap) : Type 0 where
  pub drawable : IsDrawable lumps scene
  pub few : length lumps ≤ SKY_FLAT
  pub colormap : scene.base.colormap < length lumps
  pub slots : length lumps ≤ z.lumps
  pub composites : length scene.base.lists.textures ≤ z.composites

-- any column of the textures of sides and sky, and the lumps of the directory that are flats or pictures of things
abbrev pub IsViewTexture : SceneValue → ℕ → ℤ → Type 0
IsViewTexture scene number own = IsPrepared (textures_view scene) number

pub record IsViewLump (lumps : List Lump) (scene : SceneValue) (lump : ℕ) : Type 0 where
  pub there : lump < length lumps
  pub drawn : (list_any (has_flat lump) scene.faces.flats || list_any (λ n. n == lump) (book_lumps scene.book)) ≡ true

-- what stays while a view is drawn
pub record ViewScene : Type 0 where
  pub view : ViewValue
  pub scene : SceneValue
  pub dir : DirectoryView

abbrev pub view_scene : ViewValue → SceneValue → DirectoryView → ViewScene
view_scene view scene dir = record { view = view; scene = scene; dir = dir }

-- a canvas that is placed where the view lies in the frame
abbrev pub placed_for : ViewValue → CanvasView → CanvasView
placed_for v canvas = placed_at v.shape.left v.shape.top canvas

-- what a view's tools are: what stays, what is written, whose shelf and canvas tell of themselves so, and what they ask
abbrev pub tools_scene : {S C : Type 0} → ViewTools S C → ViewScene
tools_scene t = view_scene t.view.now t.scene.now.scene t.dir.now

abbrev pub tools_state : {S C : Type 0} → (S → ShelfView) → (C → CanvasView) → ViewTools S C → PaintState
tools_state shelf canvas t = paint_state (shelf t.shelf.now) t.cache.now (canvas t.canvas.now)

abbrev pub CanDrawTools : {S C : Type 0} → ViewTools S C → Type 0
CanDrawTools t = CanDrawView t.dir.now.lumps t.scene.now.scene t.cache.now

-- tools hold the references that others held
abbrev pub AreSameViewTools : {S C : Type 0} → ViewTools S C → ViewTools S C → Type 0
AreSameViewTools old new =
    ((new.scene ≡ old.scene) × ((new.view ≡ old.view) × (new.dir ≡ old.dir)))
    × ((new.cache.ghost_name ≡ old.cache.ghost_name)
    × ((new.shelf.ghost_name ≡ old.shelf.ghost_name) × (new.canvas.ghost_name ≡ old.canvas.ghost_name)))

-- the picture's scene, where the files have these contents
abbrev pub held_scene : List (List ℕ) → ViewScene → Scene
held_scene contents s = scene_of (lump_bytes contents s.dir.lumps) s.scene

-- what a view is painted with: the textures and the colormap of its scene
abbrev pub view_tools : ViewScene → PaintTools
view_tools s = paint_tools s.dir (textures_view s.scene) s.scene.base.colormap

-- A call by the dots that it gives the canvas; it paints with the scene's textures, flats and pictures.
abbrev pub PaintsView : {A : Type 0} → (Painter → ℕ → ℕ) → ViewScene → (Scene → List Dot) → PaintState → PaintState →
    Result A ViewFault → Type 0
PaintsView mark s dots old new result =
    Paints {Q = Unit {0}} view_fault mark (view_tools s) (IsViewTexture s.scene) (IsViewLump s.dir.lumps s.scene)
    (λ q. ⊤) (λ contents q. dots (held_scene contents s)) old new result
