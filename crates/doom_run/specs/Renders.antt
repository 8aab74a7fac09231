-- A scene that is ready to be drawn, and what drawing it leaves.
use Rattle.std.specs.Prelude.{◌≡◌, ◌<◌, ◌≤◌, ◌⊎◌, ℕ, Contains, IfErr, IfSome, OnOk, List, length, slice_get, unwrap_or, None, Some, Result}
use Rattle.doom_run.specs.Rules.{Failed, FaultsRose, IsInOrder, Item, KeepsOrder, LevelJobValue, ShelfView, Writes, lump_bytes, overlaid_paints}
use Rattle.texture_build.specs.Calls.{HasAll, IsFullFor}
use Rattle.texture_build.specs.Draws.{DrawsWith, FitBeside, HasTexturesAsked, HoldsArt, IsFullForTexture}
use Rattle.sound_scene.specs.{Sound.textures_view, Pictures.scene_of}
use Rattle.level_audit.specs.{Weapons.AreThere, scene_load.Calls.IsLoadedScene}
use Rattle.level_audit.specs.scene_load.Loads.{loaded_value, weapon_lumps}
use Rattle.level_audit.specs.declared.scene_load.load.LoadedScene.{LoadedScene}
use Rattle.frame_core.specs.Views.{CanDrawView, IsViewLump, IsViewTexture}
use Rattle.frame_core.specs.Faults.{limit_of_view, view_fault}
use Rattle.frame_core.specs.declared.fault.ViewFault.{ViewFault}
use Rattle.job_files.specs.declared.status.Status.{Status}
use Rattle.job_files.specs.declared.status.Status.TheVariants.{ReadFault, WriteFault, ZoneFull}
use Rattle.doom_run.specs.declared.canvas.ViewCanvas.{ViewCanvas}
use Rattle.doom_run.specs.declared.render.ReadyViews.{ReadyViews}
use Rattle.doom_run.specs.{Frames.IsDrawnAt, Frames.KeepsReady, Takes.InOrderAfter}
use Rattle.doom_run.specs.Views.{ViewsValue, first_over, limits_of_settings, over_at}
use Rattle.doom_run.specs.{Layers.seen_views, Ends.IsDelivered}

-- the views of a ready scene, whose lumps have these bytes
unfoldable pub ready_views : (ℕ → List ℕ) → ReadyViews → ViewsValue
ready_views bytes ready = record {
  scene = scene_of bytes ready.loaded.scene.scene;
  views = seen_views (loaded_value ready.loaded);
  limits = ready.shop.limits;
  palette = ready.loaded.scene.scene.base.palette;
}

-- a lump is the picture of a weapon layer
abbrev pub IsLayerLump : LoadedScene → ℕ → Type 0
IsLayerLump loaded lump = Contains (weapon_lumps loaded.weapons) lump

-- its scene is loaded, and it has the limits of its job
pub record IsReady (level : LevelJobValue) (ready : ReadyViews) : Type 0 where
  pub loaded : IsLoadedScene level ready.loaded
  pub limits : ready.shop.limits ≡ limits_of_settings level.settings

-- what drawing asks of a scene and its cache, and of the pictures of its layers
abbrev pub IsDrawable : LoadedScene → Type 0
IsDrawable loaded =
    CanDrawView loaded.files.dir.lumps loaded.scene.scene loaded.cache × AreThere loaded.files.dir.lumps loaded.weapons

-- the bytes of its lumps, where its files have these contents
abbrev pub ready_bytes : List (List ℕ) → ReadyViews → ℕ → List ℕ
ready_bytes contents ready = lump_bytes contents ready.loaded.files.dir.lumps

-- over a shelf whose files have these contents the art in its cache is theirs, beside COLORMAP, of `count` bytes
abbrev pub HoldsReady : ShelfView → ReadyViews → List (List ℕ) → ℕ → Type 0
HoldsReady view ready contents count =
    HoldsArt view ready.loaded.files.dir (textures_view ready.loaded.scene.scene) contents
    ready.loaded.scene.scene.base.colormap count ready.loaded.cache

-- no gap of its zone held what a texture or a lump of the scene asks for
abbrev pub IsFullView : ReadyViews → ℕ → ℕ → Type 0
IsFullView ready wanted widest' =
    IsFullForTexture (IsViewTexture ready.loaded.scene.scene) ready.loaded.files.dir.lumps
    (textures_view ready.loaded.scene.scene) ready.loaded.cache wanted widest'
    ⊎ IsFullFor (IsViewLump ready.loaded.files.dir.lumps ready.loaded.scene.scene) ready.loaded.files.dir
    ready.loaded.cache wanted widest'
    ⊎ IsFullFor (IsLayerLump ready.loaded) ready.loaded.files.dir ready.loaded.cache wanted widest'

-- a list has all that its textures and lumps may ask for
pub record HasReadyAsked (items : List Item) (ready : ReadyViews) : Type 0 where
  pub textures : HasTexturesAsked items (IsViewTexture ready.loaded.scene.scene) ready.loaded.files.dir.lumps
      (textures_view ready.loaded.scene.scene)
  pub lumps : HasAll items ready.loaded.files.dir (IsViewLump ready.loaded.files.dir.lumps ready.loaded.scene.scene)
  pub layers : HasAll items ready.loaded.files.dir (IsLayerLump ready.loaded)

-- what view number k is painted from stands in its zone beside COLORMAP, of `count` bytes
abbrev pub FitsAt : (ℕ → List ℕ) → ℕ → ReadyViews → ℕ → Type 0
FitsAt bytes count ready k = IfSome (slice_get (ready_views bytes ready).views k) (λ s.
    FitBeside ready.loaded.files.dir.lumps (textures_view ready.loaded.scene.scene)
    ready.loaded.scene.scene.base.colormap count ready.loaded.cache.size
    (overlaid_paints s.view (ready_views bytes ready).scene s.layers))

-- so it is of each view whose frame is due
abbrev pub FitDue : (ℕ → List ℕ) → ℕ → ReadyViews → Type 0
FitDue bytes count ready = (k : ℕ) →
    k < unwrap_or (first_over (ready_views bytes ready)) (length (ready_views bytes ready).views) → FitsAt bytes count ready k

-- View number k, drawn with its layers on a canvas that is cleared.
pub record DrawsAt (k : ℕ) (view after : ShelfView) (old new : ReadyViews) (canvas : ViewCanvas) (result : Result (Unit {0}) ViewFault) : Type 0 where
  pub drawn : (contents : List (List ℕ)) (count : ℕ) → HoldsReady view old contents count →
      OnOk result (IsDrawnAt (ready_views (ready_bytes contents old) old) k canvas)
  pub fits : (contents : List (List ℕ)) (count : ℕ) → HoldsReady view old contents count →
      OnOk result (FitsAt (ready_bytes contents old) count old k)
  -- Ok comes only where it is over no limit, and a limit that is told is the first that it passes
  pub within : (bytes : ℕ → List ℕ) → OnOk result (over_at (ready_views bytes old) k ≡ None)
  pub over : (bytes : ℕ → List ℕ) →
      IfErr result (λ fault. IfSome (limit_of_view fault) (λ over. over_at (ready_views bytes old) k ≡ Some over))
  -- it asks for textures and lumps of the scene, and for pictures of its layers
  pub draws : DrawsWith view_fault (IsViewTexture old.loaded.scene.scene)
      (λ lump. IsViewLump old.loaded.files.dir.lumps old.loaded.scene.scene lump ⊎ IsLayerLump old.loaded lump)
      view after old.loaded.files.dir (textures_view old.loaded.scene.scene) old.loaded.cache new.loaded.cache result
  pub keeps : KeepsReady view after old new

-- What a call leaves that draws views and writes them, by its status: what it read and whose fault it was; `faults`
-- and `later` are how often writing had failed before and after.
pub record RendersReady (view after : ShelfView) (old new : ReadyViews) (faults later : ℕ) (status : Status) : Type 0 where
  pub answers : IsDelivered status
  pub order : (items : List Item) → HasReadyAsked items old → IsInOrder items old.loaded.cache →
      InOrderAfter status (KeepsOrder items old.loaded.cache new.loaded.cache view.taken after.taken)
  pub read_fault : status ≡ ReadFault → FaultsRose view.faults after.faults
  pub write_fault : status ≡ WriteFault → FaultsRose faults later
  -- and after any other status that count is as it was
  pub read_settled : (status ≡ ReadFault → ⊥) → after.faults ≡ view.faults
  pub write_settled : (status ≡ WriteFault → ⊥) → later ≡ faults
  pub zone_full : (wanted widest' : ℕ) → status ≡ ZoneFull wanted widest' → IsFullView old wanted widest'
  pub rises : faults ≤ later
  pub keeps : KeepsReady view after old new

-- What a call leaves that puts out lines of the views of a ready scene: these were written, and the views stay.
pub record PutsLines (lines : ViewsValue → List ℕ) (ready after : ReadyViews) (old new : List ℕ → Type 0) (faults later : ℕ) (result : Result (Unit {0}) Failed) : Type 0 where
  pub writes : (bytes : ℕ → List ℕ) → Writes old new faults later (lines (ready_views bytes ready)) result
  pub loaded : after.loaded ≡ ready.loaded
  pub limits : after.shop.limits ≡ ready.shop.limits
