-- A view of a path drawn with its weapon layers: what a canvas is given, what is painted from, and what stays.
use Rattle.weapon_overlay.specs.Seen.{IsLayerPicture}
use Rattle.std.specs.Prelude.{◌≡◌, ◌⊎◌, ℕ, List, OnOk, Result, ℤ}
use Rattle.doom_run.specs.Rules.{AreInView, Dot, Eye, IsWithinFrame, Painter, Scene, ShelfView, joined_lists, lump_bytes, overlaid_paints, view_of, weapon_dots}
use Rattle.texture_build.specs.{CacheFault.CacheFault, Caches.cache_fault}
use Rattle.pixel_strips.specs.{Canvases.CanvasView, Dotted.HasDots, Dotted.PlacedAlike}
use Rattle.texture_build.specs.Draws.{DrawsWith, FitBeside, HoldsArt}
use Rattle.sound_scene.specs.{Sound.textures_view, Pictures.scene_of}
use Rattle.level_audit.specs.scene_load.Loads.{loaded_value}
use Rattle.level_audit.specs.declared.scene_load.load.LoadedScene.{LoadedScene}
use Rattle.frame_core.specs.{declared.fault.ViewFault.ViewFault, Faults.view_fault}
use Rattle.frame_core.specs.Views.{IsViewLump, IsViewTexture, placed_for}
use Rattle.doom_run.specs.{Layers.layers_of, Renders.IsLayerLump}

-- the cache is at rest with the scene's colormap of `count` bytes, and holds what the files of these contents give
abbrev pub HoldsLoaded : ShelfView → LoadedScene → List (List ℕ) → ℕ → Type 0
HoldsLoaded view loaded contents count =
    HoldsArt view loaded.files.dir (textures_view loaded.scene.scene) contents loaded.scene.scene.base.colormap count loaded.cache

-- the picture's scene, where the files have these contents
abbrev pub loaded_scene : List (List ℕ) → LoadedScene → Scene
loaded_scene contents loaded = scene_of (lump_bytes contents loaded.files.dir.lumps) loaded.scene.scene

-- all that a view shows, and its layers over it
abbrev pub layered_dots : ℕ → Eye → LoadedScene → Scene → List Dot
layered_dots k eye loaded scene =
    overlaid_paints (view_of loaded.files.tables eye) scene (layers_of (loaded_value loaded) k eye)

-- its layers alone
abbrev pub layers_dots : ℕ → Eye → LoadedScene → Scene → List Dot
layers_dots k eye loaded scene =
    joined_lists (weapon_dots (view_of loaded.files.tables eye) scene.art) (layers_of (loaded_value loaded) k eye)

-- all but the cache stays
pub record KeepsLoaded (old new : LoadedScene) : Type 0 where
  pub files : new.files ≡ old.files
  pub scene : new.scene ≡ old.scene
  pub weapons : new.weapons ≡ old.weapons

-- The layers of view number k, seen from that viewpoint: a canvas is given them, in the order of their rows, and no
-- other picture is asked for than those of them that have a column in the view.
pub record DrawsLayers {A : Type 0} (mark : Painter → ℕ → ℕ) (k : ℕ) (eye : Eye) (view after : ShelfView) (old new : LoadedScene)
    (before now : CanvasView) (result : Result A CacheFault) : Type 0 where
  pub painted : (contents : List (List ℕ)) (count : ℕ) → HoldsLoaded view old contents count →
      OnOk result (HasDots mark (layers_dots k eye old (loaded_scene contents old)) before now)
  pub fits : (contents : List (List ℕ)) (count : ℕ) → HoldsLoaded view old contents count →
      OnOk result (FitBeside old.files.dir.lumps (textures_view old.scene.scene) old.scene.scene.base.colormap count
      old.cache.size (layers_dots k eye old (loaded_scene contents old)))
  pub draws : DrawsWith cache_fault (λ (n : ℕ) (own : ℤ). ⊥)
      (IsLayerPicture (view_of old.files.tables eye) (layers_of (loaded_value old) k eye)) view after old.files.dir
      (textures_view old.scene.scene) old.cache new.cache result
  pub place : PlacedAlike before now
  pub keeps : KeepsLoaded old new

-- The view and its layers: a canvas that is placed where the view lies in the frame is given them, and they lie in
-- the view.
pub record DrawsLayered {A : Type 0} (mark : Painter → ℕ → ℕ) (k : ℕ) (eye : Eye) (view after : ShelfView) (old new : LoadedScene)
    (before now : CanvasView) (result : Result A ViewFault) : Type 0 where
  pub painted : (contents : List (List ℕ)) (count : ℕ) → HoldsLoaded view old contents count →
      OnOk result (HasDots mark (layered_dots k eye old (loaded_scene contents old))
      (placed_for (view_of old.files.tables eye) before) now)
  pub in_view : (bytes : ℕ → List ℕ) →
      OnOk result (AreInView (view_of old.files.tables eye).shape (layered_dots k eye old (scene_of bytes old.scene.scene)))
  pub window : IsWithinFrame (view_of old.files.tables eye).shape
  pub fits : (contents : List (List ℕ)) (count : ℕ) → HoldsLoaded view old contents count →
      OnOk result (FitBeside old.files.dir.lumps (textures_view old.scene.scene) old.scene.scene.base.colormap count
      old.cache.size (layered_dots k eye old (loaded_scene contents old)))
  pub draws : DrawsWith view_fault (IsViewTexture old.scene.scene)
      (λ lump. IsViewLump old.files.dir.lumps old.scene.scene lump ⊎ IsLayerLump old lump) view after old.files.dir
      (textures_view old.scene.scene) old.cache new.cache result
  pub keeps : KeepsLoaded old new
