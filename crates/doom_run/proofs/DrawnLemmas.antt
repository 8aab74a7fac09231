-- A zone that is full while a scene is drawn: for which block, and how small it is.
use Rattle.picture_rules.proofs.Common.{arith, inl, inr, List, Ok, subst, ℕ, ◌<◌, ◌≡◌}
use Rattle.doom_run.specs.Rules.{File, LevelJobValue, SceneArt, lump_at, lump_block}
use Rattle.art_rules.proofs.Laws.{and_then-ok}
use Rattle.texture_build.specs.Views.{AreTexturesOf}
use Rattle.sound_scene.specs.Sound.{art_with, textures_view}
use Rattle.frame_core.proofs.{EnoughLemmas.view_full, SceneLemmas.drawable-whole}
use Rattle.sound_scene.proofs.FullLemmas.{IsArtFull}
use Rattle.job_files.specs.{Files.files_in, Sizes.wad_contents}
use Rattle.frame_core.specs.Views.{CanDrawView}
use Rattle.level_audit.specs.declared.scene_load.load.LoadedScene.{LoadedScene}
use Rattle.level_audit.specs.scene_load.Calls.{IsLoadedScene}
use Rattle.level_audit.specs.scene_load.Loads.{LoadedValue, load_in, loaded_pictures, loaded_value, wad_bytes, weapon_lumps}
use Rattle.level_audit.proofs.scene_load.ArtLemmas.{scene_textures}
use Rattle.level_audit.proofs.scene_load.AuditedLemmas.{audited_by}
use Rattle.level_audit.proofs.scene_load.LoadLemmas.{audited_of}
use Rattle.doom_run.specs.{declared.render.ReadyViews.ReadyViews, Fulls.IsFullDraw}
use Rattle.doom_run.specs.Renders.{IsFullView, IsReady}
use Rattle.doom_run.proofs.PictureLemmas.{layer_needed, layer_there}
use Rattle.doom_run.proofs.BlockLemmas.{art_draw}

-- the textures of a scene that is loaded are those of the directory
pub loaded_textures : (level : LevelJobValue) (wads : List (List ℕ)) (files : List File) (loaded : LoadedValue) → load_in level wads files ≡ Ok loaded → AreTexturesOf (wad_contents wads files) loaded.files.lumps (textures_view loaded.scene)
unfolding load_in
loaded_textures level wads files loaded e =
    let files_ok = and_then-ok (files_in level.files wads level.settings files) _ loaded e in
    audited_by (λ l. AreTexturesOf (wad_contents wads files) l.files.lumps (textures_view l.scene)) (wad_bytes wads files files_ok.0.lumps) level files_ok.0 loaded (audited_of level wads files files_ok.0 loaded files_ok.1 e)
    (λ scene weapons accepted layers.
    scene_textures (wad_contents wads files) files_ok.0.lumps files_ok.0.things level.map_name level.settings.skill scene accepted)

-- a loaded scene may be drawn
pub drawable : (level : LevelJobValue) (loaded : LoadedScene) → IsLoadedScene level loaded → CanDrawView loaded.files.dir.lumps loaded.scene.scene loaded.cache
drawable level loaded stands = record {
  drawable = drawable-whole loaded.files.dir.lumps loaded.files.things level.map_name level.settings.skill loaded.scene.scene stands.audited.whole;
  few = omega (arith, stands.few);
  colormap = stands.audited.colormap;
  slots = stands.slots;
  composites = omega (arith, stands.audited.whole.few, stands.composites);
}

-- no gap is as wide as what was wanted
narrow_of : (ready : ReadyViews) (wanted widest' : ℕ) → IsFullView ready wanted widest' → widest' < wanted
narrow_of ready wanted widest' (inl texture) = texture.full.narrow
narrow_of ready wanted widest' (inr (inl lump)) = lump.narrow
narrow_of ready wanted widest' (inr (inr layer)) = layer.narrow

-- what was full for a texture, a lump of a view or a layer was full for what is needed
drawn_full : (level : LevelJobValue) (wads : List (List ℕ)) (files : List File) (ready : ReadyViews) → IsReady level ready → load_in level wads files ≡ Ok (loaded_value ready.loaded) → (wanted widest' : ℕ) →
    IsFullView ready wanted widest' → IsArtFull ready.loaded.files.dir.lumps (art_with ready.loaded.scene.scene (loaded_pictures (loaded_value ready.loaded))) ready.loaded.cache.size wanted widest'
unfolding lump_block
drawn_full level wads files ready stands is wanted widest' (inl texture) =
    view_full (wad_contents wads files) ready.loaded.files.dir ready.loaded.scene.scene (weapon_lumps ready.loaded.weapons) ready.loaded.cache (drawable level ready.loaded stands.loaded) (loaded_textures level wads files (loaded_value ready.loaded) is) stands.loaded.audited.rest wanted widest' (inl texture)
drawn_full level wads files ready stands is wanted widest' (inr (inl lump)) =
    view_full (wad_contents wads files) ready.loaded.files.dir ready.loaded.scene.scene (weapon_lumps ready.loaded.weapons) ready.loaded.cache (drawable level ready.loaded stands.loaded) (loaded_textures level wads files (loaded_value ready.loaded) is) stands.loaded.audited.rest wanted widest' (inr lump)
drawn_full level wads files ready stands is wanted widest' (inr (inr layer)) =
    let lumps = ready.loaded.files.dir.lumps in
    let scene = ready.loaded.scene.scene in
    inl (record {
      lump = layer.lump;
      there = layer_there lumps ready.loaded.weapons layer.lump stands.loaded.audited.layers layer.asked;
      needed = layer_needed lumps scene (weapon_lumps ready.loaded.weapons) layer.lump layer.asked;
      is = layer.wanted_is;
      gap = layer.gap scene.base.colormap (lump_at lumps scene.base.colormap).size stands.loaded.audited.rest;
    })

-- no room for a texture or a lump of a view
pub view_draw : (level : LevelJobValue) (wads : List (List ℕ)) (files : List File) (ready : ReadyViews) → IsReady level ready → load_in level wads files ≡ Ok (loaded_value ready.loaded) → (wanted widest' : ℕ) →
    IsFullView ready wanted widest' → IsFullDraw level wads files wanted widest'
view_draw level wads files ready stands is wanted widest' full =
    let value_loaded : LoadedValue = loaded_value ready.loaded in
    let art : SceneArt = art_with value_loaded.scene (loaded_pictures value_loaded) in
    let drawn : IsArtFull value_loaded.files.lumps art level.settings.zone wanted widest' =
    subst (λ n. IsArtFull value_loaded.files.lumps art n wanted widest') stands.loaded.zone
    (drawn_full level wads files ready stands is wanted widest' full) in
    art_draw level wads files value_loaded is wanted widest' (narrow_of ready wanted widest' full) drawn
