-- The list of all that a level needs has what drawing its views may ask for.
use Rattle.picture_rules.proofs.Common.{Contains, inl, inr, List, Ok, Option, Some, true, ℕ, ℤ, ◌≡◌, ◌⊎◌}
use Rattle.doom_run.specs.Rules.{File, Frame, Item, LevelJobValue, Owner, PreparedTexture, ShelfView, has_item, lump_bytes}
use Rattle.texture_build.specs.{Calls.HasAll, Asked.IsAskedByColumn}
use Rattle.texture_build.specs.{Sources.column_in, Sources.column_index, Draws.HasTexturesAsked}
use Rattle.texture_build.specs.Views.{AreTexturesOf, IsPrepared, prepared_at, prepared_texture}
use Rattle.texture_build.proofs.{TexelLemmas.prepared_is, ViewLemmas.textures_columns}
use Rattle.sound_scene.specs.Sound.{SoundValue, art_with, textures_view}
use Rattle.job_files.specs.{Sizes.wad_contents, declared.read.SceneFiles.SceneFiles}
use Rattle.level_audit.specs.scene_load.Loads.{load_in, loaded_pictures, loaded_value, weapon_lumps}
use Rattle.level_audit.specs.scene_load.Orders.{loaded_items}
use Rattle.level_audit.proofs.scene_load.OrderLemmas.{items_composite, items_lump}
use Rattle.frame_core.specs.Views.{IsViewLump, IsViewTexture}
use Rattle.frame_core.proofs.EnoughLemmas.{IsOfTexture, among_prepared, column_asked, needed_drawn, needed_patch, patch_there}
use Rattle.doom_run.specs.declared.render.ReadyViews.{ReadyViews}
use Rattle.doom_run.specs.Renders.{HasReadyAsked, IsLayerLump, IsReady}
use Rattle.doom_run.proofs.DrawnLemmas.{loaded_textures}
use Rattle.doom_run.proofs.PictureLemmas.{layer_needed, layer_there}
use Rattle.frame_core.proofs.RowLemmas.{textures_rows}
use Rattle.doom_run.specs.Frames.{KeepsReady}

module _ (level : LevelJobValue) (wads : List (List ℕ)) (files : List File) (ready : ReadyViews) (is : load_in level wads files ≡ Ok (loaded_value ready.loaded)) (stands : IsReady level ready) where
  -- a flat or a picture
  lumps_asked : HasAll (loaded_items (loaded_value ready.loaded)) ready.loaded.files.dir (IsViewLump ready.loaded.files.dir.lumps ready.loaded.scene.scene)
  lumps_asked lump asked = items_lump (loaded_value ready.loaded) lump (needed_drawn ready.loaded.files.dir.lumps ready.loaded.scene.scene (weapon_lumps ready.loaded.weapons) lump asked) asked.there

  -- a picture of a layer
  layers_asked : HasAll (loaded_items (loaded_value ready.loaded)) ready.loaded.files.dir (IsLayerLump ready.loaded)
  layers_asked lump asked =
      items_lump (loaded_value ready.loaded) lump (layer_needed ready.loaded.files.dir.lumps ready.loaded.scene.scene (weapon_lumps ready.loaded.weapons) lump asked)
      (layer_there ready.loaded.files.dir.lumps ready.loaded.weapons lump stands.loaded.audited.layers asked)

  module _ (number : ℕ) (some : IsPrepared (textures_view ready.loaded.scene.scene) number) where
    abbrev t : PreparedTexture
    t = prepared_texture (textures_view ready.loaded.scene.scene) number

    prepared_as : prepared_at ready.loaded.scene.scene.prepared number ≡ Some t
    prepared_as = prepared_is (prepared_at ready.loaded.scene.scene.prepared number) some

    textures_are : AreTexturesOf (wad_contents wads files) ready.loaded.files.dir.lumps (textures_view ready.loaded.scene.scene)
    textures_are = loaded_textures level wads files (loaded_value ready.loaded) is

    -- a patch or a composite of a texture
    texture_item : (owner : Owner) (size : ℕ) → IsOfTexture ready.loaded.files.dir.lumps number t owner size → has_item (loaded_items (loaded_value ready.loaded)) owner size ≡ true
    texture_item owner size (inl patch) =
        rw (patch.2, patch.3)
        (items_lump (loaded_value ready.loaded) patch.0.lump
        (needed_patch ready.loaded.files.dir.lumps (art_with ready.loaded.scene.scene (loaded_pictures (loaded_value ready.loaded))) t patch.0 (among_prepared ready.loaded.scene.scene.prepared number some) patch.1)
        (patch_there ready.loaded.files.dir.lumps ready.loaded.scene.scene t patch.0 stands.loaded.audited.whole.art.patches (among_prepared ready.loaded.scene.scene.prepared number some) patch.1))
    texture_item owner size (inr composite) = rw (composite.0, composite.1) (items_composite (loaded_value ready.loaded) number t prepared_as composite.2)

    -- what a column of it asks for
    column_item : (column : ℤ) (owner : Owner) (size : ℕ) → IsAskedByColumn ready.loaded.files.dir.lumps number t (column_in t column) owner size → has_item (loaded_items (loaded_value ready.loaded)) owner size ≡ true
    column_item column owner size asked =
        texture_item owner size
        (column_asked ready.loaded.files.dir.lumps number t owner size (lump_bytes (wad_contents wads files) ready.loaded.files.dir.lumps)
        (textures_columns (wad_contents wads files) ready.loaded.files.dir.lumps (textures_view ready.loaded.scene.scene) number t textures_are prepared_as)
        (textures_rows (wad_contents wads files) ready.loaded.files.dir.lumps (textures_view ready.loaded.scene.scene) number t textures_are prepared_as)
        (column_index t column) asked)

  pub ready_asked : HasReadyAsked (loaded_items (loaded_value ready.loaded)) ready
  ready_asked = record {
    textures = λ number column some owner size asked. column_item number some column owner size asked;
    lumps = λ lump asked. lumps_asked lump asked;
    layers = λ lump asked. layers_asked lump asked;
  }

layers_for : (items : List Item) (files files' : SceneFiles) (weapons weapons' : Option (List Frame)) → files' ≡ files → weapons' ≡ weapons →
    HasAll items files.dir (λ lump. Contains (weapon_lumps weapons) lump) → HasAll items files'.dir (λ lump. Contains (weapon_lumps weapons') lump)
layers_for items files files' weapons weapons' f w asked = rw (f, w) asked

asked_for : (items : List Item) (files files' : SceneFiles) (scene scene' : SoundValue) → files' ≡ files → scene' ≡ scene →
    HasTexturesAsked items (IsViewTexture scene.scene) files.dir.lumps (textures_view scene.scene) × HasAll items files.dir (IsViewLump files.dir.lumps scene.scene) →
    HasTexturesAsked items (IsViewTexture scene'.scene) files'.dir.lumps (textures_view scene'.scene) × HasAll items files'.dir (IsViewLump files'.dir.lumps scene'.scene)
asked_for items files files' scene scene' f s asked = rw (f, s) asked

-- the list has what a view and its layers ask for
pub both_asked : (ready : ReadyViews) (items : List Item) → HasReadyAsked items ready → HasAll items ready.loaded.files.dir (λ lump. IsViewLump ready.loaded.files.dir.lumps ready.loaded.scene.scene lump ⊎ IsLayerLump ready.loaded lump)
both_asked ready items asked lump (inl seen) = asked.lumps lump seen
both_asked ready items asked lump (inr layer) = asked.layers lump layer

-- the list has what later views ask for
pub asked-later : {a b : ShelfView} {x y : ReadyViews} (items : List Item) → KeepsReady a b x y → HasReadyAsked items x → HasReadyAsked items y
asked-later {x = x} {y} items keeps asked =
    let asked_both = asked_for items x.loaded.files y.loaded.files x.loaded.scene y.loaded.scene keeps.files keeps.scene (asked.textures, asked.lumps) in
    record { textures = asked_both.0; lumps = asked_both.1; layers = layers_for items x.loaded.files y.loaded.files x.loaded.weapons y.loaded.weapons keeps.files keeps.weapons asked.layers }
