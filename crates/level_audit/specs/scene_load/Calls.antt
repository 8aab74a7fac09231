-- What a call that loads a scene answers, and what it leaves; the same of the audits that it makes.
use Rattle.std.specs.Prelude.{◌≡◌, ◌<◌, ◌≤◌, ◌+◌, ◌^◌, ℕ, List, length, Option, Some, None, Result, Ok, IfOk, IfErr, MatchResult}
use Rattle.level_audit.specs.Rules.{AuditRefusal, Fault, File, Frame, HasCauses, Heap, Holds, IsInOrder, IsLaterShelf, LevelJobValue, NameFiles, ResultIs, ResultIsOrAbsent, ShelfView, bytes_of, itself, lump_at, lump_bytes}
use Rattle.texture_build.specs.Caches.{IsAtRest, IsFaithful, KeepsCounts, composite_owner}
use Rattle.texture_build.specs.Calls.{HoldContents, IfFull, InOrderAt, LeavesInOrder}
use Rattle.texture_build.specs.Draws.{HoldsArt}
use Rattle.refusals.specs.declared.refusal.Refusal.{Refusal}
use Rattle.job_files.specs.{Files.files_named, Files.value_of, Sizes.files_size}
use Rattle.job_files.specs.declared.read.SceneFiles.{SceneFiles}
use Rattle.sound_scene.specs.{Sound.SoundValue, Sound.textures_view, Whole.IsWholeScene}
use Rattle.level_audit.specs.Weapons.{AreThere}
use Rattle.level_audit.specs.declared.scene_load.load.TheConstants.{COMPOSITE_SLOTS}
use Rattle.level_audit.specs.declared.scene_load.load.LoadedScene.{LoadedScene}
use Rattle.level_audit.specs.scene_load.Fulls.{IsBaseWithin, IsFullLoad, IsFullOver}
use Rattle.level_audit.specs.scene_load.Loads.{LoadedValue, audited_in, audited_value, load_in, loaded_lumps, loaded_sizes, loaded_value}
use Rattle.level_audit.specs.scene_load.Orders.{IsLoadedInOrder, loaded_items, lumps_size}

-- What an audited scene and the pictures of its layers have, over whatever shelf, beside the files that
-- they stand on: what is needed and how large a zone has to be, what drawing asks of a scene, COLORMAP
-- pinned alone, whose block fits beside each other one of the base, and the pictures in the directory.
pub record IsAudited (level : LevelJobValue) (files : SceneFiles) (scene : SoundValue) (weapons : Option (List Frame)) (cache : Heap) : Type 0 where
  pub named : scene.named ≡ loaded_lumps (audited_value (value_of files) (scene, weapons))
  pub sizes : scene.sizes ≡ loaded_sizes (audited_value (value_of files) (scene, weapons))
  pub rest : IsAtRest scene.scene.base.colormap (lump_at files.dir.lumps scene.scene.base.colormap).size cache
  pub whole : IsWholeScene files.dir.lumps files.things level.map_name level.settings.skill scene.scene
  pub fits : IsBaseWithin files.dir.lumps level scene.scene.base.colormap
  pub colormap : scene.scene.base.colormap < length files.dir.lumps
  pub layers : AreThere files.dir.lumps weapons

-- What the audit of a level answers over a cache without a live slot, by what its files give, and what it
-- leaves. The shelf is told by its views before and after.
pub record AuditsLevel {E : Type 0} (rule : Result LoadedValue AuditRefusal → Result LoadedValue E) (level : LevelJobValue) (files : SceneFiles) (before after : ShelfView) (old new : Heap) (result : Result (SoundValue × Option (List Frame)) (Fault E)) : Type 0 where
  -- the answer, and when the zone is full
  pub answers : (contents : List (List ℕ)) → HoldContents before files.dir old contents →
      ResultIs itself before.steady (audited_value (value_of files)) (rule (audited_in (lump_bytes contents files.dir.lumps) level (value_of files))) result
  pub full : (contents : List (List ℕ)) → HoldContents before files.dir old contents →
      IfErr result (λ fault. IfFull (itself fault) (IsFullOver (lump_bytes contents files.dir.lumps) level (value_of files)))
  -- after Ok, over whatever shelf
  pub audited : IfOk result (λ a. IsAudited level files a.0 a.1 new)
  -- what stays of the cache: no composite is built, its counts, that its bytes are those of the lumps, its order
  pub fresh : IfOk result (λ a. (number : ℕ) → bytes_of (composite_owner number) new.blocks ≡ None)
  pub counts : KeepsCounts old new
  pub faithful : (contents : List (List ℕ)) → NameFiles before files.dir.files contents →
      IsFaithful contents files.dir.lumps old → IsFaithful contents files.dir.lumps new
  pub order : (contents : List (List ℕ)) (expected : LoadedValue) → HoldContents before files.dir old contents →
      audited_in (lump_bytes contents files.dir.lumps) level (value_of files) ≡ Ok expected →
      IsInOrder (loaded_items expected) old →
      LeavesInOrder itself (loaded_items expected) before after old new result
  -- and of the shelf
  pub follows : IsLaterShelf before after
  pub causes : HasCauses itself before.faults after.faults result

-- What a loaded scene has, over whatever shelf: what an audited one has, and a cache of the zone's size with
-- a slot for each lump and for each texture that there may be.
pub record IsLoadedScene (level : LevelJobValue) (loaded : LoadedScene) : Type 0 where
  pub audited : IsAudited level loaded.files loaded.scene loaded.weapons loaded.cache
  pub slots : length loaded.files.dir.lumps ≤ loaded.cache.lumps
  pub composites : loaded.cache.composites ≡ COMPOSITE_SLOTS
  pub zone : loaded.cache.size ≡ level.settings.zone
  pub few : length loaded.files.dir.lumps < 2 ^ 16

-- What it has over a shelf whose WADs have these bytes: the bytes in its cache are those of its lumps, and
-- so are the textures and composites that are drawn from it.
pub record HoldsLoaded (view : ShelfView) (bytes : List (List ℕ)) (loaded : LoadedScene) : Type 0 where
  pub contents : HoldContents view loaded.files.dir loaded.cache bytes
  pub art : HoldsArt view loaded.files.dir (textures_view loaded.scene.scene) bytes loaded.scene.scene.base.colormap
      (lump_at loaded.files.dir.lumps loaded.scene.scene.base.colormap).size loaded.cache

-- What loading the scene of a job answers, and what it leaves.
pub record LoadsScene (level : LevelJobValue) (wads : List (List ℕ)) (before after : ShelfView) (result : Result LoadedScene (Fault Refusal)) : Type 0 where
  -- the answer, and when the zone is full
  pub answers : (files : List File) → Holds before files → ResultIsOrAbsent itself before.steady loaded_value (load_in level wads files) result
  pub full : (files : List File) → Holds before files → IfErr result (λ fault. IfFull (itself fault) (IsFullLoad level wads files))
  -- after Ok, over whatever shelf, and over one that holds the WADs
  pub loaded : IfOk result (IsLoadedScene level)
  pub holds : (files : List File) (contents : List (List ℕ)) → Holds before files → files_named wads files ≡ Some contents →
      IfOk result (HoldsLoaded after contents)
  -- in a roomy zone: a cache that is in order, or a fault, which is no full zone; and unless a read failed no
  -- more is read than the files and each needed lump once
  pub order : (files : List File) (contents : List (List ℕ)) (expected : LoadedValue) → Holds before files →
      files_named wads files ≡ Some contents → load_in level wads files ≡ Ok expected → (loaded_sizes expected).roomy ≤ level.settings.zone →
      MatchResult result (λ loaded. IsLoadedInOrder level wads files expected before.taken after.taken loaded.cache)
      (λ fault. InOrderAt (itself fault) (after.taken ≤ before.taken + (files_size level.files wads files + lumps_size expected)))
  -- the shelf
  pub follows : IsLaterShelf before after
  pub causes : HasCauses itself before.faults after.faults result
