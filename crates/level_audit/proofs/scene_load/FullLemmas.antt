-- When the zone is full while files are audited, and while all is loaded.
use Rattle.refusals.specs.declared.refusal.Refusal.{Refusal}
use Rattle.level_audit.specs.Rules.{AuditRefusal, Fault, File, Frame, Heap, LevelJobValue, MIN_FRAGMENT, OutOfMemory, ReadFault, Refused, SceneValue, ShelfView, ZoneFull, block_size, colormap_of, itself, lump_at, lump_bytes, scene_in, sizes_of}
use Rattle.art_rules.proofs.Common.{ap, arith, Err, err_from_is_err_and, IfErr, inl, inr, IsErrAnd, IsOk, List, Ok, Option, refl, Result, subst, sym, ℕ, ◌+◌, ◌<◌, ◌∙◌, ◌≡◌}
use Rattle.texture_build.specs.Caches.{IsAtRest, IsEmpty}
use Rattle.texture_build.specs.Calls.{IfFull, IsFullFor, HoldContents}
use Rattle.texture_build.specs.Sizes.{IsGapAround, IsGapBeside}
use Rattle.texture_build.proofs.CallLemmas.{full_room}
use Rattle.job_files.specs.declared.read.SceneFiles.{SceneFiles}
use Rattle.job_files.specs.Files.{FilesValue, IsNeverFull, files_in, value_of}
use Rattle.level_audit.specs.Reads.{IsFullAudit}
use Rattle.sound_scene.specs.Sound.{SoundValue}
use Rattle.sound_scene.proofs.SceneLemmas.{colormap_there, same_value}
use Rattle.level_audit.specs.scene_load.Fulls.{IsFullLoad, IsFullOver, IsOfLayers}
use Rattle.level_audit.specs.scene_load.Loads.{loaded_sizes, wad_bytes}
use Rattle.level_audit.proofs.scene_load.AuditedLemmas.{audited_by}
use Rattle.level_audit.proofs.scene_load.MoreLemmas.{enough_layers, enough_loaded}
use Rattle.level_audit.proofs.scene_load.LoadLemmas.{audited_of}

-- the same is said of the fault that is returned
pub same_full : {B D : Type 0} (P : ℕ → ℕ → Type 0) (r : Result D (Fault AuditRefusal)) (fault : (Fault AuditRefusal)) (result : Result B (Fault AuditRefusal)) → IfErr r (λ f. IfFull (itself f) P) → r ≡ Err fault → IsErrAnd result (λ e. e ≡ fault) → IfErr result (λ f. IfFull (itself f) P)
same_full {B} {D} P r fault result full was is =
    let error_is = err_from_is_err_and result is in
    let fault_full : IfFull (itself fault) P = subst (λ (y : Result D (Fault AuditRefusal)). IfErr y (λ f. IfFull (itself f) P)) was full in
    subst (λ (y : Result B (Fault AuditRefusal)). IfErr y (λ f. IfFull (itself f) P)) (sym (error_is.1 ∙ ap Err error_is.2)) fault_full

-- the value of a result that is one
ok_value : {A E : Type 0} (r : Result A E) → IsOk r → (x : A) × (r ≡ Ok x)
ok_value (Ok x) there = (x, refl)
ok_value (Err e) there = cc

module _ (contents : List (List ℕ)) (level : LevelJobValue) (files : SceneFiles) where
  -- no room for a lump of the scene
  pub audit_full : {v : ShelfView} {z : Heap} (r : Result SoundValue (Fault AuditRefusal)) → HoldContents v files.dir z contents → IsEmpty z → z.size ≡ level.settings.zone →
      IfErr r (λ f. IfFull (itself f) (IsFullAudit v files.dir z files.things level.map_name level.settings.skill)) →
      IfErr r (λ f. IfFull (itself f) (λ wanted widest'. IsOk (colormap_of files.dir.lumps))) →
      ((colormap : ℕ) → colormap_of files.dir.lumps ≡ Ok colormap → IsEmpty z → IfErr r (λ f. IfFull (itself f) (λ wanted widest'. z.size < block_size (lump_at files.dir.lumps colormap).size + wanted + MIN_FRAGMENT))) →
      ((colormap : ℕ) → colormap_of files.dir.lumps ≡ Ok colormap → IsEmpty z → IfErr r (λ f. IfFull (itself f) (λ wanted widest'. IsGapAround z.size (block_size (lump_at files.dir.lumps colormap).size) wanted widest'))) →
      ((contents : List (List ℕ)) (scene : SceneValue) → HoldContents v files.dir z contents → scene_in (lump_bytes contents files.dir.lumps) files.dir.lumps files.things level.map_name level.settings.skill ≡ Ok scene → IsEmpty z → IfErr r (λ f. IfFull (itself f) (λ wanted widest'. z.size < (sizes_of files.dir.lumps scene).enough))) →
      IfErr r (λ f. IfFull (itself f) (IsFullOver (lump_bytes contents files.dir.lumps) level (value_of files)))
  audit_full (Ok sound) told empty size full found room gap enough = tt
  audit_full (Err (Refused refusal)) told empty size full found room gap enough = tt
  audit_full (Err ReadFault) told empty size full found room gap enough = tt
  audit_full (Err OutOfMemory) told empty size full found room gap enough = tt
  audit_full (Err (ZoneFull wanted widest')) told empty size full found room gap enough =
      let colormap = ok_value (colormap_of files.dir.lumps) found in
      record {
        block = record {
          lump = full.lump;
          asked = inl (full.asked contents told);
          wanted_is = full.wanted_is;
          narrow = full.narrow;
          colormap = colormap.0;
          colormap_is = colormap.1;
          small = subst (λ n. n < block_size (lump_at files.dir.lumps colormap.0).size + wanted + MIN_FRAGMENT) size (room colormap.0 colormap.1 empty);
          gap = subst (λ n. IsGapAround n (block_size (lump_at files.dir.lumps colormap.0).size) wanted widest') size (gap colormap.0 colormap.1 empty);
        };
        enough = λ loaded e. audited_by (λ l. level.settings.zone < (loaded_sizes l).enough) (lump_bytes contents files.dir.lumps) level (value_of files) loaded e
            (λ scene weapons accepted layers. omega (arith, size, enough contents scene told accepted empty, enough_loaded (record { files = value_of files; scene = scene; weapons = weapons })));
      }

  -- no room for a picture of a weapon layer, beside COLORMAP
  pub layers_full : {z : Heap} (scene : SceneValue) (r : Result (Option (List Frame)) (Fault AuditRefusal)) → scene_in (lump_bytes contents files.dir.lumps) files.dir.lumps files.things level.map_name level.settings.skill ≡ Ok scene → colormap_of files.dir.lumps ≡ Ok scene.base.colormap →
      IsAtRest scene.base.colormap (lump_at files.dir.lumps scene.base.colormap).size z → z.size ≡ level.settings.zone →
      IfErr r (λ f. IfFull (itself f) (IsFullFor (IsOfLayers files.dir.lumps files.weapons) files.dir z)) → IfErr r (λ f. IfFull (itself f) (IsFullOver (lump_bytes contents files.dir.lumps) level (value_of files)))
  layers_full scene (Ok layers) accepted is rest size full = tt
  layers_full scene (Err (Refused refusal)) accepted is rest size full = tt
  layers_full scene (Err ReadFault) accepted is rest size full = tt
  layers_full scene (Err OutOfMemory) accepted is rest size full = tt
  layers_full scene (Err (ZoneFull wanted widest')) accepted is rest size full =
      let zone_is_small : level.settings.zone < block_size (lump_at files.dir.lumps scene.base.colormap).size + wanted + MIN_FRAGMENT =
      subst (λ n. n < block_size (lump_at files.dir.lumps scene.base.colormap).size + wanted + MIN_FRAGMENT) size (full_room full scene.base.colormap (lump_at files.dir.lumps scene.base.colormap).size rest) in
      record {
        block = record {
          lump = full.lump;
          asked = inr full.asked;
          wanted_is = full.wanted_is;
          narrow = full.narrow;
          colormap = scene.base.colormap;
          colormap_is = is;
          small = zone_is_small;
          gap = inr (subst (λ n. IsGapBeside n (block_size (lump_at files.dir.lumps scene.base.colormap).size) widest') size (full.gap scene.base.colormap (lump_at files.dir.lumps scene.base.colormap).size rest));
        };
        enough = λ loaded e. audited_by (λ l. level.settings.zone < (loaded_sizes l).enough) (lump_bytes contents files.dir.lumps) level (value_of files) loaded e
            (λ other weapons known layers.
            subst (λ (s : SceneValue). level.settings.zone < (loaded_sizes (record { files = value_of files; scene = s; weapons = weapons })).enough) (same_value scene other accepted known)
            (omega (
              arith,
              zone_is_small,
              full.wanted_is,
              enough_layers (lump_bytes contents files.dir.lumps) (record { files = value_of files; scene = scene; weapons = weapons }) full.lump layers (colormap_there files.dir.lumps scene.base.colormap is) full.asked,
            )));
      }

-- the zone is full while all is loaded
pub load_full : {B D : Type 0} (level : LevelJobValue) (wads : List (List ℕ)) (held : List File) (found : FilesValue) (r : Result D (Fault Refusal)) (fault : Fault Refusal) (result : Result B (Fault Refusal)) → files_in level.files wads level.settings held ≡ Ok found →
    IfErr r (λ f. IfFull (itself f) (IsFullOver (wad_bytes wads held found.lumps) level found)) → r ≡ Err fault → IsErrAnd result (λ e. e ≡ fault) → IfErr result (λ f. IfFull (itself f) (IsFullLoad level wads held))
load_full {B} {D} level wads held found r fault result are full was is =
    let error_is = err_from_is_err_and result is in
    let fault_full : IfFull (itself fault) (IsFullOver (wad_bytes wads held found.lumps) level found) = subst (λ (y : Result D (Fault Refusal)). IfErr y (λ f. IfFull (itself f) (IsFullOver (wad_bytes wads held found.lumps) level found))) was full in
    subst (λ (y : Result B (Fault Refusal)). IfErr y (λ f. IfFull (itself f) (IsFullLoad level wads held))) (sym (error_is.1 ∙ ap Err error_is.2))
    (go fault fault_full) where
      go : (f : Fault Refusal) → IfFull (itself f) (IsFullOver (wad_bytes wads held found.lumps) level found) → IfFull (itself f) (IsFullLoad level wads held)
      go (Refused refusal) k = tt
      go ReadFault k = tt
      go OutOfMemory k = tt
      go (ZoneFull wanted widest') k = record {
        values = found;
        are = are;
        block = k.block;
        enough = λ loaded e. k.enough loaded (audited_of level wads held found loaded are e);
      }

never_full : (P : ℕ → ℕ → Type 0) (fault : Fault Refusal) → IfFull fault (λ wanted widest'. ⊥) → IfFull fault P
never_full P (Refused refusal) none = tt
never_full P ReadFault none = tt
never_full P (ZoneFull wanted widest') none = absurd none
never_full P OutOfMemory none = tt

-- the reading of files puts nothing into a zone
pub files_full : {B D : Type 0} (P : ℕ → ℕ → Type 0) (r : Result D (Fault Refusal)) (fault : Fault Refusal) (result : Result B (Fault Refusal)) → IsNeverFull r → r ≡ Err fault → IsErrAnd result (λ e. e ≡ fault) → IfErr result (λ f. IfFull (itself f) P)
files_full {B} {D} P r fault result never was is =
    let error_is = err_from_is_err_and result is in
    let nowhere_full : IfFull fault (λ wanted widest'. ⊥) = subst (λ (y : Result D (Fault Refusal)). IsNeverFull y) was never in
    subst (λ (y : Result B (Fault Refusal)). IfErr y (λ f. IfFull (itself f) P)) (sym (error_is.1 ∙ ap Err error_is.2)) (never_full P fault nowhere_full)
