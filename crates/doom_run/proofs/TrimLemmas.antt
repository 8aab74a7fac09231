-- What a trimmed file that is written says of a run.
use Rattle.picture_rules.proofs.Common.{All, All-contains, ap, Bool, Err, inl, IsTrue, length, List, None, Ok, OnErr, OnOk, Option, refl, Result, Some, subst, sym, true, ℕ, ◌<◌, ◌∙◌, ◌≡◌}
use Rattle.doom_run.specs.Rules.{File, Frame, Grew, GrewByPrefix, LevelJobValue, Lump, TrimPart, TrimRefusal, copy_part, from_below, is_needed, lump_at, lump_block, trim_plan}
use Rattle.art_rules.proofs.Laws.{and_then-ok}
use Rattle.texture_build.specs.Calls.{HasAll, IsFullFor}
use Rattle.refusals.specs.declared.refusal.Refusal.TheVariants.{Trim}
use Rattle.sound_scene.specs.Sound.{art_with}
use Rattle.sound_scene.proofs.{SceneLemmas.scene_parts, FullLemmas.IsArtFull}
use Rattle.wad_trim.specs.Plans as plans
use Rattle.wad_trim.specs.Writes.{InOrderWhere, IsCopied, IsPartThere}
use Rattle.wad_trim.specs.declared.fault.TrimWrite.{TrimWrite}
use Rattle.wad_trim.specs.declared.fault.TrimWrite.TheVariants as write
use Rattle.wad_trim.proofs.NeededLemmas.{copied-needed}
use Rattle.job_files.specs.Files.{files_in}
use Rattle.job_files.specs.declared.status.Status.TheVariants.{ReadFault, WriteFault, ZoneFull}
use Rattle.level_audit.specs.declared.scene_load.load.LoadedScene.{LoadedScene}
use Rattle.level_audit.specs.{scene_load.Calls.IsLoadedScene, scene_load.Orders.loaded_items}
use Rattle.level_audit.specs.scene_load.Loads.{LoadedValue, load_in, loaded_pictures, loaded_value, wad_bytes, weapon_lumps}
use Rattle.level_audit.proofs.scene_load.AuditedLemmas.{audited_by}
use Rattle.level_audit.proofs.{scene_load.LoadLemmas.audited_of, scene_load.OrderLemmas.items_lump}
use Rattle.doom_run.specs.{Ends.IsDelivered, Ends.RendersAt, Fulls.IsFullDraw, Jobs.done}
use Rattle.doom_run.specs.Takes.{InOrderAfter}
use Rattle.doom_run.specs.Trims.{loaded_art, plan_in, status_of_written}
use Rattle.doom_run.proofs.BlockLemmas.{art_draw}

-- the pictures of weapon layers, as either crate tells them
weapons_same : (book : Option (List Frame)) → plans.layer_lumps book ≡ weapon_lumps book
weapons_same None = refl
weapons_same (Some book) = refl

-- the parts of what was loaded
module _ (level : LevelJobValue) (loaded : LoadedValue) where
  plan_as : (weapons : Option (List Frame)) → weapons ≡ loaded.weapons
      → plan_in level loaded ≡ from_below Trim (trim_plan loaded.files.lumps (plans.trim_art loaded.scene (plans.layer_lumps weapons)) level.map_name)
  plan_as weapons same =
      ap (λ more. from_below Trim (trim_plan loaded.files.lumps (plans.trim_art loaded.scene more) level.map_name)) (sym (weapons_same loaded.weapons))
      ∙ ap (λ book. from_below Trim (trim_plan loaded.files.lumps (plans.trim_art loaded.scene (plans.layer_lumps book)) level.map_name)) (sym same)

  pub plan_told : (weapons : Option (List Frame)) (parts : List TrimPart) → weapons ≡ loaded.weapons
      → trim_plan loaded.files.lumps (plans.trim_art loaded.scene (plans.layer_lumps weapons)) level.map_name ≡ Ok parts → plan_in level loaded ≡ Ok parts
  plan_told weapons parts same is = plan_as weapons same ∙ ap (from_below Trim) is

  pub plan_refused : (weapons : Option (List Frame)) (refusal : TrimRefusal) → weapons ≡ loaded.weapons
      → trim_plan loaded.files.lumps (plans.trim_art loaded.scene (plans.layer_lumps weapons)) level.map_name ≡ Err refusal → plan_in level loaded ≡ Err (Trim refusal)
  plan_refused weapons refusal same is = plan_as weapons same ∙ ap (from_below Trim) is

-- what writing came to says what was written
pub written_renders : (steady : Bool) (bytes : List ℕ) (old new : List ℕ → Type 0) (result : Result (Unit {0}) TrimWrite) →
    OnOk result (Grew old new bytes) → OnErr result (GrewByPrefix old new bytes) → (IsTrue steady → result ≡ Err write.ReadFault → ⊥) →
    RendersAt steady (done bytes) old new (status_of_written result)
written_renders steady bytes old new (Ok done) all part read = (refl, all)
written_renders steady bytes old new (Err write.ReadFault) all part read = (λ holds. read holds refl, part)
written_renders steady bytes old new (Err write.WriteFault) all part read = part
written_renders steady bytes old new (Err (write.ZoneFull wanted widest')) all part read = part

pub written_order : (P : Type 0) (result : Result (Unit {0}) TrimWrite) → InOrderWhere result P → InOrderAfter (status_of_written result) P
written_order P (Ok done) order = order
written_order P (Err write.ReadFault) order = tt
written_order P (Err write.WriteFault) order = order
written_order P (Err (write.ZoneFull wanted widest')) order = order

pub written_answers : (result : Result (Unit {0}) TrimWrite) → IsDelivered (status_of_written result)
written_answers (Ok done) = tt
written_answers (Err write.ReadFault) = tt
written_answers (Err write.WriteFault) = tt
written_answers (Err (write.ZoneFull wanted widest')) = tt

-- the fault that a status tells
pub written_read : (result : Result (Unit {0}) TrimWrite) → status_of_written result ≡ ReadFault → result ≡ Err write.ReadFault
written_read (Ok done) is = absurd (cc)
written_read (Err write.ReadFault) is = refl
written_read (Err write.WriteFault) is = absurd (cc)
written_read (Err (write.ZoneFull wanted widest')) is = absurd (cc)

pub written_failed : (result : Result (Unit {0}) TrimWrite) → status_of_written result ≡ WriteFault → result ≡ Err write.WriteFault
written_failed (Ok done) is = absurd (cc)
written_failed (Err write.ReadFault) is = absurd (cc)
written_failed (Err write.WriteFault) is = refl
written_failed (Err (write.ZoneFull wanted widest')) is = absurd (cc)

pub written_full : (result : Result (Unit {0}) TrimWrite) (wanted widest' : ℕ) → status_of_written result ≡ ZoneFull wanted widest' → result ≡ Err (write.ZoneFull wanted widest')
written_full (Ok done) wanted widest' is = absurd (cc)
written_full (Err write.ReadFault) wanted widest' is = absurd (cc)
written_full (Err write.WriteFault) wanted widest' is = absurd (cc)
written_full (Err (write.ZoneFull asked gap)) wanted widest' is =
    let wanted_same : asked ≡ wanted = cc in
    let widest_same : gap ≡ widest' = cc in
    rw (wanted_same, widest_same) refl

-- a level that was loaded, and the parts of its trimmed file
module _ (level : LevelJobValue) (wads : List (List ℕ)) (files : List File) (loaded : LoadedScene) (plan : List TrimPart) (stands : IsLoadedScene level loaded) (is : load_in level wads files ≡ Ok (loaded_value loaded))
    (planned : plan_in level (loaded_value loaded) ≡ Ok plan) (there : All (IsPartThere (length loaded.files.dir.lumps)) plan) where
  abbrev lumps : List Lump
  lumps = loaded.files.dir.lumps

  copied_there : (lump : ℕ) → IsCopied plan lump → lump < length lumps
  copied_there lump copied = All-contains (IsPartThere (length lumps)) plan (copy_part lump) there copied

  plan_ok : (o : Result (List TrimPart) TrimRefusal) (parts : List TrimPart) → from_below Trim o ≡ Ok parts → o ≡ Ok parts
  plan_ok (Ok found) parts e = let parts_same : found ≡ parts = cc in ap Ok parts_same
  plan_ok (Err refusal) parts e = absurd (cc)

  copied_needed : (lump : ℕ) → IsCopied plan lump → is_needed lumps (loaded_art (loaded_value loaded)) lump ≡ true
  unfolding load_in
  copied_needed lump copied =
      let value = loaded_value loaded in
      let files_ok = and_then-ok (files_in level.files wads level.settings files) _ value is in
      audited_by (λ l. (pictures : List ℕ) (parts : List TrimPart) → trim_plan l.files.lumps (art_with l.scene pictures) level.map_name ≡ Ok parts → IsCopied parts lump → is_needed l.files.lumps (art_with l.scene pictures) lump ≡ true)
      (wad_bytes wads files files_ok.0.lumps) level files_ok.0 value (audited_of level wads files files_ok.0 value files_ok.1 is)
      (λ scene weapons accepted layers pictures parts plan among.
      copied-needed (wad_bytes wads files files_ok.0.lumps) files_ok.0.lumps files_ok.0.things level.map_name level.settings.skill scene pictures parts lump
      (scene_parts (wad_bytes wads files files_ok.0.lumps) files_ok.0.lumps files_ok.0.things level.map_name level.settings.skill scene accepted) plan among)
      (loaded_pictures value) plan (plan_ok _ plan planned) copied

  -- what is copied is asked for
  pub copied_asked : HasAll (loaded_items (loaded_value loaded)) loaded.files.dir (IsCopied plan)
  copied_asked lump copied = items_lump (loaded_value loaded) lump (copied_needed lump copied) (copied_there lump copied)

  -- no room for a lump that is copied
  pub trim_draw : (wanted widest' : ℕ) → IsFullFor (IsCopied plan) loaded.files.dir loaded.cache wanted widest' → IsFullDraw level wads files wanted widest'
  unfolding lump_block
  trim_draw wanted widest' full =
      let scene = loaded.scene.scene in
      let value : LoadedValue = loaded_value loaded in
      let art_full : IsArtFull lumps (loaded_art value) loaded.cache.size wanted widest' = inl (record {
        lump = full.lump;
        there = copied_there full.lump full.asked;
        needed = copied_needed full.lump full.asked;
        is = full.wanted_is;
        gap = full.gap scene.base.colormap (lump_at lumps scene.base.colormap).size stands.audited.rest;
      }) in
      art_draw level wads files value is wanted widest' full.narrow (subst (λ n. IsArtFull lumps (loaded_art value) n wanted widest') stands.zone art_full)
