-- What is done with a level that is loaded, by what was written and read.
use Rattle.picture_rules.proofs.Common.{[], All, ap, arith, false, length, List, Ok, refl, Result, subst, sym, true, ℕ, ◌≡◌, ◌≤◌}
use Rattle.doom_run.specs.Rules.{Fault, File, HasCauseAt, Heap, LevelJobValue, ShelfView, Stop, TrimPart, and_then, from_below, lump_bytes, no_file, trimmed_file}
use Rattle.art_rules.specs.Fault.TheVariants as fault
use Rattle.refusals.specs.declared.refusal.Refusal.{Refusal}
use Rattle.wad_trim.specs.Writes.{IsCopied, IsPartThere, WritesLumps}
use Rattle.wad_trim.specs.declared.fault.TrimWrite.{TrimWrite}
use Rattle.job_files.specs.{Statuses.status_of, declared.status.Status.Status}
use Rattle.job_files.specs.declared.status.Status.TheVariants.{ZoneFull, OutOfMemory}
use Rattle.level_audit.specs.declared.scene_load.load.LoadedScene.{LoadedScene}
use Rattle.level_audit.specs.{scene_load.Calls.IsLoadedScene, scene_load.Orders.loaded_items}
use Rattle.level_audit.specs.scene_load.Loads.{LoadedValue, load_in, loaded_sizes, loaded_value, wad_bytes}
use Rattle.level_audit.proofs.scene_load.OrderLemmas.{items_read}
use Rattle.doom_run.specs.Ends.{EndsAt, IsDelivered, WritesDue}
use Rattle.doom_run.specs.Jobs.{Delivery, Written, done, telling, trimming}
use Rattle.doom_run.specs.{Leasts.delivery_least, Leasts.least_over, Performs.Delivers}
use Rattle.doom_run.specs.{Steps.at_step, Trims.IsPlanFault, Trims.plan_in, Trims.status_of_written}
use Rattle.doom_run.specs.Verdict.{Accepted, accepted_in, delivered}
use Rattle.doom_run.specs.Views.{ViewsValue, views_of}
use Rattle.doom_run.proofs.EndLemmas.{delivers_all, delivers_render, fault_no_end, frames_more, loaded_named, renders_end}
use Rattle.doom_run.proofs.LeastLemmas.{least_none}
use Rattle.doom_run.proofs.PerformLemmas.{due_behaves, fault_behaves}
use Rattle.doom_run.proofs.TakeLemmas.{keeps_once}
use Rattle.doom_run.proofs.TrimLemmas.{copied_asked, trim_draw, written_answers, written_failed, written_full, written_order, written_read, written_renders}

-- no view is drawn: the least is that of the base
none_drawn : (level : LevelJobValue) (wads : List (List ℕ)) (files : List File) (delivery : Delivery) (loaded : LoadedScene) → IsLoadedScene level loaded → ((views : ViewsValue) → delivery.drawn views ≡ []) →
    load_in level wads files ≡ Ok (loaded_value loaded) → delivery_least level delivery (wad_bytes wads files loaded.files.dir.lumps) (loaded_value loaded) ≤ level.settings.zone
unfolding delivery_least
none_drawn level wads files delivery loaded stands none is =
    let views_value = views_of (wad_bytes wads files loaded.files.dir.lumps) level.settings (loaded_value loaded) in
    subst (λ vs. least_over (loaded_value loaded) views_value.scene vs ≤ level.settings.zone) (sym (none views_value)) (least_none level wads files (loaded_value loaded) is stands.audited.fits views_value.scene)

-- a fault before anything is written, after loading
module _ (level : LevelJobValue) (delivery : Delivery) (view : ShelfView) (loaded : LoadedScene) (old : List ℕ → Type 0) (faults : ℕ) where
  pub memory_delivers : Delivers level delivery view view loaded old old faults faults OutOfMemory
  memory_delivers = record {
    behaves = fault_behaves delivery.reads view view old faults fault.OutOfMemory refl;
    tells = λ wads files of. record {
      ends = tt;
      zone_full = λ wanted widest e. absurd (cc);
      least = λ end. absurd end;
      reads = λ calm order. omega (arith, items_read (loaded_value loaded) loaded.cache.blocks);
    };
  }

-- a job that reads no more tells what it writes
pub telling_delivers : (level : LevelJobValue) (view : ShelfView) (loaded : LoadedScene) (tells : (ℕ → List ℕ) → LoadedValue → Written) (old new : List ℕ → Type 0) (faults later : ℕ) (status : Status) → IsLoadedScene level loaded →
    ((bytes : ℕ → List ℕ) → WritesDue (tells bytes (loaded_value loaded)) old new faults later status) → Delivers level (telling tells) view view loaded old new faults later status
telling_delivers level view loaded tells old new faults later status stands writes =
    let bytes_due : Written = tells (λ lump. []) (loaded_value loaded) in
    let writes_due = writes (λ lump. []) in
    record {
      behaves = due_behaves false view view bytes_due old new faults later status writes_due refl;
      tells = λ wads files of.
          let bytes = wad_bytes wads files loaded.files.dir.lumps in
          record {
            ends = renders_end view.steady _ (loaded_sizes (loaded_value loaded)).enough (tells bytes (loaded_value loaded)) old new status refl (delivers_render view.steady _ old new status (writes bytes).ends);
            zone_full = λ wanted widest e. absurd (delivers_all bytes_due old new status writes_due.ends (rw e tt));
            least = λ end. none_drawn level wads files (telling tells) loaded stands (λ views. refl) of.is;
            reads = λ calm order. omega (arith, items_read (loaded_value loaded) loaded.cache.blocks);
          };
    }

-- a job that trims
plan_caused : (plan : Result (List TrimPart) Refusal) (n : ℕ) (stop : Fault Refusal) → IsPlanFault plan stop → HasCauseAt n n stop
plan_caused plan n (fault.Refused refusal) is = refl
plan_caused plan n fault.ReadFault is = absurd is
plan_caused plan n (fault.ZoneFull wanted widest') is = absurd is
plan_caused plan n fault.OutOfMemory is = refl

plan_narrow : (plan : Result (List TrimPart) Refusal) (stop : Fault Refusal) (wanted widest' : ℕ) → IsPlanFault plan stop → status_of stop ≡ ZoneFull wanted widest' → ⊥
plan_narrow plan (fault.Refused refusal) wanted widest' is e = cc
plan_narrow plan fault.ReadFault wanted widest' is e = is
plan_narrow plan (fault.ZoneFull asked gap) wanted widest' is e = is
plan_narrow plan fault.OutOfMemory wanted widest' is e = cc

module _ (level : LevelJobValue) (loaded : LoadedScene) (view : ShelfView) (stands : IsLoadedScene level loaded) where
  abbrev plan : Result (List TrimPart) Refusal
  plan = plan_in level (loaded_value loaded)

  plan_end : (bytes : ℕ → List ℕ) (old : List ℕ → Type 0) (stop : Fault Refusal) → IsPlanFault plan stop → EndsAt view.steady (from_below at_step (delivered (trimming level) bytes (loaded_value loaded))) old old (status_of stop)
  plan_end bytes old (fault.Refused refusal) is = rw is refl
  plan_end bytes old fault.ReadFault is = absurd is
  plan_end bytes old (fault.ZoneFull wanted widest') is = absurd is
  plan_end bytes old fault.OutOfMemory is = tt

  -- its parts are refused, or memory ran out
  pub plan_stops : (old : List ℕ → Type 0) (faults : ℕ) (stop : Fault Refusal) → IsPlanFault plan stop → Delivers level (trimming level) view view loaded old old faults faults (status_of stop)
  plan_stops old faults stop is = record {
    behaves = fault_behaves true view view old faults stop (plan_caused plan view.faults stop is);
    tells = λ wads files of. record {
      ends = plan_end (wad_bytes wads files loaded.files.dir.lumps) old stop is;
      zone_full = λ wanted widest' e. absurd (plan_narrow plan stop wanted widest' is e);
      least = λ end. absurd (fault_no_end stop end);
      reads = λ calm order. omega (arith, items_read (loaded_value loaded) loaded.cache.blocks);
    };
  }

  planned_is : (bytes : ℕ → List ℕ) (parts : List TrimPart) → plan ≡ Ok parts → delivered (trimming level) bytes (loaded_value loaded) ≡ Ok (accepted_in (loaded_sizes (loaded_value loaded)).enough (done (trimmed_file bytes loaded.files.dir.lumps parts)))
  planned_is bytes parts is = ap (λ (p : Result (List TrimPart) Refusal).
      and_then {B = Accepted} (no_file (and_then p (λ ps. Ok (done (trimmed_file bytes loaded.files.dir.lumps ps))))) (λ written. Ok (accepted_in (loaded_sizes (loaded_value loaded)).enough written))) is

  -- its parts are written
  pub trimming_delivers : (parts : List TrimPart) (cache : Heap) (after : ShelfView) (old new : List ℕ → Type 0) (faults later : ℕ) (result : Result (Unit {0}) TrimWrite) → plan ≡ Ok parts → All (IsPartThere (length loaded.files.dir.lumps)) parts →
      WritesLumps view after loaded.files.dir loaded.cache cache old new faults later (IsCopied parts) (λ bytes. trimmed_file bytes loaded.files.dir.lumps parts) result →
      Delivers level (trimming level) view after loaded old new faults later (status_of_written result)
  trimming_delivers parts cache after old new faults later result planned there writes = record {
    behaves = record {
      unwritten = λ is. absurd (frames_more (status_of_written result) (written_answers result) is);
      unread = λ none is. absurd (cc);
      not_usage = λ e. subst IsDelivered e (written_answers result);
      read_fault = λ e. writes.read_fault (written_read result e);
      write_fault = λ e. writes.write_fault (written_failed result e);
      read_settled = λ other. writes.read_settled (λ e. other (ap status_of_written e));
      write_settled = λ other. writes.write_settled (λ e. other (ap status_of_written e));
    };
    tells = λ wads files of.
        let value : LoadedValue = loaded_value loaded in
        let files_are_named = loaded_named level wads files value of.is in
        let contents_held = (of.holds files_are_named.contents files_are_named.named).contents in
        let bytes = lump_bytes files_are_named.contents loaded.files.dir.lumps in
        record {
          ends = subst (λ (contents : List (List ℕ)). EndsAt view.steady (from_below at_step (delivered (trimming level) (lump_bytes contents loaded.files.dir.lumps) value)) old new (status_of_written result)) (sym files_are_named.are)
              (renders_end view.steady _ (loaded_sizes value).enough (done (trimmed_file bytes loaded.files.dir.lumps parts)) old new (status_of_written result)
              (ap (λ (v : Result Accepted (Stop Refusal)). from_below at_step v) (planned_is bytes parts planned))
              (written_renders view.steady (trimmed_file bytes loaded.files.dir.lumps parts) old new result (writes.ok files_are_named.contents contents_held) (writes.err files_are_named.contents contents_held) (writes.steady files_are_named.contents contents_held)));
          zone_full = λ wanted widest' e. (refl, trim_draw level wads files loaded parts stands of.is planned there wanted widest' (writes.full wanted widest' (written_full result wanted widest' e)));
          least = λ end. none_drawn level wads files (trimming level) loaded stands (λ views. refl) of.is;
          reads = λ calm inside.
              keeps_once value loaded.cache cache view.taken after.taken (status_of_written result)
              (written_order _ result (writes.order (loaded_items value) (copied_asked level wads files loaded parts stands of.is planned there) inside)) calm;
        };
  }
