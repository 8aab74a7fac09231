-- A run of a job: stopped while it loads, or by what is done with what was loaded.
use Rattle.std.proofs.Common.{◌≡◌, ◌≤◌, ◌+◌, ◌∙◌, inl, inr, ℕ, zero, Bool, true, false, IsTrue, List, Option, None, Some, Result, Ok, Err, refl, arith, ap, sym, subst}
use Rattle.doom_run.specs.Rules.{CommandValue, Fault, FaultFitsOrAbsent, FaultsRose, File, HasCauseAt, Holds, LevelJobValue, ShelfView, Stop, and_then, from_below}
use Rattle.art_rules.specs.Fault.TheVariants as fault
use Rattle.art_rules.proofs.Laws.{grew_none, stops_all}
use Rattle.refusals.specs.declared.refusal.Refusal.{Refusal}
use Rattle.sound_scene.proofs.SceneLemmas.{same_value}
use Rattle.job_files.specs.{Sizes.files_size, Statuses.status_of, declared.status.Status.Status}
use Rattle.job_files.specs.declared.status.Status.TheVariants.{WriteFault, ZoneFull, OutOfMemory}
use Rattle.job_files.proofs.StepLemmas.{status_full}
use Rattle.level_audit.specs.{scene_load.Calls.LoadsScene, scene_load.Fulls.IsFullLoad}
use Rattle.level_audit.specs.scene_load.Loads.{LoadedValue, load_in, loaded_sizes, loaded_value, wad_bytes}
use Rattle.level_audit.specs.scene_load.Orders.{lumps_size}
use Rattle.level_audit.specs.declared.scene_load.load.LoadedScene.{LoadedScene}
use Rattle.doom_run.specs.Ends.{DeliversAt, EndsAt, WritesDue}
use Rattle.doom_run.specs.Jobs.{Delivery, Job, Task, Written, job_of, job_over, level_work, over, plain}
use Rattle.doom_run.specs.Leasts.{least_loading, work_least}
use Rattle.doom_run.specs.Performs.{Behaves, Delivers, Performs, RunsAs}
use Rattle.doom_run.specs.{Steps.at_step, Takes.TaskTakes}
use Rattle.doom_run.specs.Verdict.{Accepted, accepted_in, delivered, work_verdict}
use Rattle.doom_run.proofs.EndLemmas.{delivers_all, delivers_more, delivers_render, fault_end, fault_no_end, loaded_named, renders_end}
use Rattle.doom_run.proofs.TakeLemmas.{calm_order}

-- a fault before anything is written
pub fault_behaves : (reads_on : Bool) (before after : ShelfView) (old : List ℕ → Type 0) (faults : ℕ) (stop : Fault Refusal) → HasCauseAt before.faults after.faults stop →
    Behaves reads_on before after old old faults faults (status_of stop)
fault_behaves reads_on before after old faults (fault.Refused refusal) cause =
    record { unwritten = λ is. grew_none old; unread = λ none is. grew_none old; not_usage = λ e. cc; read_fault = λ e. absurd (cc); write_fault = λ e. absurd (cc); read_settled = λ other. cause; write_settled = λ other. refl }
fault_behaves reads_on before after old faults fault.ReadFault cause =
    record { unwritten = λ is. grew_none old; unread = λ none is. grew_none old; not_usage = λ e. cc; read_fault = λ e. cause; write_fault = λ e. absurd (cc); read_settled = λ other. absurd (other refl); write_settled = λ other. refl }
fault_behaves reads_on before after old faults (fault.ZoneFull wanted widest) cause =
    record { unwritten = λ is. grew_none old; unread = λ none is. grew_none old; not_usage = λ e. cc; read_fault = λ e. absurd (cc); write_fault = λ e. absurd (cc); read_settled = λ other. cause; write_settled = λ other. refl }
fault_behaves reads_on before after old faults fault.OutOfMemory cause =
    record { unwritten = λ is. grew_none old; unread = λ none is. grew_none old; not_usage = λ e. cc; read_fault = λ e. absurd (cc); write_fault = λ e. absurd (cc); read_settled = λ other. cause; write_settled = λ other. refl }

-- a call that writes all that is due, and reads no more
pub due_behaves : (reads_on : Bool) (before after : ShelfView) (due : Written) (old new : List ℕ → Type 0) (faults later : ℕ) (status : Status) → WritesDue due old new faults later status → after.faults ≡ before.faults → Behaves reads_on before after old new faults later status
due_behaves reads_on before after due old new faults later status writes settled = record {
  unwritten = λ is. absurd (delivers_more due old new status writes.ends is);
  unread = λ none is. absurd (delivers_all due old new status writes.ends is);
  not_usage = λ e. subst (λ s. DeliversAt due old new s) e writes.ends;
  read_fault = λ e. absurd (delivers_all due old new status writes.ends (rw e tt));
  write_fault = writes.write_fault;
  read_settled = λ other. settled;
  write_settled = writes.write_settled;
}

-- nothing was read
pub takes_none : (task : Task) (held : List File) (n : ℕ) → TaskTakes task held n n
takes_none (plain writes reads) held n = omega arith
takes_none (over work) held n = λ loaded is room. omega arith

-- memory ran out before anything was asked for
pub memory_performs : (job : Job) (view : ShelfView) (old : List ℕ → Type 0) (faults : ℕ) → Performs job view view old old faults faults OutOfMemory
memory_performs job view old faults = record {
  behaves = fault_behaves job.reads_on view view old faults fault.OutOfMemory refl;
  asked = λ e. absurd (cc);
  zoned = λ wanted widest e. absurd (cc);
  tells = λ held holds. record {
    ends = tt;
    zone_full = λ wanted widest e. absurd (cc);
    least = λ end. absurd end;
    reads = λ calm. takes_none job.task held view.taken;
  };
}

-- words that are a command
pub command_runs : {before after : ShelfView} {old new : List ℕ → Type 0} {faults later : ℕ} {status : Status} {command : Option CommandValue} (value : CommandValue) → command ≡ Some value →
    ((job_of value).asks ≡ false → after ≡ before) → Performs (job_of value) before after old new faults later status → RunsAs command before after old new faults later status
command_runs value is idle performs = rw is (record { runs = performs; untouched = idle })

-- whether the words are a command or not
pub memory_runs : (command : Option CommandValue) (view : ShelfView) (old : List ℕ → Type 0) (faults : ℕ) → RunsAs command view view old old faults faults OutOfMemory
memory_runs None view old faults = record { runs = (inr refl, grew_none old, refl); untouched = λ idle. refl }
memory_runs (Some command) view old faults = record { runs = memory_performs (job_of command) view old faults; untouched = λ idle. refl }

-- a job without a level
module _ (writes : List File → Result Written (Stop Refusal)) (most : List File → ℕ) where
  abbrev plain_job : Bool → Job
  plain_job asks = record { asks = asks; reads_on = false; task = plain writes most }

  -- whose first half has stopped
  pub plain_stops : (before after : ShelfView) (old : List ℕ → Type 0) (faults : ℕ) (stop : Fault Refusal) → ((held : List File) → Holds before held → FaultFitsOrAbsent before.steady (writes held) stop) →
      HasCauseAt before.faults after.faults stop → ((wanted widest : ℕ) → status_of stop ≡ ZoneFull wanted widest → ⊥) → ((held : List File) → Holds before held → after.taken ≤ before.taken + most held) → Performs (plain_job true) before after old old faults faults (status_of stop)
  plain_stops before after old faults stop fits cause narrow few = record {
    behaves = fault_behaves false before after old faults stop cause;
    asked = λ e. refl;
    zoned = λ wanted widest e. absurd (narrow wanted widest e);
    tells = λ held holds. record {
      ends = fault_end before.steady _ old old stop (stops_all before.steady (writes held) (λ written. Ok (accepted_in zero written)) stop (fits held (holds refl))) (grew_none old);
      zone_full = λ wanted widest e. narrow wanted widest e;
      least = λ end. absurd (fault_no_end stop end);
      reads = λ calm. few held (holds refl);
    };
  }

  -- whose bytes were written
  pub plain_delivers : (asks : Bool) (due : Written) (before after : ShelfView) (old new : List ℕ → Type 0) (faults later : ℕ) (status : Status) → ((held : List File) → (IsTrue asks → Holds before held) → writes held ≡ Ok due) →
      DeliversAt due old new status → (status ≡ WriteFault → FaultsRose faults later) → ((status ≡ WriteFault → ⊥) → later ≡ faults) → after.faults ≡ before.faults → ((held : List File) → (IsTrue asks → Holds before held) → after.taken ≤ before.taken + most held) → Performs (plain_job asks) before after old new faults later status
  plain_delivers asks due before after old new faults later status is delivers failed passed settled few = record {
    behaves = due_behaves false before after due old new faults later status (record { ends = delivers; write_fault = failed; write_settled = passed }) settled;
    asked = λ e. absurd (delivers_all due old new status delivers (rw e tt));
    zoned = λ wanted widest e. absurd (delivers_all due old new status delivers (rw e tt));
    tells = λ held holds. record {
      ends = renders_end before.steady _ zero due old new status (ap (λ (w : Result Written (Stop Refusal)). from_below at_step (and_then {B = Accepted} w (λ written. Ok (accepted_in zero written)))) (is held holds)) (delivers_render before.steady due old new status delivers);
      zone_full = λ wanted widest e. delivers_all due old new status delivers (rw e tt);
      least = λ end. omega arith;
      reads = λ calm. few held holds;
    };
  }

-- a job over a level
module _ (level : LevelJobValue) (wads : List (List ℕ)) (delivery : Delivery) (before : ShelfView) where
  -- loading has stopped
  pub stops_performs : (after : ShelfView) (old : List ℕ → Type 0) (faults : ℕ) (stop : Fault Refusal) → LoadsScene level wads before after (Err stop) →
      Performs (job_over level wads delivery) before after old old faults faults (status_of stop)
  stops_performs after old faults stop now =
      record {
        behaves = fault_behaves delivery.reads before after old faults stop now.causes.err;
        asked = λ e. refl;
        zoned = λ wanted widest e. refl;
        tells = λ held holds. record {
          ends = fault_end before.steady (work_verdict (level_work level wads delivery) held) old old stop
              (stops_all before.steady (load_in level wads held) (λ loaded. delivered delivery (wad_bytes wads held loaded.files.lumps) loaded) stop (now.answers held (holds refl)).err) (grew_none old);
          zone_full = λ wanted widest e. inl (status_full (IsFullLoad level wads held) stop wanted widest e (now.full held (holds refl)));
          least = λ end. absurd (fault_no_end stop end);
          reads = λ calm expected is room.
              let files_are_named = loaded_named level wads held expected is in calm_order stop calm
              (now.order held files_are_named.contents expected (holds refl) files_are_named.named is room);
        };
      }

  -- what was loaded decides the verdict
  verdict_by : (held : List File) (loaded : LoadedValue) → load_in level wads held ≡ Ok loaded → work_verdict (level_work level wads delivery) held ≡ delivered delivery (wad_bytes wads held loaded.files.lumps) loaded
  verdict_by held loaded is = ap (λ (loading : Result LoadedValue (Stop Refusal)). and_then {B = Accepted} loading (λ l. delivered delivery (wad_bytes wads held l.files.lumps) l)) is

  least_by : (held : List File) (loaded : LoadedValue) → load_in level wads held ≡ Ok loaded → work_least (level_work level wads delivery) held ≡ least_loading (level_work level wads delivery) held (Ok loaded)
  unfolding work_least
  least_by held loaded is = ap (λ (loading : Result LoadedValue (Stop Refusal)). least_loading (level_work level wads delivery) held loading) is

  -- loading gave a scene, with which this was done
  pub loads_performs : {mid after : ShelfView} {old new : List ℕ → Type 0} {faults later : ℕ} {status : Status} (loaded : LoadedScene) → LoadsScene level wads before mid (Ok loaded) →
      Delivers level delivery mid after loaded old new faults later status → Performs (job_over level wads delivery) before after old new faults later status
  loads_performs {mid} {after} {old} {new} {faults} {later} {status} loaded now delivers =
      let value : LoadedValue = loaded_value loaded in
      record {
        behaves = record {
          unwritten = delivers.behaves.unwritten;
          unread = delivers.behaves.unread;
          not_usage = delivers.behaves.not_usage;
          read_fault = λ e. subst (λ n. FaultsRose n after.faults) now.causes.ok (delivers.behaves.read_fault e);
          write_fault = delivers.behaves.write_fault;
          read_settled = λ other. delivers.behaves.read_settled other ∙ now.causes.ok;
          write_settled = delivers.behaves.write_settled;
        };
        asked = λ e. refl;
        zoned = λ wanted widest e. refl;
        tells = λ held holds.
            let level_loads : load_in level wads held ≡ Ok value = (now.answers held (holds refl)).ok in
            let what_it_tells = delivers.tells wads held (record { is = level_loads; holds = λ contents named. now.holds held contents (holds refl) named }) in
            record {
              ends = subst (λ (v : Result Accepted (Stop Refusal)). EndsAt before.steady (from_below at_step v) old new status)
                  (sym (verdict_by held value level_loads))
                  (subst (λ b. EndsAt b (from_below at_step (delivered delivery (wad_bytes wads held loaded.files.dir.lumps) value)) old new status) now.follows.steady what_it_tells.ends);
              zone_full = λ wanted widest e. inr (what_it_tells.zone_full wanted widest e);
              least = λ end. subst (λ n. n ≤ level.settings.zone) (sym (least_by held value level_loads)) (what_it_tells.least end);
              reads = λ calm expected also room.
                  let value_same : value ≡ expected = same_value value expected level_loads also in
                  let files_are_named = loaded_named level wads held value level_loads in
                  let zone_is_roomy : (loaded_sizes value).roomy ≤ level.settings.zone = subst (λ (l : LoadedValue). (loaded_sizes l).roomy ≤ level.settings.zone) (sym value_same) room in
                  let once = now.order held files_are_named.contents value (holds refl) files_are_named.named level_loads zone_is_roomy in
                  let bytes_read = what_it_tells.reads calm once.order in
                  let taken_most : after.taken ≤ before.taken + (files_size level.files wads held + lumps_size value) = omega (arith, once.taken, bytes_read) in
                  subst (λ (l : LoadedValue). after.taken ≤ before.taken + (files_size level.files wads held + lumps_size l)) value_same taken_most;
            };
      }
