-- What a full zone leaves out.
use Rattle.std.proofs.Common.{◌≡◌, ◌<◌, ◌≤◌, ◌⊎◌, inl, inr, ℕ, List, Option, Some, None, Result, Ok, Err, IfSome, refl, arith, ap, subst}
use Rattle.doom_run.specs.Rules.{CommandValue, File, LevelJobValue, Stop, and_then, from_below, no_file}
use Rattle.art_rules.specs.Stops as files
use Rattle.refusals.specs.declared.refusal.Refusal.{Refusal}
use Rattle.sound_scene.proofs.SceneLemmas.{same_value}
use Rattle.level_audit.specs.scene_load.Fulls.{IsFullLoad}
use Rattle.level_audit.specs.scene_load.Loads.{LoadedValue, load_in, loaded_sizes, wad_bytes}
use Rattle.doom_run.specs.{Fulls.IsFullDraw, Fulls.IsFullRun, Fulls.IsFullTask, Leasts.zone_of}
use Rattle.doom_run.specs.Jobs.{Delivery, Task, Written, job_of, over, plain}
use Rattle.doom_run.specs.Steps.{absent, at_step, else_usage}
use Rattle.doom_run.specs.Verdict.{Accepted, delivered, job_verdict, task_verdict}

-- steps that ask for no file find none absent
asks_for_none : {A R : Type 0} (expected : Result A R) → no_file expected ≡ Err files.absent → ⊥
asks_for_none (Ok value) e = cc
asks_for_none (Err refusal) e = cc

-- files that are in order are held
load_held : {wanted widest' : ℕ} (level : LevelJobValue) (wads : List (List ℕ)) (held : List File) → IsFullLoad level wads held wanted widest' → load_in level wads held ≡ Err files.absent → ⊥
unfolding load_in
load_held level wads held full e = asks_for_none _ (rw full.are at e)

loads_or_not : {loading : Result LoadedValue (Stop Refusal)} (loaded : LoadedValue) → loading ≡ Ok loaded → loading ≡ Err files.absent → ⊥
loads_or_not loaded is e = cc

-- a zone that is full, for what loading reads or for what is drawn
module _ {Drawing : Type 0} {wanted widest' : ℕ} (level : LevelJobValue) (wads : List (List ℕ)) (held : List File) where
  full_held : IsFullLoad level wads held wanted widest' ⊎ (Drawing × IsFullDraw level wads held wanted widest') → load_in level wads held ≡ Err files.absent → ⊥
  full_held (inl load) e = load_held level wads held load e
  full_held (inr draw) e = loads_or_not draw.1.loaded draw.1.is e

  -- is smaller than enough for what is loaded
  full_small : (loaded : LoadedValue) → IsFullLoad level wads held wanted widest' ⊎ (Drawing × IsFullDraw level wads held wanted widest') → load_in level wads held ≡ Ok loaded → level.settings.zone < (loaded_sizes loaded).enough
  full_small loaded (inl load) e = load.enough loaded e
  full_small loaded (inr draw) e = subst (λ (l : LoadedValue). level.settings.zone < (loaded_sizes l).enough) (same_value draw.1.loaded loaded draw.1.is e) draw.1.enough

-- what is delivered asks for no file
delivers_held : {A R B : Type 0} (made : Result A R) (accept : A → B) → and_then (no_file made) (λ written. Ok (accept written)) ≡ Err files.absent → ⊥
delivers_held (Ok written) accept e = cc
delivers_held (Err refusal) accept e = cc

-- where a job over a level meets an absent file, loading does
absent_load : (loading : Result LoadedValue (Stop Refusal)) (next : LoadedValue → Result Accepted (Stop Refusal)) → ((loaded : LoadedValue) → next loaded ≡ Err files.absent → ⊥) →
    and_then loading next ≡ Err files.absent → loading ≡ Err files.absent
absent_load (Ok loaded) next held e = absurd (held loaded e)
absent_load (Err stop) next held e = let stop_is_absent : stop ≡ files.absent = cc in ap (λ (s : Stop Refusal). Err s) stop_is_absent

-- one that accepts has loaded, and its zone is enough for what was loaded
enough_of : {R : Type 0} (enough : ℕ) (made : Result Written R) (accepted : Accepted) → and_then (no_file made) (λ written. Ok (record { output = written.output; end = written.end; enough = enough })) ≡ Ok accepted → accepted.enough ≡ enough
enough_of enough (Ok written) accepted e = cc
enough_of enough (Err refusal) accepted e = absurd (cc)

accepted_load : (delivery : Delivery) (bytes : LoadedValue → ℕ → List ℕ) (loading : Result LoadedValue (Stop Refusal)) (accepted : Accepted) → and_then loading (λ loaded. delivered delivery (bytes loaded) loaded) ≡ Ok accepted →
    (loaded : LoadedValue) × (loading ≡ Ok loaded) × (accepted.enough ≡ (loaded_sizes loaded).enough)
accepted_load delivery bytes (Ok loaded) accepted e = (loaded, refl, enough_of (loaded_sizes loaded).enough (delivery.makes (bytes loaded) loaded) accepted e)
accepted_load delivery bytes (Err stop) accepted e = absurd (cc)

-- a stop of a step is one of the run
below_absent : {A : Type 0} (expected : Result A (Stop Refusal)) → from_below at_step expected ≡ Err absent → expected ≡ Err files.absent
below_absent (Ok value) e = absurd (cc)
below_absent (Err files.absent) e = refl
below_absent (Err (files.stopped refusal)) e = absurd (cc)

below_accepted : {A : Type 0} (expected : Result A (Stop Refusal)) (value : A) → from_below at_step expected ≡ Ok value → expected ≡ Ok value
below_accepted (Ok found) value e = let value_same : found ≡ value = cc in ap Ok value_same
below_accepted (Err stop) value e = absurd (cc)

-- where a zone is full, no file is absent
task_held : (wanted widest' : ℕ) (task : Task) (held : List File) → IsFullTask task held wanted widest' → task_verdict task held ≡ Err files.absent → ⊥
task_held wanted widest' (plain writes reads) held full e = full
task_held wanted widest' (over work) held full e =
    full_held work.level work.wads (work.files held) full
    (absent_load (load_in work.level work.wads (work.files held)) _ (λ loaded. delivers_held (work.delivery.makes (wad_bytes work.wads (work.files held) loaded.files.lumps) loaded) _) e)

pub run_held : (command : Option CommandValue) (held : List File) (wanted widest' : ℕ) → IfSome command (λ command. IsFullRun command held wanted widest') →
    and_then (else_usage command) (λ command. job_verdict (job_of command) held) ≡ Err absent → ⊥
run_held None held wanted widest' full e = cc
run_held (Some command) held wanted widest' full e = task_held wanted widest' (job_of command).task held full (below_absent (task_verdict (job_of command).task held) e)

-- a zone that is enough is not smaller
no_smaller : (zone enough due : ℕ) → zone < enough → due ≡ enough → due ≤ zone → ⊥
no_smaller zone enough due small same room = omega (arith, small, same, room)

-- a zone that is large enough for what is accepted is not full
task_room : (wanted widest' : ℕ) (task : Task) (held : List File) (accepted : Accepted) → IsFullTask task held wanted widest' → accepted.enough ≤ zone_of task → task_verdict task held ≡ Ok accepted → ⊥
task_room wanted widest' (plain writes reads) held accepted full room e = full
task_room wanted widest' (over work) held accepted full room e =
    let load_ok = accepted_load work.delivery (λ loaded. wad_bytes work.wads (work.files held) loaded.files.lumps) (load_in work.level work.wads (work.files held)) accepted e in
    no_smaller work.level.settings.zone (loaded_sizes load_ok.0).enough accepted.enough
    (full_small work.level work.wads (work.files held) load_ok.0 full load_ok.1) load_ok.2 room

pub run_room : (command : Option CommandValue) (held : List File) (accepted : Accepted) (wanted widest' : ℕ) →
    IfSome command (λ command. IsFullRun command held wanted widest') → IfSome command (λ command. accepted.enough ≤ zone_of (job_of command).task) → and_then (else_usage command) (λ command. job_verdict (job_of command) held) ≡ Ok accepted → ⊥
run_room None held accepted wanted widest' full room e = cc
run_room (Some command) held accepted wanted widest' full room e = task_room wanted widest' (job_of command).task held accepted full room (below_accepted (task_verdict (job_of command).task held) accepted e)
