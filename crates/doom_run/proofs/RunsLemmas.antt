-- What the run of words says, whether they are a command or not.
use Rattle.picture_rules.proofs.Common.{[], ap, Bool, Err, false, IfSome, inl, inr, IsTrue, List, None, Ok, Option, option_map_or, refl, Result, Some, ℕ, ◌≡◌, ◌≤◌, ◌⊎◌}
use Rattle.doom_run.specs.Rules.{CommandValue, FaultsRose, File, Grew, Holds, ShelfView, Stop, and_then, from_below}
use Rattle.refusals.specs.declared.refusal.Refusal.{Refusal}
use Rattle.job_files.specs.declared.status.Status.{Status}
use Rattle.job_files.specs.declared.status.Status.TheVariants.{Usage, ReadFault, WriteFault, ZoneFull, OutOfMemory}
use Rattle.doom_run.specs.Ends.{EndsAt, IsEnd, IsReadOrFull, IsUnwritten}
use Rattle.doom_run.specs.{Fulls.IsFullRun, Jobs.job_of, Leasts.command_least, Leasts.command_zone}
use Rattle.doom_run.specs.{Performs.RunsAs, Steps.at_step, Steps.else_usage, Steps.usage}
use Rattle.doom_run.specs.Takes.{CommandTakes}
use Rattle.doom_run.specs.Verdict.{Accepted, job_verdict, task_verdict}
use Rattle.doom_run.specs.Words.{has_zone}

-- no job comes to Usage
never_usage : {A : Type 0} (expected : Result A (Stop Refusal)) → from_below at_step expected ≡ Err usage → ⊥
never_usage (Ok value) e = cc
never_usage (Err stop) e = cc

-- words that are no command
module _ (status : Status) (none : (status ≡ Usage) ⊎ (status ≡ OutOfMemory)) where
  none_ends : (steady : Bool) (old new : List ℕ → Type 0) → EndsAt steady (Err usage) old new status
  none_ends steady old new = elim none [
    | inl e ↦ rw e refl
    | inr e ↦ rw e tt
  ]

  -- the status is neither of these
  none_is : (other : Status) → (Usage ≡ other → ⊥) → (OutOfMemory ≡ other → ⊥) → status ≡ other → ⊥
  none_is other first second is = elim none [
    | inl e ↦ first (rw e at is)
    | inr e ↦ second (rw e at is)
  ]

  no_end : IsEnd status → ⊥
  no_end end = elim none [
    | inl e ↦ (rw e at end)
    | inr e ↦ (rw e at end)
  ]

-- where the words ask for files, the shelf holds these
abbrev HoldsFor : ShelfView → Option CommandValue → List File → Type 0
HoldsFor view command held = IsTrue (option_map_or (λ c. (job_of c).asks) command false) → Holds view held

module _ {before after : ShelfView} {old new : List ℕ → Type 0} {faults later : ℕ} {status : Status} where
  pub runs_ends : (command : Option CommandValue) → RunsAs command before after old new faults later status → (held : List File) → HoldsFor before command held → EndsAt before.steady (and_then (else_usage command) (λ c. job_verdict (job_of c) held)) old new status
  runs_ends None runs held holds = none_ends status runs.runs.0 before.steady old new
  runs_ends (Some command) runs held holds = (runs.runs.tells held holds).ends

  pub runs_unwritten : (command : Option CommandValue) → RunsAs command before after old new faults later status → IsUnwritten status → Grew old new []
  runs_unwritten None runs is = runs.runs.1
  runs_unwritten (Some command) runs is = runs.runs.behaves.unwritten is

  pub runs_unread : (command : Option CommandValue) → RunsAs command before after old new faults later status → option_map_or (λ c. (job_of c).reads_on) command false ≡ false → IsReadOrFull status → Grew old new []
  runs_unread None runs none is = runs.runs.1
  runs_unread (Some command) runs none is = runs.runs.behaves.unread none is

  pub runs_usage : (command : Option CommandValue) → RunsAs command before after old new faults later status → (held : List File) → status ≡ Usage → and_then {B = Accepted} (else_usage command) (λ c. job_verdict (job_of c) held) ≡ Err usage
  runs_usage None runs held is = refl
  runs_usage (Some command) runs held is = absurd (runs.runs.behaves.not_usage is)

  pub runs_wrong : (command : Option CommandValue) → RunsAs command before after old new faults later status → (held : List File) → and_then {B = Accepted} (else_usage command) (λ c. job_verdict (job_of c) held) ≡ Err usage → (status ≡ Usage) ⊎ (status ≡ OutOfMemory)
  runs_wrong None runs held e = runs.runs.0
  runs_wrong (Some command) runs held e = absurd (never_usage (task_verdict (job_of command).task held) e)

  pub runs_read_fault : (command : Option CommandValue) → RunsAs command before after old new faults later status → status ≡ ReadFault → FaultsRose before.faults after.faults
  runs_read_fault None runs is = absurd (none_is status runs.runs.0 ReadFault (λ e. cc) (λ e. cc) is)
  runs_read_fault (Some command) runs is = runs.runs.behaves.read_fault is

  pub runs_write_fault : (command : Option CommandValue) → RunsAs command before after old new faults later status → status ≡ WriteFault → FaultsRose faults later
  runs_write_fault None runs is = absurd (none_is status runs.runs.0 WriteFault (λ e. cc) (λ e. cc) is)
  runs_write_fault (Some command) runs is = runs.runs.behaves.write_fault is

  pub runs_read_settled : (command : Option CommandValue) → RunsAs command before after old new faults later status → (status ≡ ReadFault → ⊥) → after.faults ≡ before.faults
  runs_read_settled None runs other = ap (λ (view : ShelfView). view.faults) (runs.untouched refl)
  runs_read_settled (Some command) runs other = runs.runs.behaves.read_settled other

  pub runs_write_settled : (command : Option CommandValue) → RunsAs command before after old new faults later status → (status ≡ WriteFault → ⊥) → later ≡ faults
  runs_write_settled None runs other = runs.runs.2
  runs_write_settled (Some command) runs other = runs.runs.behaves.write_settled other

  pub runs_asked : (command : Option CommandValue) → RunsAs command before after old new faults later status → status ≡ ReadFault → IsTrue (option_map_or (λ c. (job_of c).asks) command false)
  runs_asked None runs is = absurd (none_is status runs.runs.0 ReadFault (λ e. cc) (λ e. cc) is)
  runs_asked (Some command) runs is = runs.runs.asked is

  pub runs_zoned : (command : Option CommandValue) → RunsAs command before after old new faults later status → (wanted widest : ℕ) → status ≡ ZoneFull wanted widest → IsTrue (option_map_or (λ c. has_zone (job_of c).task) command false)
  runs_zoned None runs wanted widest is = absurd (none_is status runs.runs.0 (ZoneFull wanted widest) (λ e. cc) (λ e. cc) is)
  runs_zoned (Some command) runs wanted widest is = runs.runs.zoned wanted widest is

  pub runs_full : (command : Option CommandValue) → RunsAs command before after old new faults later status → (held : List File) (wanted widest : ℕ) → status ≡ ZoneFull wanted widest → HoldsFor before command held → IfSome command (λ c. IsFullRun c held wanted widest)
  runs_full None runs held wanted widest is holds = absurd (none_is status runs.runs.0 (ZoneFull wanted widest) (λ e. cc) (λ e. cc) is)
  runs_full (Some command) runs held wanted widest is holds = (runs.runs.tells held holds).zone_full wanted widest is

  pub runs_least : (command : Option CommandValue) → RunsAs command before after old new faults later status → (held : List File) → IsEnd status → HoldsFor before command held → IfSome command (λ c. command_least c held ≤ command_zone c)
  runs_least None runs held is holds = absurd (no_end status runs.runs.0 is)
  runs_least (Some command) runs held is holds = (runs.runs.tells held holds).least is

  pub runs_taken : (command : Option CommandValue) → RunsAs command before after old new faults later status → (held : List File) → HoldsFor before command held → (status ≡ ReadFault → ⊥) → IfSome command (λ c. CommandTakes c held before.taken after.taken)
  runs_taken None runs held holds calm = tt
  runs_taken (Some command) runs held holds calm = (runs.runs.tells held holds).reads calm
