-- What a status says of a run.
use Rattle.std.specs.Prelude.{◌≡◌, ℕ, Bool, IsTrue, List, [], MatchResult, Result, Ok, Err}
use Rattle.doom_run.specs.Rules.{FaultsRose, Grew, GrewByPrefix}
use Rattle.job_files.specs.declared.status.Status.{Status}
use Rattle.job_files.specs.declared.status.Status.TheVariants.{Done, Usage, Refused, ReadFault, WriteFault, Limit, ZoneFull, OutOfMemory}
use Rattle.doom_run.specs.{Steps.RunStop, Steps.usage, Steps.absent, Steps.refused, Jobs.Written}
use Rattle.doom_run.specs.Verdict.{Accepted}

-- The verdict accepts, the status is the end that is due, and the output was written to its last byte.
pub record EndsWith (verdict : Result Accepted RunStop) (old new : List ℕ → Type 0) (status : Status) : Type 0 where
  pub accepted : Accepted
  pub is : verdict ≡ Ok accepted
  pub due : accepted.end ≡ status
  pub written : Grew old new accepted.output

-- The verdict accepts, and a prefix of the output was written.
pub record FailsWith (verdict : Result Accepted RunStop) (old new : List ℕ → Type 0) : Type 0 where
  pub accepted : Accepted
  pub is : verdict ≡ Ok accepted
  pub written : GrewByPrefix old new accepted.output

-- Of an accepted run a prefix of the output was written, of another nothing.
pub record StopsWith (verdict : Result Accepted RunStop) (old new : List ℕ → Type 0) : Type 0 where
  pub written : MatchResult verdict (λ accepted. GrewByPrefix old new accepted.output) (λ stop. Grew old new [])

-- The verdict, and what was written, by the status. When a zone is full is told by IsFullRun.
abbrev pub EndsAt : Bool → Result Accepted RunStop → (List ℕ → Type 0) → (List ℕ → Type 0) → Status → Type 0
EndsAt steady verdict old new Done = EndsWith verdict old new Done
EndsAt steady verdict old new Usage = verdict ≡ Err usage
EndsAt steady verdict old new (Refused refusal) = verdict ≡ Err (refused refusal)
EndsAt steady verdict old new ReadFault = (IsTrue steady → verdict ≡ Err absent) × StopsWith verdict old new
EndsAt steady verdict old new WriteFault = FailsWith verdict old new
EndsAt steady verdict old new (Limit view kind count) = EndsWith verdict old new (Limit view kind count)
EndsAt steady verdict old new (ZoneFull wanted widest) = StopsWith verdict old new
EndsAt steady verdict old new OutOfMemory = Unit {0}

-- what was written of all that is due, by the status that writing it gives
abbrev pub DeliversAt : Written → (List ℕ → Type 0) → (List ℕ → Type 0) → Status → Type 0
DeliversAt due old new Done = (due.end ≡ Done) × Grew old new due.output
DeliversAt due old new Usage = ⊥
DeliversAt due old new (Refused refusal) = ⊥
DeliversAt due old new ReadFault = ⊥
DeliversAt due old new WriteFault = GrewByPrefix old new due.output
DeliversAt due old new (Limit view kind count) = (due.end ≡ Limit view kind count) × Grew old new due.output
DeliversAt due old new (ZoneFull wanted widest) = ⊥
DeliversAt due old new OutOfMemory = ⊥

-- the same of a call that writes: a write fault comes only from the object that counted it, which counts nothing else
pub record WritesDue (due : Written) (old new : List ℕ → Type 0) (faults later : ℕ) (status : Status) : Type 0 where
  pub ends : DeliversAt due old new status
  pub write_fault : status ≡ WriteFault → FaultsRose faults later
  pub write_settled : (status ≡ WriteFault → ⊥) → later ≡ faults

-- what was written by the status of a job that reads on while it writes: over a steady shelf no read fails
abbrev pub RendersAt : Bool → Written → (List ℕ → Type 0) → (List ℕ → Type 0) → Status → Type 0
RendersAt steady due old new Done = (due.end ≡ Done) × Grew old new due.output
RendersAt steady due old new Usage = ⊥
RendersAt steady due old new (Refused refusal) = ⊥
RendersAt steady due old new ReadFault = (IsTrue steady → ⊥) × GrewByPrefix old new due.output
RendersAt steady due old new WriteFault = GrewByPrefix old new due.output
RendersAt steady due old new (Limit view kind count) = (due.end ≡ Limit view kind count) × Grew old new due.output
RendersAt steady due old new (ZoneFull wanted widest) = GrewByPrefix old new due.output
RendersAt steady due old new OutOfMemory = ⊥

-- a status with which a run ends that was accepted and in which nothing failed
abbrev pub IsEnd : Status → Type 0
IsEnd Done = Unit {0}
IsEnd Usage = ⊥
IsEnd (Refused refusal) = ⊥
IsEnd ReadFault = ⊥
IsEnd WriteFault = ⊥
IsEnd (Limit view kind count) = Unit {0}
IsEnd (ZoneFull wanted widest) = ⊥
IsEnd OutOfMemory = ⊥

-- a status that comes before anything is written, whatever the job
abbrev pub IsUnwritten : Status → Type 0
IsUnwritten Done = ⊥
IsUnwritten Usage = Unit {0}
IsUnwritten (Refused refusal) = Unit {0}
IsUnwritten ReadFault = ⊥
IsUnwritten WriteFault = ⊥
IsUnwritten (Limit view kind count) = ⊥
IsUnwritten (ZoneFull wanted widest) = ⊥
IsUnwritten OutOfMemory = Unit {0}

-- a read fault or a full zone, which come before anything is written but for a job that reads on
abbrev pub IsReadOrFull : Status → Type 0
IsReadOrFull Done = ⊥
IsReadOrFull Usage = ⊥
IsReadOrFull (Refused refusal) = ⊥
IsReadOrFull ReadFault = Unit {0}
IsReadOrFull WriteFault = ⊥
IsReadOrFull (Limit view kind count) = ⊥
IsReadOrFull (ZoneFull wanted widest) = Unit {0}
IsReadOrFull OutOfMemory = ⊥

-- a status that delivering frames can come to
abbrev pub IsDelivered : Status → Type 0
IsDelivered Done = Unit {0}
IsDelivered Usage = ⊥
IsDelivered (Refused refusal) = ⊥
IsDelivered ReadFault = Unit {0}
IsDelivered WriteFault = Unit {0}
IsDelivered (Limit view kind count) = Unit {0}
IsDelivered (ZoneFull wanted widest) = Unit {0}
IsDelivered OutOfMemory = ⊥
