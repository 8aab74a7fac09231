-- What a status says of a run, by what its steps gave.
use Rattle.picture_rules.proofs.Common.{[], ap, Bool, Err, List, MatchResult, Ok, Option, refl, Result, Some, subst, sym, unwrap_or, ℕ, ◌≡◌}
use Rattle.doom_run.specs.Rules.{Fault, FaultFitsOrAbsent, File, Grew, GrewByPrefix, LevelJobValue, LimitKind, Stop, from_below}
use Rattle.art_rules.specs.Fault.TheVariants as fault
use Rattle.art_rules.proofs.Laws.{and_then-ok, prefix_of_none}
use Rattle.refusals.specs.declared.refusal.Refusal.{Refusal}
use Rattle.job_files.specs.{Files.files_in, Files.files_named, Sizes.wad_contents}
use Rattle.level_audit.specs.scene_load.Loads.{LoadedValue, load_in}
use Rattle.job_files.proofs.AcceptedLemmas.{wads_accepted}
use Rattle.job_files.specs.declared.status.Status.{Status}
use Rattle.job_files.specs.declared.status.Status.TheVariants.{Done, Usage, Refused, ReadFault, WriteFault, Limit, ZoneFull, OutOfMemory}
use Rattle.job_files.specs.Statuses.{DeliversBytes, status_of}
use Rattle.doom_run.specs.Ends.{DeliversAt, EndsAt, IsDelivered, IsEnd, IsReadOrFull, IsUnwritten, RendersAt, StopsWith}
use Rattle.doom_run.specs.{Jobs.Written, Jobs.done, Steps.RunStop, Steps.at_step}
use Rattle.doom_run.specs.Verdict.{Accepted, accepted_in}

-- where nothing was written a run may stop, whatever its verdict
pub none_stops : (verdict : Result Accepted RunStop) (old new : List ℕ → Type 0) → Grew old new [] → StopsWith verdict old new
none_stops (Ok accepted) old new none = record { written = prefix_of_none _ none }
none_stops (Err stop) old new none = record { written = none }

-- where the verdict accepts, it may stop with a prefix of the output
prefix_stops : (verdict : Result Accepted RunStop) (accepted : Accepted) (old new : List ℕ → Type 0) → verdict ≡ Ok accepted → GrewByPrefix old new accepted.output → StopsWith verdict old new
prefix_stops verdict accepted old new is prefix = record {
  written = subst (λ (v : Result Accepted RunStop). MatchResult v (λ a. GrewByPrefix old new a.output) (λ stop. Grew old new [])) (sym is) prefix;
}

-- what an accepted run comes to, by what was written of all that is due
pub renders_end : (steady : Bool) (verdict : Result Accepted RunStop) (enough : ℕ) (due : Written) (old new : List ℕ → Type 0) (status : Status) →
    verdict ≡ Ok (accepted_in enough due) → RendersAt steady due old new status → EndsAt steady verdict old new status
renders_end steady verdict enough due old new Done is d = record { accepted = accepted_in enough due; is = is; due = d.0; written = d.1 }
renders_end steady verdict enough due old new Usage is d = absurd d
renders_end steady verdict enough due old new (Refused refusal) is d = absurd d
renders_end steady verdict enough due old new ReadFault is d = (λ holds. absurd (d.0 holds), prefix_stops verdict (accepted_in enough due) old new is d.1)
renders_end steady verdict enough due old new WriteFault is d = record { accepted = accepted_in enough due; is = is; written = d }
renders_end steady verdict enough due old new (Limit view kind count) is d = record { accepted = accepted_in enough due; is = is; due = d.0; written = d.1 }
renders_end steady verdict enough due old new (ZoneFull wanted widest) is d = prefix_stops verdict (accepted_in enough due) old new is d
renders_end steady verdict enough due old new OutOfMemory is d = absurd d

-- what is written without reading on
pub delivers_render : (steady : Bool) (due : Written) (old new : List ℕ → Type 0) (status : Status) → DeliversAt due old new status → RendersAt steady due old new status
delivers_render steady due old new Done d = d
delivers_render steady due old new Usage d = d
delivers_render steady due old new (Refused refusal) d = d
delivers_render steady due old new ReadFault d = absurd d
delivers_render steady due old new WriteFault d = d
delivers_render steady due old new (Limit view kind count) d = d
delivers_render steady due old new (ZoneFull wanted widest) d = absurd d
delivers_render steady due old new OutOfMemory d = d

-- bytes are written
pub bytes_deliver : (bytes : List ℕ) (old new : List ℕ → Type 0) (status : Status) → DeliversBytes bytes old new status → DeliversAt (done bytes) old new status
bytes_deliver bytes old new Done d = (refl, d)
bytes_deliver bytes old new Usage d = d
bytes_deliver bytes old new (Refused refusal) d = d
bytes_deliver bytes old new ReadFault d = d
bytes_deliver bytes old new WriteFault d = d
bytes_deliver bytes old new (Limit view kind count) d = absurd d
bytes_deliver bytes old new (ZoneFull wanted widest) d = d
bytes_deliver bytes old new OutOfMemory d = d

-- what a run comes to whose first steps have stopped
pub fault_end : (steady : Bool) (expected : Result Accepted (Stop Refusal)) (old new : List ℕ → Type 0) (stop : Fault Refusal) →
    FaultFitsOrAbsent steady expected stop → Grew old new [] → EndsAt steady (from_below at_step expected) old new (status_of stop)
fault_end steady expected old new (fault.Refused refusal) fits none = rw fits refl
fault_end steady expected old new fault.ReadFault fits none = (λ holds. rw (fits holds) refl, none_stops _ old new none)
fault_end steady expected old new (fault.ZoneFull wanted widest) fits none = none_stops _ old new none
fault_end steady expected old new fault.OutOfMemory fits none = tt

-- the bytes of the WADs of what was loaded
pub record AreNamed (wads : List (List ℕ)) (held : List File) : Type 0 where
  pub contents : List (List ℕ)
  pub named : files_named wads held ≡ Some contents
  pub are : wad_contents wads held ≡ contents

pub loaded_named : (level : LevelJobValue) (wads : List (List ℕ)) (held : List File) (loaded : LoadedValue) → load_in level wads held ≡ Ok loaded → AreNamed wads held
unfolding load_in
loaded_named level wads held loaded e =
    let files_ok = and_then-ok (files_in level.files wads level.settings held) _ loaded e in
    let files_listed = wads_accepted level.files wads level.settings held files_ok.0 files_ok.1 in
    record { contents = files_listed.contents; named = files_listed.named; are = ap (λ (c : Option (List (List ℕ))). unwrap_or c []) files_listed.named }

-- a delivery is done, failed to write, or met a limit: what holds of none of these holds of no delivery
delivers_none : (P : Status → Type 0) → (P Done → ⊥) → (P WriteFault → ⊥) → ((view : ℕ) (kind : LimitKind) (count : ℕ) → P (Limit view kind count) → ⊥) →
    (due : Written) (old new : List ℕ → Type 0) (status : Status) → DeliversAt due old new status → P status → ⊥
delivers_none P done failed over due old new Done d is = done is
delivers_none P done failed over due old new Usage d is = d
delivers_none P done failed over due old new (Refused refusal) d is = d
delivers_none P done failed over due old new ReadFault d is = d
delivers_none P done failed over due old new WriteFault d is = failed is
delivers_none P done failed over due old new (Limit view kind count) d is = over view kind count is
delivers_none P done failed over due old new (ZoneFull wanted widest) d is = d
delivers_none P done failed over due old new OutOfMemory d is = d

-- a delivery tells no stop before it, no read fault and no full zone
pub delivers_more : (due : Written) (old new : List ℕ → Type 0) (status : Status) → DeliversAt due old new status → IsUnwritten status → ⊥
delivers_more due old new status = delivers_none IsUnwritten (λ is. is) (λ is. is) (λ view kind count is. is) due old new status

pub delivers_all : (due : Written) (old new : List ℕ → Type 0) (status : Status) → DeliversAt due old new status → IsReadOrFull status → ⊥
delivers_all due old new status = delivers_none IsReadOrFull (λ is. is) (λ is. is) (λ view kind count is. is) due old new status

-- nor do frames that are delivered tell such a stop
pub frames_more : (status : Status) → IsDelivered status → IsUnwritten status → ⊥
frames_more Done d is = is
frames_more Usage d is = d
frames_more (Refused refusal) d is = d
frames_more ReadFault d is = is
frames_more WriteFault d is = is
frames_more (Limit view kind count) d is = is
frames_more (ZoneFull wanted widest) d is = is
frames_more OutOfMemory d is = d

-- nor does a fault
pub fault_no_end : (stop : Fault Refusal) → IsEnd (status_of stop) → ⊥
fault_no_end (fault.Refused refusal) end = end
fault_no_end fault.ReadFault end = end
fault_no_end (fault.ZoneFull wanted widest) end = end
fault_no_end fault.OutOfMemory end = end
