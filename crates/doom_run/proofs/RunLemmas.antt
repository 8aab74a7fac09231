-- What a status tells of the output, and what a verdict tells of the status.
use Rattle.picture_rules.proofs.Common.{[], ap, Bool, Err, inl, inr, IsTrue, List, MatchResult, Ok, refl, Result, subst, sym, ℕ, ◌∙◌, ◌≡◌, ◌⊎◌}
use Rattle.doom_run.specs.Rules.{Grew, GrewByPrefix}
use Rattle.art_rules.proofs.Laws.{grew_whole, prefix_of_none}
use Rattle.refusals.specs.declared.refusal.Refusal.{Refusal}
use Rattle.job_files.specs.declared.status.Status.{Status}
use Rattle.job_files.specs.declared.status.Status.TheVariants.{Done, Usage, Refused, ReadFault, WriteFault, Limit, ZoneFull, OutOfMemory}
use Rattle.doom_run.specs.Ends.{EndsAt, EndsWith, IsEnd, IsUnwritten, StopsWith}
use Rattle.doom_run.specs.Steps.{RunStop, usage, absent, refused}
use Rattle.doom_run.specs.Verdict.{Accepted}

same_accepted : (verdict : Result Accepted RunStop) (p q : Accepted) → verdict ≡ Ok p → verdict ≡ Ok q → p ≡ q
same_accepted verdict p q a b = cc

-- after an end a prefix of the output was written, since all of it was
whole_at_end : (verdict : Result Accepted RunStop) (old new : List ℕ → Type 0) (status : Status) (accepted : Accepted) →
    EndsWith verdict old new status → verdict ≡ Ok accepted → GrewByPrefix old new accepted.output
whole_at_end verdict old new status accepted ends e =
    subst (λ (a : Accepted). GrewByPrefix old new a.output) (same_accepted verdict ends.accepted accepted ends.is e) (grew_whole ends.written)

-- where a run stops, a prefix of the output was written, or nothing where the verdict stops
stops_prefix : (verdict : Result Accepted RunStop) (old new : List ℕ → Type 0) (accepted : Accepted) → StopsWith verdict old new → verdict ≡ Ok accepted → GrewByPrefix old new accepted.output
stops_prefix verdict old new accepted stops e =
    subst (λ (v : Result Accepted RunStop). MatchResult v (λ a. GrewByPrefix old new a.output) (λ stop. Grew old new [])) e stops.written

stops_none : (verdict : Result Accepted RunStop) (old new : List ℕ → Type 0) (stop : RunStop) → StopsWith verdict old new → verdict ≡ Err stop → Grew old new []
stops_none verdict old new stop stops e =
    subst (λ (v : Result Accepted RunStop). MatchResult v (λ a. GrewByPrefix old new a.output) (λ stop. Grew old new [])) e stops.written

-- whatever the status, a prefix of the output was written
pub prefix_at_end : (steady : Bool) (verdict : Result Accepted RunStop) (old new : List ℕ → Type 0) (status : Status) (accepted : Accepted) →
    EndsAt steady verdict old new status → (IsUnwritten status → Grew old new []) → verdict ≡ Ok accepted → GrewByPrefix old new accepted.output
prefix_at_end steady verdict old new Done accepted ends unwritten e = whole_at_end verdict old new Done accepted ends e
prefix_at_end steady verdict old new Usage accepted ends unwritten e = prefix_of_none _ (unwritten tt)
prefix_at_end steady verdict old new (Refused refusal) accepted ends unwritten e = prefix_of_none _ (unwritten tt)
prefix_at_end steady verdict old new ReadFault accepted ends unwritten e = stops_prefix verdict old new accepted ends.1 e
prefix_at_end steady verdict old new WriteFault accepted ends unwritten e =
    subst (λ (a : Accepted). GrewByPrefix old new a.output) (same_accepted verdict ends.accepted accepted ends.is e) ends.written
prefix_at_end steady verdict old new (Limit view kind count) accepted ends unwritten e = whole_at_end verdict old new (Limit view kind count) accepted ends e
prefix_at_end steady verdict old new (ZoneFull wanted widest) accepted ends unwritten e = stops_prefix verdict old new accepted ends e
prefix_at_end steady verdict old new OutOfMemory accepted ends unwritten e = prefix_of_none _ (unwritten tt)

-- an end is that of the verdict
pub end_at : (steady : Bool) (verdict : Result Accepted RunStop) (old new : List ℕ → Type 0) (status : Status) →
    EndsAt steady verdict old new status → IsEnd status → EndsWith verdict old new status
end_at steady verdict old new Done ends is = ends
end_at steady verdict old new Usage ends is = absurd is
end_at steady verdict old new (Refused refusal) ends is = absurd is
end_at steady verdict old new ReadFault ends is = absurd is
end_at steady verdict old new WriteFault ends is = absurd is
end_at steady verdict old new (Limit view kind count) ends is = ends
end_at steady verdict old new (ZoneFull wanted widest) ends is = absurd is
end_at steady verdict old new OutOfMemory ends is = absurd is

accepts_or_stops : (verdict : Result Accepted RunStop) (accepted : Accepted) (stop : RunStop) → verdict ≡ Ok accepted → verdict ≡ Err stop → ⊥
accepts_or_stops verdict accepted stop a s = cc

-- where the verdict stops, nothing was written
pub stopped_at : (steady : Bool) (verdict : Result Accepted RunStop) (old new : List ℕ → Type 0) (status : Status) (stop : RunStop) →
    EndsAt steady verdict old new status → (IsUnwritten status → Grew old new []) → verdict ≡ Err stop → Grew old new []
stopped_at steady verdict old new Done stop ends unwritten e = absurd (accepts_or_stops verdict ends.accepted stop ends.is e)
stopped_at steady verdict old new Usage stop ends unwritten e = unwritten tt
stopped_at steady verdict old new (Refused refusal) stop ends unwritten e = unwritten tt
stopped_at steady verdict old new ReadFault stop ends unwritten e = stops_none verdict old new stop ends.1 e
stopped_at steady verdict old new WriteFault stop ends unwritten e = absurd (accepts_or_stops verdict ends.accepted stop ends.is e)
stopped_at steady verdict old new (Limit view kind count) stop ends unwritten e = absurd (accepts_or_stops verdict ends.accepted stop ends.is e)
stopped_at steady verdict old new (ZoneFull wanted widest) stop ends unwritten e = stops_none verdict old new stop ends e
stopped_at steady verdict old new OutOfMemory stop ends unwritten e = unwritten tt

not_usage : (verdict : Result Accepted RunStop) (refusal : Refusal) → verdict ≡ Err usage → verdict ≡ Err (refused refusal) → ⊥
not_usage verdict refusal u e = cc

same_refusal : (verdict : Result Accepted RunStop) (r s : Refusal) → verdict ≡ Err (refused r) → verdict ≡ Err (refused s) → Refused r ≡ Refused s
same_refusal verdict r s a b = cc

-- where the verdict refuses, that refusal comes, but for the faults
pub refusal_at : (steady : Bool) (verdict : Result Accepted RunStop) (old new : List ℕ → Type 0) (status : Status) (refusal : Refusal) →
    EndsAt steady verdict old new status → verdict ≡ Err (refused refusal) →
    (status ≡ Refused refusal) ⊎ (status ≡ ReadFault) ⊎ ((wanted : ℕ) × (widest : ℕ) × (status ≡ ZoneFull wanted widest)) ⊎ (status ≡ OutOfMemory)
refusal_at steady verdict old new Done refusal ends e = absurd (accepts_or_stops verdict ends.accepted (refused refusal) ends.is e)
refusal_at steady verdict old new Usage refusal ends e = absurd (not_usage verdict refusal ends e)
refusal_at steady verdict old new (Refused other) refusal ends e = inl (same_refusal verdict other refusal ends e)
refusal_at steady verdict old new ReadFault refusal ends e = inr (inl refl)
refusal_at steady verdict old new WriteFault refusal ends e = absurd (accepts_or_stops verdict ends.accepted (refused refusal) ends.is e)
refusal_at steady verdict old new (Limit view kind count) refusal ends e = absurd (accepts_or_stops verdict ends.accepted (refused refusal) ends.is e)
refusal_at steady verdict old new (ZoneFull wanted widest) refusal ends e = inr (inr (inl (wanted, widest, refl)))
refusal_at steady verdict old new OutOfMemory refusal ends e = inr (inr (inr refl))

not_absent : (verdict : Result Accepted RunStop) → verdict ≡ Err usage → verdict ≡ Err absent → ⊥
not_absent verdict u e = cc

not_refused : (verdict : Result Accepted RunStop) (refusal : Refusal) → verdict ≡ Err (refused refusal) → verdict ≡ Err absent → ⊥
not_refused verdict refusal r e = cc

-- where a file is absent, that is told as a read fault
pub absent_at : (steady : Bool) (verdict : Result Accepted RunStop) (old new : List ℕ → Type 0) (status : Status) →
    EndsAt steady verdict old new status → verdict ≡ Err absent → ((wanted widest : ℕ) → status ≡ ZoneFull wanted widest → ⊥) →
    (status ≡ ReadFault) ⊎ (status ≡ OutOfMemory)
absent_at steady verdict old new Done ends e full = absurd (accepts_or_stops verdict ends.accepted absent ends.is e)
absent_at steady verdict old new Usage ends e full = absurd (not_absent verdict ends e)
absent_at steady verdict old new (Refused refusal) ends e full = absurd (not_refused verdict refusal ends e)
absent_at steady verdict old new ReadFault ends e full = inl refl
absent_at steady verdict old new WriteFault ends e full = absurd (accepts_or_stops verdict ends.accepted absent ends.is e)
absent_at steady verdict old new (Limit view kind count) ends e full = absurd (accepts_or_stops verdict ends.accepted absent ends.is e)
absent_at steady verdict old new (ZoneFull wanted widest) ends e full = absurd (full wanted widest refl)
absent_at steady verdict old new OutOfMemory ends e full = inr refl

due_end : (verdict : Result Accepted RunStop) (old new : List ℕ → Type 0) (status : Status) (accepted : Accepted) →
    EndsWith verdict old new status → verdict ≡ Ok accepted → status ≡ accepted.end
due_end verdict old new status accepted ends e = sym ends.due ∙ ap (λ (a : Accepted). a.end) (same_accepted verdict ends.accepted accepted ends.is e)

-- an accepted run in which no fault stands and no zone is full comes to its end
pub complete_at : (steady : Bool) (verdict : Result Accepted RunStop) (old new : List ℕ → Type 0) (status : Status) (accepted : Accepted) →
    EndsAt steady verdict old new status → verdict ≡ Ok accepted → (status ≡ ReadFault → ⊥) → (status ≡ WriteFault → ⊥) → ((wanted widest : ℕ) → status ≡ ZoneFull wanted widest → ⊥) →
    (status ≡ accepted.end) ⊎ (status ≡ OutOfMemory)
complete_at steady verdict old new Done accepted ends e read write full = inl (due_end verdict old new Done accepted ends e)
complete_at steady verdict old new Usage accepted ends e read write full = absurd (accepts_or_stops verdict accepted usage e ends)
complete_at steady verdict old new (Refused refusal) accepted ends e read write full = absurd (accepts_or_stops verdict accepted (refused refusal) e ends)
complete_at steady verdict old new ReadFault accepted ends e read write full = absurd (read refl)
complete_at steady verdict old new WriteFault accepted ends e read write full = absurd (write refl)
complete_at steady verdict old new (Limit view kind count) accepted ends e read write full = inl (due_end verdict old new (Limit view kind count) accepted ends e)
complete_at steady verdict old new (ZoneFull wanted widest) accepted ends e read write full = absurd (full wanted widest refl)
complete_at steady verdict old new OutOfMemory accepted ends e read write full = inr refl

-- over a steady shelf an accepted run meets no read fault
pub steady_reads : (steady : Bool) (verdict : Result Accepted RunStop) (old new : List ℕ → Type 0) (status : Status) (accepted : Accepted) →
    EndsAt steady verdict old new status → verdict ≡ Ok accepted → (status ≡ ReadFault → IsTrue steady) → status ≡ ReadFault → ⊥
steady_reads steady verdict old new status accepted ends e holds is =
    let ends_read_fault : EndsAt steady verdict old new ReadFault = rw is at ends in
    accepts_or_stops verdict accepted absent e (ends_read_fault.0 (holds is))
