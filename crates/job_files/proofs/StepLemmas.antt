-- One step of a job after another.
use Rattle.picture_rules.proofs.Common.{Bool, Err, err_from_is_err_and, IsErrAnd, refl, Result, subst, ℕ, ◌≡◌}
use Rattle.art_rules.specs.Words.{and_then, Fault, FaultFits, itself, ResultIs}
use Rattle.art_rules.specs.Fault.TheVariants as fault
use Rattle.lump_cache.specs.Calls.{IfFull}
use Rattle.refusals.specs.declared.refusal.Refusal.{Refusal}
use Rattle.job_files.specs.{declared.status.Status.TheVariants.ZoneFull, Statuses.status_of}

stops_same : {A C R : Type 0} (steady : Bool) (first : Result C R) (next : C → Result A R) (below : Fault R) →
    FaultFits steady first below → FaultFits steady (and_then first next) below
stops_same steady first next (fault.Refused reason) h = rw h refl
stops_same steady first next fault.ReadFault h = h
stops_same steady first next (fault.ZoneFull wanted widest) h = tt
stops_same steady first next fault.OutOfMemory h = tt

-- a step of the same layer has stopped the call
pub stop_same : {A B C D R : Type 0} {steady later : Bool} {v : D → C} {value : B → A} {first : Result C R} {r : Result D (Fault R)} (next : C → Result A R) (below : Fault R) (result : Result B (Fault R)) →
    ResultIs itself later v first r → r ≡ Err below → later ≡ steady → IsErrAnd result (λ e. e ≡ below) → ResultIs itself steady value (and_then first next) result
stop_same {A} {B} {C} {D} {R} {steady} {later} {v} {value} {first} {r} next below result answers was s is =
    let error_is : (y : Fault R) × (result ≡ Err y) × (y ≡ below) = err_from_is_err_and result is in
    let first_fits : FaultFits later first below = rw was at answers.err in
    let whole_fits : FaultFits steady (and_then first next) (itself error_is.0) = rw (error_is.2, ← s) (stops_same later first next below first_fits) in
    rw error_is.1 (record { ok = tt; err = whole_fits })

-- where the status of a fault is a full zone, the fault tells of that zone
pub status_full : (P : ℕ → ℕ → Type 0) (below : Fault Refusal) (wanted widest : ℕ) → status_of below ≡ ZoneFull wanted widest → IfFull below P → P wanted widest
status_full P (fault.Refused refusal) wanted widest e h = absurd (cc)
status_full P fault.ReadFault wanted widest e h = absurd (cc)
status_full P (fault.ZoneFull asked gap) wanted widest e h =
    let asked_is_wanted : asked ≡ wanted = cc in
    let gap_is_widest : gap ≡ widest = cc in
    subst (λ (n : ℕ). P n widest) asked_is_wanted (subst (λ (n : ℕ). P asked n) gap_is_widest h)
status_full P fault.OutOfMemory wanted widest e h = absurd (cc)
