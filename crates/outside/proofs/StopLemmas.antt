-- One step after another, where steps may ask for files.
use Rattle.std.proofs.Common.{◌≡◌, ℕ, Bool, true, List, Option, Some, None, Result, Ok, Err, IsErrAnd, IsSome, IsOk, IsTrue, refl}
use Rattle.std.proofs.lemmas.Result.{err_from_is_err_and}
use Rattle.outside.specs.declared.fault.Fault.{Fault}
use Rattle.outside.specs.declared.fault.Fault.TheVariants.{Refused, ReadFault, ZoneFull, OutOfMemory}
use Rattle.outside.specs.Faults.{and_then, FaultFits, ResultIs}
use Rattle.outside.specs.Stops.{Stop, else_absent, no_file, FaultFitsOrAbsent, ResultIsOrAbsent}

-- a step that stops stops all
pub stops_all : {A C R : Type 0} (steady : Bool) (first : Result C (Stop R)) (next : C → Result A (Stop R)) (fault : Fault R) →
    FaultFitsOrAbsent steady first fault → FaultFitsOrAbsent steady (and_then first next) fault
stops_all steady first next (Refused reason) h = rw h refl
stops_all steady first next ReadFault h = λ holds. rw (h holds) refl
stops_all steady first next (ZoneFull wanted widest) h = tt
stops_all steady first next OutOfMemory h = tt

-- a step was passed
pub step_passed : {A B C R E : Type 0} {fault_of : E → Fault R} {steady later : Bool} {value : B → A} {result : Result B E} (first : Result C (Stop R)) (next : C → Result A (Stop R)) (found : C) →
    first ≡ Ok found → later ≡ steady → ResultIsOrAbsent fault_of later value (next found) result → ResultIsOrAbsent fault_of steady value (and_then first next) result
step_passed first next found e s agrees = rw (e, ← s) agrees

-- a step has stopped the call
pub step_stops : {A B C D R E : Type 0} {fault_of : E → Fault R} {steady later : Bool} {v : D → C} {value : B → A} {first : Result C (Stop R)} {r : Result D E} (next : C → Result A (Stop R)) (fault : E) (result : Result B E) →
    ResultIsOrAbsent fault_of later v first r → r ≡ Err fault → later ≡ steady → IsErrAnd result (λ e. e ≡ fault) → ResultIsOrAbsent fault_of steady value (and_then first next) result
step_stops {A} {B} {C} {D} {R} {E} {fault_of} {steady} {later} {v} {value} {first} {r} next fault result agrees was s is =
    let error_is : (y : E) × (result ≡ Err y) × (y ≡ fault) = err_from_is_err_and result is in
    let step_fault_fits : FaultFitsOrAbsent later first (fault_of fault) = rw was at agrees.err in
    let fault_fits : FaultFitsOrAbsent steady (and_then first next) (fault_of error_is.0)
    = rw (error_is.2, ← s) (stops_all later first next (fault_of fault) step_fault_fits) in
    rw error_is.1 (record { ok = tt; err = fault_fits })

-- what bytes tell is fault_of of the steps that ask for no file
pub told_stops : {A R : Type 0} (steady : Bool) (expected : Result A R) (fault : Fault R) → FaultFits steady expected fault → FaultFitsOrAbsent steady (no_file expected) fault
told_stops steady expected (Refused reason) h = rw h refl
told_stops steady expected ReadFault h = λ holds. absurd (h holds)
told_stops steady expected (ZoneFull wanted widest) h = tt
told_stops steady expected OutOfMemory h = tt

-- steps that ask for no file
pub no_file_agrees : {A B R E : Type 0} {fault_of : E → Fault R} {steady : Bool} {value : B → A} (expected : Result A R) (result : Result B E) →
    ResultIs fault_of steady value expected result → ResultIsOrAbsent fault_of steady value (no_file expected) result
no_file_agrees {value} expected (Ok found) answers = record { ok = rw answers.ok refl; err = tt }
no_file_agrees {fault_of} {steady} expected (Err fault) answers = record { ok = tt; err = told_stops steady expected (fault_of fault) answers.err }

-- a file is held, and the steps over its bytes follow
pub file_agrees : {A B R E : Type 0} {fault_of : E → Fault R} {steady later : Bool} {value : B → A} (file : Option (List ℕ)) (next : List ℕ → Result A R) (result : Result B E) →
    IsSome file → later ≡ steady → ((bytes : List ℕ) → file ≡ Some bytes → ResultIs fault_of later value (next bytes) result) →
    ResultIsOrAbsent fault_of steady value (and_then (else_absent file) (λ bytes. no_file (next bytes))) result
file_agrees None next result there same answers = absurd (cc)
file_agrees {A} {B} {R} {E} {fault_of} {steady} {later} {value} (Some bytes) next result there same answers =
    rw (← same) (no_file_agrees (next bytes) result (answers bytes refl))

-- a call that failed did not find the file
pub not_held : {D F : Type 0} (file : Option (List ℕ)) (r : Result D F) (failed : F) → (IsSome file → IsOk r) → r ≡ Err failed → file ≡ None
not_held None r failed there was = refl
not_held (Some bytes) r failed there was = absurd (let failure_is_ok = rw was at (there refl) in cc)

-- a file was asked for, and the call failed
pub absent_agrees : {A B D R E F : Type 0} {fault_of : E → Fault R} {steady : Bool} {value : B → A} (file : Option (List ℕ)) (next : List ℕ → Result A (Stop R)) (fault : E) (r : Result D F) (failed : F) (result : Result B E) →
    (IsTrue steady → IsSome file → IsOk r) → r ≡ Err failed → fault_of fault ≡ ReadFault → IsErrAnd result (λ e. e ≡ fault) →
    ResultIsOrAbsent fault_of steady value (and_then (else_absent file) next) result
absent_agrees {A} {B} {D} {R} {E} {F} {fault_of} {steady} {value} file next fault r failed result there was tells is =
    let error_is : (y : E) × (result ≡ Err y) × (y ≡ fault) = err_from_is_err_and result is in
    let fault_fits : FaultFitsOrAbsent steady (and_then (else_absent file) next) (fault_of error_is.0) = rw (error_is.2, tells) (λ holds. rw (not_held file r failed (there holds) was) refl) in
    rw error_is.1 (record { ok = tt; err = fault_fits })

-- what is fault_of of steps that read nothing
unread_stops : {A R : Type 0} (steady : Bool) (expected : Result A R) (fault : Fault R) → FaultFits true expected fault → FaultFitsOrAbsent steady (no_file expected) fault
unread_stops steady expected (Refused reason) h = rw h refl
unread_stops steady expected ReadFault h = λ holds. absurd (h refl)
unread_stops steady expected (ZoneFull wanted widest) h = tt
unread_stops steady expected OutOfMemory h = tt

-- steps that read nothing
pub unread_agrees : {A B R E : Type 0} {fault_of : E → Fault R} {steady : Bool} {value : B → A} (expected : Result A R) (result : Result B E) →
    ResultIs fault_of true value expected result → ResultIsOrAbsent fault_of steady value (no_file expected) result
unread_agrees {value} expected (Ok found) answers = record { ok = rw answers.ok refl; err = tt }
unread_agrees {fault_of} {steady} expected (Err fault) answers = record { ok = tt; err = unread_stops steady expected (fault_of fault) answers.err }

-- all steps were passed
pub all_passed : {A B R E : Type 0} {fault_of : E → Fault R} {steady : Bool} {value : B → A} (expected : Result A (Stop R)) (found : B) →
    expected ≡ Ok (value found) → ResultIsOrAbsent {E = E} fault_of steady value expected (Ok found)
all_passed expected found e = record { ok = e; err = tt }
