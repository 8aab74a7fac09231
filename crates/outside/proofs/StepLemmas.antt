-- One step after another.
use Rattle.std.proofs.Common.{◌≡◌, Bool, Result, Ok, Err, IsErrAnd, refl}
use Rattle.std.proofs.lemmas.Result.{err_from_is_err_and}
use Rattle.outside.specs.declared.fault.Fault.{Fault}
use Rattle.outside.specs.declared.fault.Fault.TheVariants.{Refused, ReadFault, ZoneFull, OutOfMemory}
use Rattle.outside.specs.Faults.{fault_above, from_below, and_then, FaultFits, ResultIs}

-- a step was passed
pub step : {A B C R E : Type 0} {fault_of : E → Fault R} {steady later : Bool} {value : B → A} {result : Result B E} (first : Result C R) (next : C → Result A R) (found : C) →
    first ≡ Ok found → later ≡ steady → ResultIs fault_of later value (next found) result → ResultIs fault_of steady value (and_then first next) result
step first next found e s answers = rw (e, ← s) answers

stops : {A C R Q : Type 0} (f : R → Q) (steady : Bool) (first : Result C R) (next : C → Result A Q) (fault : Fault R) →
    FaultFits steady first fault → FaultFits steady (and_then (from_below f first) next) (fault_above f fault)
stops f steady first next (Refused reason) h = rw h refl
stops f steady first next ReadFault h = h
stops f steady first next (ZoneFull wanted widest) h = tt
stops f steady first next OutOfMemory h = tt

-- a step of a layer below has stopped the call
pub stop : {A B C D R Q E F : Type 0} {fault_of : E → Fault R} {above : F → Fault Q} {steady : Bool} {v : D → C} {value : B → A} {first : Result C R} {r : Result D E}
    (f : R → Q) (convert : E → F) → ((x : E) → above (convert x) ≡ fault_above f (fault_of x)) → (next : C → Result A Q) (fault : E) (result : Result B F) →
    ResultIs fault_of steady v first r → r ≡ Err fault → IsErrAnd result (λ e. e ≡ convert fault) → ResultIs above steady value (and_then (from_below f first) next) result
stop {A} {B} {C} {D} {R} {Q} {E} {F} {fault_of} {above} {steady} {v} {value} {first} {r} f convert tells next fault result answers was is =
    let error_is : (y : F) × (result ≡ Err y) × (y ≡ convert fault) = err_from_is_err_and result is in
    let step_fault_fits : FaultFits steady first (fault_of fault) = rw was at answers.err in
    let fault_fits : FaultFits steady (and_then (from_below f first) next) (above error_is.0)
    = rw (error_is.2, tells fault) (stops f steady first next (fault_of fault) step_fault_fits) in
    rw error_is.1 (record { ok = tt; err = fault_fits })

last_stops : {C R Q : Type 0} (f : R → Q) (steady : Bool) (last : Result C R) (fault : Fault R) →
    FaultFits steady last fault → FaultFits steady (from_below f last) (fault_above f fault)
last_stops f steady last (Refused reason) h = rw h refl
last_stops f steady last ReadFault h = h
last_stops f steady last (ZoneFull wanted widest) h = tt
last_stops f steady last OutOfMemory h = tt

-- the last step has stopped the call
pub last_stop : {B C D R Q E F : Type 0} {fault_of : E → Fault R} {above : F → Fault Q} {steady : Bool} {v : D → C} {value : B → C} {last : Result C R} {r : Result D E}
    (f : R → Q) (convert : E → F) → ((x : E) → above (convert x) ≡ fault_above f (fault_of x)) → (fault : E) (result : Result B F) →
    ResultIs fault_of steady v last r → r ≡ Err fault → IsErrAnd result (λ e. e ≡ convert fault) → ResultIs above steady value (from_below f last) result
last_stop {B} {C} {D} {R} {Q} {E} {F} {fault_of} {above} {steady} {v} {value} {last} {r} f convert tells fault result answers was is =
    let error_is : (y : F) × (result ≡ Err y) × (y ≡ convert fault) = err_from_is_err_and result is in
    let last_fault_fits : FaultFits steady last (fault_of fault) = rw was at answers.err in
    let fault_fits : FaultFits steady (from_below f last) (above error_is.0)
    = rw (error_is.2, tells fault) (last_stops f steady last (fault_of fault) last_fault_fits) in
    rw error_is.1 (record { ok = tt; err = fault_fits })

-- the last step was passed
pub last_step : {B C R Q F : Type 0} {above : F → Fault Q} (steady : Bool) (value : B → C) (f : R → Q) (last : Result C R) (found : B) →
    last ≡ Ok (value found) → ResultIs {E = F} above steady value (from_below f last) (Ok found)
last_step steady value f last found e = rw e (record { ok = refl; err = tt })
