-- What a call answers after one of its parts.
use Rattle.word_rules.proofs.Common.{ap, Bool, Err, err_from_is_err_and, IsErrAnd, None, Ok, Option, refl, Result, Some, true, ◌∙◌, ◌≡◌}
use Rattle.wad_dir.specs.Rules.{DirRefusal, Fault, FaultFits, OutOfMemory, ReadFault, Refused, ResultIs, ZoneFull, or_else, unless_refused}

-- a fault of a part that refuses nothing says the same of the whole
unrefused : {A C R : Type 0} (steady later : Bool) (found : C) (expected : Result A R) (told : Fault R) → later ≡ steady →
    FaultFits later (Ok found) told → FaultFits steady expected told
unrefused steady later found expected (Refused reason) e h = absurd (cc)
unrefused steady later found expected ReadFault e h = λ holds. h (e ∙ holds)
unrefused steady later found expected (ZoneFull wanted widest) e h = tt
unrefused steady later found expected OutOfMemory e h = tt

-- a part that refuses nothing has stopped the call
pub part_failed : {A B C D E R : Type 0} {tells : E → Fault R} {steady later : Bool} {v : D → C} {found : C} {part : Result D E} {value : B → A} {expected : Result A R} {fault : E} {result : Result B E} →
    ResultIs tells later v (Ok found) part → part ≡ Err fault → later ≡ steady → IsErrAnd result (λ e. e ≡ fault) → ResultIs tells steady value expected result
part_failed {E} {tells} {steady} {later} {found} {expected} {fault} {result} answers was e is =
    let error_is : (y : E) × (result ≡ Err y) × (y ≡ fault) = err_from_is_err_and result is in
    let fault_fits : FaultFits later (Ok found) (tells fault) = rw was at answers.err in
    rw (error_is.1, error_is.2) (record { ok = tt; err = unrefused steady later found expected (tells fault) e fault_fits })

weaker : {A R : Type 0} (steady : Bool) (expected : Result A R) (told : Fault R) → FaultFits true expected told → FaultFits steady expected told
weaker steady expected (Refused reason) h = h
weaker steady expected ReadFault h = λ holds. h refl
weaker steady expected (ZoneFull wanted widest) h = tt
weaker steady expected OutOfMemory h = tt

-- a call that reads nothing
pub answers_whatever : {A B E R : Type 0} {tells : E → Fault R} {value : B → A} {expected : Result A R} (steady : Bool) (result : Result B E) →
    ResultIs tells true value expected result → ResultIs tells steady value expected result
answers_whatever {expected} steady (Ok found) answers = record { ok = answers.ok; err = tt }
answers_whatever {tells} {expected} steady (Err fault) answers = record { ok = tt; err = weaker steady expected (tells fault) answers.err }

-- the first refusal stands
pub first_stands : {A B : Type 0} (first next : Option DirRefusal) (value : A) (last : B) (steady : Bool) (told : Fault DirRefusal) →
    FaultFits steady (unless_refused first value) told → FaultFits steady (unless_refused (or_else first next) last) told
first_stands None next value last steady (Refused reason) h = absurd (cc)
first_stands (Some other) next value last steady (Refused reason) h = let reason_is : other ≡ reason = cc in ap Err reason_is
first_stands first next value last steady ReadFault h = h
first_stands first next value last steady (ZoneFull wanted widest) h = tt
first_stands first next value last steady OutOfMemory h = tt
