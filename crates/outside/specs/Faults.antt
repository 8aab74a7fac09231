-- Faults of a layer and of the layer above it, what a call answers by the steps of a definition, and
-- when a read may fail.
use Rattle.std.specs.Prelude.{◌≡◌, ℕ, Bool, IsTrue, Result, Ok, Err, IfOk, IfErr, OnOk, ⊤}
use Rattle.outside.specs.{Causes.FaultsRose, declared.fault.Fault.Fault}
use Rattle.outside.specs.declared.fault.Fault.TheVariants.{Refused, ReadFault, ZoneFull, OutOfMemory}

-- the same fault, with the refusal as the layer above names it
abbrev pub fault_above : {R Q : Type 0} → (R → Q) → Fault R → Fault Q
fault_above lift (Refused refusal) = Refused (lift refusal)
fault_above lift ReadFault = ReadFault
fault_above lift (ZoneFull wanted widest) = ZoneFull wanted widest
fault_above lift OutOfMemory = OutOfMemory

-- a layer's own fault is already one
abbrev pub itself : {R : Type 0} → Fault R → Fault R
itself fault = fault

-- the fault above has what a call gave for the refusal below, or is the same fault
abbrev pub IsAboveBy : {R Q : Type 0} → (R → Q → Type 0) → Fault R → Fault Q → Type 0
IsAboveBy lifted (Refused refusal) (Refused above) = lifted refusal above
IsAboveBy lifted ReadFault ReadFault = ⊤
IsAboveBy lifted (ZoneFull wanted widest) (ZoneFull wanted' widest') = (wanted' ≡ wanted) × (widest' ≡ widest)
IsAboveBy lifted OutOfMemory OutOfMemory = ⊤
IsAboveBy lifted below above = ⊥

-- the steps of a layer below
abbrev pub from_below : {A R Q : Type 0} → (R → Q) → Result A R → Result A Q
from_below lift (Ok value) = Ok value
from_below lift (Err reason) = Err (lift reason)

-- one step after another: the first refusal stands
abbrev pub and_then : {A B R : Type 0} → Result A R → (A → Result B R) → Result B R
and_then (Ok value) next = next value
and_then (Err reason) next = Err reason

-- The bytes decide a refusal. Over a steady shelf no read fails.
abbrev pub FaultFits : {A R : Type 0} → Bool → Result A R → Fault R → Type 0
FaultFits steady expected (Refused reason) = expected ≡ Err reason
FaultFits steady expected ReadFault = IsTrue steady → ⊥
FaultFits steady expected (ZoneFull wanted widest) = Unit {0}
FaultFits steady expected OutOfMemory = Unit {0}

-- what a call answers whose steps give `expected`; `fault_of` is the call's own type of faults as a `Fault`
pub record ResultIs {A B R E : Type 0} (fault_of : E → Fault R) (steady : Bool) (value : B → A) (expected : Result A R) (result : Result B E) : Type 0 where
  pub ok : IfOk result (λ a. expected ≡ Ok (value a))
  pub err : IfErr result (λ fault. FaultFits steady expected (fault_of fault))

-- what the counts of faults before and after a call say of its fault: a read that failed raised the
-- count, and any other fault left it as it was
abbrev pub HasCauseAt : {R : Type 0} → ℕ → ℕ → Fault R → Type 0
HasCauseAt before now (Refused reason) = now ≡ before
HasCauseAt before now ReadFault = FaultsRose before now
HasCauseAt before now (ZoneFull wanted widest) = now ≡ before
HasCauseAt before now OutOfMemory = now ≡ before

-- The count of faults rose where a read failed, and nowhere else: after any other answer it is as it
-- was. So a call makes no fault of its own, and tries no failed call again.
pub record HasCauses {B R E : Type 0} (fault_of : E → Fault R) (before now : ℕ) (result : Result B E) : Type 0 where
  pub ok : OnOk result (now ≡ before)
  pub err : IfErr result (λ fault. HasCauseAt before now (fault_of fault))
