-- The first step that stops a call which asks for files by name, and what a fault says of it.
use Rattle.std.specs.Prelude.{◌≡◌, Bool, IsTrue, Option, Some, None, Result, Ok, Err, IfOk, IfErr}
use Rattle.outside.specs.declared.fault.Fault.{Fault}
use Rattle.outside.specs.declared.fault.Fault.TheVariants.{Refused, ReadFault, ZoneFull, OutOfMemory}

-- a file that the next step needs is not held, or bytes are refused
pub data Stop (R : Type 0) : Type 0 where
  absent : Stop R
  stopped : R → Stop R

-- the value, or else the file is absent
abbrev pub else_absent : {A R : Type 0} → Option A → Result A (Stop R)
else_absent None = Err absent
else_absent (Some value) = Ok value

-- steps that ask for no file
abbrev pub no_file : {A R : Type 0} → Result A R → Result A (Stop R)
no_file (Ok value) = Ok value
no_file (Err refusal) = Err (stopped refusal)

-- the stops of a layer below
abbrev pub stop_above : {R Q : Type 0} → (R → Q) → Stop R → Stop Q
stop_above lift absent = absent
stop_above lift (stopped refusal) = stopped (lift refusal)

-- A refusal is that of the steps. Over a steady shelf a read fails only for an absent file.
abbrev pub FaultFitsOrAbsent : {A R : Type 0} → Bool → Result A (Stop R) → Fault R → Type 0
FaultFitsOrAbsent steady expected (Refused refusal) = expected ≡ Err (stopped refusal)
FaultFitsOrAbsent steady expected ReadFault = IsTrue steady → expected ≡ Err absent
FaultFitsOrAbsent steady expected (ZoneFull wanted widest) = Unit {0}
FaultFitsOrAbsent steady expected OutOfMemory = Unit {0}

-- what a call answers whose steps, with those that ask for files, give `expected`
pub record ResultIsOrAbsent {A B R E : Type 0} (fault_of : E → Fault R) (steady : Bool) (value : B → A) (expected : Result A (Stop R)) (result : Result B E) : Type 0 where
  pub ok : IfOk result (λ a. expected ≡ Ok (value a))
  pub err : IfErr result (λ fault. FaultFitsOrAbsent steady expected (fault_of fault))
