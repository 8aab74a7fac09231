-- Laws of answers that calls pass on.
use Rattle.std.proofs.Common.{◌≡◌, Result, Ok, Err, refl}
use Rattle.outside.specs.Faults.{and_then}

-- where two calls one after the other are Ok, the first was, and so is the second of its value
pub and_then-ok : {A B R : Type 0} (r : Result A R) (next : A → Result B R) (y : B) → and_then r next ≡ Ok y → (x : A) × (r ≡ Ok x) × (next x ≡ Ok y)
and_then-ok (Ok x) next y e = (x, refl, e)
and_then-ok (Err reason) next y e = cc
