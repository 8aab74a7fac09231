-- Laws of the value of an answer.
use Rattle.art_rules.proofs.Common.{ap, Err, None, Ok, ok_or, Option, Result, Some, ◌≡◌}
use Rattle.trim_rules.specs.Rules.{from_below}

-- equal answers have equal values
pub ok_of : {X R : Type 0} (a b : X) → (let answer : Result X R = Ok a in answer) ≡ Ok b → a ≡ b
ok_of a b e = cc

-- where an option or else an error is a value, the option has it
pub some_value : {X E : Type 0} (o : Option X) (e : E) (x : X) → ok_or o e ≡ Ok x → o ≡ Some x
some_value None e x is = cc
some_value (Some y) e x is = let values_same : y ≡ x = cc in ap Some values_same

-- a value that comes through a layer came from the layer below
pub below : {A R Q : Type 0} (f : R → Q) (r : Result A R) (x : A) → from_below f r ≡ Ok x → r ≡ Ok x
below f (Ok y) x e = let values_same : y ≡ x = cc in ap Ok values_same
below f (Err reason) x e = cc
