-- Something for each of a list, or the number of the first for which there is nothing.
use Rattle.std.specs.Prelude.{ℕ, suc, List, [], ◌∷◌, Option, Some, None, Result, Ok, Err}
use Rattle.std.specs.Option.{ok_or}
use Rattle.outside.specs.Faults.{and_then}

-- what f gives of each item, refused with the number of the first of which it gives nothing
unfoldable pub each_from : {X Y R : Type 0} → (X → Option Y) → (ℕ → R) → ℕ → List X → Result (List Y) R
each_from f refuse number [] = Ok []
each_from f refuse number (x ∷ xs) =
    and_then (ok_or (f x) (refuse number)) (λ y. and_then (each_from f refuse (suc number) xs) (λ ys. Ok (y ∷ ys)))

unfoldable pub each_or : {X Y R : Type 0} → (X → Option Y) → (ℕ → R) → List X → Result (List Y) R
each_or f refuse xs = each_from f refuse 0 xs

-- a refusal, if there is a number to refuse
unfoldable pub refuse_if : {R : Type 0} → (ℕ → R) → Option ℕ → Result (Unit {0}) R
refuse_if refuse None = Ok tt
refuse_if refuse (Some number) = Err (refuse number)
