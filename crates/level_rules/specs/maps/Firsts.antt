-- The first refusal of a list of records.
use Rattle.std.specs.Prelude.{ℕ, ◌+◌, List, [], ◌∷◌, Option, None}
use Rattle.word_rules.specs.Least.{or_else}
use Rattle.level_rules.specs.declared.maps.refusal.MapRefusal.{MapRefusal}

-- what `refusal` says of the first record of which it says something, the records numbered from n
unfoldable pub first_refusal : {R : Type 0} → (ℕ → R → Option MapRefusal) → ℕ → List R → Option MapRefusal
first_refusal refusal n [] = None
first_refusal refusal n (r ∷ rs) = or_else (refusal n r) (first_refusal refusal (n + 1) rs)
