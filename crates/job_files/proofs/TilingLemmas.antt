-- A frame whose indices are all written.
use Rattle.picture_rules.proofs.Common.{fill_by_all, get_or, length, List, take, take-append_seam, ℕ, ◌++◌, ◌<◌, ◌∙◌, ◌≡◌}
use Rattle.picture_rules.specs.Words.{listed}

-- the first n items of a list are the values of a function, where each item is
pub all_listed : (f : ℕ → ℕ) (xs ys : List ℕ) (n m : ℕ) → length xs ≡ m → n ≡ m → ((k : ℕ) → k < m → get_or xs k 0 ≡ f k) → take n (xs ++ ys) ≡ listed f m
unfolding listed
all_listed f xs ys n m e o each = rw (o, ← e) (take-append_seam xs ys) ∙ fill_by_all f xs m 0 e each
