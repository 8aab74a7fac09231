-- Laws of `first_refusal`.
use Rattle.word_rules.proofs.Common.{[], arith, at_drop_all, at_drop_more, drop, get_or, length, List, None, Option, or_else-none, refl, Some, suc, zero, ℕ, ◌+◌, ◌<◌, ◌∙◌, ◌∷◌, ◌≡◌, ◌≤◌}
use Rattle.word_rules.specs.Least.{or_else}
use Rattle.level_rules.specs.declared.maps.refusal.MapRefusal.{MapRefusal}
use Rattle.level_rules.specs.maps.Firsts.{first_refusal}

pub first_refusal-step : {R : Type 0} (refusal : ℕ → R → Option MapRefusal) (i : ℕ) (rs : List R) (d : R) → i < length rs →
    first_refusal refusal i (drop i rs) ≡ or_else (refusal i (get_or rs i d)) (first_refusal refusal (i + 1) (drop (i + 1) rs))
unfolding first_refusal
first_refusal-step refusal i rs d l = at_drop_more (first_refusal refusal i) rs i d l

-- a record that is refused
pub first_refusal-found : {R : Type 0} (refusal : ℕ → R → Option MapRefusal) (i : ℕ) (rs : List R) (r d : R) (v : MapRefusal) → i < length rs →
    get_or rs i d ≡ r → refusal i r ≡ Some v → first_refusal refusal i (drop i rs) ≡ Some v
first_refusal-found refusal i rs r d v l g e = first_refusal-step refusal i rs d l ∙ rw (g, e) refl

-- one that is not
pub first_refusal-next : {R : Type 0} (refusal : ℕ → R → Option MapRefusal) (i : ℕ) (rs : List R) (r d : R) → i < length rs → get_or rs i d ≡ r →
    refusal i r ≡ None → first_refusal refusal i (drop i rs) ≡ first_refusal refusal (i + 1) (drop (i + 1) rs)
first_refusal-next refusal i rs r d l g e = first_refusal-step refusal i rs d l ∙ rw (g, e) refl

-- the end
pub first_refusal-end : {R : Type 0} (refusal : ℕ → R → Option MapRefusal) (i : ℕ) (rs : List R) → length rs ≤ i → first_refusal refusal i (drop i rs) ≡ None
unfolding first_refusal
first_refusal-end refusal i rs l = at_drop_all (first_refusal refusal i) rs i l

-- where none of five refuses, each of them refuses nothing
pub or_else-five : {X : Type 0} (a b c d e : Option X) → or_else a (or_else b (or_else c (or_else d e))) ≡ None →
    (a ≡ None) × (b ≡ None) × (c ≡ None) × (d ≡ None) × (e ≡ None)
or_else-five a b c d e none =
    let without_a = or_else-none _ _ none in
    let without_b = or_else-none _ _ without_a.1 in
    let without_c = or_else-none _ _ without_b.1 in
    let without_d = or_else-none _ _ without_c.1 in
    (without_a.0, without_b.0, without_c.0, without_d.0, without_d.1)

-- where nothing is refused, no record is
pub first_refusal-none : {R : Type 0} (refusal : ℕ → R → Option MapRefusal) (n : ℕ) (rs : List R) → first_refusal refusal n rs ≡ None → (k : ℕ) (d : R) →
    k < length rs → refusal (n + k) (get_or rs k d) ≡ None
unfolding first_refusal
first_refusal-none refusal n [] e k d l = absurd (omega arith)
first_refusal-none refusal n (r ∷ rs) e zero d l = let same_number : n + 0 ≡ n = omega arith in rw same_number (or_else-none _ _ e).0
first_refusal-none refusal n (r ∷ rs) e (suc k) d l =
    let same_number : n + suc k ≡ n + 1 + k = omega arith in
    rw same_number (first_refusal-none refusal (n + 1) rs (or_else-none _ _ e).1 k d (omega arith))

first_refusal-from : {R : Type 0} (refusal : ℕ → R → Option MapRefusal) (n : ℕ) (rs : List R) (k : ℕ) (d : R) (v : MapRefusal) → k < length rs →
    refusal (n + k) (get_or rs k d) ≡ Some v → ((j : ℕ) → j < k → refusal (n + j) (get_or rs j d) ≡ None) → first_refusal refusal n rs ≡ Some v
unfolding first_refusal
first_refusal-from refusal n [] k d v l e before = absurd (omega arith)
first_refusal-from refusal n (r ∷ rs) zero d v l e before =
    let same_number : n + 0 ≡ n = omega arith in let is_refused : refusal n r ≡ Some v = rw same_number at e in rw is_refused refl
first_refusal-from refusal n (r ∷ rs) (suc k) d v l e before =
    let same_number : n + 0 ≡ n = omega arith in
    let is_passed : refusal n r ≡ None = rw same_number at (before zero (omega arith)) in
    rw is_passed (first_refusal-from refusal (n + 1) rs k d v (omega arith) (let next_number : n + 1 + k ≡ n + suc k = omega arith in rw next_number e) (λ j m. let next_number : n + 1 + j ≡ n + suc j = omega arith in rw next_number (before (suc j) (omega arith))))

-- for `grind`: a loop over the records
pub ruleset first_refusals = (first_refusal-found, first_refusal-next, first_refusal-end)
