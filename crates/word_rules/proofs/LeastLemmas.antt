-- Laws of `least` and `greatest`.
use Rattle.std.proofs.Common.{◌≡◌, ℕ, zero, suc, ◌+◌, ◌<◌, Bool, true, false, cond, Option, Some, None, refl, ap, sym, ◌∙◌, arith, add-one, inl, inr}
use Rattle.std.proofs.lemmas.Bool.{cases_lt}
use Rattle.word_rules.specs.Least.{least, greatest, or_else}

-- no number passes
pub least-none : (p : ℕ → Bool) (n : ℕ) → ((k : ℕ) → k < n → p k ≡ false) → least p n ≡ None
unfolding least
least-none p zero h = refl
least-none p (suc n) h = rw (least-none p n (λ k l. h k (omega arith)), h n (omega arith))

pub greatest-none : (p : ℕ → Bool) (n : ℕ) → ((k : ℕ) → k < n → p k ≡ false) → greatest p n ≡ None
unfolding greatest
greatest-none p zero h = refl
greatest-none p (suc n) h = rw (h n (omega arith)) (greatest-none p n (λ k l. h k (omega arith)))

-- i passes, and none below it
pub least-some : (p : ℕ → Bool) (n i : ℕ) → i < n → p i ≡ true → ((k : ℕ) → k < i → p k ≡ false) → least p n ≡ Some i
unfolding least
least-some p zero i l t h = absurd (omega arith)
least-some p (suc n) i l t h =
    elim (cases_lt i n) [
      | inl b ↦ rw (least-some p n i b t h)
      | inr a ↦
          let index_is_last : i ≡ n = omega arith in
          let last_passes : p n ≡ true = ap p (sym index_is_last) ∙ t in
          rw (least-none p n (λ k s. h k (omega arith)), last_passes) (ap Some (sym index_is_last))
    ]

-- i passes, and none of those above it
pub greatest-some : (p : ℕ → Bool) (n i : ℕ) → i < n → p i ≡ true → ((k : ℕ) → i < k → k < n → p k ≡ false) → greatest p n ≡ Some i
unfolding greatest
greatest-some p zero i l t h = absurd (omega arith)
greatest-some p (suc n) i l t h =
    elim (cases_lt i n) [
      | inl b ↦ rw (h n b (omega arith)) (greatest-some p n i b t (λ k s r. h k s (omega arith)))
      | inr a ↦
          let index_is_last : i ≡ n = omega arith in
          let last_passes : p n ≡ true = ap p (sym index_is_last) ∙ t in
          rw last_passes (ap Some (sym index_is_last))
    ]

-- one number more, for a loop that counts up
pub least-more : (p : ℕ → Bool) (n : ℕ) → least p (n + 1) ≡ or_else (least p n) (cond (p n) (Some n) None)
unfolding least
least-more p n = rw add-one

pub greatest-more : (p : ℕ → Bool) (n : ℕ) → greatest p (n + 1) ≡ cond (p n) (Some n) (greatest p n)
unfolding greatest
greatest-more p n = rw add-one

none-step : (p : ℕ → Bool) (n k : ℕ) → (least p n ≡ None → (j : ℕ) → j < n → p j ≡ false) → (r : Option ℕ) (b : Bool) → least p n ≡ r → p n ≡ b → or_else r (cond b (Some n) None) ≡ None → k < suc n → p k ≡ false
none-step p n k h (Some v) b f q e l = cc
none-step p n k h None true f q e l = cc
none-step p n k h None false f q e l =
    elim (cases_lt k n) [ inl s ↦ h f k s | inr s ↦ let index_is_last : k ≡ n = omega arith in ap p index_is_last ∙ q ]

-- none below n passes where there is no least one
pub none-below : (p : ℕ → Bool) (n : ℕ) → least p n ≡ None → (k : ℕ) → k < n → p k ≡ false
unfolding least
none-below p zero e k l = absurd (omega arith)
none-below p (suc n) e k l = none-step p n k (none-below p n) (least p n) (p n) refl refl e l

is-step : (p : ℕ → Bool) (n i : ℕ) → (least p n ≡ Some i → (i < n) × (p i ≡ true) × ((k : ℕ) → k < i → p k ≡ false)) → (r : Option ℕ) (b : Bool) → least p n ≡ r → p n ≡ b → or_else r (cond b (Some n) None) ≡ Some i → (i < suc n) × (p i ≡ true) × ((k : ℕ) → k < i → p k ≡ false)
is-step p n i h (Some v) b f q e = let least_below = h (f ∙ e) in let index_below : i < n = least_below.0 in (omega arith, least_below.1, least_below.2)
is-step p n i h None true f q e =
    let last_is_index : n ≡ i = cc in (omega arith, ap p (sym last_is_index) ∙ q, λ k l. none-below p n f k (omega arith))
is-step p n i h None false f q e = cc

-- what a least number is: it passes, and none below it
pub least-is : (p : ℕ → Bool) (n i : ℕ) → least p n ≡ Some i → (i < n) × (p i ≡ true) × ((k : ℕ) → k < i → p k ≡ false)
unfolding least
least-is p zero i e = cc
least-is p (suc n) i e = is-step p n i (least-is p n i) (least p n) (p n) refl refl e

none-step_down : (p : ℕ → Bool) (n k : ℕ) → (greatest p n ≡ None → (j : ℕ) → j < n → p j ≡ false) → (b : Bool) → p n ≡ b → cond b (Some n) (greatest p n) ≡ None → k < suc n → p k ≡ false
none-step_down p n k h true q e l = cc
none-step_down p n k h false q e l =
    elim (cases_lt k n) [ inl s ↦ h e k s | inr s ↦ let index_is_last : k ≡ n = omega arith in ap p index_is_last ∙ q ]

-- none below n passes where there is no greatest one
pub none-below_greatest : (p : ℕ → Bool) (n : ℕ) → greatest p n ≡ None → (k : ℕ) → k < n → p k ≡ false
unfolding greatest
none-below_greatest p zero e k l = absurd (omega arith)
none-below_greatest p (suc n) e k l = none-step_down p n k (none-below_greatest p n) (p n) refl e l

is-step_down : (p : ℕ → Bool) (n i : ℕ) → (greatest p n ≡ Some i → (i < n) × (p i ≡ true) × ((k : ℕ) → i < k → k < n → p k ≡ false)) → (b : Bool) → p n ≡ b → cond b (Some n) (greatest p n) ≡ Some i → (i < suc n) × (p i ≡ true) × ((k : ℕ) → i < k → k < suc n → p k ≡ false)
is-step_down p n i h true q e =
    let last_is_index : n ≡ i = cc in (omega arith, ap p (sym last_is_index) ∙ q, λ k l m. absurd (omega arith))
is-step_down p n i h false q e =
    let greatest_below = h e in
    let index_below : i < n = greatest_below.0 in (
      omega arith,
      greatest_below.1,
      λ k a m. elim (cases_lt k n) [
        | inl s ↦ greatest_below.2 k a s
        | inr s ↦ let index_is_last : k ≡ n = omega arith in ap p index_is_last ∙ q
      ],
    )

-- what a greatest number is: it passes, and none of those above it
pub greatest-is : (p : ℕ → Bool) (n i : ℕ) → greatest p n ≡ Some i → (i < n) × (p i ≡ true) × ((k : ℕ) → i < k → k < n → p k ≡ false)
unfolding greatest
greatest-is p zero i e = cc
greatest-is p (suc n) i e = is-step_down p n i (greatest-is p n i) (p n) refl e

-- for `grind`: a search upward that came to its end, and one that found
pub ruleset leasts = (least-none, least-some)

-- the same of a search downward
pub ruleset greatests = (greatest-none, greatest-some)
