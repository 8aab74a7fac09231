-- Laws of stepping: what is changed by one step at a time is the first value and so many steps.
use Rattle.std.proofs.Common.{◌≡◌, ℕ, suc, ◌+◌, ◌*◌, ◌%◌, ◌^◌, ◌≤◌, ℤ, pos, FitsSigned, ap, sym, ◌∙◌, add-mul, arith}
use Rattle.std.specs.Int.{w32, int_wrap}
use Rattle.std.proofs.lemmas.Int.{int_wrap-add_left, int_wrap-add_right, int_wrap-sub_right, int_wrap_fits}
use lib.IntN.{◌+ℤ◌, ◌-ℤ◌, ◌*ℤ◌, neg_ℤ, +ℤ_assoc, +ℤ_comm, +ℤ_idr, zero-*ℤ, suc_ℤ-*ℤ, neg_ℤ-+ℤ}
use Rattle.word_rules.specs.Words.{plus, minus, times, turn, turn_back}
use Rattle.word_rules.specs.Steps.{step_at}

-- the last two summands change places
turned : (a b c : ℤ) → (a +ℤ b) +ℤ c ≡ (a +ℤ c) +ℤ b
turned a b c = +ℤ_assoc a b c ∙ ap (λ (z : ℤ). a +ℤ z) (+ℤ_comm b c) ∙ sym (+ℤ_assoc a c b)

-- so many steps, and one step more
one_step_more : (step : ℤ) (k n : ℕ) → k + 1 ≡ n → step +ℤ pos k *ℤ step ≡ pos n *ℤ step
one_step_more step k n e =
    let next_is : suc k ≡ n = omega arith in
    +ℤ_comm step (pos k *ℤ step) ∙ sym (suc_ℤ-*ℤ (pos k) step) ∙ ap (λ (m : ℕ). pos m *ℤ step) next_is

-- a sum of first and k steps, and one step more
pub stepped : (first step : ℤ) (k n : ℕ) → k + 1 ≡ n → plus (plus first (times (pos k) step)) step ≡ plus first (times (pos n) step)
unfolding plus times
stepped first step k n e =
    let sum_turned : int_wrap w32 ((first +ℤ int_wrap w32 (pos k *ℤ step)) +ℤ step) ≡ int_wrap w32 ((first +ℤ step) +ℤ int_wrap w32 (pos k *ℤ step)) =
    ap (int_wrap w32) (turned first (int_wrap w32 (pos k *ℤ step)) step) in
    let step_counted : (first +ℤ step) +ℤ pos k *ℤ step ≡ first +ℤ pos n *ℤ step =
    +ℤ_assoc first step (pos k *ℤ step) ∙ ap (λ (z : ℤ). first +ℤ z) (one_step_more step k n e) in
    int_wrap-add_left w32 (first +ℤ int_wrap w32 (pos k *ℤ step)) step ∙ sum_turned
    ∙ int_wrap-add_right w32 (first +ℤ step) (pos k *ℤ step) ∙ ap (int_wrap w32) step_counted ∙ sym (int_wrap-add_right w32 first (pos n *ℤ step))

-- a difference of first and k steps, and one step more
pub stepped_back : (first step : ℤ) (k n : ℕ) → k + 1 ≡ n → minus (minus first (times (pos k) step)) step ≡ minus first (times (pos n) step)
unfolding minus times
stepped_back first step k n e =
    let difference_turned : int_wrap w32 ((first -ℤ int_wrap w32 (pos k *ℤ step)) -ℤ step) ≡ int_wrap w32 ((first -ℤ step) -ℤ int_wrap w32 (pos k *ℤ step)) =
    ap (int_wrap w32) (turned first (neg_ℤ (int_wrap w32 (pos k *ℤ step))) (neg_ℤ step)) in
    let step_counted : (first -ℤ step) -ℤ pos k *ℤ step ≡ first -ℤ pos n *ℤ step =
    +ℤ_assoc first (neg_ℤ step) (neg_ℤ (pos k *ℤ step))
    ∙ ap (λ (z : ℤ). first +ℤ z) (sym (neg_ℤ-+ℤ step (pos k *ℤ step)))
    ∙ ap (λ (z : ℤ). first -ℤ z) (one_step_more step k n e) in
    int_wrap-add_left w32 (first -ℤ int_wrap w32 (pos k *ℤ step)) (neg_ℤ step) ∙ difference_turned
    ∙ int_wrap-sub_right w32 (first -ℤ step) (pos k *ℤ step) ∙ ap (int_wrap w32) step_counted ∙ sym (int_wrap-sub_right w32 first (pos n *ℤ step))

-- no step yet
pub step_at-zero : (first step : ℤ) → FitsSigned w32 first → first ≡ step_at first step 0
unfolding step_at plus times
step_at-zero first step f =
    let no_step_added : first +ℤ pos 0 *ℤ step ≡ first = ap (λ (z : ℤ). first +ℤ z) (zero-*ℤ step) ∙ +ℤ_idr first in
    sym (int_wrap-add_right w32 first (pos 0 *ℤ step) ∙ ap (int_wrap w32) no_step_added ∙ int_wrap_fits w32 first f)

-- one step more
pub step_at-more : (first step : ℤ) (k n : ℕ) → k + 1 ≡ n → plus (step_at first step k) step ≡ step_at first step n
unfolding step_at
step_at-more first step k n e = stepped first step k n e

more_times : (step k n : ℕ) → k + 1 ≡ n → n * step ≡ k * step + step
more_times step k n e =
    let step_once : 1 * step ≡ step = omega arith in
    ap (λ (m : ℕ). m * step) (sym e) ∙ add-mul k 1 step ∙ ap (λ (m : ℕ). k * step + m) step_once

on_step : (first step p q : ℕ) → q ≡ p + step → turn ((first + p) % 2 ^ 32) step ≡ (first + q) % 2 ^ 32
on_step first step p q e = omega arith

off_step : (first step p q : ℕ) → step ≤ 2 ^ 32 → q ≡ p + step → turn_back (turn_back first (p % 2 ^ 32)) step ≡ turn_back first (q % 2 ^ 32)
off_step first step p q s e = omega arith

-- the same of unsigned words: a sum of first and k steps, and one step more
pub turned_on : (first step k n : ℕ) → k + 1 ≡ n → turn ((first + k * step) % 2 ^ 32) step ≡ (first + n * step) % 2 ^ 32
turned_on first step k n e = on_step first step (k * step) (n * step) (more_times step k n e)

-- a difference of first and k steps, and one step more
pub turned_off : (first step k n : ℕ) → step ≤ 2 ^ 32 → k + 1 ≡ n → turn_back (turn_back first ((k * step) % 2 ^ 32)) step ≡ turn_back first ((n * step) % 2 ^ 32)
turned_off first step k n s e = off_step first step (k * step) (n * step) s (more_times step k n e)

-- for `grind`: a loop that adds a step
pub ruleset stepping = (step_at-zero, step_at-more, stepped, stepped_back, turned_on, turned_off)
