-- Bounds of the sines and tangents by formula.
use Rattle.word_rules.proofs.Common.{arith, cases_lt, div-le_of_le-mul, inl, inr, le-div, mul-add, mul-le-mul_right, mul_comm, subst, ℕ, ◌*◌, ◌+◌, ◌-◌, ◌/◌, ◌<◌, ◌^◌, ◌≡◌, ◌≤◌, add-mul}
use Rattle.view_rules.specs.declared.formula.TheConstants.{HALF_TURN, HALF_STEPS, QUARTER}
use Rattle.view_rules.specs.Formulas.{sine_product, half_sine, upper_tangent}

-- the square of the middle is the product of two numbers as far from it, and the square of how far
product_and_square : (a d : ℕ) → a * (a + (d + d)) + d * d ≡ (a + d) * (a + d)
product_and_square a d =
    omega (arith, mul-add a a (d + d), mul-add a d d, add-mul a d (a + d), mul-add a a d, mul-add d a d, mul_comm a d)

product_below_square_up : (a b h : ℕ) → a + b ≡ 2 * h → a ≤ h → a * b ≤ h * h
product_below_square_up a b h e low =
    let sum_is_whole : a + (h - a) ≡ h = omega arith in
    let upper : a + ((h - a) + (h - a)) ≡ b = omega arith in
    let square : a * b + (h - a) * (h - a) ≡ h * h = subst (λ (n : ℕ). a * n + (h - a) * (h - a) ≡ h * h) upper (subst (λ (n : ℕ). a * (a + ((h - a) + (h - a))) + (h - a) * (h - a) ≡ n * n) sum_is_whole (product_and_square a (h - a))) in
    omega arith

-- a product is greatest where both numbers are the same
product_below_square : (a b h : ℕ) → a + b ≡ 2 * h → a * b ≤ h * h
product_below_square a b h e =
    elim (cases_lt a h) as (λ _. a * b ≤ h * h) [
      | inl low ↦ product_below_square_up a b h e (omega arith)
      | inr high ↦ omega (arith, product_below_square_up b a h (omega arith) (omega arith), mul_comm a b)
    ]

-- a product of numbers from 1 on is at least their sum less 1
product_above_sum_of : (a b : ℕ) → (a + 1) + (b + 1) ≤ (a + 1) * (b + 1) + 1
product_above_sum_of a b = omega (arith, add-mul a 1 (b + 1), mul-add a b 1)

product_above_sum : (a b : ℕ) → 1 ≤ a → 1 ≤ b → a + b ≤ a * b + 1
product_above_sum a b p q =
    let a_same : (a - 1) + 1 ≡ a = omega arith in
    let b_same : (b - 1) + 1 ≡ b = omega arith in
    subst (λ (n : ℕ). a + n ≤ a * n + 1) b_same (subst (λ (n : ℕ). n + ((b - 1) + 1) ≤ n * ((b - 1) + 1) + 1) a_same (product_above_sum_of (a - 1) (b - 1)))

pub sine_product-least : (i : ℕ) → i < HALF_TURN → 8191 ≤ sine_product i
unfolding sine_product
sine_product-least i h = omega (arith, product_above_sum (2 * i + 1) (8192 - (2 * i + 1)) (omega arith) (omega arith))

pub sine_product-most : (i : ℕ) → i < HALF_TURN → sine_product i ≤ 2 ^ 24
unfolding sine_product
sine_product-most i h = omega (arith, product_below_square (2 * i + 1) (8192 - (2 * i + 1)) 4096 (omega arith))

-- the fraction for the products that come
fraction_least : (p : ℕ) → 8191 ≤ p → p ≤ 2 ^ 24 → 25 ≤ 65536 * 16 * p / (5 * HALF_STEPS ^ 2 - 4 * p)
fraction_least p low high = le-div 25 (65536 * 16 * p) (5 * HALF_STEPS ^ 2 - 4 * p) (omega arith) (omega arith)

fraction_most : (p : ℕ) → p ≤ 2 ^ 24 → 65536 * 16 * p / (5 * HALF_STEPS ^ 2 - 4 * p) ≤ 65536
fraction_most p high = div-le_of_le-mul (5 * HALF_STEPS ^ 2 - 4 * p) (omega arith)

pub half_sine-least : (i : ℕ) → i < HALF_TURN → 25 ≤ half_sine i
unfolding half_sine
half_sine-least i h = fraction_least (sine_product i) (sine_product-least i h) (sine_product-most i h)

pub half_sine-most : (i : ℕ) → i < HALF_TURN → half_sine i ≤ 65536
unfolding half_sine
half_sine-most i h = fraction_most (sine_product i) (sine_product-most i h)

quotient_most : (a b : ℕ) → a ≤ 65536 → 25 ≤ b → a * 65536 / b ≤ 2 ^ 28
quotient_most a b high low = div-le_of_le-mul b (omega (arith, mul-le-mul_right (2 ^ 28) low))

pub upper_tangent-most : (j : ℕ) → j < QUARTER → upper_tangent j ≤ 2 ^ 28
unfolding upper_tangent
upper_tangent-most j h =
    quotient_most (half_sine j) (half_sine (j + QUARTER)) (half_sine-most j (omega arith)) (half_sine-least (j + QUARTER) (omega arith))

-- for `grind`: the sizes of the words in which the tables are computed
pub ruleset table_bounds = (sine_product-least, sine_product-most, half_sine-least, half_sine-most, upper_tangent-most)
