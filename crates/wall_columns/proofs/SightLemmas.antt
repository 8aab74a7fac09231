-- Laws of a fragment's numbers: its scale at each of its columns is above 0, its light is one of the
-- levels, and its parts have the textures of its facts.
use Rattle.picture_rules.proofs.Common.{ap, arith, Bool, cond, false, FitsSigned, inl, inr, int_div, int_wrap, int_wrap_fits, ints, mul-le-mul_right, nat_tests, neg_ℤ, negsuc, None, Option, pos, refl, Some, subst, suc, sym, true, unsigned_abs, w32, zero, ℕ, ℤ, ◌*ℤ◌, ◌*◌, ◌+ℤ◌, ◌+◌, ◌-ℤ◌, ◌-◌, ◌/◌, ◌<ℤ◌, ◌<◌, ◌==◌, ◌∙◌, ◌≡◌, ◌≢◌, ◌≤ℤ◌, ◌≤◌, ◌⊎◌}
use Rattle.wall_columns.specs.Rules.{LIGHT_LEVELS, MAX_SCALE, MIN_SCALE, Part, Seg, Surface, ViewValue, WallFacts, bottom_part, clamp_word, fragment_numbers, light_number, middle_part, minus, no_part, numbers_by, plus, scale_at, scale_by, scale_of_column, scale_step, seg_light, step_at, times, top_part}
use Rattle.picture_rules.proofs.Laws.{clamp_word-high, clamp_word-low}
use Rattle.wall_columns.specs.Plans.{IsPartTexture}

-- a scale is held within these
record IsScale (s : ℤ) : Type 0 where
  low : pos 256 ≤ℤ s
  high : s ≤ℤ pos 4194304

scale_test : (t : Bool) (z : ℤ) → IsScale (cond t (clamp_word MIN_SCALE MAX_SCALE z) MAX_SCALE)
scale_test true z = record { low = clamp_word-low MIN_SCALE MAX_SCALE z (omega (arith, ints)); high = clamp_word-high MIN_SCALE MAX_SCALE z (omega (arith, ints)) }
scale_test false z = record { low = omega (arith, ints); high = omega (arith, ints) }

scale_is : (v : ViewValue) (seg : Seg) (x : ℕ) → IsScale (scale_of_column v seg x)
unfolding scale_of_column scale_at scale_by
scale_is v seg x = scale_test _ _

-- what lies between two words is a word
fits_between : (z : ℤ) → negsuc 2147483647 ≤ℤ z → z ≤ℤ pos 2147483647 → FitsSigned w32 z
fits_between (pos n) l h = record { sfits = omega (arith, ints) }
fits_between (negsuc n) l h = record { sfits = omega (arith, ints) }

-- so many steps are no more than the whole
steps_within : (d n k : ℕ) → 0 < n → k ≤ n → k * (d / n) ≤ d
steps_within d n k p l = let steps_bounded : k * (d / n) ≤ n * (d / n) = mul-le-mul_right (d / n) l in omega arith

-- a value near 0 with what is added, near 0 too
summed : (a s : ℤ) → negsuc 16777215 ≤ℤ s → s ≤ℤ pos 16777216 → pos 0 ≤ℤ a → a ≤ℤ pos 4194304 → plus a (int_wrap w32 s) ≡ a +ℤ s
unfolding plus
summed a s l h p q =
    let inner = int_wrap_fits w32 s (fits_between _ (omega (arith, ints)) (omega (arith, ints))) in
    let outer = int_wrap_fits w32 (a +ℤ s) (fits_between _ (omega (arith, ints)) (omega (arith, ints))) in
    ap (λ (z : ℤ). int_wrap w32 (a +ℤ z)) inner ∙ outer

back_steps : (k q : ℕ) → pos k *ℤ neg_ℤ (pos q) ≡ neg_ℤ (pos (k * q))
back_steps k zero = omega (arith, ints)
back_steps k (suc q) = omega (arith, ints)

-- rising: a, and k steps of q
rises : (a k q top : ℕ) → 256 ≤ a → a + k * q ≤ top → top ≤ 4194304 → pos 0 <ℤ plus (pos a) (int_wrap w32 (pos k *ℤ pos q))
rises a k q top l h t =
    let product_is : pos k *ℤ pos q ≡ pos (k * q) = omega (arith, ints) in
    let sum_is : plus (pos a) (int_wrap w32 (pos (k * q))) ≡ pos a +ℤ pos (k * q) = summed (pos a) (pos (k * q)) (omega (arith, ints)) (omega (arith, ints)) (omega (arith, ints)) (omega (arith, ints)) in
    let IsAboveZero : ℤ → Type 0 = λ z. pos 0 <ℤ z in
    subst IsAboveZero (sym (ap (λ (z : ℤ). plus (pos a) (int_wrap w32 z)) product_is ∙ sum_is)) (omega (arith, ints))

-- falling: a, and k steps of q back
falls : (a k q low : ℕ) → 256 ≤ low → low + k * q ≤ a → a ≤ 4194304 → pos 0 <ℤ plus (pos a) (int_wrap w32 (pos k *ℤ neg_ℤ (pos q)))
falls a k q low l h t =
    let sum_is : plus (pos a) (int_wrap w32 (neg_ℤ (pos (k * q)))) ≡ pos a +ℤ neg_ℤ (pos (k * q)) = summed (pos a) (neg_ℤ (pos (k * q))) (omega (arith, ints)) (omega (arith, ints)) (omega (arith, ints)) (omega (arith, ints)) in
    let IsAboveZero : ℤ → Type 0 = λ z. pos 0 <ℤ z in
    subst IsAboveZero (sym (ap (λ (z : ℤ). plus (pos a) (int_wrap w32 z)) (back_steps k q) ∙ sum_is)) (omega (arith, ints))

difference : (a b : ℕ) → a ≤ 4194304 → b ≤ 4194304 → minus (pos b) (pos a) ≡ pos b -ℤ pos a
unfolding minus
difference a b l h = int_wrap_fits w32 (pos b -ℤ pos a) (fits_between _ (omega (arith, ints)) (omega (arith, ints)))

-- the difference of the scales, either way
by_difference : (a b k n : ℕ) (d : ℤ) → 256 ≤ a → a ≤ 4194304 → 256 ≤ b → b ≤ 4194304 → 0 < n → k ≤ n → d ≡ pos b -ℤ pos a →
    pos 0 <ℤ plus (pos a) (int_wrap w32 (pos k *ℤ int_div d (pos n)))
by_difference a b k n (pos d) al ah bl bh p l e =
    let steps_bounded = steps_within d n k p l in
    let difference_is : d + a ≡ b = omega (arith, ints) in rises a k (d / n) b al (omega arith) bh
by_difference a b k n (negsuc d) al ah bl bh p l e =
    let steps_bounded = steps_within (suc d) n k p l in
    let difference_is : suc d + b ≡ a = omega (arith, ints) in falls a k (suc d / n) b bl (omega arith) ah

stepped : (a b k n : ℕ) → 256 ≤ a → a ≤ 4194304 → 256 ≤ b → b ≤ 4194304 → 0 < n → k ≤ n →
    pos 0 <ℤ plus (pos a) (int_wrap w32 (pos k *ℤ int_div (minus (pos b) (pos a)) (pos n)))
stepped a b k n al ah bl bh p l = by_difference a b k n (minus (pos b) (pos a)) al ah bl bh p l (difference a b ah bh)

still : (a k : ℕ) → 256 ≤ a → a ≤ 4194304 → k ≤ 0 → pos 0 <ℤ plus (pos a) (int_wrap w32 (pos k *ℤ pos 0))
still a k l h z = rises a k 0 a l (let product_is_zero : k * 0 ≡ 0 = omega arith in omega arith) h

some_or_none : (a b k n : ℕ) (t : Bool) → (n == 0) ≡ t → 256 ≤ a → a ≤ 4194304 → 256 ≤ b → b ≤ 4194304 → k ≤ n →
    pos 0 <ℤ plus (pos a) (int_wrap w32 (pos k *ℤ cond t (pos 0) (int_div (minus (pos b) (pos a)) (pos n))))
some_or_none a b k n true e al ah bl bh l = let count_is_zero : n ≡ 0 = grind (arith, nat_tests) in still a k al ah (omega arith)
some_or_none a b k n false e al ah bl bh l = let count_above_zero : 0 < n = grind (arith, nat_tests) in stepped a b k n al ah bl bh count_above_zero l

scale_steps : (s1 s2 : ℤ) (k n : ℕ) → IsScale s1 → IsScale s2 → k ≤ n → pos 0 <ℤ step_at s1 (scale_step s1 s2 n) k
unfolding step_at times scale_step
scale_steps (pos a) (pos b) k n f g l =
    let low_at_first = f.low in let high_at_first = f.high in let low_at_last = g.low in let high_at_last = g.high in
    some_or_none a b k n (n == 0) refl (omega (arith, ints)) (omega (arith, ints)) (omega (arith, ints)) (omega (arith, ints)) l
scale_steps (pos a) (negsuc b) k n f g l = absurd (let least_scale = g.low in omega (arith, ints))
scale_steps (negsuc a) s2 k n f g l = absurd (let least_scale = f.low in omega (arith, ints))

-- the scale of a fragment at each of its columns is above 0
pub numbers-scale : (v : ViewValue) (facts : WallFacts) (first last k : ℕ) → k ≤ last - first →
    pos 0 <ℤ step_at (fragment_numbers v facts first last).scale1 (fragment_numbers v facts first last).step k
unfolding fragment_numbers numbers_by
numbers-scale v facts first last k l =
    scale_steps (scale_of_column v facts.seg first) (scale_of_column v facts.seg last) k (last - first) (scale_is v facts.seg first) (scale_is v facts.seg last) l

small_number : (z : ℤ) → pos 0 ≤ℤ z → z ≤ℤ pos 15 → unsigned_abs z < 16
small_number (pos n) l h = omega (arith, ints)
small_number (negsuc n) l h = absurd (omega (arith, ints))

level_is : (v : ViewValue) (light change : ℤ) → light_number v light change < LIGHT_LEVELS
unfolding light_number
level_is v light change = small_number _ (clamp_word-low (pos 0) (pos 15) _ (omega (arith, ints))) (clamp_word-high (pos 0) (pos 15) _ (omega (arith, ints)))

-- its light is one of the levels
pub numbers-light : (v : ViewValue) (facts : WallFacts) (first last : ℕ) → (fragment_numbers v facts first last).light < LIGHT_LEVELS
unfolding fragment_numbers numbers_by seg_light
numbers-light v facts first last = level_is v facts.front.light _

middle_number : (eye_z : ℤ) (facts : WallFacts) (back : Option Surface) (number : ℕ) → number ≢ 0 → number ≡ (middle_part eye_z facts back).number → number ≡ facts.middle.number
unfolding middle_part
middle_number eye_z facts None number some e = e
middle_number eye_z facts (Some back) number some e = absurd (some e)

test_number : (t : Bool) (part : Part) (number : ℕ) → number ≢ 0 → number ≡ (cond t part no_part).number → number ≡ part.number
test_number true part number some e = e
test_number false part number some e = absurd (some e)

top_number : (eye_z : ℤ) (facts : WallFacts) (back : Option Surface) (number : ℕ) → number ≢ 0 → number ≡ (top_part eye_z facts back).number → number ≡ facts.top.number
unfolding top_part
top_number eye_z facts None number some e = absurd (some e)
top_number eye_z facts (Some back) number some e = test_number _ _ number some e

bottom_number : (eye_z : ℤ) (facts : WallFacts) (back : Option Surface) (number : ℕ) → number ≢ 0 → number ≡ (bottom_part eye_z facts back).number → number ≡ facts.bottom.number
unfolding bottom_part
bottom_number eye_z facts None number some e = absurd (some e)
bottom_number eye_z facts (Some back) number some e = test_number _ _ number some e

abbrev AreOf : WallFacts → ℕ → Type 0
AreOf facts number = (number ≡ facts.top.number) ⊎ ((number ≡ facts.bottom.number) ⊎ (number ≡ facts.middle.number))

-- a texture of one of its parts is one of its facts
pub numbers-texture : (v : ViewValue) (facts : WallFacts) (first last number : ℕ) → number ≢ 0 → IsPartTexture (fragment_numbers v facts first last) number → AreOf facts number
unfolding fragment_numbers numbers_by
numbers-texture v facts first last number some (inl e) = inr (inr (middle_number v.eye.z facts facts.back number some e))
numbers-texture v facts first last number some (inr (inl e)) = inl (top_number v.eye.z facts facts.back number some e)
numbers-texture v facts first last number some (inr (inr e)) = inr (inl (bottom_number v.eye.z facts facts.back number some e))
