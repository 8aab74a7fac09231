-- Laws of places: the first one, one step more, and the texel that a place stands for.
use Rattle.word_rules.proofs.Common.{ap, ap₂, arith, cast_unsigned, FitsSigned, mul-mod_first, mul-suc, negsuc, of_z, of_z-to_z, pos, pow_pos, refl, SFits-int_wrap, subst, subst₂, suc, suc-mul, sym, to_z, w32, wrapping_add_is, zero, ℕ, ℤ, ◌%◌, ◌*◌, ◌+◌, ◌/◌, ◌<◌, ◌^◌, ◌∙◌, ◌≡◌, ◌≤◌, add-mul, mod-lt, add-mod, to_z-of_z}
use lib.IntN.{◌+ℤ◌}
use Rattle.pixel_strips.specs.Rules.{FLAT_SIDE, FRACTION_BITS, Full, Packed, Spans, bits_of, flat_place, pack, packed_at, packed_place, plus, shr_word, span_place, step_at, texel_row, times}
use Rattle.word_rules.proofs.StepLemmas.{step_at-zero, step_at-more}
use Rattle.pixel_strips.specs.declared.places.TheConstants.{ROW_LIFT, ROW_SHIFT, FLAT_LIFT, CARRIES, GATHER, GATHER_SHIFT}
use Rattle.pixel_strips.specs.Places.{lifted, IsTexelPlace, IsFlatPlace, IsPackedPlace, IsFirstPlace, IsSpanPlace}

-- a sum is a word
pub plus_fits : (a b : ℤ) → FitsSigned w32 (plus a b)
unfolding plus
plus_fits a b = SFits-int_wrap w32 (a +ℤ b)

-- the bits of a sum
bits_of-plus : (a b : ℤ) → FitsSigned w32 a → FitsSigned w32 b → bits_of (plus a b) ≡ (bits_of a + bits_of b) % 2 ^ 32
unfolding plus
bits_of-plus a b f g =
    ap (cast_unsigned w32) (sym (wrapping_add_is w32 a b f g))
    ∙ of_z-to_z w32 ((bits_of a + bits_of b) % 2 ^ 32) (mod-lt (bits_of a + bits_of b) (pow_pos 32))

-- a sum of two words, lifted
sum_lifted : (p q s m : ℕ) → (p + q) % m * s % m ≡ (p * s % m + q * s % m) % m
sum_lifted p q s m =
    mul-mod_first (p + q) s m ∙ ap (λ (n : ℕ). n % m) (add-mul p q s) ∙ add-mod (p * s) (q * s) m

lifted-plus : (by : ℕ) (a b : ℤ) → FitsSigned w32 a → FitsSigned w32 b → lifted by (plus a b) ≡ (lifted by a + lifted by b) % 2 ^ 32
unfolding lifted
lifted-plus by a b f g =
    ap (λ (n : ℕ). n * 2 ^ by % 2 ^ 32) (bits_of-plus a b f g) ∙ sum_lifted (bits_of a) (bits_of b) (2 ^ by) (2 ^ 32)

-- the first place, and one step more
pub texel_place_is : (a : ℤ) (n : ℕ) → FitsSigned w32 a → n ≡ bits_of a → IsTexelPlace a (n * 2 ^ ROW_LIFT % 2 ^ 32)
unfolding lifted
texel_place_is a n f e = record { fits = f; is = ap (λ (m : ℕ). m * 2 ^ ROW_LIFT % 2 ^ 32) e }

pub texel_place_more : (a b : ℤ) (place step : ℕ) → IsTexelPlace a place → IsTexelPlace b step →
    IsTexelPlace (plus a b) ((place + step) % 2 ^ 32)
texel_place_more a b place step p s = record {
  fits = plus_fits a b;
  is = ap₂ (λ (m n : ℕ). (m + n) % 2 ^ 32) p.is s.is ∙ sym (lifted-plus ROW_LIFT a b p.fits s.fits);
}

-- the lift takes away the bits above a texel row
row_bits : (n : ℕ) → n * 2 ^ 9 % 2 ^ 32 / 2 ^ 25 ≡ n / 2 ^ 16 % 2 ^ 7
row_bits n = omega arith

-- above the fraction, the bits of a word are those of its whole texels
row_of_bits : (z : ℤ) → FitsSigned w32 z → bits_of z / 2 ^ 16 % 2 ^ 7 ≡ texel_row z
unfolding texel_row shr_word
row_of_bits (pos n) f = refl
row_of_bits (negsuc n) f = let word_fits = f.sfits in omega arith

pub row_of_place : (a : ℤ) (place : ℕ) → IsTexelPlace a place → place / 2 ^ ROW_SHIFT ≡ texel_row a
unfolding lifted
row_of_place a place p = ap (λ (n : ℕ). n / 2 ^ ROW_SHIFT) p.is ∙ row_bits (bits_of a) ∙ row_of_bits a p.fits

-- the same of a texel of a flat
flat_of_bits : (z : ℤ) → FitsSigned w32 z → bits_of z / 2 ^ 16 % 2 ^ 6 ≡ bits_of (shr_word z FRACTION_BITS) % FLAT_SIDE
unfolding shr_word
flat_of_bits (pos n) f = refl
flat_of_bits (negsuc n) f = let word_fits = f.sfits in omega arith

-- the carries leave the six highest bits alone
row_above : (n carries low : ℕ) → carries < 2 ^ 10 → low < 2 ^ 32 →
    (2 ^ 32 * (n * 2 ^ 10 % 2 ^ 32 + carries) + low) / 2 ^ 58 ≡ n / 2 ^ 16 % 2 ^ 6
row_above n carries low h l = omega arith

column_below : (n high : ℕ) → (2 ^ 32 * high + n * 2 ^ 10 % 2 ^ 32) / 2 ^ 26 % 2 ^ 6 ≡ n / 2 ^ 16 % 2 ^ 6
column_below n high = omega arith

lifted_below : (by : ℕ) (z : ℤ) → lifted by z < 2 ^ 32
unfolding lifted
lifted_below by z = mod-lt (bits_of z * 2 ^ by) (pow_pos 32)

-- the highest bits of the product of two texels' places
abbrev gather : ℕ → ℕ → ℕ
gather row column = (row * 2 ^ 58 % 2 ^ 64 + column * 2 ^ 26 % 2 ^ 64) * GATHER % 2 ^ 64 / 2 ^ GATHER_SHIFT

-- the texel that is gathered from a place
abbrev texel_in : ℕ → ℕ
texel_in place = gather (place / 2 ^ 58) (place / 2 ^ 26 % 64)

-- the product brings the two together
gathered : (row column : ℕ) → row < 64 → column < 64 → gather row column ≡ 64 * row + column
gathered row column l m = omega arith

pub flat_of_place : (x y : ℤ) (most place : ℕ) → most < CARRIES → IsFlatPlace x y most place → texel_in place ≡ flat_place x y
unfolding lifted flat_place
flat_of_place x y most place h p =
    let carries_at_most = p.few in
    let row_is = row_above (bits_of y) p.carries (lifted FLAT_LIFT x) (omega arith) (lifted_below FLAT_LIFT x) ∙ flat_of_bits y p.y_fits in
    let column_is = column_below (bits_of x) (lifted FLAT_LIFT y + p.carries) ∙ flat_of_bits x p.x_fits in
    ap texel_in p.is ∙ ap₂ gather row_is column_is
    ∙ gathered _ _ (omega arith) (omega arith)

-- the shift up of one half
halves : (x y : ℕ) → y % 2 ^ 32 * 2 ^ 32 % 2 ^ 64 + x ≡ 2 ^ 32 * (y % 2 ^ 32 + 0) + x
halves x y = omega arith

-- the first place of a flat, and one step more
pub flat_place_is : (x y : ℤ) (m n : ℕ) → FitsSigned w32 x → FitsSigned w32 y → m ≡ bits_of x → n ≡ bits_of y →
    IsFlatPlace x y 0 (n * 2 ^ 10 % 2 ^ 32 * 2 ^ 32 % 2 ^ 64 + m * 2 ^ 10 % 2 ^ 32)
unfolding lifted
flat_place_is x y m n f g d e = record {
  x_fits = f;
  y_fits = g;
  carries = 0;
  few = omega arith;
  is = halves (m * 2 ^ 10 % 2 ^ 32) (n * 2 ^ 10)
      ∙ ap₂ (λ (u v : ℕ). 2 ^ 32 * (v * 2 ^ 10 % 2 ^ 32 + 0) + u * 2 ^ 10 % 2 ^ 32) d e;
}

-- the sum of two words of two halves, of which the upper ones hold carries
two_halves : (y b x a carries more : ℕ) → x < 2 ^ 32 → a < 2 ^ 32 → carries + more + 1 < 2 ^ 10 →
    (2 ^ 32 * (y * 2 ^ 10 % 2 ^ 32 + carries) + x + (2 ^ 32 * (b * 2 ^ 10 % 2 ^ 32 + more) + a)) % 2 ^ 64
    ≡ 2 ^ 32 * ((y * 2 ^ 10 % 2 ^ 32 + b * 2 ^ 10 % 2 ^ 32) % 2 ^ 32 + (carries + more + (x + a) / 2 ^ 32)) + (x + a) % 2 ^ 32
two_halves y b x a carries more l m h = omega arith

-- one carry more at most
carried : (x a carries more most few : ℕ) → x < 2 ^ 32 → a < 2 ^ 32 → carries ≤ most → more ≤ few →
    carries + more + (x + a) / 2 ^ 32 ≤ most + few + 1
carried x a carries more most few l m h k = omega arith

pub flat_place_more : (x y a b : ℤ) (most few place step : ℕ) → most + few + 1 < CARRIES → IsFlatPlace x y most place → IsFlatPlace a b few step →
    IsFlatPlace (plus x a) (plus y b) (most + few + 1) ((place + step) % 2 ^ 64)
unfolding lifted
flat_place_more x y a b most few place step h p s =
    let low : ℕ = lifted FLAT_LIFT x in
    let added : ℕ = lifted FLAT_LIFT a in
    let carries : ℕ = p.carries + s.carries + (low + added) / 2 ^ 32 in
    let carries_at_most = p.few in
    let added_at_most = s.few in
    record {
      x_fits = plus_fits x a;
      y_fits = plus_fits y b;
      carries = carries;
      few = carried low added p.carries s.carries most few (lifted_below FLAT_LIFT x) (lifted_below FLAT_LIFT a) p.few s.few;
      is = ap₂ (λ (m n : ℕ). (m + n) % 2 ^ 64) p.is s.is
          ∙ two_halves (bits_of y) (bits_of b) low added p.carries s.carries (lifted_below FLAT_LIFT x) (lifted_below FLAT_LIFT a) (omega arith)
          ∙ ap₂ (λ (u v : ℕ). 2 ^ 32 * (u + carries) + v)
          (sym (lifted-plus FLAT_LIFT y b p.y_fits s.y_fits)) (sym (lifted-plus FLAT_LIFT x a p.x_fits s.x_fits));
    }

-- the same place under other names of its fractions
pub flat_place-on : (x y a b : ℤ) (most few place : ℕ) → x ≡ a → y ≡ b → most ≤ few → IsFlatPlace x y most place → IsFlatPlace a b few place
flat_place-on x y a b most few place d e h p = record {
  x_fits = subst (FitsSigned w32) d p.x_fits;
  y_fits = subst (FitsSigned w32) e p.y_fits;
  carries = p.carries;
  few = let carries_at_most = p.few in omega (arith, carries_at_most, h);
  is = p.is ∙ ap₂ (λ (u v : ℤ). 2 ^ 32 * (lifted FLAT_LIFT v + p.carries) + lifted FLAT_LIFT u) d e;
}

-- so many steps, and so many more
pub step_at-on : (first step : ℤ) (k m n : ℕ) → k + m ≡ n → step_at (step_at first step k) step m ≡ step_at first step n
unfolding step_at
step_at-on first step k zero n e = sym (step_at-zero (step_at first step k) step (plus_fits first (times (pos k) step)))
    ∙ ap (step_at first step) (let count_is : k ≡ n = omega (arith, e) in count_is)
step_at-on first step k (suc m) n e =
    sym (step_at-more (step_at first step k) step m (suc m) (omega arith))
    ∙ ap (λ (z : ℤ). plus z step) (step_at-on first step k m (k + m) refl) ∙ step_at-more first step (k + m) n (omega (arith, e))

-- a product, and one step more
word_more : (place step m n : ℕ) → n ≡ m + step → ((place + m % 2 ^ 32) % 2 ^ 32 + step) % 2 ^ 32 ≡ (place + n % 2 ^ 32) % 2 ^ 32
word_more place step m n e = omega arith

packed_more : (place step m n : ℕ) → n ≡ m + step → ((place + m % 2 ^ 64) % 2 ^ 64 + step) % 2 ^ 64 ≡ (place + n % 2 ^ 64) % 2 ^ 64
packed_more place step m n e = omega arith

-- so many steps at once
pub texel_place_steps : (a b : ℤ) (place step k : ℕ) → IsTexelPlace a place → IsTexelPlace b step →
    IsTexelPlace (step_at a b k) ((place + step * k % 2 ^ 32) % 2 ^ 32)
texel_place_steps a b place step zero p s =
    let lifted_small = lifted_below ROW_LIFT a in
    let place_is = p.is in
    let place_stays : place ≡ (place + step * 0 % 2 ^ 32) % 2 ^ 32 = omega arith in
    subst₂ IsTexelPlace (step_at-zero a b p.fits) place_stays p
texel_place_steps a b place step (suc k) p s =
    subst₂ IsTexelPlace (step_at-more a b k (suc k) (omega arith)) (word_more place step (step * k) (step * suc k) (mul-suc step k))
    (texel_place_more (step_at a b k) b ((place + step * k % 2 ^ 32) % 2 ^ 32) step (texel_place_steps a b place step k p s) s)

flat_place_below : (x y carries : ℕ) → carries < 2 ^ 10 → x < 2 ^ 32 → 2 ^ 32 * (y * 2 ^ 10 % 2 ^ 32 + carries) + x < 2 ^ 64
flat_place_below x y carries h l = omega arith

pub flat_place_steps : (x y a b : ℤ) (most place step k : ℕ) → most + k < CARRIES → IsFlatPlace x y most place → IsFlatPlace a b 0 step →
    IsFlatPlace (step_at x a k) (step_at y b k) (most + k) ((place + step * k % 2 ^ 64) % 2 ^ 64)
unfolding lifted
flat_place_steps x y a b most place step zero h p s =
    let carries_at_most = p.few in
    let place_below = flat_place_below (lifted FLAT_LIFT x) (bits_of y) p.carries (omega arith) (lifted_below FLAT_LIFT x) in
    let place_is = p.is in
    let place_stays : place ≡ (place + step * 0 % 2 ^ 64) % 2 ^ 64 = omega arith in
    subst (IsFlatPlace (step_at x a 0) (step_at y b 0) (most + 0)) place_stays
    (flat_place-on x y _ _ most (most + 0) place (step_at-zero x a p.x_fits) (step_at-zero y b p.y_fits) (omega arith) p)
flat_place_steps x y a b most place step (suc k) h p s =
    let place_before : ℕ = (place + step * k % 2 ^ 64) % 2 ^ 64 in
    subst (IsFlatPlace (step_at x a (suc k)) (step_at y b (suc k)) (most + suc k)) (packed_more place step (step * k) (step * suc k) (mul-suc step k))
    (flat_place-on (plus (step_at x a k) a) (plus (step_at y b k) b) _ _ (most + k + 0 + 1) (most + suc k) ((place_before + step) % 2 ^ 64)
    (step_at-more x a k (suc k) (omega arith)) (step_at-more y b k (suc k) (omega arith)) (omega arith)
    (flat_place_more (step_at x a k) (step_at y b k) a b (most + k) 0 place_before step (omega arith) (flat_place_steps x y a b most place step k (omega arith) p s) s))

-- the first fraction, as the code has its word, is that of step 0
first_step : (first step : ℤ) → FitsSigned w32 first → to_z w32 (of_z w32 first) ≡ step_at first step 0
first_step first step f = to_z-of_z w32 first f ∙ step_at-zero first step f

pub texel_place_begun : (first step : ℤ) (place : ℕ) → FitsSigned w32 first → IsTexelPlace (to_z w32 (of_z w32 first)) place → IsTexelPlace (step_at first step 0) place
texel_place_begun first step place f p = subst (λ (z : ℤ). IsTexelPlace z place) (first_step first step f) p

-- a step, as the code has its word
pub texel_place_word : (step : ℤ) (place : ℕ) → FitsSigned w32 step → IsTexelPlace (to_z w32 (of_z w32 step)) place → IsTexelPlace step place
texel_place_word step place f p = subst (λ (z : ℤ). IsTexelPlace z place) (to_z-of_z w32 step f) p

-- so many steps further on
pub texel_place_later : (first step : ℤ) (k m n place : ℕ) → k + m ≡ n → IsTexelPlace (step_at (step_at first step k) step m) place → IsTexelPlace (step_at first step n) place
texel_place_later first step k m n place e p = subst (λ (z : ℤ). IsTexelPlace z place) (step_at-on first step k m n e) p

pub flat_place_later : (x y x_step y_step : ℤ) (k m n place : ℕ) → k + m ≡ n →
    IsFlatPlace (step_at (step_at x x_step k) x_step m) (step_at (step_at y y_step k) y_step m) (k + m) place →
    IsFlatPlace (step_at x x_step n) (step_at y y_step n) n place
flat_place_later x y x_step y_step k m n place e p =
    flat_place-on _ _ _ _ (k + m) n place (step_at-on x x_step k m n e) (step_at-on y y_step k m n e) (omega (arith, e)) p

-- a place of packed fractions: the word shifted up keeps its lower half alone
packed_begun : (m : ℕ) → m < 2 ^ 32 → m * 2 ^ 48 % 2 ^ 64 + m ≡ 2 ^ 32 * (2 ^ 16 * (m % 2 ^ 16) + 0) + m
packed_begun m l = omega arith

pub packed_place_is : (word m : ℕ) → m ≡ word → m < 2 ^ 32 → IsPackedPlace word 0 (m * 2 ^ 48 % 2 ^ 64 + m)
packed_place_is word m e l =
    subst (λ (n : ℕ). IsPackedPlace n 0 (m * 2 ^ 48 % 2 ^ 64 + m)) e (record { fits = l; carries = 0; few = omega arith; is = packed_begun m l })

-- one step more
packed_sum : (w s carries more : ℕ) → w < 2 ^ 32 → s < 2 ^ 32 → carries + more + 1 < 2 ^ 10 →
    (2 ^ 32 * (2 ^ 16 * (w % 2 ^ 16) + carries) + w + (2 ^ 32 * (2 ^ 16 * (s % 2 ^ 16) + more) + s)) % 2 ^ 64
    ≡ 2 ^ 32 * (2 ^ 16 * ((w + s) % 2 ^ 32 % 2 ^ 16) + (carries + more + (w + s) / 2 ^ 32)) + (w + s) % 2 ^ 32
packed_sum w s carries more l m h = omega arith

packed_place_more : (w s most place step : ℕ) → most + 1 < CARRIES → IsPackedPlace w most place → IsPackedPlace s 0 step →
    IsPackedPlace ((w + s) % 2 ^ 32) (most + 1) ((place + step) % 2 ^ 64)
packed_place_more w s most place step h p q =
    let carries_at_most = p.few in
    let added_at_most = q.few in
    record {
      fits = mod-lt (w + s) (pow_pos 32);
      carries = p.carries + q.carries + (w + s) / 2 ^ 32;
      few = let each_carried = carried w s p.carries q.carries most 0 p.fits q.fits p.few q.few in omega (arith, each_carried);
      is = ap₂ (λ (m n : ℕ). (m + n) % 2 ^ 64) p.is q.is ∙ packed_sum w s p.carries q.carries p.fits q.fits (omega arith);
    }

-- the word after no step, after one more, and after so many more
packed_at-zero : (w s : ℕ) → w < 2 ^ 32 → w ≡ packed_at w s 0
unfolding packed_at
packed_at-zero w s l = omega arith

word_step : (w m s n : ℕ) → n ≡ m + s → ((w + m) % 2 ^ 32 + s) % 2 ^ 32 ≡ (w + n) % 2 ^ 32
word_step w m s n e = omega arith

packed_at-suc : (w s k : ℕ) → (packed_at w s k + s) % 2 ^ 32 ≡ packed_at w s (suc k)
unfolding packed_at
packed_at-suc w s k = word_step w (k * s) s (suc k * s) (suc-mul k s)

packed_at-on : (w s n k : ℕ) → packed_at (packed_at w s n) s k ≡ packed_at w s (n + k)
unfolding packed_at
packed_at-on w s n k = word_step w (n * s) (k * s) ((n + k) * s) (add-mul n k s)

packed_place_below : (w carries : ℕ) → carries < 2 ^ 10 → w < 2 ^ 32 → 2 ^ 32 * (2 ^ 16 * (w % 2 ^ 16) + carries) + w < 2 ^ 64
packed_place_below w carries h l = omega arith

packed_place_steps : (w s most place step k : ℕ) → most + k < CARRIES → IsPackedPlace w most place → IsPackedPlace s 0 step →
    IsPackedPlace (packed_at w s k) (most + k) ((place + step * k % 2 ^ 64) % 2 ^ 64)
packed_place_steps w s most place step zero h p q =
    let carries_at_most = p.few in
    let place_below = packed_place_below w p.carries (omega arith) p.fits in
    let place_is = p.is in
    let place_stays : place ≡ (place + step * 0 % 2 ^ 64) % 2 ^ 64 = omega arith in
    let most_same : most ≡ most + 0 = omega arith in
    subst (λ (n : ℕ). IsPackedPlace (packed_at w s 0) n ((place + step * 0 % 2 ^ 64) % 2 ^ 64)) most_same
    (subst₂ (λ (n m : ℕ). IsPackedPlace n most m) (packed_at-zero w s p.fits) place_stays p)
packed_place_steps w s most place step (suc k) h p q =
    let place_before : ℕ = (place + step * k % 2 ^ 64) % 2 ^ 64 in
    let most_more : most + k + 1 ≡ most + suc k = omega arith in
    subst (λ (n : ℕ). IsPackedPlace (packed_at w s (suc k)) n ((place + step * suc k % 2 ^ 64) % 2 ^ 64)) most_more
    (subst₂ (λ (n m : ℕ). IsPackedPlace n (most + k + 1) m) (packed_at-suc w s k) (packed_more place step (step * k) (step * suc k) (mul-suc step k))
    (packed_place_more (packed_at w s k) s (most + k) place_before step (omega arith) (packed_place_steps w s most place step k (omega arith) p q) q))

-- the texel of a packed place
packed_above : (w carries : ℕ) → carries < 2 ^ 10 → w < 2 ^ 32 → (2 ^ 32 * (2 ^ 16 * (w % 2 ^ 16) + carries) + w) / 2 ^ 58 ≡ w / 2 ^ 10 % 64
packed_above w carries h l = omega arith

packed_below : (w carries : ℕ) → w < 2 ^ 32 → (2 ^ 32 * (2 ^ 16 * (w % 2 ^ 16) + carries) + w) / 2 ^ 26 % 64 ≡ w / 2 ^ 26
packed_below w carries l = omega arith

packed_of_place : (w most place : ℕ) → most < CARRIES → IsPackedPlace w most place → texel_in place ≡ packed_place w
unfolding packed_place
packed_of_place w most place h p =
    let carries_at_most = p.few in
    let word_fits = p.fits in
    ap texel_in p.is ∙ ap₂ gather
    (packed_above w p.carries (omega arith) p.fits) (packed_below w p.carries p.fits)
    ∙ gathered _ _ (omega arith) (omega arith)

-- however spans are stepped: the first place, so many steps at once, and the texel
first_begins : (spans : Spans) (x y x_step y_step : ℤ) (place : ℕ) → FitsSigned w32 x → FitsSigned w32 y → IsFirstPlace spans x y place → IsSpanPlace spans x y x_step y_step 0 place
first_begins Full x y x_step y_step place f g p = flat_place-on x y _ _ 0 0 place (step_at-zero x x_step f) (step_at-zero y y_step g) (omega arith) p
first_begins Packed x y x_step y_step place f g p =
    subst (λ (n : ℕ). IsPackedPlace n 0 place) (packed_at-zero (pack x y) (pack x_step y_step) p.fits) p

pub first_place_words : (spans : Spans) (x y : ℤ) (place : ℕ) → FitsSigned w32 x → FitsSigned w32 y →
    IsFirstPlace spans (to_z w32 (of_z w32 x)) (to_z w32 (of_z w32 y)) place → IsFirstPlace spans x y place
first_place_words spans x y place f g p = subst₂ (λ (a b : ℤ). IsFirstPlace spans a b place) (to_z-of_z w32 x f) (to_z-of_z w32 y g) p

pub span_place_begun : (spans : Spans) (x y x_step y_step : ℤ) (place : ℕ) → FitsSigned w32 x → FitsSigned w32 y →
    IsFirstPlace spans (to_z w32 (of_z w32 x)) (to_z w32 (of_z w32 y)) place → IsSpanPlace spans x y x_step y_step 0 place
span_place_begun spans x y x_step y_step place f g p = first_begins spans x y x_step y_step place f g (first_place_words spans x y place f g p)

pub span_place_steps : (spans : Spans) (x y a b : ℤ) (n place step k : ℕ) → n + k < CARRIES → IsSpanPlace spans x y a b n place → IsFirstPlace spans a b step →
    IsSpanPlace spans x y a b (n + k) ((place + step * k % 2 ^ 64) % 2 ^ 64)
span_place_steps Full x y a b n place step k h p s =
    flat_place_later x y a b n k (n + k) _ refl (flat_place_steps (step_at x a n) (step_at y b n) a b n place step k h p s)
span_place_steps Packed x y a b n place step k h p s =
    subst (λ (w : ℕ). IsPackedPlace w (n + k) ((place + step * k % 2 ^ 64) % 2 ^ 64)) (packed_at-on (pack x y) (pack a b) n k)
    (packed_place_steps (packed_at (pack x y) (pack a b) n) (pack a b) n place step k h p s)

pub flat_of_span : (spans : Spans) (x y a b : ℤ) (n place : ℕ) → n < CARRIES → IsSpanPlace spans x y a b n place → texel_in place ≡ span_place spans x y a b n
unfolding span_place
flat_of_span Full x y a b n place h p = flat_of_place (step_at x a n) (step_at y b n) n place h p
flat_of_span Packed x y a b n place h p = packed_of_place (packed_at (pack x y) (pack a b) n) n place h p

-- the same place under another number of steps
pub span_place-to : (spans : Spans) (x y a b : ℤ) (m n place : ℕ) → m ≡ n → IsSpanPlace spans x y a b m place → IsSpanPlace spans x y a b n place
span_place-to spans x y a b m n place e p = subst (λ (k : ℕ). IsSpanPlace spans x y a b k place) e p
