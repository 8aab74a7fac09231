-- Laws of `raw_column` and `column_of_angle`: what is further left is seen further left.
use Rattle.word_rules.proofs.Common.{ap, arith, Bool, clamps, cond, false, FitsSigned, int_lt, int_shr, int_wrap, int_wrap_fits, ints, mul-le-mul_right, neg_ℤ, negsuc, pos, refl, suc, true, unsigned_abs, w32, ℕ, ℤ, ◌*ℤ◌, ◌*◌, ◌+ℤ◌, ◌+◌, ◌-ℤ◌, ◌∙◌, ◌≡◌, ◌≤ℤ◌, ◌≤◌}
use Rattle.word_rules.specs.Words.{mul, plus, minus, clamp_word, shr_word, minus_one, fixed, shl_word}
use Rattle.word_rules.proofs.WordLemmas.{clamp_word-low, clamp_word-high}
use Rattle.view_rules.specs.{declared.TheConstants.MAX_TANGENT, declared.ViewShape.ViewShape}
use Rattle.view_rules.specs.Tables.{projection, seen_column, raw_column, within_view}

-- products with a number that is not negative keep the order
product_mono : (a b : ℤ) (m : ℕ) → a ≤ℤ b → (a *ℤ pos m) ≤ℤ (b *ℤ pos m)
product_mono (pos a) (pos b) m h = let products_ordered : a * m ≤ b * m = mul-le-mul_right m (omega (arith, ints)) in omega (arith, ints)
product_mono (pos a) (negsuc b) m h = absurd (omega (arith, ints))
product_mono (negsuc a) (pos b) m h = omega (arith, ints)
product_mono (negsuc a) (negsuc b) m h = let products_ordered : suc b * m ≤ suc a * m = mul-le-mul_right m (omega (arith, ints)) in omega (arith, ints)

-- so do shifts to the right by 16 bits
shift_mono : (a b : ℤ) → a ≤ℤ b → int_shr a 16 ≤ℤ int_shr b 16
shift_mono (pos a) (pos b) h = omega (arith, ints)
shift_mono (pos a) (negsuc b) h = absurd (omega (arith, ints))
shift_mono (negsuc a) (pos b) h = omega (arith, ints)
shift_mono (negsuc a) (negsuc b) h = omega (arith, ints)

-- what lies between two words is a word
fits_between : (z : ℤ) → negsuc 2147483647 ≤ℤ z → z ≤ℤ pos 2147483647 → FitsSigned w32 z
fits_between (pos n) l h = record { sfits = omega (arith, ints) }
fits_between (negsuc n) l h = record { sfits = omega (arith, ints) }

-- the product of a tangent within reach and a focal length
product_low : (f : ℤ) (m : ℕ) → negsuc 131071 ≤ℤ f → m ≤ 20971520 → negsuc 2748779069439 ≤ℤ (f *ℤ pos m)
product_low f m l h = let product_at_least : (negsuc 131071 *ℤ pos m) ≤ℤ (f *ℤ pos m) = product_mono (negsuc 131071) f m l in omega (arith, ints)

product_high : (f : ℤ) (m : ℕ) → f ≤ℤ pos 131072 → m ≤ 20971520 → (f *ℤ pos m) ≤ℤ pos 2748779069440
product_high f m l h = let product_at_most : (f *ℤ pos m) ≤ℤ (pos 131072 *ℤ pos m) = product_mono f (pos 131072) m l in omega (arith, ints)

shifted_low : (z : ℤ) → negsuc 2748779069439 ≤ℤ z → negsuc 41943039 ≤ℤ int_shr z 16
shifted_low z h = shift_mono (negsuc 2748779069439) z h

shifted_high : (z : ℤ) → z ≤ℤ pos 2748779069440 → int_shr z 16 ≤ℤ pos 41943040
shifted_high z h = shift_mono z (pos 2748779069440) h

mul_within : (f : ℤ) (m : ℕ) → negsuc 131071 ≤ℤ f → f ≤ℤ pos 131072 → m ≤ 20971520 → mul f (pos m) ≡ int_shr (f *ℤ pos m) 16
unfolding mul
mul_within f m l h b =
    let shift_at_least = shifted_low (f *ℤ pos m) (product_low f m l b) in
    let shift_at_most = shifted_high (f *ℤ pos m) (product_high f m h b) in
    int_wrap_fits w32 (int_shr (f *ℤ pos m) 16) (fits_between _ (omega (arith, ints)) (omega (arith, ints)))

-- the place of a shifted product, before it is held within the view's reach
abbrev place_of : ℕ → ℤ → ℤ
place_of centre z = int_shr ((pos (centre * 65536) -ℤ z) +ℤ pos 65535) 16

place_falls : (centre : ℕ) (y z : ℤ) → y ≤ℤ z → place_of centre z ≤ℤ place_of centre y
place_falls centre y z h = shift_mono ((pos (centre * 65536) -ℤ z) +ℤ pos 65535) ((pos (centre * 65536) -ℤ y) +ℤ pos 65535) (omega (arith, ints))

pub projection_is : (shape : ViewShape) → shape.centre_x ≤ 160 → projection shape ≡ pos (shape.centre_x * 65536)
unfolding projection fixed shl_word
projection_is shape h = int_wrap_fits w32 (pos (shape.centre_x * 65536)) (fits_between (pos (shape.centre_x * 65536)) (omega (arith, ints)) (omega (arith, ints)))

sum_within : (centre : ℕ) (z : ℤ) → centre ≤ 160 → negsuc 41943039 ≤ℤ z → z ≤ℤ pos 41943040 → plus (minus (pos (centre * 65536)) z) (pos 65535) ≡ (pos (centre * 65536) -ℤ z) +ℤ pos 65535
unfolding plus minus
sum_within centre z c l h =
    let inner = int_wrap_fits w32 (pos (centre * 65536) -ℤ z) (fits_between _ (omega (arith, ints)) (omega (arith, ints))) in
    let outer = int_wrap_fits w32 ((pos (centre * 65536) -ℤ z) +ℤ pos 65535) (fits_between _ (omega (arith, ints)) (omega (arith, ints))) in
    ap (λ (y : ℤ). int_wrap w32 (y +ℤ pos 65535)) inner ∙ outer

seen_is : (shape : ViewShape) (m : ℕ) (f : ℤ) → shape.centre_x ≤ 160 → m ≤ 20971520 → negsuc 131071 ≤ℤ f → f ≤ℤ pos 131072 →
    seen_column shape (pos m) f ≡ clamp_word minus_one (pos (shape.width + 1)) (place_of shape.centre_x (int_shr (f *ℤ pos m) 16))
unfolding seen_column shr_word
seen_is shape m f c b l h =
    let shift_at_least = shifted_low (f *ℤ pos m) (product_low f m l b) in
    let shift_at_most = shifted_high (f *ℤ pos m) (product_high f m h b) in
    let clamped = λ (y : ℤ). clamp_word minus_one (pos (shape.width + 1)) (int_shr y 16) in
    ap (λ (y : ℤ). clamped (plus (minus y (mul f (pos m))) (pos 65535))) (projection_is shape c)
    ∙ ap (λ (y : ℤ). clamped (plus (minus (pos (shape.centre_x * 65536)) y) (pos 65535))) (mul_within f m l h b)
    ∙ ap clamped (sum_within shape.centre_x (int_shr (f *ℤ pos m) 16) c shift_at_least shift_at_most)

clamp_mono : (lo hi y z : ℤ) → y ≤ℤ z → clamp_word lo hi y ≤ℤ clamp_word lo hi z
unfolding clamp_word
clamp_mono lo hi y z h = omega (arith, ints, clamps)

seen_falls : (shape : ViewShape) (m : ℕ) (f g : ℤ) → shape.centre_x ≤ 160 → m ≤ 20971520 → negsuc 131071 ≤ℤ f → f ≤ℤ g → g ≤ℤ pos 131072 → seen_column shape (pos m) g ≤ℤ seen_column shape (pos m) f
seen_falls shape m f g c b l h r =
    let f_at_most : f ≤ℤ pos 131072 = omega (arith, ints) in
    let g_at_least : negsuc 131071 ≤ℤ g = omega (arith, ints) in
    let shifted = shift_mono (f *ℤ pos m) (g *ℤ pos m) (product_mono f g m h) in
    rw (seen_is shape m f c b l f_at_most, seen_is shape m g c b g_at_least r)
    (clamp_mono minus_one (pos (shape.width + 1)) _ _ (place_falls shape.centre_x (int_shr (f *ℤ pos m) 16) (int_shr (g *ℤ pos m) 16) shifted))

seen_low : (shape : ViewShape) (focal f : ℤ) → minus_one ≤ℤ seen_column shape focal f
unfolding seen_column
seen_low shape focal f = clamp_word-low minus_one (pos (shape.width + 1)) _ (omega (arith, ints))

seen_high : (shape : ViewShape) (focal f : ℤ) → seen_column shape focal f ≤ℤ pos (shape.width + 1)
unfolding seen_column
seen_high shape focal f = clamp_word-high minus_one (pos (shape.width + 1)) _ (omega (arith, ints))

-- two columns, of a tangent g further left than f: past the left edge, past the right edge, or seen
raw_cases : (w : ℕ) (fl fr gl gr : Bool) (s r : ℤ) → minus_one ≤ℤ s → s ≤ℤ pos (w + 1) → minus_one ≤ℤ r → r ≤ℤ pos (w + 1) →
    (fl ≡ true → gl ≡ true) → (gr ≡ true → fr ≡ true) → (gl ≡ false → fr ≡ false → r ≤ℤ s) →
    cond gl minus_one (cond gr (pos (w + 1)) r) ≤ℤ cond fl minus_one (cond fr (pos (w + 1)) s)
raw_cases w true fr true gr s r a b c d p q k = omega (arith, ints)
raw_cases w true fr false gr s r a b c d p q k = let false_is_true : false ≡ true = p refl in cc
raw_cases w false true true gr s r a b c d p q k = omega (arith, ints)
raw_cases w false false true gr s r a b c d p q k = a
raw_cases w false true false true s r a b c d p q k = omega (arith, ints)
raw_cases w false true false false s r a b c d p q k = d
raw_cases w false false false true s r a b c d p q k = let false_is_true : false ≡ true = q refl in cc
raw_cases w false false false false s r a b c d p q k = k refl refl

lt_left : (a f g : ℤ) → f ≤ℤ g → int_lt a f ≡ true → int_lt a g ≡ true
lt_left a f g h e = grind (arith, ints)

lt_right : (a f g : ℤ) → f ≤ℤ g → int_lt g a ≡ true → int_lt f a ≡ true
lt_right a f g h e = grind (arith, ints)

not_lt : (a b : ℤ) → int_lt a b ≡ false → b ≤ℤ a
not_lt a b e = grind (arith, ints)

-- a greater tangent is seen no further right
pub raw_column-falls : (shape : ViewShape) (m : ℕ) (f g : ℤ) → shape.centre_x ≤ 160 → m ≤ 20971520 → f ≤ℤ g → raw_column shape (pos m) g ≤ℤ raw_column shape (pos m) f
unfolding raw_column
raw_column-falls shape m f g c b h =
    raw_cases shape.width (int_lt MAX_TANGENT f) (int_lt f (neg_ℤ MAX_TANGENT)) (int_lt MAX_TANGENT g) (int_lt g (neg_ℤ MAX_TANGENT))
    (seen_column shape (pos m) f) (seen_column shape (pos m) g)
    (seen_low shape (pos m) f) (seen_high shape (pos m) f) (seen_low shape (pos m) g) (seen_high shape (pos m) g)
    (lt_left MAX_TANGENT f g h) (lt_right (neg_ℤ MAX_TANGENT) f g h)
    (λ gl fr. seen_falls shape m f g c b (not_lt f (neg_ℤ MAX_TANGENT) fr) h (not_lt MAX_TANGENT g gl))

abs_mono : (y z : ℤ) → pos 0 ≤ℤ y → y ≤ℤ z → unsigned_abs y ≤ unsigned_abs z
abs_mono (pos a) (pos b) p h = omega (arith, ints)
abs_mono (pos a) (negsuc b) p h = absurd (omega (arith, ints))
abs_mono (negsuc a) z p h = absurd (omega (arith, ints))

pub within_view-mono : (shape : ViewShape) (y z : ℤ) → y ≤ℤ z → within_view shape y ≤ within_view shape z
unfolding within_view
within_view-mono shape y z h =
    abs_mono _ _ (clamp_word-low (pos 0) (pos shape.width) y (omega (arith, ints))) (clamp_mono (pos 0) (pos shape.width) y z h)

abs_below : (z : ℤ) (w : ℕ) → pos 0 ≤ℤ z → z ≤ℤ pos w → unsigned_abs z ≤ w
abs_below (pos a) w p h = omega (arith, ints)
abs_below (negsuc a) w p h = absurd (omega (arith, ints))

-- a column is no further right than the width
pub within_view-bound : (shape : ViewShape) (z : ℤ) → within_view shape z ≤ shape.width
unfolding within_view
within_view-bound shape z =
    abs_below _ shape.width (clamp_word-low (pos 0) (pos shape.width) z (omega (arith, ints))) (clamp_word-high (pos 0) (pos shape.width) z (omega (arith, ints)))
