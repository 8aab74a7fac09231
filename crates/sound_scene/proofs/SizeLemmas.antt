-- Laws of the sizes of a zone: the greatest and the sum of blocks, one more block at a time.
use Rattle.art_rules.proofs.Common.{[], All, All-cons, All-filter, All-head, All-nil, All-tail, ap, arith, cases_lt, false, get_or, get_or-range_with_len, get_or_past, inl, inr, is_some, IsStrictlyIncreasing, IsStrictlyIncreasing-filter, length, length-map, length-range_with_len, List, map, max, None, Option, range_with_len, refl, slice_index, Some, subst, suc, sum_by, sum_by_more, sym, take, take_all, true, unwrap_or, zero, ℕ, ◌*◌, ◌+◌, ◌<◌, ◌∙◌, ◌∷◌, ◌≡◌, ◌≤◌, ◌⊎◌}
use Rattle.sound_scene.specs.Rules.{Lump, LumpNo, MIN_FRAGMENT, PreparedTexture, SceneArt, block_or_none, composite_block, enough, greatest_by, is_needed, lump_block, needed_lumps, roomy, zone_sizes}
use Rattle.texture_build.specs.{Asked.size_of, Views.unprepared}
use Rattle.sound_scene.specs.Views.{lump_numbers}

max_none : (a : ℕ) → max a 0 ≡ max 0 a
max_none a = omega arith

max_zero : (a : ℕ) → a ≡ max a 0
max_zero a = omega arith

max_first : (a b c : ℕ) → max a (max b c) ≡ max (max a b) c
max_first a b c = omega arith

module _ {X : Type 0} (f : X → ℕ) where
  -- of no item
  pub greatest_none : 0 ≡ greatest_by f []
  unfolding greatest_by
  greatest_none = refl

  greatest_more : (xs : List X) (i : ℕ) (d : X) → i < length xs → greatest_by f (take (i + 1) xs) ≡ max (greatest_by f (take i xs)) (f (get_or xs i d))
  unfolding greatest_by
  greatest_more [] i d l = absurd (omega arith)
  greatest_more (x ∷ xs) zero d l = max_none (f x)
  greatest_more (x ∷ xs) (suc i) d l =
      let next_count_is : suc i + 1 ≡ suc (i + 1) = omega arith in
      rw next_count_is (ap (max (f x)) (greatest_more xs i d (omega arith)) ∙ max_first (f x) (greatest_by f (take i xs)) (f (get_or xs i d)))

  -- of the items that g makes
  pub greatest_by-map : {Y : Type 0} (g : Y → X) (ys : List Y) → greatest_by (λ y. f (g y)) ys ≡ greatest_by f (map g ys)
  unfolding greatest_by
  greatest_by-map g [] = refl
  greatest_by-map g (y ∷ ys) = ap (max (f (g y))) (greatest_by-map g ys)

  -- one block more; behind the last item there is none
  pub greatest_step : (xs : List X) (i : ℕ) (d : X) (before block after : ℕ) → (length xs ≤ i → f d ≡ 0) → before ≡ greatest_by f (take i xs) → block ≡ f (get_or xs i d) → after ≡ max before block → after ≡ greatest_by f (take (i + 1) xs)
  greatest_step xs i d before block after none is at then = then ∙ ap (λ (n : ℕ). max n block) is ∙ ap (max (greatest_by f (take i xs))) at ∙ go (cases_lt i (length xs)) where
    go : (i < length xs) ⊎ (length xs ≤ i) → max (greatest_by f (take i xs)) (f (get_or xs i d)) ≡ greatest_by f (take (i + 1) xs)
    go (inl l) = sym (greatest_more xs i d l)
    go (inr l) =
        let nothing = ap f (get_or_past xs i d l) ∙ none l in
        ap (max (greatest_by f (take i xs))) nothing ∙ sym (max_zero (greatest_by f (take i xs))) ∙ ap (greatest_by f) (take_all i xs l) ∙ ap (greatest_by f) (sym (take_all (i + 1) xs (omega arith)))

  pub sum_step : (xs : List X) (i : ℕ) (d : X) (before block after : ℕ) → (length xs ≤ i → f d ≡ 0) → before ≡ sum_by f (take i xs) → block ≡ f (get_or xs i d) → after ≡ before + block → after ≡ sum_by f (take (i + 1) xs)
  sum_step xs i d before block after none is at then = then ∙ ap (λ (n : ℕ). n + block) is ∙ ap (λ (n : ℕ). sum_by f (take i xs) + n) at ∙ go (cases_lt i (length xs)) where
    go : (i < length xs) ⊎ (length xs ≤ i) → sum_by f (take i xs) + f (get_or xs i d) ≡ sum_by f (take (i + 1) xs)
    go (inl l) = sym (sum_by_more f xs i d l)
    go (inr l) =
        let nothing : f (get_or xs i d) ≡ 0 = ap f (get_or_past xs i d l) ∙ none l in
        let sums_same : sum_by f (take i xs) ≡ sum_by f (take (i + 1) xs) = ap (sum_by f) (take_all i xs l ∙ sym (take_all (i + 1) xs (omega arith))) in
        omega (arith, nothing, sums_same)

-- a texture that is not prepared has no composite
pub composite_block-none : composite_block None ≡ 0
unfolding composite_block
composite_block-none = refl

pub unprepared_block : (t : Option PreparedTexture) → is_some t ≡ false → 0 ≡ composite_block t
unfolding composite_block
unprepared_block None e = refl
unprepared_block (Some t) e = cc

-- a prepared one has that of its size
pub prepared_block : (t : Option PreparedTexture) (block : ℕ) → is_some t ≡ true → block ≡ block_or_none (size_of (unwrap_or t unprepared)) → block ≡ composite_block t
unfolding composite_block
prepared_block None block e is = cc
prepared_block (Some t) block e is = is

range_increases : (n : ℕ) → IsStrictlyIncreasing (range_with_len 0 n)
range_increases n = λ k l.
    let next_below : k + 1 < n = omega (arith, l, length-range_with_len 0 n) in
    omega (arith, get_or-range_with_len 0 n k 0 (omega arith), get_or-range_with_len 0 n (k + 1) 0 next_below)

-- the lumps that are needed ascend
pub needed_increase : (lumps : List Lump) (art : SceneArt) → IsStrictlyIncreasing (needed_lumps lumps art)
unfolding needed_lumps
needed_increase lumps art = IsStrictlyIncreasing-filter (is_needed lumps art) (range_with_len 0 (length lumps)) (range_increases (length lumps))

range_below : (n : ℕ) → All (λ (m : ℕ). m < n) (range_with_len 0 n)
range_below n = λ k d l.
    let index_inside : k < n = omega (arith, l, length-range_with_len 0 n) in
    omega (arith, get_or-range_with_len 0 n k d index_inside)

numbers_all : (n : ℕ) (lumps : List LumpNo) → All (λ (m : ℕ). m < n) (lump_numbers lumps) → All (λ (lump : LumpNo). lump.0 < n) lumps
numbers_all n [] all = All-nil (λ (lump : LumpNo). lump.0 < n)
numbers_all n (lump ∷ lumps) all =
    All-cons (λ (one : LumpNo). one.0 < n) lump lumps (All-head (λ (m : ℕ). m < n) lump.0 (lump_numbers lumps) all) (numbers_all n lumps (All-tail (λ (m : ℕ). m < n) lump.0 (lump_numbers lumps) all))

-- and are of the directory
pub needed_there : (lumps : List Lump) (art : SceneArt) (needed : List LumpNo) → lump_numbers needed ≡ needed_lumps lumps art → All (λ (lump : LumpNo). lump.0 < length lumps) needed
unfolding needed_lumps
needed_there lumps art needed e =
    numbers_all (length lumps) needed (subst (All (λ (m : ℕ). m < length lumps)) (sym e)
    (All-filter (is_needed lumps art) (λ (m : ℕ). m < length lumps) (range_with_len 0 (length lumps)) (range_below (length lumps))))

number_read : (lumps : List LumpNo) (i : ℕ) (d : LumpNo) → i < length lumps → slice_index (lump_numbers lumps) i ≡ (get_or lumps i d).0
number_read [] i d l = absurd (omega arith)
number_read (lump ∷ lumps) zero d l = refl
number_read (lump ∷ lumps) (suc i) d l = number_read lumps i d (omega arith)

increase_index : (xs : List ℕ) → IsStrictlyIncreasing xs → (i : ℕ) → i < length xs → i ≤ slice_index xs i
increase_index xs up zero l = omega arith
increase_index xs up (suc i) l =
    let next_is_suc : i + 1 ≡ suc i = omega arith in
    let index_at_most : i ≤ slice_index xs i = increase_index xs up i (omega arith) in
    let step : slice_index xs i < slice_index xs (i + 1) = up i (omega arith) in
    let last : slice_index xs i < slice_index xs (suc i) = subst (λ (k : ℕ). slice_index xs i < slice_index xs k) next_is_suc step in
    omega arith

-- of lumps that ascend the number is at least the index, so a bound of numbers is one of indexes
pub index_below : (lumps : List LumpNo) (i : ℕ) (d : LumpNo) (n : ℕ) → IsStrictlyIncreasing (lump_numbers lumps) → i < length lumps → (get_or lumps i d).0 < n → i < n
index_below lumps i d n up l below =
    let within_numbers : i < length (lump_numbers lumps) = rw (length-map lumps (λ (lump : LumpNo). lump.0)) l in
    let number_at_least = increase_index (lump_numbers lumps) up i within_numbers in
    omega (arith, number_read lumps i d l)

-- both sizes, by what they are made of
pub enough_is : (lumps : List Lump) (art : SceneArt) (needed : List ℕ) (colormap greatest composite fragment : ℕ) → needed ≡ needed_lumps lumps art → colormap ≡ lump_block lumps art.colormap → greatest ≡ greatest_by (lump_block lumps) needed → composite ≡ greatest_by composite_block art.prepared → fragment ≡ MIN_FRAGMENT →
    colormap + composite + 2 * greatest + 2 * fragment ≡ enough lumps art
unfolding enough
enough_is lumps art needed colormap greatest composite fragment e one two three four = rw (one, two, three, four, e) refl

pub roomy_is : (lumps : List Lump) (art : SceneArt) (needed : List ℕ) (sum composites fragment : ℕ) → needed ≡ needed_lumps lumps art → sum ≡ sum_by (lump_block lumps) needed → composites ≡ sum_by composite_block art.prepared → fragment ≡ MIN_FRAGMENT →
    sum + composites + fragment ≡ roomy lumps art
unfolding roomy
roomy_is lumps art needed sum composites fragment e one two three = rw (one, two, three, e) refl

pub sizes_are : (lumps : List Lump) (art : SceneArt) (more most : ℕ) → more ≡ enough lumps art → most ≡ roomy lumps art → record { enough = more; roomy = most } ≡ zone_sizes lumps art
unfolding zone_sizes
sizes_are lumps art more most one two = ap (λ (n : ℕ). record { enough = n; roomy = most }) one ∙ ap (λ (n : ℕ). record { enough = enough lumps art; roomy = n }) two
