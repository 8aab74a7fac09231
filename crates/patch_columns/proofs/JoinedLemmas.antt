-- Laws of lists of equal length that are joined, one for each number that passes a test.
use Rattle.art_rules.proofs.Common.{[], ap, append-nil, append_assoc, arith, Bool, cond, false, filter, filter-append, length, length-append, List, map-id, map-range_with_len_more, range_with_len, suc, sym, true, ℕ, ◌*◌, ◌++◌, ◌+◌, ◌-◌, ◌<◌, ◌∙◌, ◌∷◌, ◌≡◌}
use Rattle.art_rules.specs.Words.{joined_lists}
use Rattle.art_rules.proofs.Laws.{joined_lists-append, joined_lists-cons}

pub length-joined_lists : {X Y : Type 0} (f : X → List Y) (n : ℕ) (xs : List X) → ((x : X) → length (f x) ≡ n) → length (joined_lists f xs) ≡ n * length xs
unfolding joined_lists
length-joined_lists f n [] h = omega arith
length-joined_lists f n (x ∷ xs) h =
    let rest_length = length-joined_lists f n xs h in
    length-append (f x) (joined_lists f xs) ∙ (omega (arith, h x, rest_length))

-- the numbers below n, and from n to the last, that pass
abbrev pub below : (ℕ → Bool) → ℕ → List ℕ
below p n = filter p (range_with_len 0 n)

abbrev pub onward : (ℕ → Bool) → ℕ → ℕ → List ℕ
onward p n width = filter p (range_with_len n (width - n))

below-more : (p : ℕ → Bool) (n : ℕ) → below p (n + 1) ≡ below p n ++ cond (p n) (n ∷ []) []
below-more p n =
    let range_more : range_with_len 0 (n + 1) ≡ range_with_len 0 n ++ n ∷ [] =
    sym (map-id (range_with_len 0 (n + 1))) ∙ map-range_with_len_more (λ (x : ℕ). x) 0 n n (omega arith) ∙ ap (λ (xs : List ℕ). xs ++ n ∷ []) (map-id (range_with_len 0 n)) in
    ap (filter p) range_more ∙ filter-append p (range_with_len 0 n) (n ∷ [])

onward-more : (p : ℕ → Bool) (n width : ℕ) → n < width → onward p n width ≡ cond (p n) (n ∷ onward p (n + 1) width) (onward p (n + 1) width)
onward-more p n width l =
    let columns_left : width - n ≡ suc (width - (n + 1)) = omega arith in
    ap (λ (m : ℕ). filter p (range_with_len n m)) columns_left

-- the lists of g for the numbers below n, then those of f from n on
unfoldable pub joined_up_to : {Y : Type 0} → (ℕ → List Y) → (ℕ → List Y) → (ℕ → Bool) → ℕ → ℕ → List Y
joined_up_to g f p n width = joined_lists g (below p n) ++ joined_lists f (onward p n width)

pub joined_up_to-none : {Y : Type 0} (g f : ℕ → List Y) (p : ℕ → Bool) (width : ℕ) → joined_lists f (below p width) ≡ joined_up_to g f p 0 width
unfolding joined_up_to joined_lists
joined_up_to-none g f p width =
    let width_is : width ≡ width - 0 = omega arith in
    ap (λ (m : ℕ). joined_lists f (filter p (range_with_len 0 m))) width_is

pub joined_up_to-all : {Y : Type 0} (g f : ℕ → List Y) (p : ℕ → Bool) (width : ℕ) → joined_up_to g f p width width ≡ joined_lists g (below p width)
unfolding joined_up_to joined_lists
joined_up_to-all g f p width =
    let none_left : width - width ≡ 0 = omega arith in
    ap (λ (m : ℕ). joined_lists g (below p width) ++ joined_lists f (filter p (range_with_len width m))) none_left ∙ append-nil (joined_lists g (below p width))

-- a number that does not pass has no list
pub joined_up_to-skip : {Y : Type 0} (g f : ℕ → List Y) (p : ℕ → Bool) (n width : ℕ) → n < width → p n ≡ false → joined_up_to g f p n width ≡ joined_up_to g f p (n + 1) width
unfolding joined_up_to
joined_up_to-skip g f p n width l off =
    let below_same : below p (n + 1) ≡ below p n = below-more p n ∙ (rw off (append-nil (below p n))) in
    let onward_same : onward p n width ≡ onward p (n + 1) width = onward-more p n width l ∙ (rw off) in
    ap (λ (ns : List ℕ). joined_lists g (below p n) ++ joined_lists f ns) onward_same
    ∙ ap (λ (ns : List ℕ). joined_lists g ns ++ joined_lists f (onward p (n + 1) width)) (sym below_same)

-- the list of a number that passes, among the others
pub joined_up_to-here : {Y : Type 0} (g f : ℕ → List Y) (p : ℕ → Bool) (n width : ℕ) → n < width → p n ≡ true → joined_up_to g f p n width ≡ joined_lists g (below p n) ++ (f n ++ joined_lists f (onward p (n + 1) width))
unfolding joined_up_to
joined_up_to-here g f p n width l on =
    let onward_is : onward p n width ≡ n ∷ onward p (n + 1) width = onward-more p n width l ∙ (rw on) in
    ap (λ (ns : List ℕ). joined_lists g (below p n) ++ joined_lists f ns) onward_is
    ∙ ap (λ (ys : List _). joined_lists g (below p n) ++ ys) (joined_lists-cons f n (onward p (n + 1) width))

single : {Y : Type 0} (g : ℕ → List Y) (n : ℕ) → joined_lists g (n ∷ []) ≡ g n
unfolding joined_lists
single g n = append-nil (g n)

pub joined_up_to-next : {Y : Type 0} (g f : ℕ → List Y) (p : ℕ → Bool) (n width : ℕ) → p n ≡ true → joined_up_to g f p (n + 1) width ≡ joined_lists g (below p n) ++ (g n ++ joined_lists f (onward p (n + 1) width))
unfolding joined_up_to
joined_up_to-next {Y} g f p n width on =
    let lists_after : List Y = joined_lists f (onward p (n + 1) width) in
    let below_is : below p (n + 1) ≡ below p n ++ n ∷ [] = below-more p n ∙ (rw on) in
    ap (λ (ns : List ℕ). joined_lists g ns ++ lists_after) below_is
    ∙ ap (λ (ys : List Y). ys ++ lists_after) (joined_lists-append g (below p n) (n ∷ []) ∙ ap (λ (ys : List Y). joined_lists g (below p n) ++ ys) (single g n))
    ∙ append_assoc (joined_lists g (below p n)) (g n) lists_after
