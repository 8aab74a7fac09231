-- Marks by number, one set after the other.
use Rattle.art_rules.proofs.Common.{[], All, All-filter, ap, arith, Bool, cases_lt, cond, eq-false_above, eq-same, false, filter, get_or, get_or-range_with_len, inl, inr, length, length-range_with_len, List, list_any, list_any_none, nat_le, nat_lt, nat_tests, Option, or_assoc, range_with_len, refl, suc, take, take_all, true, zero, ℕ, ◌&&◌, ◌+◌, ◌<◌, ◌==◌, ◌||◌, ◌∙◌, ◌∷◌, ◌≡◌, ◌≤◌}
use Rattle.sound_scene.specs.Rules.{Lump, LumpNo, MAP_LUMPS, PreparedTexture, SceneArt, is_map_lump, is_needed, is_patch_of_any, needed_lumps, patch_lumps}
use Rattle.texture_build.specs.Views.{is_marked}
use Rattle.texture_build.proofs.MarkLemmas.{filter_same}
use Rattle.sound_scene.specs.Views.{AddsMarks, lump_numbers}

-- marks set by two calls
pub adds_then : (a b c : List Bool) (p q : ℕ → Bool) → length b ≡ length a → AddsMarks a b p → AddsMarks b c q → AddsMarks a c (λ n. p n || q n)
adds_then a b c p q e one two = λ n l. two n (omega (arith, e, l)) ∙ ap (λ v. v || q n) (one n l) ∙ or_assoc (is_marked a n) (p n) (q n)

-- the same marks by another test
pub adds_same : (a b : List Bool) (p q : ℕ → Bool) → ((n : ℕ) → n < length a → p n ≡ q n) → AddsMarks a b p → AddsMarks a b q
adds_same a b p q same one = λ n l. one n l ∙ ap (λ v. is_marked a n || v) (same n l)

any_number : (lumps : List LumpNo) (number : ℕ) → list_any (λ (lump : LumpNo). lump.0 == number) lumps ≡ list_any (λ n. n == number) (lump_numbers lumps)
any_number [] number = refl
any_number (lump ∷ lumps) number = ap (λ b. (lump.0 == number) || b) (any_number lumps number)

-- the lumps of a list, all of which a loop has met
pub lumps_added : (a b : List Bool) (lumps : List LumpNo) (i : ℕ) → length lumps ≤ i → AddsMarks a b (λ number. list_any (λ (lump : LumpNo). lump.0 == number) (take i lumps)) → AddsMarks a b (λ number. list_any (λ n. n == number) (lump_numbers lumps))
lumps_added a b lumps i l one =
    adds_same a b (λ number. list_any (λ (lump : LumpNo). lump.0 == number) (take i lumps)) (λ number. list_any (λ n. n == number) (lump_numbers lumps))
    (λ number m. ap (list_any (λ (lump : LumpNo). lump.0 == number)) (take_all i lumps l) ∙ any_number lumps number) one

-- as many lumps behind a label as a map has
pub map_added : (a b : List Bool) (label i : ℕ) → i ≡ length MAP_LUMPS → AddsMarks a b (λ number. nat_lt label number && nat_le number (label + i)) → AddsMarks a b (is_map_lump label)
unfolding is_map_lump
map_added a b label i e one = λ number l. one number l ∙ ap (λ (n : ℕ). is_marked a number || (nat_lt label number && nat_le number (label + n))) e

range_past : (a n k : ℕ) → k < a → All (λ (m : ℕ). (m == k) ≡ false) (range_with_len a n)
range_past a n k l = λ j d m.
    let item_is : get_or (range_with_len a n) j d ≡ a + j = get_or-range_with_len a n j d (omega (arith, m, length-range_with_len a n)) in
    ap (λ (i : ℕ). i == k) item_is ∙ eq-false_above (a + j) k (omega (arith, l))

-- a number below all
none_past : (p : ℕ → Bool) (a n k : ℕ) → k < a → list_any (λ (m : ℕ). m == k) (filter p (range_with_len a n)) ≡ false
none_past p a n k l = list_any_none (λ (m : ℕ). m == k) (filter p (range_with_len a n)) (All-filter p (λ (m : ℕ). (m == k) ≡ false) (range_with_len a n) (range_past a n k l))

first_or : (b : Bool) (a k : ℕ) (rest : List ℕ) → list_any (λ (m : ℕ). m == k) (cond b (a ∷ rest) rest) ≡ ((b && (a == k)) || list_any (λ (m : ℕ). m == k) rest)
first_or true a k rest = refl
first_or false a k rest = refl

and_true : (b : Bool) → ((b && true) || false) ≡ b
and_true true = refl
and_true false = refl

and_false : (b c : Bool) → ((b && false) || c) ≡ c
and_false true c = refl
and_false false c = refl

passed_here : (p : ℕ → Bool) (a k : ℕ) (rest : List ℕ) → a ≡ k → list_any (λ (m : ℕ). m == k) rest ≡ false → ((p a && (a == k)) || list_any (λ (m : ℕ). m == k) rest) ≡ p k
passed_here p a k rest same none =
    ap (λ e. (p a && e) || list_any (λ (m : ℕ). m == k) rest) (ap (λ (i : ℕ). i == k) same ∙ eq-same k)
    ∙ ap (λ v. (p a && true) || v) none ∙ and_true (p a) ∙ ap p same

passed_later : (p : ℕ → Bool) (a k : ℕ) (rest : List ℕ) → a < k → list_any (λ (m : ℕ). m == k) rest ≡ p k → ((p a && (a == k)) || list_any (λ (m : ℕ). m == k) rest) ≡ p k
passed_later p a k rest l more =
    let numbers_differ : (a == k) ≡ false = grind (arith, nat_tests) in
    ap (λ e. (p a && e) || list_any (λ (m : ℕ). m == k) rest) numbers_differ ∙ and_false (p a) (list_any (λ (m : ℕ). m == k) rest) ∙ more

-- a number is among those that pass exactly where it passes
pub any_passed : (p : ℕ → Bool) (a n k : ℕ) → a ≤ k → k < a + n → list_any (λ (m : ℕ). m == k) (filter p (range_with_len a n)) ≡ p k
any_passed p a zero k b l = absurd (omega arith)
any_passed p a (suc n) k b l =
    let marked_behind = filter p (range_with_len (a + 1) n) in
    first_or (p a) a k marked_behind
    ∙ elim (cases_lt a k) [
      | inl m ↦ passed_later p a k marked_behind m (any_passed p (a + 1) n k (omega arith) (omega arith))
      | inr m ↦ passed_here p a k marked_behind (omega arith) (none_past p (a + 1) n k (omega arith))
    ]

-- the lumps of the patches of all textures
pub patches_added : (a b : List Bool) (textures : List (Option PreparedTexture)) (numbers : List ℕ) (n : ℕ) → length a ≤ n → numbers ≡ patch_lumps textures n → AddsMarks a b (λ number. list_any (λ m. m == number) numbers) → AddsMarks a b (is_patch_of_any textures)
unfolding patch_lumps
patches_added a b textures numbers n l e one =
    adds_same a b (λ number. list_any (λ m. m == number) numbers) (is_patch_of_any textures)
    (λ k m. ap (list_any (λ (i : ℕ). i == k)) e ∙ any_passed (is_patch_of_any textures) 0 n k (omega arith) (omega (arith, l, m))) one

-- the lumps that are needed are marked
pub needed_marked : (lumps : List Lump) (art : SceneArt) (marks : List Bool) → length marks ≡ length lumps → ((k : ℕ) → k < length lumps → is_marked marks k ≡ is_needed lumps art k) → filter (is_marked marks) (range_with_len 0 (length marks)) ≡ needed_lumps lumps art
unfolding needed_lumps
needed_marked lumps art marks e same =
    ap (λ (m : ℕ). filter (is_marked marks) (range_with_len 0 m)) e ∙ filter_same (is_marked marks) (is_needed lumps art) 0 (length lumps) (λ k l. same k (omega (arith, l)))
