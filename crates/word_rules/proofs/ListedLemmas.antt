-- Laws of `listed`, `listed_from` and `joined_lists`.
use Rattle.std.proofs.Common.{◌≡◌, ℕ, ◌+◌, ◌-◌, ◌<◌, ◌≤◌, List, [], ◌∷◌, ◌++◌, length, get_or, refl, ap, sym, ◌∙◌, append-nil, arith}
use Rattle.std.specs.List.{range_with_len}
use Rattle.std.specs.Prelude.{map}
use Rattle.std.proofs.lemmas.List.FromFn.{length-map-range_with_len, get_or-map-range_with_len, map-range_with_len_more, fill_by_all}
use Rattle.std.proofs.lemmas.List.Concat.{flat_map-append}
use Rattle.word_rules.specs.Listed.{listed, listed_from, joined_lists}

pub listed-zero : {X : Type 0} (f : ℕ → X) → [] ≡ listed f 0
unfolding listed
listed-zero f = refl

pub length-listed : {X : Type 0} (f : ℕ → X) (n : ℕ) → length (listed f n) ≡ n
unfolding listed
length-listed f n = length-map-range_with_len f 0 n

pub get_or-listed : {X : Type 0} (f : ℕ → X) (n i : ℕ) (d : X) → i < n → get_or (listed f n) i d ≡ f i
unfolding listed
get_or-listed f n i d h = get_or-map-range_with_len f 0 n i i d h (omega arith)

-- one value more
pub listed-more : {X : Type 0} (f : ℕ → X) (n : ℕ) → listed f (n + 1) ≡ listed f n ++ f n ∷ []
unfolding listed
listed-more f n = map-range_with_len_more f 0 n n (omega arith)

-- a list with these values is that list
pub listed-all : {X : Type 0} (f : ℕ → X) (xs : List X) (n : ℕ) (d : X) → length xs ≡ n → ((k : ℕ) → k < n → get_or xs k d ≡ f k) → xs ≡ listed f n
unfolding listed
listed-all f xs n d l h = fill_by_all f xs n d l h

-- none where first is past last
pub listed_from-none : {X : Type 0} (f : ℕ → X) (first last : ℕ) → last < first → listed_from f first last ≡ []
unfolding listed_from
listed_from-none f first last h =
    let count_is_zero : last + 1 - first ≡ 0 = omega arith in ap (λ (n : ℕ). map f (range_with_len first n)) count_is_zero

-- a list from first to last, by its length
pub listed_from-length : {X : Type 0} (f : ℕ → X) (first last n : ℕ) → first + n ≡ last + 1 → map f (range_with_len first n) ≡ listed_from f first last
unfolding listed_from
listed_from-length f first last n h =
    let count_is : n ≡ last + 1 - first = omega arith in ap (λ (m : ℕ). map f (range_with_len first m)) count_is

pub length-listed_from : {X : Type 0} (f : ℕ → X) (first last : ℕ) → length (listed_from f first last) ≡ last + 1 - first
unfolding listed_from
length-listed_from f first last = length-map-range_with_len f first (last + 1 - first)

pub get_or-listed_from : {X : Type 0} (f : ℕ → X) (first last i : ℕ) (d : X) → first + i ≤ last → get_or (listed_from f first last) i d ≡ f (first + i)
unfolding listed_from
get_or-listed_from f first last i d h = get_or-map-range_with_len f first (last + 1 - first) i (first + i) d (omega arith) refl

-- one value more, where the list has one or is the first to have one
pub listed_from-more : {X : Type 0} (f : ℕ → X) (first last next : ℕ) → first ≤ next → last + 1 ≡ next → listed_from f first next ≡ listed_from f first last ++ f next ∷ []
listed_from-more f first last next h e =
    sym (listed_from-length f first next (next - first + 1) (omega arith))
    ∙ map-range_with_len_more f first (next - first) next (omega arith)
    ∙ ap (λ (xs : List _). xs ++ f next ∷ []) (listed_from-length f first last (next - first) (omega arith))

pub joined_lists-append : {X Y : Type 0} (f : X → List Y) (xs ys : List X) → joined_lists f (xs ++ ys) ≡ joined_lists f xs ++ joined_lists f ys
unfolding joined_lists
joined_lists-append f xs ys = flat_map-append f xs ys

pub joined_lists-cons : {X Y : Type 0} (f : X → List Y) (x : X) (xs : List X) → joined_lists f (x ∷ xs) ≡ f x ++ joined_lists f xs
unfolding joined_lists
joined_lists-cons f x xs = refl

-- one value alone
pub joined_lists-one : {X Y : Type 0} (f : X → List Y) (x : X) → joined_lists f (x ∷ []) ≡ f x
unfolding joined_lists
joined_lists-one f x = append-nil (f x)

-- one more behind numbers that follow one another
pub joined_lists-next : {Y : Type 0} (f : ℕ → List Y) (first next : ℕ) → first ≤ next →
    joined_lists f (map (λ x. x) (range_with_len first (next + 1 - first))) ≡ joined_lists f (map (λ x. x) (range_with_len first (next - first))) ++ f next
joined_lists-next {Y} f first next l =
    let numbers_before : List ℕ = map (λ x. x) (range_with_len first (next - first)) in
    let count_grows : next + 1 - first ≡ next - first + 1 = omega arith in
    ap (λ (k : ℕ). joined_lists f (map (λ x. x) (range_with_len first k))) count_grows
    ∙ ap (joined_lists f) (map-range_with_len_more (λ x. x) first (next - first) next (omega (arith, l)))
    ∙ joined_lists-append f numbers_before (next ∷ [])
    ∙ ap (λ (ys : List Y). joined_lists f numbers_before ++ ys) (joined_lists-one f next)

-- for `grind`: a loop that pushes the values
pub ruleset listing = (listed-zero, listed-more, length-listed)
