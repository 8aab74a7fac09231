-- Which owners are live, and what live items add up to.
use Rattle.zone_rules.proofs.Common.{◌≡◌, ℕ, ◌+◌, ◌≤◌, Bool, true, false, cond, ◌&&◌, ◌||◌, List, [], ◌∷◌, ◌++◌, Option, Some, None, refl, sym, ap, ap₂, ◌∙◌, arith, inl, inr, ◌==◌, is_some, option_and_then, sum_by, cond-true, cond-false, and_parts, or_cases, or_parts, or_left, or_right, eqb-true, false≢true, sum_by-cons}
use Rattle.zone_rules.specs.Zones.{Owner, Holding, Block, Lacks, OwnsOnce, Unique, same_owner, holds_for, is_held_by, owned_block, block_size}
use Rattle.zone_rules.specs.Orders.{Item, has_owner, has_item, AreDistinct, items_size, is_listed, AllListed, is_live, AllLive, live_sum}
use Rattle.zone_rules.proofs.OwnerLemmas.{owner_eq}

held_some : (o : Owner) (h : Option Holding) → holds_for o h ≡ true → is_some h ≡ true
held_some o None e = absurd (false≢true e)
held_some o (Some h) e = refl

-- an owner is live where the first block is its, or in the rest
pub live_step : (o : Owner) (b : Block) (bs : List Block) → is_live (b ∷ bs) o ≡ (is_held_by o b || is_live bs o)
live_step o b bs = go (is_held_by o b) refl where
  go : (t : Bool) → is_held_by o b ≡ t → is_some (option_and_then (λ (x : Block). x.holding) (cond t (Some b) (owned_block o bs))) ≡ (t || is_live bs o)
  go true e = held_some o b.holding e
  go false e = refl

pub live_past : (o : Owner) (b : Block) (bs : List Block) → is_held_by o b ≡ false → is_live (b ∷ bs) o ≡ is_live bs o
live_past o b bs e = live_step o b bs ∙ ap (λ t. t || is_live bs o) e

pub live_here : (o : Owner) (b : Block) (bs : List Block) → is_held_by o b ≡ true → is_live (b ∷ bs) o ≡ true
live_here o b bs e = live_step o b bs ∙ ap (λ t. t || is_live bs o) e

lacks_dead : (o : Owner) (bs : List Block) → Lacks o bs → is_live bs o ≡ false
lacks_dead o [] l = refl
lacks_dead o (b ∷ bs) l = live_past o b bs l.0 ∙ lacks_dead o bs l.1

-- an item, and what its block has
abbrev pub item : Owner → ℕ → Item
item o size = record { owner = o; size = size }

abbrev pub item_block : Item → ℕ
item_block i = block_size i.size

same_item : (o : Owner) (size : ℕ) (i : Item) → (same_owner o i.owner && (i.size == size)) ≡ true → item o size ≡ i
same_item o size i e =
    let owner_and_size = and_parts (same_owner o i.owner) (i.size == size) e in
    let same_owners = owner_eq o i.owner owner_and_size.0 in
    let same_sizes = sym (eqb-true i.size size owner_and_size.1) in
    λ k. record { owner = same_owners k; size = same_sizes k }

item_owner : (items : List Item) (o : Owner) (size : ℕ) → has_item items o size ≡ true → has_owner items o ≡ true
item_owner [] o size e = e
item_owner (i ∷ items) o size e = elim (or_cases (same_owner o i.owner && (i.size == size)) (has_item items o size) e) [
  | inl x ↦ or_left (same_owner o i.owner) (has_owner items o) (and_parts (same_owner o i.owner) (i.size == size) x).0
  | inr x ↦ or_right (same_owner o i.owner) (has_owner items o) (item_owner items o size x)
]

-- with one live block more in front
module _ (f : Item → ℕ) (b : Block) (h : Holding) (is : b.holding ≡ Some h) (bs : List Block) where
  sum_beside : (items : List Item) → has_owner items h.owner ≡ false → live_sum f items (b ∷ bs) ≡ live_sum f items bs
  sum_beside [] e = refl
  sum_beside (i ∷ items) e =
      let neither_is_owner = or_parts (same_owner h.owner i.owner) (has_owner items h.owner) e in
      ap₂ ◌+◌ (ap (λ t. cond t (f i) 0) (live_past i.owner b bs (ap (holds_for i.owner) is ∙ neither_is_owner.0))) (sum_beside items neither_is_owner.1)

  not_again : (i : Item) (items : List Item) → has_owner items i.owner ≡ false → has_item items h.owner h.asked ≡ true → (t : Bool) → same_owner h.owner i.owner ≡ t → t ≡ false
  not_again i items d e true x = absurd (false≢true (sym d ∙ ap (has_owner items) (sym (owner_eq h.owner i.owner x)) ∙ item_owner items h.owner h.asked e))
  not_again i items d e false x = refl

  pub sum_with : (items : List Item) → AreDistinct items → has_item items h.owner h.asked ≡ true → is_live bs h.owner ≡ false → live_sum f items (b ∷ bs) ≡ f (item h.owner h.asked) + live_sum f items bs
  sum_with [] d e n = absurd (false≢true e)
  sum_with (i ∷ items) d e n = go (same_owner h.owner i.owner && (i.size == h.asked)) refl e (λ k. sum_with items d.1 k n) where
    go : (t : Bool) → (same_owner h.owner i.owner && (i.size == h.asked)) ≡ t → (t || has_item items h.owner h.asked) ≡ true
        → (has_item items h.owner h.asked ≡ true → live_sum f items (b ∷ bs) ≡ f (item h.owner h.asked) + live_sum f items bs) → live_sum f (i ∷ items) (b ∷ bs) ≡ f (item h.owner h.asked) + live_sum f (i ∷ items) bs
    go true x e rest =
        let owners_agree = (and_parts (same_owner h.owner i.owner) (i.size == h.asked) x).0 in
        let o_is = owner_eq h.owner i.owner owners_agree in
        let now = cond-true (is_live (b ∷ bs) i.owner) (f i) 0 (live_here i.owner b bs (ap (holds_for i.owner) is ∙ owners_agree)) in
        let not_counted_before = cond-false (is_live bs i.owner) (f i) 0 (ap (is_live bs) (sym o_is) ∙ n) in
        let rest_sum_kept = sum_beside items (ap (has_owner items) o_is ∙ d.0) in
        let same_value = ap f (same_item h.owner h.asked i x) in
        omega (arith, now, not_counted_before, rest_sum_kept, same_value)
    go false x e rest =
        let owners_differ = not_again i items d.0 e (same_owner h.owner i.owner) refl in
        let count_same = ap (λ t. cond t (f i) 0) (live_past i.owner b bs (ap (holds_for i.owner) is ∙ owners_differ)) in
        let rest_sum = rest e in
        omega (arith, count_same, rest_sum)

-- what live blocks add up to
abbrev pub held_one : (Item → ℕ) → Option Holding → ℕ
held_one f None = 0
held_one f (Some h) = f (item h.owner h.asked)

abbrev pub held_sum : (Item → ℕ) → List Block → ℕ
held_sum f [] = 0
held_sum f (b ∷ bs) = held_one f b.holding + held_sum f bs

pub held_sum-append : (f : Item → ℕ) (xs ys : List Block) → held_sum f (xs ++ ys) ≡ held_sum f xs + held_sum f ys
held_sum-append f [] ys = omega arith
held_sum-append f (b ∷ xs) ys = let rest_adds = held_sum-append f xs ys in omega arith

free_beside : (f : Item → ℕ) (b : Block) (bs : List Block) (items : List Item) → b.holding ≡ None → live_sum f items (b ∷ bs) ≡ live_sum f items bs
free_beside f b bs [] e = refl
free_beside f b bs (i ∷ items) e = ap₂ ◌+◌ (ap (λ t. cond t (f i) 0) (live_past i.owner b bs (ap (holds_for i.owner) e))) (free_beside f b bs items e)

nobody : (f : Item → ℕ) (items : List Item) → live_sum f items [] ≡ 0
nobody f [] = refl
nobody f (i ∷ items) = let rest_is_zero = nobody f items in omega arith

-- live items and live blocks are the same
pub live_is_held : (f : Item → ℕ) (items : List Item) (bs : List Block) → AreDistinct items → AllListed items bs → Unique bs → live_sum f items bs ≡ held_sum f bs
live_is_held f items [] d l u = nobody f items
live_is_held f items (b ∷ bs) d l u = go b.holding refl l.0 u.0 (live_is_held f items bs d l.1 u.1) where
  go : (x : Option Holding) → b.holding ≡ x → is_listed items x ≡ true → OwnsOnce x bs → live_sum f items bs ≡ held_sum f bs → live_sum f items (b ∷ bs) ≡ held_one f x + held_sum f bs
  go None e l u k = let block_adds_nothing = free_beside f b bs items e in omega arith
  go (Some h) e l u k = let block_adds_item = sum_with f b h e bs items d l (lacks_dead h.owner bs u) in omega arith

at_most : (n : ℕ) (t : Bool) → cond t n 0 ≤ n
at_most n true = omega arith
at_most n false = omega arith

-- live items are no more than all, and one that is not live has room beside them
pub live_most : (f : Item → ℕ) (items : List Item) (bs : List Block) → live_sum f items bs ≤ sum_by f items
live_most f [] bs = omega arith
live_most f (i ∷ items) bs =
    let rest_is_most = live_most f items bs in
    let sum_of_all = sum_by-cons f i items in
    let item_is_most = at_most (f i) (is_live bs i.owner) in
    omega (arith, rest_is_most, sum_of_all, item_is_most)

pub live_room : (f : Item → ℕ) (items : List Item) (bs : List Block) (o : Owner) (size : ℕ) → has_item items o size ≡ true → is_live bs o ≡ false → f (item o size) + live_sum f items bs ≤ sum_by f items
live_room f [] bs o size e n = absurd (false≢true e)
live_room f (i ∷ items) bs o size e n = go (same_owner o i.owner && (i.size == size)) refl e (λ k. live_room f items bs o size k n) where
  go : (t : Bool) → (same_owner o i.owner && (i.size == size)) ≡ t → (t || has_item items o size) ≡ true → (has_item items o size ≡ true → f (item o size) + live_sum f items bs ≤ sum_by f items) → f (item o size) + live_sum f (i ∷ items) bs ≤ sum_by f (i ∷ items)
  go true x e rest =
      let owners_agree = (and_parts (same_owner o i.owner) (i.size == size) x).0 in
      let not_counted_before = cond-false (is_live bs i.owner) (f i) 0 (ap (is_live bs) (sym (owner_eq o i.owner owners_agree)) ∙ n) in
      let same_value = ap f (same_item o size i x) in
      let rest_is_most = live_most f items bs in
      let sum_of_all = sum_by-cons f i items in
      omega (arith, not_counted_before, same_value, rest_is_most, sum_of_all)
  go false x e rest =
      let rest_has_room = rest e in
      let sum_of_all = sum_by-cons f i items in
      let item_is_most = at_most (f i) (is_live bs i.owner) in
      omega (arith, rest_has_room, sum_of_all, item_is_most)

pub block_least : (n : ℕ) → 24 ≤ block_size n
block_least n = omega arith

-- live items that add up to all are all
pub full_live : (items : List Item) (bs : List Block) → items_size items ≤ live_sum item_block items bs → AllLive items bs
full_live [] bs h = tt
full_live (i ∷ items) bs h = go (is_live bs i.owner) h (λ k. full_live items bs k) where
  s : sum_by item_block (i ∷ items) ≡ item_block i + sum_by item_block items
  s = sum_by-cons item_block i items

  go : (t : Bool) → items_size (i ∷ items) ≤ cond t (item_block i) 0 + live_sum item_block items bs → (items_size items ≤ live_sum item_block items bs → AllLive items bs) → (t ≡ true) × AllLive items bs
  go true h rest = (refl, rest (omega (arith, s, h)))
  go false h rest =
      let rest_is_most = live_most item_block items bs in let block_takes = block_least i.size in absurd (omega (arith, s, h, rest_is_most, block_takes))

pub all_live_has : (items : List Item) (bs : List Block) (o : Owner) (size : ℕ) → AllLive items bs → has_item items o size ≡ true → is_live bs o ≡ true
all_live_has [] bs o size a e = absurd (false≢true e)
all_live_has (i ∷ items) bs o size a e = elim (or_cases (same_owner o i.owner && (i.size == size)) (has_item items o size) e) [
  | inl x ↦ ap (is_live bs) (owner_eq o i.owner (and_parts (same_owner o i.owner) (i.size == size) x).0) ∙ a.0
  | inr x ↦ all_live_has items bs o size a.1 x
]

-- what is live behind the same front
pub live_behind : (o : Owner) (front xs ys : List Block) → (is_live xs o ≡ true → is_live ys o ≡ true) → is_live (front ++ xs) o ≡ true → is_live (front ++ ys) o ≡ true
live_behind o [] xs ys k e = k e
live_behind o (b ∷ front) xs ys k e = live_step o b (front ++ ys) ∙ (elim (or_cases (is_held_by o b) (is_live (front ++ xs) o) (sym (live_step o b (front ++ xs)) ∙ e)) [
  | inl x ↦ or_left (is_held_by o b) (is_live (front ++ ys) o) x
  | inr x ↦ or_right (is_held_by o b) (is_live (front ++ ys) o) (live_behind o front xs ys k x)
])
