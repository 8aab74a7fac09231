-- The widest gap.
use Rattle.zone_rules.proofs.Common.{◌≡◌, ℕ, ◌+◌, ◌<◌, ◌≤◌, Bool, true, false, cond, List, [], ◌∷◌, ◌++◌, find, Some, None, refl, arith, option_map, inl, inr, max, ap, All, ◌⊎◌, le-leb, lt-leb, leb-true, leb-false, cases_lt, cond-false, sum_by-cons, All-nil, All-cons, All-head, All-tail}
use Rattle.zone_rules.specs.Zones.{Block, Tiles, is_pinned}
use Rattle.zone_rules.specs.Requests.{total, opens, in_front, gaps, holds, first_place, first_room, widest, blocks_from}

pub total-cons : (b : Block) (g : List Block) → total (b ∷ g) ≡ b.size + total g
total-cons b g = sum_by-cons (λ (c : Block). c.size) b g

-- a part of the list has no wider gap
in_front_wider : (b : Block) (o : Bool) (gs : List (List Block)) → widest gs ≤ widest (in_front b o gs)
in_front_wider b false gs = omega arith
in_front_wider b true [] = omega arith
in_front_wider b true (g ∷ gs) = let total_is = total-cons b g in omega arith

wider_more : (b : Block) (bs : List Block) → widest (gaps bs) ≤ widest (gaps (b ∷ bs))
wider_more b bs = go (is_pinned b) where
  go : (t : Bool) → widest (gaps bs) ≤ widest (cond t (gaps bs) (in_front b (opens bs) (gaps bs)))
  go true = omega arith
  go false = in_front_wider b (opens bs) (gaps bs)

-- from the first block's place on, or from one before it, these are all the blocks
pub all_from : (r p q : ℕ) (bs : List Block) → Tiles p q bs → r ≤ p → blocks_from r bs ≡ bs
all_from r p q [] t h = refl
all_from r p q (b ∷ bs) t h = rw (le-leb r b.place (omega arith)) (ap (λ xs. b ∷ xs) (all_from r (p + b.size) q bs t.2 (omega arith)))

-- the blocks from a place on have no wider gap than all
pub wider_from : (r p q : ℕ) (bs : List Block) → Tiles p q bs → widest (gaps (blocks_from r bs)) ≤ widest (gaps bs)
wider_from r p q [] t = omega arith
wider_from r p q (b ∷ bs) t = pick (cases_lt b.place r) (wider_from r (p + b.size) q bs t.2) where
  pick : (b.place < r) ⊎ (r ≤ b.place) → widest (gaps (blocks_from r bs)) ≤ widest (gaps bs) → widest (gaps (blocks_from r (b ∷ bs))) ≤ widest (gaps (b ∷ bs))
  pick (inl low) rest =
      let first_skipped : blocks_from r (b ∷ bs) ≡ blocks_from r bs = cond-false _ _ _ (lt-leb r b.place low) in
      let widest_same = ap (λ xs. widest (gaps xs)) first_skipped in
      let widest_grows = wider_more b bs in
      omega arith
  pick (inr high) rest =
      let widest_same = ap (λ xs. widest (gaps xs)) (all_from r p q (b ∷ bs) t (let begins = t.0 in omega arith)) in
      omega arith

-- nothing holds where the widest is too small
pub none_found : (w : ℕ) (gs : List (List Block)) → 0 < w → first_room w gs ≡ None → widest gs < w
none_found w [] pos e = pos
none_found w (g ∷ gs) pos e = go (holds w g) refl e (λ k. none_found w gs pos k) where
  go : (t : Bool) → holds w g ≡ t → option_map first_place (cond t (Some g) (find (holds w) gs)) ≡ None → (first_room w gs ≡ None → widest gs < w) → max (total g) (widest gs) < w
  go true h e rest = cc
  go false h e rest = let rest_is_less = rest e in let gap_is_less = leb-false w (total g) h in omega arith

pub some_found : (w p : ℕ) (gs : List (List Block)) → first_room w gs ≡ Some p → w ≤ widest gs
some_found w p [] e = cc
some_found w p (g ∷ gs) e = go (holds w g) refl e (λ k. some_found w p gs k) where
  go : (t : Bool) → holds w g ≡ t → option_map first_place (cond t (Some g) (find (holds w) gs)) ≡ Some p → (first_room w gs ≡ Some p → w ≤ widest gs) → w ≤ max (total g) (widest gs)
  go true h e rest = let gap_is_enough = leb-true w (total g) h in omega arith
  go false h e rest = let rest_is_enough = rest e in omega arith

pub widest-append : (xs bs : List (List Block)) → widest (xs ++ bs) ≡ max (widest xs) (widest bs)
widest-append [] bs = omega arith
widest-append (a ∷ xs) bs = let rest_is_widest = widest-append xs bs in omega arith

pub all_small : (w : ℕ) (gs : List (List Block)) → widest gs < w → All (λ g. total g < w) gs
all_small w [] h = All-nil (λ g. total g < w)
all_small w (g ∷ gs) h = All-cons (λ x. total x < w) g gs (omega arith) (all_small w gs (omega arith))

pub small_all : (w : ℕ) (gs : List (List Block)) → 0 < w → All (λ g. total g < w) gs → widest gs < w
small_all w [] pos a = pos
small_all w (g ∷ gs) pos a =
    let gap_is_less = All-head (λ x. total x < w) g gs a in
    let rest_is_less = small_all w gs pos (All-tail (λ x. total x < w) g gs a) in
    omega arith
