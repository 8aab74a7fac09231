-- A request of a zone that leaves one free block at the rover: where it goes, and what it leaves.
use Rattle.zone_rules.proofs.Common.{◌≡◌, ℕ, ◌+◌, ◌-◌, ◌<◌, ◌≤◌, Bool, true, false, cond, List, [], ◌∷◌, ◌++◌, Option, Some, None, refl, ap, ap₂, ◌∙◌, arith, option_map, ◌==◌, ⊤, find, is_none, nat_le, cond-true, cond-false, and_left, or_from, ne_eqb, eq-eqb, le-leb, lt-leb}
use Rattle.zone_rules.specs.Zones.{Holding, Block, Tiles, is_free, free_block}
use Rattle.zone_rules.specs.Requests.{total, gaps, stretches, first_room, passed_blocks, first_place, holds, blocks_from, start_in, ends_free_at, place_or, purge_among, purge_block, join_free, join_on, place_after, is_among, least_front}
use Rattle.zone_rules.specs.Orders.{IsExact, AllExact, LiveFirst}
use Rattle.zone_rules.proofs.{GapLemmas.total-cons, JoinLemmas.on_held}
use Rattle.zone_rules.proofs.OrderSumLemmas.{item_block, held_one, held_sum}

exact_held : (size : ℕ) (h : Option Holding) → IsExact size h → is_none h ≡ false
exact_held size None x = absurd x
exact_held size (Some h) x = refl

-- all places lie below one
abbrev pub Below : ℕ → List Block → Type 0
Below r [] = ⊤
Below r (b ∷ bs) = (b.place < r) × Below r bs

-- live blocks of their very size add up to what they hold
pub front_total : (front : List Block) → AllExact front → total front ≡ held_sum item_block front
front_total [] x = refl
front_total (b ∷ front) x = total-cons b front ∙ ap₂ ◌+◌ (one b.holding x.0) (front_total front x.1) where
  one : (h : Option Holding) → IsExact b.size h → b.size ≡ held_one item_block h
  one None x = absurd x
  one (Some h) x = x

-- the free block begins where the live ones end, and ends the region
pub front_ends : (p q r n : ℕ) (front : List Block) → Tiles p q (front ++ (free_block r n ∷ [])) → (p + total front ≡ r) × (r + n ≡ q)
front_ends p q r n [] t = (omega (arith, t.0), omega (arith, t.0, t.2))
front_ends p q r n (b ∷ front) t =
    let rest_ends = front_ends (p + b.size) q r n front t.2 in let total_is = total-cons b front in (omega (arith, rest_ends.0, total_is), rest_ends.1)

pub front_below : (p q r n : ℕ) (front : List Block) → Tiles p q (front ++ (free_block r n ∷ [])) → Below r front
front_below p q r n [] t = tt
front_below p q r n (b ∷ front) t =
    let rest_ends = front_ends (p + b.size) q r n front t.2 in (omega (arith, rest_ends.0, t.0, t.1), front_below (p + b.size) q r n front t.2)

pub exact_first : (front : List Block) (b : Block) → AllExact front → LiveFirst (front ++ (b ∷ []))
exact_first [] b x = tt
exact_first (c ∷ []) b x = (exact_held c.size c.holding x.0, tt)
exact_first (c ∷ d ∷ front) b x = (exact_held c.size c.holding x.0, exact_first (d ∷ front) b x.1)

pub exact_push : (front : List Block) (b : Block) → AllExact front → IsExact b.size b.holding → AllExact (front ++ (b ∷ []))
exact_push [] b x e = (e, tt)
exact_push (c ∷ front) b x e = (x.0, exact_push front b x.1 e)

pub after_front : (r q : ℕ) (front rest : List Block) (b : Block) → Below r front → b.place ≡ r → place_after r q (front ++ (b ∷ rest)) ≡ cond (b.place + b.size == q) 0 (b.place + b.size)
after_front r q [] rest b l e = cond-true (b.place == r) _ _ (eq-eqb b.place r e)
after_front r q (c ∷ front) rest b l e =
    cond-false (c.place == r) _ _ (ne_eqb c.place r (λ x. let is_below = l.0 in omega arith)) ∙ after_front r q front rest b l.1 e

module _ (w r n : ℕ) (pos : 0 < n) (large : w ≤ n) where
  abbrev pub rest : Block
  rest = free_block r n

  none_ends : (front : List Block) → AllExact front → find (ends_free_at r) (front ++ (rest ∷ [])) ≡ None
  none_ends [] x = cond-false (ends_free_at r rest) (Some rest) None (ne_eqb (r + n) r (λ e. omega arith))
  none_ends (b ∷ front) x = cond-false (ends_free_at r b) (Some b) (find (ends_free_at r) (front ++ (rest ∷ []))) (and_left (is_free b) (b.place + b.size == r) (exact_held b.size b.holding x.0)) ∙ none_ends front x.1

  from_rest : (front : List Block) → Below r front → blocks_from r (front ++ (rest ∷ [])) ≡ rest ∷ []
  from_rest [] l = cond-true (nat_le r r) (rest ∷ []) [] (le-leb r r (omega arith))
  from_rest (b ∷ front) l = cond-false (nat_le r b.place) (b ∷ blocks_from r (front ++ (rest ∷ []))) (blocks_from r (front ++ (rest ∷ []))) (lt-leb r b.place l.0) ∙ from_rest front l.1

  searched_from : (front : List Block) → AllExact front → Below r front → blocks_from (start_in r (front ++ (rest ∷ []))) (front ++ (rest ∷ [])) ≡ rest ∷ []
  searched_from front x l = ap (λ o. blocks_from (place_or r o) (front ++ (rest ∷ []))) (none_ends front x) ∙ from_rest front l

  rest_holds : holds w (rest ∷ []) ≡ true
  rest_holds = let total_is = total-cons rest [] in le-leb w (total (rest ∷ [])) (omega (arith, total_is))

  pub rest_found : (front : List Block) → AllExact front → Below r front → first_room w (stretches r (front ++ (rest ∷ []))) ≡ Some r
  rest_found front x l =
      let blocks_at_end = front ++ (rest ∷ []) in
      ap (λ xs. first_room w (gaps xs ++ gaps blocks_at_end)) (searched_from front x l) ∙ ap (option_map first_place) (cond-true (holds w (rest ∷ [])) (Some (rest ∷ [])) (find (holds w) (gaps blocks_at_end)) rest_holds)

  rest_passed : (front : List Block) → AllExact front → Below r front → passed_blocks w (stretches r (front ++ (rest ∷ []))) ≡ rest ∷ []
  rest_passed front x l =
      let blocks_at_end = front ++ (rest ∷ []) in
      ap (λ xs. passed_blocks w (gaps xs ++ gaps blocks_at_end)) (searched_from front x l) ∙ cond-true (holds w (rest ∷ [])) (least_front w (rest ∷ [])) ((rest ∷ []) ++ passed_blocks w (gaps blocks_at_end)) rest_holds
      ∙ ap (λ xs. rest ∷ xs) (cond-true (nat_le w n) [] (least_front (w - n) []) (le-leb w n large))

  rest_unpurged : (front : List Block) → Below r front → purge_among (rest ∷ []) (front ++ (rest ∷ [])) ≡ front ++ (rest ∷ [])
  rest_unpurged [] l = ap (λ (b : Block). b ∷ []) (same (is_among (rest ∷ []) rest)) where
    same : (t : Bool) → cond t (purge_block rest) rest ≡ rest
    same true = refl
    same false = refl
  rest_unpurged (b ∷ front) l =
      ap₂ ◌∷◌ (cond-false (is_among (rest ∷ []) b) (purge_block b) b (or_from (r == b.place) false (ne_eqb r b.place (λ e. let is_below = l.0 in omega arith)) refl)) (rest_unpurged front l.1)

  rest_joined : (front : List Block) → AllExact front → join_free (front ++ (rest ∷ [])) ≡ front ++ (rest ∷ [])
  rest_joined [] x = refl
  rest_joined (b ∷ front) x = ap (join_on b) (rest_joined front x.1) ∙ on_held b (front ++ (rest ∷ [])) (exact_held b.size b.holding x.0)

  -- the search changes nothing
  pub rest_searched : (front : List Block) → AllExact front → Below r front → join_free (purge_among (passed_blocks w (stretches r (front ++ (rest ∷ [])))) (front ++ (rest ∷ []))) ≡ front ++ (rest ∷ [])
  rest_searched front x l =
      ap (λ ch. join_free (purge_among ch (front ++ (rest ∷ [])))) (rest_passed front x l) ∙ ap join_free (rest_unpurged front l) ∙ rest_joined front x
