-- A change of blocks that leaves each its place, its size and what its owner asked for leaves a zone in order: a new tag, or new bytes.
use Rattle.zone_rules.proofs.Common.{◌≡◌, ℕ, ◌+◌, Bool, true, cond, ◌||◌, List, [], ◌∷◌, ◌++◌, map, Option, Some, None, refl, sym, subst, ap, ap₂, ◌∙◌, arith, inl, inr, ◌⊎◌, map-append}
use Rattle.zone_rules.specs.declared.Tag.{Tag}
use Rattle.zone_rules.specs.Zones.{Owner, Holding, Block, Heap, free_block, block_size}
use Rattle.zone_rules.specs.Frees.{retag_block, with_tag, write_block, with_bytes}
use Rattle.zone_rules.specs.Orders.{Item, has_item, is_listed, AllListed, LiveFirst, is_live, AllLive, IsExact, AllExact, LeavesRest, IsInOrder, live_sum, lump_size, KeepsOrder}
use Rattle.zone_rules.proofs.OrderSumLemmas.{live_step, item}
use Rattle.zone_rules.proofs.ChangeLemmas.{KeepsUse, use_of, by_use, held_same, free_same, retag_keeps, write_keeps}

abbrev pub listed_use : List Item → Option Item → Bool
listed_use items None = true
listed_use items (Some i) = has_item items i.owner i.size

listed_same : (items : List Item) (x y : Option Holding) → use_of x ≡ use_of y → is_listed items x ≡ is_listed items y
listed_same items x y e = by_use (is_listed items) (listed_use items) told x y e where
  told : (h : Option Holding) → is_listed items h ≡ listed_use items (use_of h)
  told None = refl
  told (Some h) = refl

exact_same : (size : ℕ) (x y : Option Holding) → use_of x ≡ use_of y → IsExact size y → IsExact size x
exact_same size None None e k = k
exact_same size None (Some h) e k = cc
exact_same size (Some h) None e k = absurd k
exact_same size (Some g) (Some h) e k =
    let same_item : item g.owner g.asked ≡ item h.owner h.asked = cc in k ∙ ap (λ (u : Item). block_size u.size) (sym same_item)

none_same : (x : Option Holding) → use_of x ≡ None → x ≡ None
none_same None e = refl
none_same (Some h) e = cc

module _ (f : Block → Block) (k : KeepsUse f) where
  listed-map : (items : List Item) (bs : List Block) → AllListed items bs → AllListed items (map f bs)
  listed-map items [] l = tt
  listed-map items (b ∷ bs) l = (listed_same items (f b).holding b.holding (k.same b) ∙ l.0, listed-map items bs l.1)

  first-map : (bs : List Block) → LiveFirst bs → LiveFirst (map f bs)
  first-map [] l = tt
  first-map (b ∷ []) l = tt
  first-map (b ∷ c ∷ bs) l = (free_same (f b).holding b.holding (k.same b) ∙ l.0, first-map (c ∷ bs) l.1)

  live-map : (o : Owner) (bs : List Block) → is_live (map f bs) o ≡ is_live bs o
  live-map o [] = refl
  live-map o (b ∷ bs) = live_step o (f b) (map f bs) ∙ ap₂ ◌||◌ (held_same o (f b).holding b.holding (k.same b)) (live-map o bs) ∙ sym (live_step o b bs)

  all_live-map : (items : List Item) (bs : List Block) → AllLive items bs → AllLive items (map f bs)
  all_live-map [] bs a = tt
  all_live-map (i ∷ items) bs a = (live-map i.owner bs ∙ a.0, all_live-map items bs a.1)

  exact-map : (bs : List Block) → AllExact bs → AllExact (map f bs)
  exact-map [] x = tt
  exact-map (b ∷ bs) x = (subst (λ n. IsExact n (f b).holding) (sym (k.size b)) (exact_same b.size (f b).holding b.holding (k.same b) x.0), exact-map bs x.1)

  free-map : (r n : ℕ) → f (free_block r n) ≡ free_block r n
  free-map r n =
      let block = free_block r n in
      let place_is = k.place block in
      let size_is = k.size block in
      let holding_is = none_same (f block).holding (k.same block) in
      λ i. record { place = place_is i; size = size_is i; holding = holding_is i }

  rest-map : (r : ℕ) (bs : List Block) → LeavesRest r bs → LeavesRest r (map f bs)
  rest-map r bs l = record {
    front = map f l.front;
    rest = l.rest;
    is = ap (map f) l.is ∙ map-append f l.front (free_block r l.rest ∷ []) ∙ ap (λ (b : Block). map f l.front ++ (b ∷ [])) (free-map r l.rest);
    exact = exact-map l.front l.exact;
  }

  left-map : (items : List Item) (r : ℕ) (bs : List Block) → AllLive items bs ⊎ LeavesRest r bs → AllLive items (map f bs) ⊎ LeavesRest r (map f bs)
  left-map items r bs (inl a) = inl (all_live-map items bs a)
  left-map items r bs (inr l) = inr (rest-map r bs l)

  sum-map : (items : List Item) (bs : List Block) → live_sum lump_size items (map f bs) ≡ live_sum lump_size items bs
  sum-map [] bs = refl
  sum-map (i ∷ items) bs = ap₂ (λ t n. cond t (lump_size i) 0 + n) (live-map i.owner bs) (sum-map items bs)

  pub order-map : (items : List Item) (z : Heap) (taken : ℕ) → IsInOrder items z → KeepsOrder items z (record z { blocks = map f z.blocks }) taken taken
  order-map items z taken o = record {
    order = record { roomy = o.roomy; listed = listed-map items z.blocks o.listed; first = first-map z.blocks o.first; left = left-map items z.rover z.blocks o.left };
    stays = λ p e. live-map p z.blocks ∙ e;
    taken = let same_sum = sum-map items z.blocks in omega (arith, same_sum);
  }

-- a new tag
module _ (o : Owner) (tag : Tag) where
  pub order_retagged : (items : List Item) (z : Heap) (taken : ℕ) → IsInOrder items z → KeepsOrder items z (with_tag o tag z) taken taken
  order_retagged items z taken k = order-map (retag_block o tag) (retag_keeps o tag) items z taken k

  pub live_retagged : (p : Owner) (z : Heap) → is_live (with_tag o tag z).blocks p ≡ is_live z.blocks p
  live_retagged p z = live-map (retag_block o tag) (retag_keeps o tag) p z.blocks

-- new bytes
module _ (o : Owner) (w : List ℕ) where
  pub order_written : (items : List Item) (z : Heap) (taken : ℕ) → IsInOrder items z → KeepsOrder items z (with_bytes o w z) taken taken
  order_written items z taken k = order-map (write_block o w) (write_keeps o w) items z taken k

  -- who is live stays so
  pub live_written : (p : Owner) (z : Heap) → is_live (with_bytes o w z).blocks p ≡ is_live z.blocks p
  live_written p z = live-map (write_block o w) (write_keeps o w) p z.blocks
