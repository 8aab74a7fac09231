-- The room of a zone where one block beside the colormap's is pinned: it has a gap before that block and
-- one behind it, at most.
use Rattle.zone_rules.proofs.Common.{◌≡◌, ℕ, ◌+◌, ◌*◌, ◌<◌, ◌≤◌, Bool, true, false, not, List, [], ◌∷◌, ◌++◌, Option, Some, None, refl, sym, subst, ap, ◌∙◌, arith, cond-true, cond-false, or_from, sum_by-append}
use Rattle.lump_cache.specs.Rules.{AllFit, Block, FitsHolding, Heap, IsSound, Lacks, Owner, OwnsOnce, Unique, block_size, gaps, is_held_by, is_pinned, owned_block, same_owner, total, widest}
use Rattle.zone_rules.proofs.GapLemmas.{all_small, total-cons}
use Rattle.zone_rules.proofs.OwnerLemmas.{owner_eq, none_owned, lacks_held}
use Rattle.lump_cache.specs.Caches.{IsAtRestExcept, HasAsked, IsPinned, IsUnpinned, NoRoom, lump_owner}
use Rattle.lump_cache.specs.Sizes.{IsGapBesideTwo}
use Rattle.lump_cache.proofs.RoomLemmas.{AllSmall, AllOpen, OthersOpen, Behind, first_small, open_small, gaps_behind, owner_turned, others_behind, front_open, all_open, asked_least, asked_size, behind, widest_more, widest_within}

open-append : (xs ys : List Block) → AllOpen xs → AllOpen ys → AllOpen (xs ++ ys)
open-append [] ys a k = k
open-append (x ∷ xs) ys a k = (a.0, open-append xs ys a.1 k)

-- a block with others before and behind it, of which none is pinned
record Around (b : Block) (bs : List Block) : Type 0 where
  front : List Block
  back : List Block
  is : bs ≡ front ++ (b ∷ back)
  open_front : AllOpen front
  open_back : AllOpen back

-- the one owner whose block may be pinned
module _ (o : Owner) (b : Block) where
  around_step : (c : Block) (bs : List Block) → OwnsOnce c.holding bs → Unique bs → OthersOpen o (c ∷ bs) → (owned_block o bs ≡ Some b → Around b bs) → owned_block o (c ∷ bs) ≡ Some b → (t : Bool) → is_held_by o c ≡ t → Around b (c ∷ bs)
  around_step c bs once u k later e true h =
      let first_is_owned : Some c ≡ Some b = sym (cond-true (is_held_by o c) (Some c) (owned_block o bs) h) ∙ e in
      let block_same : c ≡ b = cc in
      let around_first : Around c (c ∷ bs) = record { front = []; back = bs; is = refl; open_front = tt; open_back = all_open o bs u (lacks_held o c.holding bs h once) (others_behind o c bs once k) } in
      subst (λ (x : Block). Around x (c ∷ bs)) block_same around_first
  around_step c bs once u k later e false h =
      let around_rest = later (sym (cond-false (is_held_by o c) (Some c) (owned_block o bs) h) ∙ e) in
      record { front = c ∷ around_rest.front; back = around_rest.back; is = ap (λ xs. c ∷ xs) around_rest.is; open_front = (front_open o c bs c.holding refl h k, around_rest.open_front); open_back = around_rest.open_back }

  around : (bs : List Block) → Unique bs → OthersOpen o bs → owned_block o bs ≡ Some b → Around b bs
  around [] u k e = cc
  around (c ∷ bs) u k e = around_step c bs u.0 u.1 k (around bs u.1 (others_behind o c bs u.0 k)) e (is_held_by o c) refl

  -- a block that an owner holds has a size that fits
  pub owned_fits : (lumps composites : ℕ) (bs : List Block) → AllFit lumps composites bs → owned_block o bs ≡ Some b → FitsHolding lumps composites b.size b.holding
  owned_fits lumps composites [] f e = cc
  owned_fits lumps composites (c ∷ bs) f e = go (is_held_by o c) refl (owned_fits lumps composites bs f.1) where
    go : (t : Bool) → is_held_by o c ≡ t → (owned_block o bs ≡ Some b → FitsHolding lumps composites b.size b.holding) → FitsHolding lumps composites b.size b.holding
    go true h later =
        let first_is_owned : Some c ≡ Some b = sym (cond-true (is_held_by o c) (Some c) (owned_block o bs) h) ∙ e in
        let block_same : c ≡ b = cc in
        subst (λ (x : Block). FitsHolding lumps composites x.size x.holding) block_same f.0
    go false h later = later (sym (cond-false (is_held_by o c) (Some c) (owned_block o bs) h) ∙ e)

-- at most two gaps
two_gaps : (w : ℕ) (b : Block) (bs : List Block) → 0 < w → Around b bs → AllSmall w (gaps bs) → total bs + 2 ≤ b.size + 2 * w
two_gaps w b bs some r k = go (is_pinned b) refl where
  small : AllSmall w (gaps (r.front ++ (b ∷ r.back)))
  small = subst (λ xs. AllSmall w (gaps xs)) r.is k

  sum : total bs ≡ total r.front + (b.size + total r.back)
  sum = ap total r.is ∙ sum_by-append (λ (c : Block). c.size) r.front (b ∷ r.back) ∙ ap (λ n. total r.front + n) (total-cons b r.back)

  go : (t : Bool) → is_pinned b ≡ t → total bs + 2 ≤ b.size + 2 * w
  go true p =
      let front_small = first_small w r.front (b ∷ r.back) some r.open_front (ap not p) small in
      let back_small = open_small w r.back some r.open_back (subst (AllSmall w) (gaps_behind b r.back p) front_small.1) in
      omega (arith, front_small.0, back_small, sum)
  go false p =
      let blocks_small = open_small w (r.front ++ (b ∷ r.back)) some (open-append r.front (b ∷ r.back) r.open_front (p, r.open_back)) small in
      let totals_same = ap total r.is in
      omega (arith, blocks_small, totals_same, some)

-- where that block is pinned, they have what the others have
around_within : (b : Block) (front back : List Block) → is_pinned b ≡ true → widest (gaps (front ++ (b ∷ back))) ≤ total front + total back
around_within b [] back p =
    let widest_same = ap widest (gaps_behind b back p) in
    let widest_at_most = widest_within back in
    omega (arith, widest_same, widest_at_most)
around_within b (c ∷ front) back p =
    let widest_at_most = around_within b front back p in
    let widest_grows = widest_more c (front ++ (b ∷ back)) in
    let total_grows = total-cons c front in
    omega (arith, widest_at_most, widest_grows, total_grows)

around_most : (b : Block) (bs : List Block) → is_pinned b ≡ true → Around b bs → widest (gaps bs) + b.size ≤ total bs
around_most b bs p r =
    let widest_same = ap (λ xs. widest (gaps xs)) r.is in
    let widest_at_most = around_within b r.front r.back p in
    let total_is : total bs ≡ total r.front + (b.size + total r.back) = ap total r.is ∙ sum_by-append (λ (c : Block). c.size) r.front (b ∷ r.back) ∙ ap (λ n. total r.front + n) (total-cons b r.back) in
    omega (arith, widest_same, widest_at_most, total_is)

-- a zone at rest but for a block of so many bytes
module _ (colormap size : ℕ) (o : Owner) (asked : ℕ) (z : Heap) (rest : IsAtRestExcept colormap size (o ∷ []) z) (apart : same_owner (lump_owner colormap) o ≡ false) where
  -- behind the colormap's block no other than the owner's is pinned
  others_open : (r : Behind (lump_owner colormap) size z) → OthersOpen o r.rest
  others_open r q h = go (same_owner (lump_owner colormap) q) refl where
    go : (t : Bool) → same_owner (lump_owner colormap) q ≡ t → IsUnpinned (owned_block q r.rest)
    go true e = subst IsUnpinned (sym (none_owned q r.rest (subst (λ (p : Owner). Lacks p r.rest) (owner_eq (lump_owner colormap) q e) r.lacks))) tt
    go false e = subst IsUnpinned (r.owned q e) (rest.others q e (or_from (same_owner q o) false (owner_turned o q h) refl))

  -- its widest gap
  pub gap_except : HasAsked asked (owned_block o z.blocks) → IsPinned (owned_block o z.blocks) → IsSound z → IsGapBesideTwo z.size (block_size size + block_size asked) (widest (gaps z.blocks))
  gap_except has pinned sound =
      let zone_rest = behind (lump_owner colormap) size z rest.block rest.place rest.static sound rest.is in
      go zone_rest (owned_block o zone_rest.rest) refl (subst (HasAsked asked) (zone_rest.owned o apart) has)
      (subst IsPinned (zone_rest.owned o apart) pinned) where
        go : (r : Behind (lump_owner colormap) size z) (x : Option Block) → owned_block o r.rest ≡ x → HasAsked asked x → IsPinned x → IsGapBesideTwo z.size (block_size size + block_size asked) (widest (gaps z.blocks))
        go r None e h p = absurd h
        go r (Some b) e h p =
            let widest_gap : ℕ = widest (gaps r.rest) in
            let gaps_around = around o b r.rest r.unique (others_open r) e in
            let total_at_most = two_gaps (widest_gap + 1) b r.rest (omega arith) gaps_around (all_small (widest_gap + 1) (gaps r.rest) (omega arith)) in
            let widest_with_block = around_most b r.rest p gaps_around in
            let block_fits = owned_fits o b z.lumps z.composites r.rest r.fits e in
            let size_at_most = asked_size z.lumps z.composites b.size asked b.holding h block_fits in
            let size_at_least = asked_least z.lumps z.composites b.size asked b.holding h block_fits in
            subst (IsGapBesideTwo z.size (block_size size + block_size asked)) (sym (ap widest r.gaps_are)) (omega (arith, widest_with_block, size_at_least, r.least), omega (arith, total_at_most, size_at_most, r.sum))

-- the same by what a call without room reports
pub gap_of_except : (n : ℕ) (z : Heap) (wanted widest' : ℕ) → IsSound z → NoRoom n z wanted widest' → (colormap size : ℕ) (o : Owner) (asked : ℕ) → IsAtRestExcept colormap size (o ∷ []) z → same_owner (lump_owner colormap) o ≡ false → HasAsked asked (owned_block o z.blocks) → IsPinned (owned_block o z.blocks) → IsGapBesideTwo z.size (block_size size + block_size asked) widest'
gap_of_except n z wanted widest' sound full colormap size o asked rest apart has pinned =
    subst (IsGapBesideTwo z.size (block_size size + block_size asked)) (sym full.widest_is) (gap_except colormap size o asked z rest apart has pinned sound)
