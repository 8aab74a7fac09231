-- A pass over the region that frees purgeable blocks.
use Rattle.zone_rules.proofs.Common.{◌≡◌, ℕ, zero, suc, ◌+◌, ◌/◌, ◌%◌, ◌<◌, ◌≤◌, Bool, true, false, cond, List, [], ◌∷◌, ◌++◌, length, take, drop, map, count_by, Some, None, refl, sym, subst, ap, ap₂, ◌∙◌, arith, inl, ◌==◌, cond-true, cond-false, false≢true, append_assoc, map-append, sum_by-append, sum_by-cons}
use Rattle.zone_heap.specs.Rules.{Block, free_block, is_purgeable, purge_block, HEADER_SIZE, word_at}
use Rattle.zone_heap.specs.Headers.{FREE_OWNER, KIND_UNIT, owner_in, with_word, with_use, block_in, holding_in, live_in, freed, ASKED_AT, OWNER_AT, TAG_AT}
use Rattle.zone_heap.specs.Regions.{joined, blocks_in, blocks_from, IsSplit}
use Rattle.zone_heap.specs.declared.homes.Homes.{Homes}
use Rattle.zone_heap.specs.Homes.{NO_HOME, home_index, AreHome, AreAlike, IsSet}
use Rattle.zone_heap.proofs.WordLemmas.{word_same, word_other, length-with_word, length-with_use, used_within, word_from}
use Rattle.zone_heap.proofs.PartLemmas.{Opened, opened_is, whole_rest, split_next, blocks_next, length_after, blocks_split, blocks-append}
use Rattle.zone_heap.proofs.HomeLemmas.{alike_then, set_alike, freed_home, index_small}

module _ (c : List ℕ) (large : HEADER_SIZE ≤ length c) where
  pub length-freed : length (freed c) ≡ length c
  length-freed = length-with_use c 0 0 FREE_OWNER 0 (omega arith)

  abbrev asked_emptied : List ℕ
  asked_emptied = with_word c ASKED_AT 0

  abbrev owner_freed : List ℕ
  owner_freed = with_word asked_emptied OWNER_AT FREE_OWNER

  -- a freed part tells its size as before, and is a free block
  pub told-freed : word_at (freed c) 0 ≡ word_at c 0
  told-freed =
      let asked_kept = length-with_word c ASKED_AT 0 (omega arith) in let owner_kept = length-with_word asked_emptied OWNER_AT FREE_OWNER (omega arith) in
      word_other owner_freed TAG_AT 0 0 (omega arith) (inl (omega arith)) ∙ word_other asked_emptied OWNER_AT FREE_OWNER 0 (omega arith) (inl (omega arith))
      ∙ word_other c ASKED_AT 0 0 (omega arith) (inl (omega arith))

  pub block-freed : (p : ℕ) → block_in p (freed c) ≡ free_block p (length c)
  block-freed p =
      let asked_kept = length-with_word c ASKED_AT 0 (omega arith) in let owner_kept = length-with_word asked_emptied OWNER_AT FREE_OWNER (omega arith) in
      let owner : word_at (freed c) OWNER_AT ≡ FREE_OWNER =
      word_other owner_freed TAG_AT 0 OWNER_AT (omega arith) (inl (omega arith)) ∙ word_same asked_emptied OWNER_AT FREE_OWNER (omega arith) (omega arith) in
      let holds_nothing = nothing (freed c) (ap (λ n. n == FREE_OWNER) owner) in let size = length-freed in
      λ i. record { place = p; size = size i; holding = holds_nothing i } where
        nothing : (e : List ℕ) → (word_at e OWNER_AT == FREE_OWNER) ≡ true → holding_in e ≡ None
        nothing e t = cond-true (word_at e OWNER_AT == FREE_OWNER) None (Some (live_in e)) t

-- a block more of a list
pub take_next : (bs : List Block) (k : ℕ) (b : Block) (rest : List Block) → drop k bs ≡ b ∷ rest → take (k + 1) bs ≡ take k bs ++ (b ∷ [])
take_next [] zero b rest e = cc
take_next [] (suc k) b rest e = cc
take_next (c ∷ bs) zero b rest e = let block_same : c ≡ b = cc in ap (λ x. x ∷ []) block_same
take_next (c ∷ bs) (suc k) b rest e =
    ap (λ n. take n (c ∷ bs)) (let next_is : suc k + 1 ≡ suc (k + 1) = omega arith in next_is) ∙ ap (λ xs. c ∷ xs) (take_next bs k b rest e)

pub drop_next : (bs : List Block) (k : ℕ) (b : Block) (rest : List Block) → drop k bs ≡ b ∷ rest → drop (k + 1) bs ≡ rest
drop_next [] zero b rest e = cc
drop_next [] (suc k) b rest e = cc
drop_next (c ∷ bs) zero b rest e = cc
drop_next (c ∷ bs) (suc k) b rest e = ap (λ n. drop n (c ∷ bs)) (let next_is : suc k + 1 ≡ suc (k + 1) = omega arith in next_is) ∙ drop_next bs k b rest e

-- a pass so far: it stands at a block, has gone over so many, and freed the purgeable ones among them
pub record PurgedTo (old : List ℕ) (all : Homes) (region : List ℕ) (homes : Homes) (from at passed count : ℕ) : Type 0 where
  pub split : IsSplit region at
  pub len : length region ≡ length old
  pub alike : AreAlike all homes
  pub home : AreHome homes (blocks_in region)
  pub low : passed ≤ at
  pub few : count ≤ passed
  pub front : (s : IsSplit old from) → blocks_from 0 split.front ≡ blocks_from 0 s.front ++ map purge_block (take passed (blocks_from from s.rest))
  pub rest : (s : IsSplit old from) → blocks_from at split.rest ≡ drop passed (blocks_from from s.rest)
  pub count_is : (s : IsSplit old from) → count ≡ count_by is_purgeable (take passed (blocks_from from s.rest))

-- the blocks are those before the pass, those that it went over, freed where they were purgeable, and the rest
pub purged_blocks : (old : List ℕ) (all : Homes) (region : List ℕ) (homes : Homes) (from at passed count : ℕ) (p : PurgedTo old all region homes from at passed count) (s : IsSplit old from)
    → blocks_in region ≡ blocks_from 0 s.front ++ (map purge_block (take passed (blocks_from from s.rest)) ++ drop passed (blocks_from from s.rest))
purged_blocks old all region homes from at passed count p s =
    let bs = blocks_from from s.rest in
    blocks_split region at p.split ∙ ap₂ ◌++◌ (p.front s) (p.rest s) ∙ append_assoc (blocks_from 0 s.front) (map purge_block (take passed bs)) (drop passed bs)

module _ (old : List ℕ) (all : Homes) (region : List ℕ) (homes : Homes) (from at passed count : ℕ) (p : PurgedTo old all region homes from at passed count)
    (n : ℕ) (o : Opened region at p.split n) where
  abbrev here : Block
  here = block_in at o.part

  behind_is : (s : IsSplit old from) → drop passed (blocks_from from s.rest) ≡ here ∷ blocks_from (at + n) o.next.rest
  behind_is s = sym (p.rest s) ∙ o.blocks

  -- the count and the blocks in front, with the block at the place among those gone over
  counted : (s : IsSplit old from) → count_by is_purgeable (take (passed + 1) (blocks_from from s.rest)) ≡ count + cond (is_purgeable here) 1 0
  counted s =
      let blocks_passed = take passed (blocks_from from s.rest) in let purgeable_counts = λ (b : Block). cond {A = ℕ} (is_purgeable b) 1 0 in
      ap (count_by is_purgeable) (take_next (blocks_from from s.rest) passed here _ (behind_is s)) ∙ sum_by-append purgeable_counts blocks_passed (here ∷ [])
      ∙ ap₂ ◌+◌ (sym (p.count_is s)) (sum_by-cons purgeable_counts here [] ∙ omega arith)

  fronted : (s : IsSplit old from) (b : Block) → purge_block here ≡ b
      → blocks_from 0 p.split.front ++ (b ∷ []) ≡ blocks_from 0 s.front ++ map purge_block (take (passed + 1) (blocks_from from s.rest))
  fronted s b e =
      let blocks_passed = take passed (blocks_from from s.rest) in
      ap (λ xs. xs ++ (b ∷ [])) (p.front s) ∙ append_assoc (blocks_from 0 s.front) (map purge_block blocks_passed) (b ∷ [])
      ∙ ap (λ x. blocks_from 0 s.front ++ (map purge_block blocks_passed ++ (x ∷ []))) (sym e)
      ∙ ap (λ xs. blocks_from 0 s.front ++ xs) (sym (map-append purge_block blocks_passed (here ∷ [])) ∙ ap (map purge_block) (sym (take_next (blocks_from from s.rest) passed here _ (behind_is s))))

  -- a block that is no purgeable one
  pub passed_step : is_purgeable here ≡ false → PurgedTo old all region homes from (at + n) (passed + 1) count
  passed_step off =
      let block_large = o.large in let passed_low = p.low in let count_few = p.few in let front_length = p.split.at_is in
      record {
        split = o.next;
        len = p.len;
        alike = p.alike;
        home = p.home;
        low = omega arith;
        few = omega arith;
        front = λ s. ap (blocks_from 0) o.front ∙ blocks-append 0 p.split.front (o.part ∷ []) ∙ ap (λ x. blocks_from 0 p.split.front ++ (block_in x o.part ∷ [])) (let place_is : 0 + length (joined p.split.front) ≡ at = omega arith in place_is)
            ∙ fronted s here (cond-false (is_purgeable here) _ _ off);
        rest = λ s. sym (drop_next (blocks_from from s.rest) passed here _ (behind_is s));
        count_is = λ s. let counted_next = counted s in sym (counted_next ∙ ap (λ t. count + cond {A = ℕ} t 1 0) off ∙ omega arith);
      }

  -- a purgeable block, freed
  module _ (on : is_purgeable here ≡ true) where
    abbrev part : List ℕ
    part = freed o.part

    large : HEADER_SIZE ≤ length o.part
    large = let part_length = o.len in let block_large = o.large in omega arith

    live : (word_at o.part OWNER_AT == FREE_OWNER) ≡ false
    live = go (word_at o.part OWNER_AT == FREE_OWNER) on where
      go : (t : Bool) → is_purgeable (record { place = at; size = length o.part; holding = cond t None (Some (live_in o.part)) }) ≡ true → t ≡ false
      go true e = absurd (false≢true e)
      go false e = refl

    holds : here.holding ≡ Some (live_in o.part)
    holds = cond-false (word_at o.part OWNER_AT == FREE_OWNER) None (Some (live_in o.part)) live

    word_is : word_at region (at + OWNER_AT) ≡ word_at o.part OWNER_AT
    word_is = sym (word_from region at OWNER_AT) ∙ ap (λ (x : Rattle.zone_heap.specs.declared.headers.Header.Header). x.owner) o.header

    same : length part ≡ n
    same = length-freed o.part large ∙ o.len

    told : word_at part 0 ≡ n
    told = told-freed o.part large ∙ (whole_rest region at n p.split o).1 ∙ o.len

    abbrev after : List ℕ
    after = with_use region at 0 FREE_OWNER 0

    after_is : after ≡ joined p.split.front ++ (part ++ joined o.next.rest)
    after_is =
        let part_large = large in
        ap (λ xs. with_use xs at 0 FREE_OWNER 0) (opened_is region at n p.split o)
        ∙ used_within (joined p.split.front) o.part (joined o.next.rest) at 0 FREE_OWNER 0 (sym p.split.at_is) (omega arith)

    abbrev next : IsSplit after (at + n)
    next = split_next region at n p.split o part same told after after_is

    abbrev index : ℕ
    index = home_index homes.lumps (word_at region (at + OWNER_AT) / KIND_UNIT) (word_at region (at + OWNER_AT) % KIND_UNIT)

    home_here : AreHome homes (blocks_from 0 p.split.front ++ (here ∷ blocks_from (at + n) o.next.rest))
    home_here = subst (AreHome homes) (blocks_split region at p.split ∙ ap (λ bs. blocks_from 0 p.split.front ++ bs) o.blocks) p.home

    -- the entry of the block's owner is within the list of homes
    pub slot_there : index < length homes.list.items
    slot_there =
        subst (λ w. home_index homes.lumps (w / KIND_UNIT) (w % KIND_UNIT) < length homes.list.items) (sym word_is)
        (index_small homes (blocks_from 0 p.split.front) (blocks_from (at + n) o.next.rest) here (live_in o.part) holds home_here)

    free_here : block_in at part ≡ free_block at (length o.part)
    free_here = block-freed o.part large at

    front_is : blocks_from 0 next.front ≡ blocks_from 0 p.split.front ++ (free_block at (length o.part) ∷ [])
    front_is = blocks_next region at n p.split o part same told after after_is ∙ ap (λ b. blocks_from 0 p.split.front ++ (b ∷ [])) free_here

    -- the pass goes on over a purgeable block, which is freed
    pub freed_step : (new : Homes) → IsSet homes new (owner_in (word_at region (at + OWNER_AT))) NO_HOME
        → PurgedTo old all after new from (at + n) (passed + 1) (count + 1)
    freed_step new set =
        let block_large = o.large in let passed_low = p.low in let count_few = p.few in
        let blocks_behind = blocks_from (at + n) o.next.rest in
        record {
          split = next;
          len = length_after region at n p.split o part same told after after_is ∙ p.len;
          alike = alike_then all homes new p.alike (set_alike homes new _ NO_HOME set);
          home = subst (AreHome new) (sym (blocks_split after (at + n) next ∙ ap (λ bs. bs ++ blocks_behind) front_is ∙ append_assoc (blocks_from 0 p.split.front) (free_block at (length o.part) ∷ []) blocks_behind))
              (freed_home _ _ _ _ _ holds home_here new (subst (λ w. IsSet homes new (owner_in w) NO_HOME) word_is set));
          low = omega arith;
          few = omega arith;
          front = λ s. front_is ∙ fronted s (free_block at (length o.part)) (cond-true (is_purgeable here) _ _ on);
          rest = λ s. sym (drop_next (blocks_from from s.rest) passed here _ (behind_is s));
          count_is = λ s. let counted_next = counted s in sym (counted_next ∙ ap (λ t. count + cond {A = ℕ} t 1 0) on);
        }
