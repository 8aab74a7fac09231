-- A slot's block, found at the slot's home.
use Rattle.zone_rules.proofs.Common.{◌≡◌, ℕ, ◌+◌, ◌/◌, ◌%◌, ◌<◌, ◌≤◌, Bool, true, false, cond, List, [], ◌∷◌, ◌++◌, length, Option, Some, None, refl, sym, subst, ap, ap₂, ◌∙◌, arith, ◌==◌, IsSome, option_and_then, cond-false, false≢true, length-append}
use Rattle.zone_heap.specs.Rules.{Block, Owner, Unique, free_block, free_owner, holding_of, holds_for, is_held_by, owned_block, HEADER_SIZE, word_at, WORD_SIZE}
use Rattle.zone_heap.specs.Headers.{FREE_OWNER, KIND_UNIT, owner_in, with_use, freed, block_in, live_in, OWNER_AT}
use Rattle.zone_heap.specs.Regions.{joined, blocks_in, blocks_from, AllWhole, IsLaid, IsSplit}
use Rattle.zone_heap.specs.declared.homes.Homes.{Homes}
use Rattle.zone_heap.specs.Homes.{NO_HOME, home_index, home_in, home_of, AreHome, IsHomed, IsSet}
use Rattle.zone_heap.proofs.WordLemmas.{word_within, used_within, length-with_use}
use Rattle.zone_heap.proofs.PurgeLemmas.{length-freed, told-freed, block-freed}
use Rattle.zone_heap.proofs.HomeLemmas.{freed_home, index_small, free_one}
use Rattle.zone_heap.proofs.TakeLemmas.{among, laid_with, blocks_with}

record IsOwned (o : Owner) (bs : List Block) (b : Block) : Type 0 where
  front : List Block
  rest : List Block
  is : bs ≡ front ++ (b ∷ rest)
  held : is_held_by o b ≡ true

-- an owner's block stands among the blocks
owned_parts : (o : Owner) (bs : List Block) (b : Block) → owned_block o bs ≡ Some b → IsOwned o bs b
owned_parts o [] b e = cc
owned_parts o (c ∷ bs) b e = go (is_held_by o c) refl e (λ k. owned_parts o bs b k) where
  go : (t : Bool) → is_held_by o c ≡ t → cond t (Some c) (owned_block o bs) ≡ Some b → (owned_block o bs ≡ Some b → IsOwned o bs b) → IsOwned o (c ∷ bs) b
  go true h x k = let first_is : c ≡ b = cc in record { front = []; rest = bs; is = ap (λ y. y ∷ bs) first_is; held = ap (is_held_by o) (sym first_is) ∙ h }
  go false h x k = let found_behind = k x in
      record { front = c ∷ found_behind.front; rest = found_behind.rest; is = ap (λ ys. c ∷ ys) found_behind.is; held = found_behind.held }

-- a live slot's block, and what the bytes at its place say
pub record IsFound (region : List ℕ) (o : Owner) (place : ℕ) : Type 0 where
  pub block : Block
  pub owned : owned_block o (blocks_in region) ≡ Some block
  pub place_is : block.place ≡ place
  pub front : List Block
  pub rest : List Block
  pub is : blocks_in region ≡ front ++ (block ∷ rest)
  pub held : is_held_by o block ≡ true
  pub part : List ℕ
  pub others : List (List ℕ)
  pub split : IsSplit region place
  pub rest_is : split.rest ≡ part ∷ others
  pub front_is : blocks_from 0 split.front ≡ front
  pub block_is : block ≡ block_in place part
  pub others_is : blocks_from (place + length part) others ≡ rest
  pub holds : block.holding ≡ Some (live_in part)
  pub large : HEADER_SIZE ≤ length part
  pub fits : place + length part ≤ length region
  pub words : (k : ℕ) → k + WORD_SIZE ≤ HEADER_SIZE → word_at region (place + k) ≡ word_at part k

some_is : (o : Option Block) → IsSome o → (b : Block) × (o ≡ Some b)
some_is None s = cc
some_is (Some b) s = (b, refl)

held_live : (o : Owner) (c : List ℕ) (t : Bool) → holds_for o (cond t None (Some (live_in c))) ≡ true → t ≡ false
held_live o c true e = absurd (false≢true e)
held_live o c false e = refl

-- a live slot's block is found at its home
pub look : (region : List ℕ) (laid : IsLaid region) (o : Owner) (place : ℕ) → IsSome (owned_block o (blocks_in region))
    → place ≡ home_of (owned_block o (blocks_in region)) → IsFound region o place
look region laid o place live at =
    let owned_there = some_is (owned_block o (blocks_in region)) live in let block = owned_there.0 in
    let owned_is = owned_there.1 in let around = owned_parts o (blocks_in region) block owned_is in
    let block_place_is : block.place ≡ place = sym (at ∙ ap home_of owned_is) in let its_part = among region laid around.front around.rest block around.is in
    let whole = subst AllWhole its_part.rest_is its_part.split.rest_whole in
    let region_is = its_part.split.is ∙ ap (λ cs. joined its_part.split.front ++ joined cs) its_part.rest_is in
    let part_is_held = ap (is_held_by o) its_part.part_is ∙ around.held in
    let region_length = ap length region_is ∙ length-append (joined its_part.split.front) (its_part.part ++ joined its_part.others) in
    let part_and_others = length-append its_part.part (joined its_part.others) in let front_length = its_part.split.at_is in
    record {
      block = block;
      owned = owned_is;
      place_is = block_place_is;
      front = around.front;
      rest = around.rest;
      is = around.is;
      held = around.held;
      part = its_part.part;
      others = its_part.others;
      split = record { front = its_part.split.front; rest = its_part.split.rest; is = its_part.split.is; at_is = its_part.split.at_is ∙ block_place_is; front_whole = its_part.split.front_whole; rest_whole = its_part.split.rest_whole };
      rest_is = its_part.rest_is;
      front_is = its_part.front_is;
      block_is = sym its_part.part_is ∙ ap (λ p. block_in p its_part.part) block_place_is;
      others_is = ap (λ p. blocks_from (p + length its_part.part) its_part.others) (sym block_place_is) ∙ its_part.others_is;
      holds = sym (ap (λ (x : Block). x.holding) its_part.part_is)
          ∙ cond-false (word_at its_part.part OWNER_AT == FREE_OWNER) None (Some (live_in its_part.part))
          (held_live o its_part.part (word_at its_part.part OWNER_AT == FREE_OWNER) part_is_held);
      large = whole.0;
      fits = omega arith;
      words = λ n h. let place_is : place + n ≡ length (joined its_part.split.front) + n = omega arith in ap (λ xs. word_at xs (place + n)) region_is
          ∙ word_within (joined its_part.split.front) its_part.part (joined its_part.others) n (place + n) place_is (let part_large = whole.0 in omega arith);
    }

-- what a live slot holds
pub holding_found : (region : List ℕ) (o : Owner) (place : ℕ) (f : IsFound region o place) → holding_of o (blocks_in region) ≡ Some (live_in f.part)
holding_found region o place f = ap (option_and_then (λ (b : Block). b.holding)) f.owned ∙ f.holds

-- a live slot's block freed
module _ (homes : Homes) (region : List ℕ) (o : Owner) (place : ℕ) (f : IsFound region o place) (home : AreHome homes (blocks_in region)) where
  abbrev pub found_after : List ℕ
  found_after = with_use region place 0 FREE_OWNER 0

  abbrev pub found_word : ℕ
  found_word = word_at region (place + OWNER_AT)

  word_is : found_word ≡ word_at f.part OWNER_AT
  word_is = f.words OWNER_AT (omega arith)

  home_here : AreHome homes (f.front ++ (f.block ∷ f.rest))
  home_here = subst (AreHome homes) f.is home

  -- the entry of its owner is within the list of homes
  pub found_small : home_index homes.lumps (found_word / KIND_UNIT) (found_word % KIND_UNIT) < length homes.list.items
  found_small = subst (λ w. home_index homes.lumps (w / KIND_UNIT) (w % KIND_UNIT) < length homes.list.items) (sym word_is) (index_small _ _ _ _ _ f.holds home_here)

  parts_are : found_after ≡ joined f.split.front ++ (freed f.part ++ joined f.others)
  parts_are =
      ap (λ xs. with_use xs place 0 FREE_OWNER 0) (f.split.is ∙ ap (λ cs. joined f.split.front ++ joined cs) f.rest_is)
      ∙ used_within (joined f.split.front) f.part (joined f.others) place 0 FREE_OWNER 0 (sym f.split.at_is) (let part_large = f.large in omega arith)

  whole : AllWhole (f.part ∷ f.others)
  whole = subst AllWhole f.rest_is f.split.rest_whole

  freed_whole : AllWhole (freed f.part ∷ f.others)
  freed_whole =
      let length_kept = length-freed f.part f.large in let part_large = f.large in (omega arith, told-freed f.part f.large ∙ whole.1 ∙ sym length_kept, whole.2)

  pub found_laid : IsLaid found_after
  found_laid = laid_with found_after f.split.front (freed f.part ∷ f.others) f.split.front_whole freed_whole parts_are

  pub found_len : length found_after ≡ length region
  found_len = length-with_use region place 0 FREE_OWNER 0 (let part_large = f.large in let part_fits = f.fits in omega arith)

  free_is : free_block f.block.place f.block.size ≡ free_block place (length f.part)
  free_is = ap₂ free_block (ap (λ (b : Block). b.place) f.block_is) (ap (λ (b : Block). b.size) f.block_is)

  blocks_are : blocks_in found_after ≡ f.front ++ (free_block f.block.place f.block.size ∷ f.rest)
  blocks_are =
      blocks_with found_after place f.split.front (freed f.part ∷ f.others) f.split.front_whole freed_whole parts_are f.split.at_is
      ∙ ap₂ ◌++◌ f.front_is (ap₂ ◌∷◌ (block-freed f.part f.large place ∙ sym free_is) (ap (λ n. blocks_from (place + n) f.others) (length-freed f.part f.large) ∙ f.others_is))

  -- the blocks are those that freeing the owner leaves
  pub found_blocks : blocks_in found_after ≡ free_owner o (blocks_in region)
  found_blocks = blocks_are ∙ sym (ap (free_owner o) f.is ∙ free_one o f.front f.rest f.block f.held (subst Unique f.is home.unique))

  -- the owners of the blocks, and their homes, are right once the owner's home is emptied too
  pub found_home : (new : Homes) → IsSet homes new (owner_in found_word) NO_HOME → AreHome new (blocks_in found_after)
  found_home new set = subst (AreHome new) (sym blocks_are) (freed_home _ _ _ _ _ f.holds home_here new (subst (λ w. IsSet homes new (owner_in w) NO_HOME) word_is set))

-- a slot's home says whether the slot is live
module _ (region : List ℕ) (laid : IsLaid region) (o : Owner) (home : ℕ) (is : home ≡ home_of (owned_block o (blocks_in region))) where
  pub live_home : (home ≡ NO_HOME → ⊥) → IsSome (owned_block o (blocks_in region))
  live_home other = go (owned_block o (blocks_in region)) refl where
    go : (x : Option Block) → owned_block o (blocks_in region) ≡ x → IsSome x
    go None e = absurd (other (is ∙ ap home_of e))
    go (Some b) e = refl

  pub no_home : length region < NO_HOME → home ≡ NO_HOME → owned_block o (blocks_in region) ≡ None
  no_home small e = go (owned_block o (blocks_in region)) refl where
    go : (x : Option Block) → owned_block o (blocks_in region) ≡ x → owned_block o (blocks_in region) ≡ None
    go None k = k
    go (Some b) k = absurd (let found_there = look region laid o home (subst IsSome (sym k) refl) is in let part_fits = found_there.fits in let part_large = found_there.large in omega arith)

-- a slot's home as the list of homes has it
module _ (region : List ℕ) (laid : IsLaid region) (homes : Homes) (o : Owner) (homed : IsHomed homes o (blocks_in region)) (home : ℕ)
    (is : home ≡ home_in homes o.kind o.number) where
  home_exact : home ≡ home_of (owned_block o (blocks_in region))
  home_exact = is ∙ homed.2 o homed.1

  -- a live slot's block stands at the slot's home
  pub homed_live : IsSome (owned_block o (blocks_in region)) → IsFound region o home
  homed_live live = look region laid o home live home_exact

  -- so does that of a slot whose home is a place
  pub homed_found : (home ≡ NO_HOME → ⊥) → IsFound region o home
  homed_found other = homed_live (live_home region laid o home home_exact other)

  -- a slot whose home is none has no block
  pub homed_none : length region < NO_HOME → home ≡ NO_HOME → owned_block o (blocks_in region) ≡ None
  homed_none = no_home region laid o home home_exact
