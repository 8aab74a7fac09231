-- The homes of slots, where a block is freed.
use Rattle.zone_rules.proofs.Common.{◌≡◌, ℕ, ◌-◌, ◌<◌, ◌≤◌, Bool, true, false, List, [], ◌∷◌, ◌++◌, length, Some, refl, sym, subst, ap, ap₂, ◌∙◌, arith, ◌==◌, slice_index, slice_set, cond-true, cond-false, false≢true, and_from, eq-eqb, get_or-set_same, get_or-set_other, length-set}
use Rattle.zone_heap.specs.Rules.{AllFit, Block, FitsHolding, Holding, Lacks, Owner, Unique, cut_block, free_block, free_owner, holds_for, is_held_by, join_free, owned_block, same_owner}
use Rattle.zone_rules.proofs.TakeLemmas.{code_small, code_same}
use Rattle.zone_rules.proofs.OwnerLemmas.{owned_cut, owned_beside, owner_eq, lacks_held, owned_freed, owned_freed_others, owned_block-join_free}
use Rattle.zone_rules.proofs.JoinLemmas.{Unique-join_free, AllFit-join_free}
use Rattle.zone_rules.proofs.ZoneLemmas.{Unique-freed, AllFit-freed, release_frees}
use Rattle.zone_heap.specs.declared.homes.Homes.{Homes}
use Rattle.zone_heap.specs.Homes.{NO_HOME, home_index, home_in, home_of, composites_in, IsSlot, AreExact, AreHome, AreAlike, IsSet}

pub fit_at : (l m : ℕ) (F R : List Block) (b : Block) → AllFit l m (F ++ (b ∷ R)) → FitsHolding l m b.size b.holding
fit_at l m [] R b f = f.0
fit_at l m (a ∷ F) R b f = fit_at l m F R b f.1

same_self : (o : Owner) → same_owner o o ≡ true
same_self o = and_from (o.kind == o.kind) (o.number == o.number) (eq-eqb o.kind o.kind refl) (eq-eqb o.number o.number refl)

free_none : (o : Owner) (bs : List Block) → Lacks o bs → free_owner o bs ≡ bs
free_none o [] l = refl
free_none o (b ∷ bs) l = ap₂ ◌∷◌ (cond-false (is_held_by o b) _ _ l.0) (free_none o bs l.1)

pub lacks_at : (o : Owner) (F R : List Block) (b : Block) → Lacks o (F ++ (b ∷ R)) → is_held_by o b ≡ false
lacks_at o [] R b l = l.0
lacks_at o (a ∷ F) R b l = lacks_at o F R b l.1

-- the one block that an owner holds, freed
pub free_one : (o : Owner) (F R : List Block) (b : Block) → is_held_by o b ≡ true → Unique (F ++ (b ∷ R))
    → free_owner o (F ++ (b ∷ R)) ≡ F ++ (free_block b.place b.size ∷ R)
free_one o [] R b held u = ap₂ ◌∷◌ (cond-true (is_held_by o b) _ _ held) (free_none o R (lacks_held o b.holding R held u.0))
free_one o (a ∷ F) R b held u = ap₂ ◌∷◌ (cond-false (is_held_by o a) _ _ (other (is_held_by o a) refl)) (free_one o F R b held u.1) where
  other : (t : Bool) → is_held_by o a ≡ t → t ≡ false
  other true e = absurd (false≢true (sym (lacks_at o F R b (lacks_held o a.holding (F ++ (b ∷ R)) e u.0)) ∙ held))
  other false e = refl

module _ (homes : Homes) (few : homes.lumps ≤ length homes.list.items) where
  -- a slot's entry is within the list
  pub slot_small : (o : Owner) → IsSlot homes o → home_index homes.lumps o.kind o.number < length homes.list.items
  slot_small o s = let number_small = code_small homes.lumps (composites_in homes) o s in omega arith

  -- two slots of one entry are one owner
  pub slot_same : (o p : Owner) → IsSlot homes o → IsSlot homes p → home_index homes.lumps o.kind o.number ≡ home_index homes.lumps p.kind p.number
      → same_owner o p ≡ true
  slot_same o p s t e = code_same homes.lumps (composites_in homes) o p s t e

-- a slot of homes is one of others of the same slots
pub slot_kept : (old new : Homes) → AreAlike old new → (o : Owner) → IsSlot new o → IsSlot old o
slot_kept old new a o s =
    let lumps_same = a.0 in let length_same = a.1 in (λ e. let number_below = s.0 e in omega arith, λ e. let number_below = s.1 e in omega arith, s.2)

-- blocks that fit the slots of homes fit those of others of the same slots
pub alike_fits : (old new : Homes) → AreAlike old new → (bs : List Block) → AllFit old.lumps (composites_in old) bs → AllFit new.lumps (composites_in new) bs
alike_fits old new a bs f = subst (λ m. AllFit m (length new.list.items - m) bs) (sym a.0) (subst (λ n. AllFit old.lumps (n - old.lumps) bs) (sym a.1) f)

-- what two changes one after the other leave has the same slots
pub alike_then : (old mid new : Homes) → AreAlike old mid → AreAlike mid new → AreAlike old new
alike_then old mid new a b = (b.0 ∙ a.0, b.1 ∙ a.1)

-- setting a home leaves the slots
pub set_alike : (old new : Homes) (o : Owner) (home : ℕ) → IsSet old new o home → AreAlike old new
set_alike old new o home s = (s.lumps, ap length s.list ∙ length-set old.list.items (home_index old.lumps o.kind o.number) home)

-- one home set, and other blocks
module _ (old new : Homes) (o : Owner) (home : ℕ) (bs cs : List Block) (s : IsSet old new o home) (few : old.lumps ≤ length old.list.items)
    (slot : IsSlot old o) (exact : AreExact old bs) where
  abbrev after : ℕ → ℕ → ℕ
  after kind number = slice_index (slice_set old.list.items (home_index old.lumps o.kind o.number) home) (home_index old.lumps kind number)

  moved : (p : Owner) → home_in new p.kind p.number ≡ after p.kind p.number
  moved p = ap₂ (λ xs l. slice_index xs (home_index l p.kind p.number)) s.list s.lumps

  -- the homes are exact, where the one that was set is and each other owner has the block that it had
  pub set_exact : home ≡ home_of (owned_block o cs) → ((p : Owner) → same_owner o p ≡ false → owned_block p cs ≡ owned_block p bs) → AreExact new cs
  set_exact here others = λ p q. moved p ∙ go p (slot_kept old new (set_alike old new o home s) p q) (same_owner o p) refl where
    go : (p : Owner) → IsSlot old p → (t : Bool) → same_owner o p ≡ t → after p.kind p.number ≡ home_of (owned_block p cs)
    go p q true e =
        let owners_same = owner_eq o p e in
        ap (λ (r : Owner). after r.kind r.number) (sym owners_same) ∙ get_or-set_same old.list.items (home_index old.lumps o.kind o.number) home 0 (slot_small old few o slot) ∙ here ∙ ap (λ (r : Owner). home_of (owned_block r cs)) owners_same
    go p q false e =
        get_or-set_other old.list.items (home_index old.lumps o.kind o.number) (home_index old.lumps p.kind p.number) home 0
        (λ same. false≢true (sym e ∙ slot_same old few o p slot q (sym same))) ∙ exact p q ∙ ap home_of (sym (others p e))

-- a block freed, and the home of its slot emptied
module _ (homes : Homes) (F R : List Block) (b : Block) (h : Holding) (holds : b.holding ≡ Some h) (k : AreHome homes (F ++ (b ∷ R))) where
  held : is_held_by h.owner b ≡ true
  held = ap (holds_for h.owner) holds ∙ same_self h.owner

  -- a block's owner is a slot
  pub slot_of : IsSlot homes h.owner
  slot_of = let owner_fits = subst (FitsHolding homes.lumps (composites_in homes) b.size) holds (fit_at homes.lumps (composites_in homes) F R b k.fits) in
      (owner_fits.3, owner_fits.4, owner_fits.5)

  -- the entry of a block's owner is within the list
  pub index_small : home_index homes.lumps h.owner.kind h.owner.number < length homes.list.items
  index_small = slot_small homes k.few h.owner slot_of

  freed_is : free_owner h.owner (F ++ (b ∷ R)) ≡ F ++ (free_block b.place b.size ∷ R)
  freed_is = free_one h.owner F R b held k.unique

  owned_is : (o : Owner) → owned_block o (F ++ (free_block b.place b.size ∷ R)) ≡ owned_block o (join_free (free_owner h.owner (F ++ (b ∷ R))))
  owned_is o = ap (owned_block o) (sym freed_is) ∙ sym (owned_block-join_free o (free_owner h.owner (F ++ (b ∷ R))))

  -- the owners of the blocks, and their homes, are right after the block was freed and the owner's home emptied
  pub freed_home : (new : Homes) → IsSet homes new h.owner NO_HOME → AreHome new (F ++ (free_block b.place b.size ∷ R))
  freed_home new set =
      let alike = set_alike homes new h.owner NO_HOME set in let few_kept = k.few in let lumps_same = alike.0 in
      let length_same = alike.1 in
      record {
        few = omega arith;
        unique = subst Unique freed_is (Unique-freed _ (release_frees h.owner) (F ++ (b ∷ R)) k.unique);
        fits = alike_fits homes new alike _ (subst (AllFit homes.lumps (composites_in homes)) freed_is (AllFit-freed _ (release_frees h.owner) _ _ _ k.fits));
        exact = set_exact homes new h.owner NO_HOME (F ++ (b ∷ R)) (F ++ (free_block b.place b.size ∷ R)) set k.few slot_of k.exact
            (sym (ap home_of (owned_is h.owner ∙ owned_freed h.owner (F ++ (b ∷ R))))) (λ p e. owned_is p ∙ owned_freed_others p h.owner e (F ++ (b ∷ R)));
      }

-- joined blocks have the same owners
pub joined_home : (homes : Homes) (bs : List Block) → AreHome homes bs → AreHome homes (join_free bs)
joined_home homes bs k = record {
  few = k.few;
  unique = Unique-join_free bs k.unique;
  fits = AllFit-join_free homes.lumps (composites_in homes) bs k.fits;
  exact = λ o s. k.exact o s ∙ ap home_of (sym (owned_block-join_free o bs));
}

-- a free block given to a slot without one, and the slot's home set
pub taken_exact : (homes new : Homes) (F R : List Block) (p size wanted : ℕ) (h : Holding) → AreHome homes (F ++ (free_block p size ∷ R)) → IsSlot homes h.owner
    → Lacks h.owner (F ++ (free_block p size ∷ R)) → IsSet homes new h.owner p
    → AreExact new (F ++ (cut_block wanted h (free_block p size) ++ R))
taken_exact homes new F R p size wanted h k slot lacks set =
    set_exact homes new h.owner p (F ++ (free_block p size ∷ R)) (F ++ (cut_block wanted h (free_block p size) ++ R)) set k.few slot k.exact
    (sym (ap home_of (owned_cut p size wanted h F R lacks))) (λ o e. owned_beside p size wanted h o e F R)
