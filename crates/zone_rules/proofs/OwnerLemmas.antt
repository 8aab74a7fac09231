-- What an owner holds, through each change of a zone.
use Rattle.zone_rules.proofs.Common.{◌≡◌, ℕ, ◌+◌, ◌-◌, ◌≤◌, Bool, true, false, cond, ◌&&◌, List, [], ◌∷◌, ◌++◌, map, Option, Some, None, refl, sym, subst, ap, ◌∙◌, arith, option_map, inl, inr, is_none, nat_lt, ◌==◌, ◌⊎◌, cond-true, cond-false, false≢true, and_parts, and_left, and_from, eq-eqb, eqb-true, ltb-false}
use Rattle.zone_rules.specs.{declared.Tag.Tag, Rooms.RoomAt}
use Rattle.zone_rules.specs.Zones.{Block, Holding, Owner, Heap, IsSound, Tiles, Unique, Lacks, OwnsOnce, is_free, is_held_by, holds_for, same_owner, owned_block, free_block, is_purgeable}
use Rattle.zone_rules.specs.Requests.{join_free, join_on, purge_among, is_among, cut_block, block_left, passed_blocks, stretches, after_search, with_block, take_at}
use Rattle.zone_rules.specs.Frees.{free_owner, retag_block, set_tag, write_block, write_holding}
use Rattle.zone_rules.proofs.{ZoneLemmas.Lacks-freed, ZoneLemmas.purge_frees, TakeLemmas.take_at_is}
use Rattle.zone_rules.proofs.SoundLemmas.{searched_tiles, searched_lacks}

free_holds_none : (o : Owner) (h : Option Holding) → is_none h ≡ true → holds_for o h ≡ false
free_holds_none o None e = refl
free_holds_none o (Some h) e = absurd (false≢true e)

-- free neighbours joined are nobody's
owned_on : (o : Owner) (b : Block) (bs : List Block) → owned_block o (join_on b bs) ≡ owned_block o (b ∷ bs)
owned_on o b [] = refl
owned_on o b (c ∷ cs) = go (is_free b && is_free c) refl where
  go : (t : Bool) → (is_free b && is_free c) ≡ t → owned_block o (cond t (free_block b.place (b.size + c.size) ∷ cs) (b ∷ c ∷ cs)) ≡ owned_block o (b ∷ c ∷ cs)
  go true e =
      let both_free = and_parts (is_free b) (is_free c) e in
      sym (cond-false (is_held_by o b) (Some b) (owned_block o (c ∷ cs)) (free_holds_none o b.holding both_free.0) ∙ cond-false (is_held_by o c) (Some c) (owned_block o cs) (free_holds_none o c.holding both_free.1))
  go false e = refl

pub owned_block-join_free : (o : Owner) (bs : List Block) → owned_block o (join_free bs) ≡ owned_block o bs
owned_block-join_free o [] = refl
owned_block-join_free o (b ∷ bs) = owned_on o b (join_free bs) ∙ ap (cond (is_held_by o b) (Some b)) (owned_block-join_free o bs)

pub none_owned : (o : Owner) (bs : List Block) → Lacks o bs → owned_block o bs ≡ None
none_owned o [] l = refl
none_owned o (b ∷ bs) l = cond-false (is_held_by o b) (Some b) (owned_block o bs) l.0 ∙ none_owned o bs l.1

pub owner_eq : (a b : Owner) → same_owner a b ≡ true → a ≡ b
owner_eq a b e = let kind_and_number = and_parts (a.kind == b.kind) (a.number == b.number) e in let same_kind = eqb-true a.kind b.kind kind_and_number.0 in let same_number = eqb-true a.number b.number kind_and_number.1 in λ i. record { kind = same_kind i; number = same_number i }

pub lacks_held : (o : Owner) (h : Option Holding) (bs : List Block) → holds_for o h ≡ true → OwnsOnce h bs → Lacks o bs
lacks_held o None bs e u = absurd (false≢true e)
lacks_held o (Some h) bs e u = subst (λ p. Lacks p bs) (owner_eq h.owner o e) u

-- a search leaves a live block, or purges it
owned_front : (o : Owner) (b : Block) (bs cs ch : List Block) → OwnsOnce b.holding bs → (Lacks o bs → Lacks o cs) → owned_block o cs ≡ block_left ch (owned_block o bs) → (x y t : Bool) → is_among ch b ≡ x → is_purgeable b ≡ y → is_held_by o b ≡ t
    → owned_block o (cond x (cond y (free_block b.place b.size) b) b ∷ cs) ≡ block_left ch (cond t (Some b) (owned_block o bs))
owned_front o b bs cs ch u l k false y true a p e =
    cond-true _ _ _ e ∙ sym (cond-false (is_among ch b && is_purgeable b) None (Some b) (and_left (is_among ch b) (is_purgeable b) a))
owned_front o b bs cs ch u l k false y false a p e = cond-false _ _ _ e ∙ k
owned_front o b bs cs ch u l k true true true a p e = none_owned o cs (l (lacks_held o b.holding bs e u)) ∙ sym (cond-true (is_among ch b && is_purgeable b) None (Some b) (and_from (is_among ch b) (is_purgeable b) a p))
owned_front o b bs cs ch u l k true true false a p e = k
owned_front o b bs cs ch u l k true false true a p e =
    cond-true _ _ _ e ∙ sym (cond-false (is_among ch b && is_purgeable b) None (Some b) (ap (λ t. is_among ch b && t) p ∙ ap (λ t. t && false) a))
owned_front o b bs cs ch u l k true false false a p e = cond-false _ _ _ e ∙ k

pub owned_block-purge_among : (o : Owner) (ch bs : List Block) → Unique bs → owned_block o (purge_among ch bs) ≡ block_left ch (owned_block o bs)
owned_block-purge_among o ch [] u = refl
owned_block-purge_among o ch (b ∷ bs) u = owned_front o b bs (purge_among ch bs) ch u.0 (Lacks-freed _ (purge_frees ch) o bs) (owned_block-purge_among o ch bs u.1) (is_among ch b) (is_purgeable b) (is_held_by o b) refl refl refl

pub owned_searched : (o : Owner) (w : ℕ) (z : Heap) → IsSound z → owned_block o (after_search w z) ≡ block_left (passed_blocks w (stretches z.rover z.blocks)) (owned_block o z.blocks)
owned_searched o w z s = owned_block-join_free o (purge_among (passed_blocks w (stretches z.rover z.blocks)) z.blocks) ∙ owned_block-purge_among o (passed_blocks w (stretches z.rover z.blocks)) z.blocks s.unique

-- the block that an owner gets, and those of others
module _ (p size wanted : ℕ) (h : Holding) where
  abbrev pub cut_size : ℕ
  cut_size = cond (nat_lt 64 (size - wanted)) wanted size

  pub owned_beside : (o : Owner) → same_owner h.owner o ≡ false → (front rest : List Block) → owned_block o (front ++ (cut_block wanted h (free_block p size) ++ rest)) ≡ owned_block o (front ++ (free_block p size ∷ rest))
  owned_beside o apart [] rest = go (nat_lt 64 (size - wanted)) where
    go : (u : Bool) → owned_block o (cond u (record { place = p; size = wanted; holding = Some h } ∷ free_block (p + wanted) (size - wanted) ∷ []) (record { place = p; size = size; holding = Some h } ∷ []) ++ rest) ≡ owned_block o (free_block p size ∷ rest)
    go true = cond-false _ _ _ apart
    go false = cond-false _ _ _ apart
  owned_beside o apart (b ∷ front) rest = ap (cond (is_held_by o b) (Some b)) (owned_beside o apart front rest)

  pub owned_cut : (front rest : List Block) → Lacks h.owner (front ++ (free_block p size ∷ rest)) → owned_block h.owner (front ++ (cut_block wanted h (free_block p size) ++ rest)) ≡ Some (record { place = p; size = cut_size; holding = Some h })
  owned_cut [] rest l = go (nat_lt 64 (size - wanted)) where
    same : same_owner h.owner h.owner ≡ true
    same = and_from _ _ (eq-eqb h.owner.kind h.owner.kind refl) (eq-eqb h.owner.number h.owner.number refl)

    go : (u : Bool) → owned_block h.owner (cond u (record { place = p; size = wanted; holding = Some h } ∷ free_block (p + wanted) (size - wanted) ∷ []) (record { place = p; size = size; holding = Some h } ∷ []) ++ rest) ≡ Some (record { place = p; size = cond u wanted size; holding = Some h })
    go true = cond-true _ _ _ same
    go false = cond-true _ _ _ same
  owned_cut (b ∷ front) rest l = cond-false (is_held_by h.owner b) (Some b) _ l.0 ∙ owned_cut front rest l.1

  pub cut_least : wanted ≤ size → wanted ≤ cut_size
  cut_least m = go (nat_lt 64 (size - wanted)) where
    go : (u : Bool) → wanted ≤ cond u wanted size
    go true = omega arith
    go false = m

  pub cut_most : cut_size ≤ wanted + 64
  cut_most = go (nat_lt 64 (size - wanted)) refl where
    go : (u : Bool) → nat_lt 64 (size - wanted) ≡ u → cond u wanted size ≤ wanted + 64
    go true e = omega arith
    go false e = let rest_is_small = ltb-false 64 (size - wanted) e in omega arith

module _ (w p : ℕ) (z : Heap) (h : Holding) (s : IsSound z) (lacks : Lacks h.owner z.blocks) (r : RoomAt p w (after_search w z)) where
  shape : take_at p w h (after_search w z) ≡ r.front ++ (cut_block w h (free_block p r.size) ++ r.rest)
  shape = ap (take_at p w h) r.is ∙ take_at_is p r.size w h 0 z.size r.front r.rest (subst (Tiles 0 z.size) r.is (searched_tiles w z s))

  pub owned_others : (o : Owner) → same_owner h.owner o ≡ false → owned_block o (with_block w h p z).blocks ≡ block_left (passed_blocks w (stretches z.rover z.blocks)) (owned_block o z.blocks)
  owned_others o apart = ap (owned_block o) shape ∙ owned_beside p r.size w h o apart r.front r.rest ∙ sym (ap (owned_block o) r.is) ∙ owned_searched o w z s

  pub owned_new : owned_block h.owner (with_block w h p z).blocks ≡ Some (record { place = p; size = cut_size p r.size w h; holding = Some h })
  owned_new = ap (owned_block h.owner) shape ∙ owned_cut p r.size w h r.front r.rest (subst (Lacks h.owner) r.is (searched_lacks w z h.owner lacks))

-- a change of each block that leaves it its owner
module _ (o : Owner) (f : Block → Block) (stays : (b : Block) → is_held_by o (f b) ≡ is_held_by o b) where
  pub owned_block-map : (bs : List Block) → owned_block o (map f bs) ≡ option_map f (owned_block o bs)
  owned_block-map [] = refl
  owned_block-map (b ∷ bs) = ap (λ t. cond t (Some (f b)) (owned_block o (map f bs))) (stays b) ∙ go (is_held_by o b) (owned_block-map bs) where
    go : (t : Bool) → owned_block o (map f bs) ≡ option_map f (owned_block o bs) → cond t (Some (f b)) (owned_block o (map f bs)) ≡ option_map f (cond t (Some b) (owned_block o bs))
    go true k = refl
    go false k = k

-- one that only changes blocks of another owner
module _ (o p : Owner) (apart : same_owner p o ≡ false) where
  not_held : (h : Option Holding) → holds_for o h ≡ true → holds_for p h ≡ false
  not_held None e = refl
  not_held (Some h) e = go (same_owner h.owner p) refl where
    go : (t : Bool) → same_owner h.owner p ≡ t → t ≡ false
    go true k = absurd (false≢true (sym apart ∙ ap (λ q. same_owner q o) (sym (owner_eq h.owner p k)) ∙ e))
    go false k = refl

  pub owned_same : (f : Block → Block) → ((b : Block) → is_held_by o (f b) ≡ is_held_by o b) → ((b : Block) → is_held_by p b ≡ false → f b ≡ b) → (bs : List Block) → owned_block o (map f bs) ≡ owned_block o bs
  owned_same f stays same [] = refl
  owned_same f stays same (b ∷ bs) = ap (λ t. cond t (Some (f b)) (owned_block o (map f bs))) (stays b) ∙ go (is_held_by o b) refl (owned_same f stays same bs) where
    go : (t : Bool) → is_held_by o b ≡ t → owned_block o (map f bs) ≡ owned_block o bs → cond t (Some (f b)) (owned_block o (map f bs)) ≡ cond t (Some b) (owned_block o bs)
    go true e k = ap Some (same b (not_held b.holding e))
    go false e k = k

  free_held : (b : Block) → is_held_by o (cond (is_held_by p b) (free_block b.place b.size) b) ≡ is_held_by o b
  free_held b = go (is_held_by p b) refl where
    other : (t : Bool) → is_held_by o b ≡ t → is_held_by p b ≡ true → false ≡ t
    other true e k = absurd (false≢true (sym (not_held b.holding e) ∙ k))
    other false e k = refl

    go : (t : Bool) → is_held_by p b ≡ t → is_held_by o (cond t (free_block b.place b.size) b) ≡ is_held_by o b
    go true e = other (is_held_by o b) refl e
    go false e = refl

  pub owned_freed_others : (bs : List Block) → owned_block o (join_free (free_owner p bs)) ≡ owned_block o bs
  owned_freed_others bs =
      owned_block-join_free o (free_owner p bs) ∙ owned_same (λ b. cond (is_held_by p b) (free_block b.place b.size) b) free_held (λ b e. cond-false _ _ _ e) bs

nothing_owned : (o : Owner) (bs : List Block) → owned_block o (free_owner o bs) ≡ None
nothing_owned o [] = refl
nothing_owned o (b ∷ bs) = step (is_held_by o b) refl (nothing_owned o bs) where
  step : (t : Bool) → is_held_by o b ≡ t → owned_block o (free_owner o bs) ≡ None → owned_block o (cond t (free_block b.place b.size) b ∷ free_owner o bs) ≡ None
  step true e k = k
  step false e k = cond-false (is_held_by o b) _ _ e ∙ k

pub owned_freed : (o : Owner) (bs : List Block) → owned_block o (join_free (free_owner o bs)) ≡ None
owned_freed o bs = owned_block-join_free o (free_owner o bs) ∙ nothing_owned o bs

-- tags and bytes leave a block its owner
module _ (o p : Owner) where
  tag_stays : (tag : Tag) (h : Option Holding) → holds_for o (set_tag tag h) ≡ holds_for o h
  tag_stays tag None = refl
  tag_stays tag (Some h) = refl

  pub retag_held : (tag : Tag) (b : Block) → is_held_by o (retag_block p tag b) ≡ is_held_by o b
  retag_held tag b = go (is_held_by p b) where
    go : (t : Bool) → is_held_by o (cond t (record b { holding = set_tag tag b.holding }) b) ≡ is_held_by o b
    go true = tag_stays tag b.holding
    go false = refl

  bytes_stay : (w : List ℕ) (h : Option Holding) → holds_for o (write_holding w h) ≡ holds_for o h
  bytes_stay w None = refl
  bytes_stay w (Some h) = refl

  pub write_held : (w : List ℕ) (b : Block) → is_held_by o (write_block p w b) ≡ is_held_by o b
  write_held w b = go (is_held_by p b) where
    go : (t : Bool) → is_held_by o (cond t (record b { holding = write_holding w b.holding }) b) ≡ is_held_by o b
    go true = bytes_stay w b.holding
    go false = refl

  pub owned_retagged_others : (tag : Tag) → same_owner p o ≡ false → (bs : List Block) → owned_block o (map (retag_block p tag) bs) ≡ owned_block o bs
  owned_retagged_others tag apart bs = owned_same o p apart (retag_block p tag) (retag_held tag) (λ b e. cond-false _ _ _ e) bs

  pub owned_written_others : (w : List ℕ) → same_owner p o ≡ false → (bs : List Block) → owned_block o (map (write_block p w) bs) ≡ owned_block o bs
  owned_written_others w apart bs = owned_same o p apart (write_block p w) (write_held w) (λ b e. cond-false _ _ _ e) bs

-- a block of the list lies behind its first place
low_place : (o : Owner) (p q : ℕ) (bs : List Block) (b : Block) → Tiles p q bs → owned_block o bs ≡ Some b → p ≤ b.place
low_place o p q [] b t e = cc
low_place o p q (c ∷ bs) b t e = go (is_held_by o c) e (λ k. low_place o (p + c.size) q bs b t.2 k) where
  go : (u : Bool) → cond u (Some c) (owned_block o bs) ≡ Some b → (owned_block o bs ≡ Some b → p + c.size ≤ b.place) → p ≤ b.place
  go true k rest = let same_block : c ≡ b = cc in let same_place = ap (λ (d : Block). d.place) same_block in let place_is = t.0 in omega arith
  go false k rest = let lies_behind = rest k in omega arith

-- the blocks of two owners do not meet
beside_owner : (o q : Owner) (h : Option Holding) → same_owner o q ≡ false → holds_for o h ≡ true → holds_for q h ≡ false
beside_owner o q None apart e = refl
beside_owner o q (Some h) apart e = go (same_owner h.owner q) refl where
  go : (t : Bool) → same_owner h.owner q ≡ t → t ≡ false
  go true k = absurd (false≢true (sym apart ∙ ap (λ p. same_owner p q) (sym (owner_eq h.owner o e)) ∙ k))
  go false k = refl

-- the first block lies before that of an owner among the rest
before_owned : (q : Owner) (p end' : ℕ) (a b c : Block) (bs : List Block) → Tiles p end' (a ∷ bs) → a ≡ b → owned_block q bs ≡ Some c → b.place + b.size ≤ c.place
before_owned q p end' a b c bs t e f =
    let places_same = ap (λ (d : Block). d.place) e in
    let sizes_same = ap (λ (d : Block). d.size) e in
    let low = low_place q (p + a.size) end' bs c t.2 f in
    let place_is = t.0 in
    omega arith

pub owned_apart : (o q : Owner) (p end' : ℕ) (bs : List Block) (b c : Block) → same_owner o q ≡ false → Tiles p end' bs → owned_block o bs ≡ Some b → owned_block q bs ≡ Some c → (b.place + b.size ≤ c.place) ⊎ (c.place + c.size ≤ b.place)
owned_apart o q p end' [] b c s t e f = cc
owned_apart o q p end' (a ∷ bs) b c s t e f = go (is_held_by o a) (is_held_by q a) refl refl e f (λ x y. owned_apart o q (p + a.size) end' bs b c s t.2 x y) where
  go : (u v : Bool) → is_held_by o a ≡ u → is_held_by q a ≡ v → cond u (Some a) (owned_block o bs) ≡ Some b → cond v (Some a) (owned_block q bs) ≡ Some c → (owned_block o bs ≡ Some b → owned_block q bs ≡ Some c → (b.place + b.size ≤ c.place) ⊎ (c.place + c.size ≤ b.place)) → (b.place + b.size ≤ c.place) ⊎ (c.place + c.size ≤ b.place)
  go true true h k e f rest = absurd (false≢true (sym (beside_owner o q a.holding s h) ∙ k))
  go true false h k e f rest = inl (before_owned q p end' a b c bs t (cc) f)
  go false true h k e f rest = inr (before_owned o p end' a c b bs t (cc) e)
  go false false h k e f rest = rest e f
