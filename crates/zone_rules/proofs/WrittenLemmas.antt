-- A block that is taken and then written is one that is taken with these bytes.
use Rattle.zone_rules.proofs.Common.{◌≡◌, ℕ, ◌+◌, ◌-◌, Bool, true, false, cond, List, [], ◌∷◌, ◌++◌, map, Some, refl, sym, ap, ap₂, ◌∙◌, ◌==◌, nat_lt, cond-true, cond-false, and_from, eq-eqb, map-append}
use Rattle.zone_rules.specs.Zones.{Owner, Holding, Block, Heap, Lacks, is_held_by, same_owner, free_block}
use Rattle.zone_rules.specs.Requests.{after_search, take_at, cut_block, with_block, place_after}
use Rattle.zone_rules.specs.Frees.{write_block, write_holding, with_bytes}
use Rattle.zone_rules.proofs.ChangeLemmas.{write_none}

-- a place after a block does not see bytes
after_written : (o : Owner) (w : List ℕ) (p q : ℕ) (bs : List Block) → place_after p q (map (write_block o w) bs) ≡ place_after p q bs
after_written o w p q [] = refl
after_written o w p q (b ∷ bs) = go (is_held_by o b) (after_written o w p q bs) where
  go : (t : Bool) → place_after p q (map (write_block o w) bs) ≡ place_after p q bs → place_after p q (cond t (record b { holding = write_holding w b.holding }) b ∷ map (write_block o w) bs) ≡ place_after p q (b ∷ bs)
  go true k = ap (cond (b.place == p) (cond (b.place + b.size == q) 0 (b.place + b.size))) k
  go false k = ap (cond (b.place == p) (cond (b.place + b.size == q) 0 (b.place + b.size))) k

module _ (o : Owner) (w : List ℕ) (h : Holding) (owner_is : h.owner ≡ o) where
  abbrev pub rewritten : Holding
  rewritten = record h { bytes = w }

  held_new : same_owner h.owner o ≡ true
  held_new = ap (λ q. same_owner q o) owner_is ∙ and_from (o.kind == o.kind) (o.number == o.number) (eq-eqb o.kind o.kind refl) (eq-eqb o.number o.number refl)

  new_written : (p s : ℕ) → write_block o w (record { place = p; size = s; holding = Some h }) ≡ record { place = p; size = s; holding = Some rewritten }
  new_written p s =
      cond-true (same_owner h.owner o) (record { place = p; size = s; holding = Some rewritten }) (record { place = p; size = s; holding = Some h }) held_new

  cut_written : (n : ℕ) (b : Block) → map (write_block o w) (cut_block n h b) ≡ cut_block n rewritten b
  cut_written n b = go (nat_lt 64 (b.size - n)) where
    go : (t : Bool) → map (write_block o w) (cond t (record { place = b.place; size = n; holding = Some h } ∷ free_block (b.place + n) (b.size - n) ∷ []) (record b { holding = Some h } ∷ [])) ≡ cond t (record { place = b.place; size = n; holding = Some rewritten } ∷ free_block (b.place + n) (b.size - n) ∷ []) (record b { holding = Some rewritten } ∷ [])
    go true = ap (λ (x : Block). x ∷ free_block (b.place + n) (b.size - n) ∷ []) (new_written b.place n)
    go false = ap (λ (x : Block). x ∷ []) (new_written b.place b.size)

  take_written : (p n : ℕ) (bs : List Block) → Lacks o bs → map (write_block o w) (take_at p n h bs) ≡ take_at p n rewritten bs
  take_written p n [] l = refl
  take_written p n (b ∷ bs) l = go (b.place == p) (take_written p n bs l.1) where
    go : (t : Bool) → map (write_block o w) (take_at p n h bs) ≡ take_at p n rewritten bs → map (write_block o w) (cond t (cut_block n h b ++ bs) (b ∷ take_at p n h bs)) ≡ cond t (cut_block n rewritten b ++ bs) (b ∷ take_at p n rewritten bs)
    go true k = map-append (write_block o w) (cut_block n h b) bs ∙ ap₂ ◌++◌ (cut_written n b) (write_none o w bs l.1)
    go false k = ap₂ ◌∷◌ (cond-false (is_held_by o b) (record b { holding = write_holding w b.holding }) b l.0) k

  pub block_written : (n p : ℕ) (z : Heap) → Lacks o (after_search n z) → with_bytes o w (with_block n h p z) ≡ with_block n rewritten p z
  block_written n p z l =
      let same_blocks = take_written p n (after_search n z) l in
      let same_rover = sym (after_written o w p z.size (take_at p n h (after_search n z))) ∙ ap (place_after p z.size) same_blocks in
      λ i. record (with_block n h p z) { blocks = same_blocks i; rover = same_rover i }
