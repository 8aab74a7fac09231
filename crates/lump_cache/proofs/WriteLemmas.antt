-- What follows of a call that writes bytes of a block.
use Rattle.std.proofs.Common.{◌≡◌, ℕ, false, List, refl, sym, subst, ap, ap₂, ◌∙◌, inl}
use Rattle.lump_cache.specs.Rules.{Heap, IsInOrder, IsLive, Item, KeepsOrder, Lump, Owner, is_live, lump_bytes, owned_block, owner_at, same_owner, with_bytes}
use Rattle.zone_rules.proofs.OrderChangeLemmas.{live_written, order_written}
use Rattle.zone_rules.proofs.OwnerLemmas.{owned_written_others}
use Rattle.lump_cache.specs.Caches.{KeptOrPurged, IsFaithful, IsAtRest, IsAtRestExcept, IsPinned, KeepsCounts, lump_owner, composite_owner}
use Rattle.lump_cache.proofs.FaithLemmas.{kept_bytes}
use Rattle.lump_cache.proofs.RestButLemmas.{rest_but_written, rest_written, written_pinned}

-- blocks of lumps that stand keep a cache faithful
pub faithful_kept : (contents : List (List ℕ)) (lumps : List Lump) (old new : Heap) → ((n : ℕ) → KeptOrPurged (owned_block (lump_owner n) old.blocks) (owned_block (lump_owner n) new.blocks)) → IsFaithful contents lumps old → IsFaithful contents lumps new
faithful_kept contents lumps old new k f = record { at = λ n lt. kept_bytes (owned_block (lump_owner n) old.blocks) (owned_block (lump_owner n) new.blocks) (λ xs. xs ≡ lump_bytes contents lumps n) (k n) (f.at n lt) }

-- the same write, of the slot as the caller names it
pub write_through : (new inside old : Heap) (w : List ℕ) (n m : ℕ) → new ≡ with_bytes (owner_at 1 n) w inside → n ≡ m → inside ≡ old → new ≡ with_bytes (composite_owner m) w old
write_through new inside old w n m zone number view = zone ∙ ap₂ (λ k (z : Heap). with_bytes (owner_at 1 k) w z) number view

module _ (o : Owner) (w : List ℕ) (old : Heap) {new : Heap} (is : new ≡ with_bytes o w old) where
  -- the zone keeps its size and its slots
  pub write_counts : KeepsCounts old new
  write_counts = subst (KeepsCounts old) (sym is) (refl, refl, refl)

  -- another owner's block stands
  pub write_others : (p : Owner) → same_owner o p ≡ false → owned_block p new.blocks ≡ owned_block p old.blocks
  write_others p apart = ap (λ (z : Heap). owned_block p z.blocks) is ∙ owned_written_others p o w apart old.blocks

  -- a live owner is live, and a pinned block is pinned
  pub write_live : (p : Owner) → IsLive old p → IsLive new p
  write_live p live = ap (λ (z : Heap). is_live z.blocks p) is ∙ live_written o w p old ∙ live

  pub write_pinned : (p : Owner) → IsPinned (owned_block p old.blocks) → IsPinned (owned_block p new.blocks)
  write_pinned p pinned = subst (λ (z : Heap). IsPinned (owned_block p z.blocks)) (sym is) (written_pinned o w p old.blocks pinned)

  -- a cache in order stays so
  pub write_order : (items : List Item) (taken : ℕ) → IsInOrder items old → KeepsOrder items old new taken taken
  write_order items taken order = subst (λ (z : Heap). KeepsOrder items old z taken taken) (sym is) (order_written o w items old taken order)

  -- an owner that is no lump
  module _ (apart : (number : ℕ) → same_owner o (lump_owner number) ≡ false) where
    -- each live lump keeps the bytes that its files have
    pub write_faithful : (contents : List (List ℕ)) (lumps : List Lump) → IsFaithful contents lumps old → IsFaithful contents lumps new
    write_faithful contents lumps faithful = faithful_kept contents lumps old new (λ number. inl (write_others (lump_owner number) (apart number))) faithful

    -- a cache at rest stays so, and one at rest except for some owners
    pub write_rest : (colormap count : ℕ) → IsAtRest colormap count old → IsAtRest colormap count new
    write_rest colormap count rest = subst (IsAtRest colormap count) (sym is) (rest_written o w colormap count old (apart colormap) rest)

    pub write_rest_except : (colormap count : ℕ) (pinned : List Owner) → IsAtRestExcept colormap count pinned old → IsAtRestExcept colormap count pinned new
    write_rest_except colormap count pinned rest = subst (IsAtRestExcept colormap count pinned) (sym is) (rest_but_written o w colormap count pinned old (apart colormap) rest)
