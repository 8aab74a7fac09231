-- What follows where the block of an owner that is no lump was freed.
use Rattle.std.proofs.Common.{◌≡◌, ℕ, false, List, ◌∷◌, None, refl, sym, subst, ap, ◌∙◌, inl}
use Rattle.lump_cache.specs.Rules.{Heap, Lump, Owner, owned_block, same_owner, without_block}
use Rattle.zone_rules.proofs.OwnerLemmas.{owned_freed, owned_freed_others}
use Rattle.lump_cache.specs.Caches.{IsFaithful, IsAtRest, IsAtRestExcept, IsUnpinned, KeepsCounts, KeptOrPurged, lump_owner}
use Rattle.lump_cache.proofs.RestButLemmas.{rest_but_fewer, rest_but_none, rest_but_same, rest_of_none}
use Rattle.lump_cache.proofs.WriteLemmas.{faithful_kept}

module _ (o : Owner) (old : Heap) {new : Heap} (is : new ≡ without_block o old) where
  -- the zone keeps its size and its slots
  pub drop_counts : KeepsCounts old new
  drop_counts = subst (KeepsCounts old) (sym is) (refl, refl, refl)

  -- the owner's slot is empty
  pub drop_empty : owned_block o new.blocks ≡ None
  drop_empty = ap (λ (z : Heap). owned_block o z.blocks) is ∙ owned_freed o old.blocks

  -- another owner's block stands
  pub drop_others : (p : Owner) → same_owner o p ≡ false → owned_block p new.blocks ≡ owned_block p old.blocks
  drop_others p apart = ap (λ (z : Heap). owned_block p z.blocks) is ∙ owned_freed_others p o apart old.blocks

  kept : (p : Owner) → same_owner o p ≡ false → KeptOrPurged (owned_block p old.blocks) (owned_block p new.blocks)
  kept p apart = inl (drop_others p apart)

  unpinned : IsUnpinned (owned_block o new.blocks)
  unpinned = subst IsUnpinned (sym drop_empty) tt

  -- an owner that is no lump
  module _ (apart : (number : ℕ) → same_owner o (lump_owner number) ≡ false) where
    -- each live lump keeps the bytes that its files have
    pub drop_faithful : (contents : List (List ℕ)) (lumps : List Lump) → IsFaithful contents lumps old → IsFaithful contents lumps new
    drop_faithful contents lumps faithful = faithful_kept contents lumps old new (λ number. kept (lump_owner number) (apart number)) faithful

    -- a cache at rest except for the owner and others is so except for the others
    pub drop_rest_except : (colormap count : ℕ) (pinned : List Owner) → IsAtRestExcept colormap count (o ∷ pinned) old → IsAtRestExcept colormap count pinned new
    drop_rest_except colormap count pinned rest = rest_but_fewer colormap count pinned new o (λ h. unpinned) (rest_but_same colormap count (o ∷ pinned) old new o (apart colormap) kept rest unpinned)

    -- a cache at rest stays so
    pub drop_rest : (colormap count : ℕ) → IsAtRest colormap count old → IsAtRest colormap count new
    drop_rest colormap count rest = rest_of_none colormap count new (rest_but_same colormap count _ old new o (apart colormap) kept (rest_but_none colormap count old rest) unpinned)
