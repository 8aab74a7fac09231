-- What follows of a release, of a lump or of a composite.
use Rattle.std.proofs.Common.{◌≡◌, ℕ, false, List, ◌∷◌, Option, Some, None, refl, sym, subst, ap, ◌∙◌}
use Rattle.lump_cache.specs.Rules.{Cache, Heap, Holding, IsInOrder, Item, KeepsOrder, Lump, Owner, holding_of, owned_block, same_owner}
use Rattle.lump_cache.specs.Caches.{IsFaithful, IsAtRest, IsAtRestExcept, KeepsCounts, release_heap, released_heap}
use Rattle.lump_cache.proofs.{FaithLemmas.faithful_release, FillLemmas.released_others}
use Rattle.lump_cache.proofs.{OrderLemmas.order_released, RestButLemmas.rest_but_released}
use Rattle.lump_cache.proofs.{RestLemmas.rest_release, TagLemmas.counts_unless_static}

module _ (o : Owner) (old : Heap) {new : Heap} (is : new ≡ release_heap o old) where
  -- the zone keeps its size and its slots
  pub release_counts : KeepsCounts old new
  release_counts = subst (KeepsCounts old) (sym is) (go (holding_of o old.blocks)) where
    go : (h : Option Holding) → KeepsCounts old (released_heap o old h)
    go None = (refl, refl, refl)
    go (Some h) = counts_unless_static o Cache old

  -- another owner's block stands
  pub release_others : (p : Owner) → same_owner o p ≡ false → owned_block p new.blocks ≡ owned_block p old.blocks
  release_others p apart = ap (λ (z : Heap). owned_block p z.blocks) is ∙ released_others o p old apart

  -- each live lump keeps the bytes that its files have
  pub release_faithful : (contents : List (List ℕ)) (lumps : List Lump) → IsFaithful contents lumps old → IsFaithful contents lumps new
  release_faithful contents lumps faithful = subst (IsFaithful contents lumps) (sym is) (faithful_release contents lumps o old faithful)

  -- a cache at rest stays so
  pub release_rest : (colormap count : ℕ) → IsAtRest colormap count old → IsAtRest colormap count new
  release_rest colormap count rest = subst (IsAtRest colormap count) (sym is) (rest_release colormap count old rest o)

  -- a cache at rest except for the owner and others is so except for the others
  pub release_rest_except : (colormap count : ℕ) (pinned : List Owner) → IsAtRestExcept colormap count (o ∷ pinned) old → IsAtRestExcept colormap count pinned new
  release_rest_except colormap count pinned rest = subst (IsAtRestExcept colormap count pinned) (sym is) (rest_but_released colormap count o old pinned rest)

  -- a cache in order stays so
  pub release_order : (items : List Item) (taken : ℕ) → IsInOrder items old → KeepsOrder items old new taken taken
  release_order items taken order = subst (λ (z : Heap). KeepsOrder items old z taken taken) (sym is) (order_released o items old taken order)
