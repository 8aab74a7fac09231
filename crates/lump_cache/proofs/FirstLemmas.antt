-- The first lump of an empty cache, pinned for the whole run, leaves it at rest.
use Rattle.std.proofs.Common.{◌≡◌, ℕ, false, Some, ◌∙◌, arith}
use Rattle.lump_cache.specs.Rules.{Block, Heap, IsSound, Owner, Static, Tag, TakesBlock, block_size, owned_block, same_owner}
use Rattle.zone_rules.proofs.{EmptyLemmas.empty_place, OrderSumLemmas.block_least}
use Rattle.lump_cache.specs.Caches.{IsAtRest, IsStatic, IsUnpinned, IsEmpty, lump_owner}

pub first_at_rest : (l size : ℕ) (tag : Tag) (old made new : Heap) → IsSound old → tag ≡ Static → IsEmpty old → (t : TakesBlock old made (lump_owner l) size tag) → (block : Block) → owned_block (lump_owner l) new.blocks ≡ Some block → block.place ≡ t.place → IsStatic size block.holding
    → ((o : Owner) → same_owner (lump_owner l) o ≡ false → IsUnpinned (owned_block o new.blocks)) → IsAtRest l size new
first_at_rest l size tag old made new s static none t block is at pinned others = record {
  block = block;
  is = is;
  place = at ∙ empty_place (block_size size) t.place old s (let block_size_least = block_least size in omega (arith, block_size_least)) none t.place_is;
  pinned = pinned;
  others = others;
}
