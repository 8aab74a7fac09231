-- A cache in order, through requests, releases and new tags.
use Rattle.zone_rules.proofs.Common.{◌≡◌, ℕ, ◌+◌, ◌≤◌, ◌<◌, Bool, true, false, cond, List, Option, Some, None, refl, ◌∙◌, arith, Result, Ok, Err, All, IsOk, IsErr, OnOk}
use Rattle.lump_cache.specs.Rules.{Cache, Heap, Holding, IsInOrder, IsSound, Item, KeepsOrder, Owner, Tag, TakesBlock, block_size, counted, gaps, has_item, holding_of, is_live, lump_size, total, with_tag}
use Rattle.zone_rules.proofs.OrderSumLemmas.{item}
use Rattle.zone_rules.proofs.OrderLemmas.{order_none, order_has_room, order_taken}
use Rattle.zone_rules.proofs.OrderChangeLemmas.{order_retagged, live_retagged}
use Rattle.lump_cache.specs.Caches.{with_tag_unless_static, holds_static, release_heap, released_heap}

pub order_unless_static : (o : Owner) (tag : Tag) (items : List Item) (z : Heap) (taken : ℕ) → IsInOrder items z → KeepsOrder items z (with_tag_unless_static o tag z) taken taken
order_unless_static o tag items z taken k = go (holds_static (holding_of o z.blocks)) where
  go : (t : Bool) → KeepsOrder items z (cond t z (with_tag o tag z)) taken taken
  go true = order_none items z taken k
  go false = order_retagged o tag items z taken k

pub live_unless_static : (o p : Owner) (tag : Tag) (z : Heap) → is_live z.blocks p ≡ true → is_live (with_tag_unless_static o tag z).blocks p ≡ true
live_unless_static o p tag z k = go (holds_static (holding_of o z.blocks)) where
  go : (t : Bool) → is_live (cond t z (with_tag o tag z)).blocks p ≡ true
  go true = k
  go false = live_retagged o tag p z ∙ k

pub order_released : (o : Owner) (items : List Item) (z : Heap) (taken : ℕ) → IsInOrder items z → KeepsOrder items z (release_heap o z) taken taken
order_released o items z taken k = go (holding_of o z.blocks) where
  go : (h : Option Holding) → KeepsOrder items z (released_heap o z h) taken taken
  go None = order_none items z taken k
  go (Some h) = order_unless_static o Cache items z taken k

-- a count goes up by no more than what is added
pub counted_least : (before more : ℕ) → counted before more ≤ before + more
counted_least before more = omega arith

-- a request for an item that is not live is answered, and keeps the order
module _ (items : List Item) (old new : Heap) (s : IsSound old) (ord : IsInOrder items old) (o : Owner) (size : ℕ) (tag : Tag) (in_list : has_item items o size ≡ true) (dead : is_live old.blocks o ≡ false) where
  pub order_answer : {A E : Type 0} → (r : Result A E) (before after : ℕ) → (IsErr r → All (λ g. total g < block_size size) (gaps old.blocks)) → OnOk r (TakesBlock old new o size tag) → after ≤ before + lump_size (item o size) → IsOk r × KeepsOrder items old new before after
  order_answer (Ok x) before after full t le = (refl, order_taken items old s ord o size in_list dead new tag t before after le)
  order_answer (Err e) before after full t le = absurd (order_has_room items old s ord o size in_list dead (full refl))
