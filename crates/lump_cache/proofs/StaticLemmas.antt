-- A block that is pinned for the whole run.
use Rattle.zone_rules.proofs.Common.{◌≡◌, ℕ, Bool, true, false, cond, not, length, Option, Some, None, refl, sym, subst, ap, ◌∙◌, option_map, IfSome, IsSome, option_and_then, cond-true, false≢true}
use Rattle.lump_cache.specs.Rules.{Block, Cache, FitsHolding, Heap, Holding, IsLive, IsSound, Level, Owner, Static, Tag, bytes_of, holding_of, is_held_by, is_purgeable_tag, owned_block, pins, retag_block, set_tag, with_tag}
use Rattle.zone_rules.proofs.OwnerLemmas.{owned_block-map, retag_held}
use Rattle.lump_cache.specs.Caches.{HasAsked, HasBlock, HasStatic, HasUse, IsAsked, IsAtRest, IsPinned, IsStatic, holds_static, is_static_tag, lump_owner, with_tag_unless_static}
use Rattle.lump_cache.proofs.{RestButLemmas.owned_held, RestLemmas.static_held}
use Rattle.lump_cache.proofs.RoomButLemmas.{owned_fits}

-- what the block of an owner holds
abbrev held_in : Option Block → Option Holding
held_in b = option_and_then (λ (x : Block). x.holding) b

pub has_static_held : (size : ℕ) (b : Option Block) → HasStatic size b → holds_static (held_in b) ≡ true
has_static_held size None has = absurd has
has_static_held size (Some b) has = static_held size b.holding has

-- it is pinned
pub held_pinned : (b : Option Block) → holds_static (held_in b) ≡ true → IsPinned b
held_pinned None e = absurd (false≢true e)
held_pinned (Some b) e = go b.holding e where
  tag : (t : Tag) → is_static_tag t ≡ true → not (is_purgeable_tag t) ≡ true
  tag Static k = refl
  tag Level k = absurd (false≢true k)
  tag Cache k = absurd (false≢true k)

  go : (h : Option Holding) → holds_static h ≡ true → pins h ≡ true
  go None k = absurd (false≢true k)
  go (Some h) k = tag h.tag k

-- a cache at rest has the colormap so
pub rest_static : {colormap count : ℕ} {z : Heap} → IsAtRest colormap count z → HasStatic count (owned_block (lump_owner colormap) z.blocks)
rest_static {count} rest = subst (HasStatic count) (sym rest.is) rest.pinned

-- through one call after another
pub stays_then : (x y z : Heap) → ((o : Owner) → holds_static (holding_of o x.blocks) ≡ true → owned_block o y.blocks ≡ owned_block o x.blocks) → ((o : Owner) → holds_static (holding_of o y.blocks) ≡ true → owned_block o z.blocks ≡ owned_block o y.blocks) →
    (o : Owner) → holds_static (holding_of o x.blocks) ≡ true → owned_block o z.blocks ≡ owned_block o x.blocks
stays_then x y z first next o held =
    let first_keeps_block = first o held in
    next o (ap (λ b. holds_static (held_in b)) first_keeps_block ∙ held) ∙ first_keeps_block

-- a new block with that tag
pub static_taken : (size : ℕ) (b : Option Block) → HasBlock Static size b → HasStatic size b
static_taken size None has = absurd has
static_taken size (Some b) has = go b.holding has where
  go : (h : Option Holding) → HasUse Static size h → IsStatic size h
  go None k = absurd k
  go (Some h) k = (k.0, k.1)

-- a live block whose bytes are so many was asked for with that size
pub static_sized : (o : Owner) (size : ℕ) (z : Heap) → IsSound z → IsLive z o → IfSome (bytes_of o z.blocks) (λ bytes. length bytes ≡ size) → HasAsked size (owned_block o z.blocks)
static_sized o size z sound live sized = go (owned_block o z.blocks) refl live sized where
  asked : (b : Block) (h : Option Holding) → IsSome h → FitsHolding z.lumps z.composites b.size h → IfSome (option_map (λ (x : Holding). x.bytes) h) (λ bytes. length bytes ≡ size) → IsAsked size h
  asked b None live fits k = absurd (false≢true live)
  asked b (Some h) live fits k = sym fits.2 ∙ k

  go : (b : Option Block) → owned_block o z.blocks ≡ b → IsLive z o → IfSome (bytes_of o z.blocks) (λ bytes. length bytes ≡ size) → HasAsked size b
  go None e live k = absurd (false≢true (subst (λ (x : Option Block). IsSome (held_in x)) e live))
  go (Some b) e live k = asked b b.holding (subst (λ (x : Option Block). IsSome (held_in x)) e live) (owned_fits o b z.lumps z.composites z.blocks sound.fits e) (subst (λ (x : Option Block). IfSome (option_map (λ (h : Holding). h.bytes) (held_in x)) (λ bytes. length bytes ≡ size)) e k)

-- a live block of that size, once it has the tag
pub static_retagged : (o : Owner) (size : ℕ) (z : Heap) → HasAsked size (owned_block o z.blocks) → HasStatic size (owned_block o (with_tag_unless_static o Static z).blocks)
static_retagged o size z asked = go (holds_static (holding_of o z.blocks)) refl where
  tag_is : (t : Tag) → is_static_tag t ≡ true → t ≡ Static
  tag_is Static k = refl
  tag_is Level k = absurd (false≢true k)
  tag_is Cache k = absurd (false≢true k)

  static : (h : Option Holding) → IsAsked size h → holds_static h ≡ true → IsStatic size h
  static None a k = absurd a
  static (Some h) a k = (tag_is h.tag k, a)

  here : (b : Option Block) → HasAsked size b → holds_static (held_in b) ≡ true → HasStatic size b
  here None a k = absurd a
  here (Some b) a k = static b.holding a k

  set : (h : Option Holding) → IsAsked size h → IsStatic size (set_tag Static h)
  set None a = absurd a
  set (Some h) a = (refl, a)

  retag : (b : Option Block) → owned_block o z.blocks ≡ b → HasAsked size b → HasStatic size (option_map (retag_block o Static) b)
  retag None e a = absurd a
  retag (Some b) e a = subst (λ (c : Block). IsStatic size c.holding) (sym (cond-true (is_held_by o b) (record b { holding = set_tag Static b.holding }) b (owned_held o b z.blocks e))) (set b.holding a)

  go : (t : Bool) → holds_static (holding_of o z.blocks) ≡ t → HasStatic size (owned_block o (cond t z (with_tag o Static z)).blocks)
  go true e = here (owned_block o z.blocks) asked e
  go false e = subst (HasStatic size) (sym (owned_block-map o (retag_block o Static) (λ b. retag_held o o Static b) z.blocks)) (retag (owned_block o z.blocks) refl asked)
