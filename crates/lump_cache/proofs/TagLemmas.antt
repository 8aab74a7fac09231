-- A new tag for a block, unless it is pinned for the whole run.
use Rattle.zone_rules.proofs.Common.{◌≡◌, Bool, true, false, cond, List, [], ◌∷◌, map, Option, Some, None, refl, sym, ap, ap₂, ◌∙◌, option_map, IsSome, option_and_then, cond-true, cond-false, false≢true}
use Rattle.lump_cache.specs.Rules.{Block, Cache, Heap, Holding, IsLive, IsSound, Lacks, Level, Owner, Static, Tag, Unique, holding_of, is_held_by, owned_block, retag_block, set_tag, with_tag}
use Rattle.zone_rules.proofs.OwnerLemmas.{owned_block-map, retag_held, lacks_held}
use Rattle.lump_cache.specs.Caches.{KeepsCounts, holds_static, is_static_tag, with_tag_unless_static}
use Rattle.lump_cache.proofs.RestButLemmas.{owned_held}

pub counts_unless_static : (o : Owner) (tag : Tag) (z : Heap) → KeepsCounts z (with_tag_unless_static o tag z)
counts_unless_static o tag z = go (holds_static (holding_of o z.blocks)) where
  go : (t : Bool) → KeepsCounts z (cond t z (with_tag o tag z))
  go true = (refl, refl, refl)
  go false = (refl, refl, refl)

-- the tag of an owner's block
abbrev tag_in : Option Block → Option Tag
tag_in b = option_map (λ (h : Holding). h.tag) (option_and_then (λ (x : Block). x.holding) b)

-- a live block is pinned for the whole run, once it has the tag `Static`
pub static_unless_static : (o : Owner) (z : Heap) → IsLive z o → option_map (λ (h : Holding). h.tag) (holding_of o (with_tag_unless_static o Static z).blocks) ≡ Some Static
static_unless_static o z live = go (holds_static (holding_of o z.blocks)) refl where
  static : (h : Option Holding) → holds_static h ≡ true → option_map (λ (x : Holding). x.tag) h ≡ Some Static
  static None k = absurd (false≢true k)
  static (Some h) k = of_tag h.tag k where
    of_tag : (t : Tag) → is_static_tag t ≡ true → Some t ≡ Some Static
    of_tag Static k = refl
    of_tag Level k = absurd (false≢true k)
    of_tag Cache k = absurd (false≢true k)

  set : (h : Option Holding) → IsSome h → option_map (λ (x : Holding). x.tag) (set_tag Static h) ≡ Some Static
  set None k = absurd (false≢true k)
  set (Some h) k = refl

  retag : (b : Option Block) → owned_block o z.blocks ≡ b → IsSome (option_and_then (λ (x : Block). x.holding) b) → tag_in (option_map (retag_block o Static) b) ≡ Some Static
  retag None e k = absurd (false≢true k)
  retag (Some b) e k = ap (λ (c : Block). option_map (λ (x : Holding). x.tag) c.holding) (cond-true (is_held_by o b) (record b { holding = set_tag Static b.holding }) b (owned_held o b z.blocks e)) ∙ set b.holding k

  go : (t : Bool) → holds_static (holding_of o z.blocks) ≡ t → option_map (λ (x : Holding). x.tag) (holding_of o (cond t z (with_tag o Static z)).blocks) ≡ Some Static
  go true e = static (holding_of o z.blocks) e
  go false e = ap tag_in (owned_block-map o (retag_block o Static) (λ b. retag_held o o Static b) z.blocks) ∙ retag (owned_block o z.blocks) refl live

-- a tag that a block has already is not new
module _ (o : Owner) (tag : Tag) where
  none_same : (bs : List Block) → Lacks o bs → map (retag_block o tag) bs ≡ bs
  none_same [] l = refl
  none_same (b ∷ bs) l = ap₂ ◌∷◌ (cond-false (is_held_by o b) _ _ l.0) (none_same bs l.1)

  set_same : (h : Option Holding) → option_map (λ (x : Holding). x.tag) h ≡ Some tag → set_tag tag h ≡ h
  set_same None e = refl
  set_same (Some h) e = let tag_same : h.tag ≡ tag = cc in ap (λ t. Some (record h { tag = t })) (sym tag_same)

  blocks_same : (bs : List Block) → Unique bs → tag_in (owned_block o bs) ≡ Some tag → map (retag_block o tag) bs ≡ bs
  blocks_same [] u e = refl
  blocks_same (b ∷ bs) u e = go (is_held_by o b) refl e (λ k. blocks_same bs u.1 k) where
    go : (t : Bool) → is_held_by o b ≡ t → tag_in (cond t (Some b) (owned_block o bs)) ≡ Some tag → (tag_in (owned_block o bs) ≡ Some tag → map (retag_block o tag) bs ≡ bs) → map (retag_block o tag) (b ∷ bs) ≡ b ∷ bs
    go true h k later =
        ap₂ ◌∷◌ (cond-true (is_held_by o b) (record b { holding = set_tag tag b.holding }) b h ∙ ap (λ x. record b { holding = x }) (set_same b.holding k)) (none_same bs (lacks_held o b.holding bs h u.0))
    go false h k later = ap₂ ◌∷◌ (cond-false (is_held_by o b) (record b { holding = set_tag tag b.holding }) b h) (later k)

  pub with_same_tag : (z : Heap) → IsSound z → option_map (λ (h : Holding). h.tag) (holding_of o z.blocks) ≡ Some tag → with_tag o tag z ≡ z
  with_same_tag z sound e = ap (λ bs. record z { blocks = bs }) (blocks_same z.blocks sound.unique e)

  -- and where it is pinned for the whole run, that is not a new tag either
  pub unless_same_tag : (z : Heap) → IsSound z → option_map (λ (h : Holding). h.tag) (holding_of o z.blocks) ≡ Some tag → with_tag_unless_static o tag z ≡ z
  unless_same_tag z sound e = go (holds_static (holding_of o z.blocks)) where
    go : (t : Bool) → cond t z (with_tag o tag z) ≡ z
    go true = refl
    go false = with_same_tag z sound e
