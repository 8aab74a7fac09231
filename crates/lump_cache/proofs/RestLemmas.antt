-- What a cache at rest is, through fills, purges and new tags.
use Rattle.zone_rules.proofs.Common.{◌≡◌, ℕ, Bool, true, false, cond, not, Option, Some, None, refl, sym, subst, ap, ◌∙◌, option_map, inl, inr, Result, Ok, Err, option_and_then, OnOk, OnErr, false≢true}
use Rattle.lump_cache.specs.Rules.{Block, Cache, Heap, Holding, Owner, Tag, holding_of, is_held_by, is_pinned, is_purgeable, is_purgeable_tag, may_purge, owned_block, pins, retag_block, same_owner, set_tag, with_tag}
use Rattle.zone_rules.proofs.PurgeLemmas.{pinned_stays}
use Rattle.zone_rules.proofs.OwnerLemmas.{owner_eq, owned_block-map, owned_retagged_others, retag_held}
use Rattle.lump_cache.specs.Caches.{KeptOrPurged, MayPurge, IsAtRest, IsStatic, IsUnpinned, IsPinned, HasBlock, HasUse, lump_owner, with_tag_unless_static, holds_static, is_static_tag, release_heap, released_heap}

cache_unpinned : (size : ℕ) (b : Option Block) → HasBlock Cache size b → IsUnpinned b
cache_unpinned size None k = absurd k
cache_unpinned size (Some b) k = go b.holding k where
  go : (h : Option Holding) → HasUse Cache size h → pins h ≡ false
  go None k = refl
  go (Some h) k = ap (λ t. not (is_purgeable_tag t)) k.0

pub unpinned_after : {A E : Type 0} → (r : Result A E) (tag : Tag) (size : ℕ) (b : Option Block) → tag ≡ Cache → OnOk r (HasBlock tag size b) → OnErr r (b ≡ None) → IsUnpinned b
unpinned_after (Ok x) tag size b t k e = cache_unpinned size b (subst (λ u. HasBlock u size b) t k)
unpinned_after (Err x) tag size b t k e = subst IsUnpinned (sym e) tt

static_stays : (size : ℕ) (b : Block) → IsStatic size b.holding → is_purgeable b ≡ false
static_stays size b s = go b.holding s where
  go : (h : Option Holding) → IsStatic size h → may_purge h ≡ false
  go None s = absurd s
  go (Some h) s = ap is_purgeable_tag s.0

pub static_held : (size : ℕ) (h : Option Holding) → IsStatic size h → holds_static h ≡ true
static_held size None s = absurd s
static_held size (Some h) s = ap is_static_tag s.0

pub kept_unpinned : (old new : Option Block) → KeptOrPurged old new → IsUnpinned old → IsUnpinned new
kept_unpinned old new (inl e) u = subst IsUnpinned (sym e) u
kept_unpinned old new (inr e) u = subst IsUnpinned (sym e.0) tt

pub kept_static : (size : ℕ) (b : Block) (new : Option Block) → IsStatic size b.holding → KeptOrPurged (Some b) new → new ≡ Some b
kept_static size b new s (inl e) = e
kept_static size b new s (inr e) = absurd (false≢true (sym (static_stays size b s) ∙ e.1))

-- a pinned block stands
pub kept_pinned : (old new : Option Block) → KeptOrPurged old new → IsPinned old → new ≡ old
kept_pinned old new (inl e) p = e
kept_pinned old new (inr e) p = absurd (both old e.1 p) where
  both : (b : Option Block) → MayPurge b → IsPinned b → ⊥
  both None m p = p
  both (Some b) m p = false≢true (sym (pinned_stays b.holding p) ∙ m)

-- where one lump that was no live one has an unpinned block, or none, and the others are kept or
-- purged
module _ (colormap size : ℕ) (old : Heap) (rest : IsAtRest colormap size old) where
  pub rest_taken : (l : ℕ) (new : Heap) → holding_of (lump_owner l) old.blocks ≡ None → IsUnpinned (owned_block (lump_owner l) new.blocks) → ((o : Owner) → same_owner (lump_owner l) o ≡ false → KeptOrPurged (owned_block o old.blocks) (owned_block o new.blocks)) → IsAtRest colormap size new
  rest_taken l new none here others = record {
    block = rest.block;
    is = kept_static size rest.block (owned_block (lump_owner colormap) new.blocks) rest.pinned (subst (λ x. KeptOrPurged x (owned_block (lump_owner colormap) new.blocks)) rest.is (others (lump_owner colormap) (apart (same_owner (lump_owner l) (lump_owner colormap)) refl)));
    place = rest.place;
    pinned = rest.pinned;
    others = λ o h. go o h (same_owner (lump_owner l) o) refl;
  } where
    apart : (t : Bool) → same_owner (lump_owner l) (lump_owner colormap) ≡ t → t ≡ false
    apart true e =
        let colormap_holds_none : rest.block.holding ≡ None = sym (ap (option_and_then (λ (b : Block). b.holding)) rest.is) ∙ ap (λ (q : Owner). holding_of q old.blocks) (sym (owner_eq (lump_owner l) (lump_owner colormap) e)) ∙ none in
        absurd (subst (IsStatic size) colormap_holds_none rest.pinned)
    apart false e = refl

    go : (o : Owner) → same_owner (lump_owner colormap) o ≡ false → (t : Bool) → same_owner (lump_owner l) o ≡ t → IsUnpinned (owned_block o new.blocks)
    go o h true e = subst (λ (q : Owner). IsUnpinned (owned_block q new.blocks)) (owner_eq (lump_owner l) o e) here
    go o h false e = kept_unpinned (owned_block o old.blocks) (owned_block o new.blocks) (others o e) (rest.others o h)

  -- a new tag that lets a block be purged
  retag_unpinned : (o : Owner) (b : Option Block) → IsUnpinned b → IsUnpinned (option_map (retag_block o Cache) b)
  retag_unpinned o None u = tt
  retag_unpinned o (Some b) u = pick (is_held_by o b) where
    set : (h : Option Holding) → pins (set_tag Cache h) ≡ false
    set None = refl
    set (Some h) = refl

    pick : (t : Bool) → is_pinned (cond t (record b { holding = set_tag Cache b.holding }) b) ≡ false
    pick true = set b.holding
    pick false = u

  pub rest_retag : (l : Owner) → IsAtRest colormap size (with_tag_unless_static l Cache old)
  rest_retag l = go (holds_static (holding_of l old.blocks)) refl where
    apart : holds_static (holding_of l old.blocks) ≡ false → (t : Bool) → same_owner l (lump_owner colormap) ≡ t → t ≡ false
    apart s true e =
        let holding_is_colormaps : holding_of l old.blocks ≡ rest.block.holding = ap (λ (q : Owner). holding_of q old.blocks) (owner_eq l (lump_owner colormap) e) ∙ ap (option_and_then (λ (b : Block). b.holding)) rest.is in
        absurd (false≢true (sym s ∙ ap holds_static holding_is_colormaps ∙ static_held size rest.block.holding rest.pinned))
    apart s false e = refl

    go : (t : Bool) → holds_static (holding_of l old.blocks) ≡ t → IsAtRest colormap size (cond t old (with_tag l Cache old))
    go true s = rest
    go false s = record {
      block = rest.block;
      is = owned_retagged_others (lump_owner colormap) l Cache (apart s (same_owner l (lump_owner colormap)) refl) old.blocks ∙ rest.is;
      place = rest.place;
      pinned = rest.pinned;
      others = λ o h. subst IsUnpinned (sym (owned_block-map o (retag_block l Cache) (λ b. retag_held o l Cache b) old.blocks)) (retag_unpinned l (owned_block o old.blocks) (rest.others o h));
    }

  pub rest_release : (l : Owner) → IsAtRest colormap size (release_heap l old)
  rest_release l = go (holding_of l old.blocks) where
    go : (h : Option Holding) → IsAtRest colormap size (released_heap l old h)
    go None = rest
    go (Some h) = rest_retag l
