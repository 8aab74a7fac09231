-- What a cache at rest but for some owners is, through fills, purges, new tags and new bytes.
use Rattle.zone_rules.proofs.Common.{◌≡◌, ℕ, Bool, true, false, cond, not, List, [], ◌∷◌, map, Option, Some, None, refl, sym, subst, ap, ◌∙◌, option_map, inl, inr, Result, Ok, Err, option_and_then, OnOk, OnErr, list_any, cond-true, false≢true, or_parts, or_from}
use Rattle.lump_cache.specs.Rules.{Block, Cache, Heap, Holding, Level, Owner, Static, Tag, holding_of, is_held_by, is_pinned, is_purgeable_tag, owned_block, pins, retag_block, same_owner, set_tag, with_bytes, with_tag, write_block, write_holding}
use Rattle.zone_rules.proofs.OwnerLemmas.{owner_eq, owned_block-map, owned_retagged_others, owned_written_others, retag_held, write_held}
use Rattle.lump_cache.specs.Caches.{KeptOrPurged, IsAtRest, IsAtRestExcept, IsUnpinned, IsPinned, HasBlock, HasUse, lump_owner, with_tag_unless_static, holds_static, is_static_tag, release_heap, released_heap}
use Rattle.lump_cache.proofs.FillLemmas.{same_refl}
use Rattle.lump_cache.proofs.RestLemmas.{kept_unpinned, kept_static, static_held}

-- whether a block is pinned for the whole run
abbrev pub static_in : Option Block → Bool
static_in b = holds_static (option_and_then (λ (x : Block). x.holding) b)

unpinned_passing : (b : Option Block) → IsUnpinned b → static_in b ≡ false
unpinned_passing None u = refl
unpinned_passing (Some b) u = go b.holding u where
  tag : (t : Tag) → not (is_purgeable_tag t) ≡ false → is_static_tag t ≡ false
  tag Static u = absurd (false≢true (sym u))
  tag Level u = refl
  tag Cache u = refl

  go : (h : Option Holding) → pins h ≡ false → holds_static h ≡ false
  go None u = refl
  go (Some h) u = tag h.tag u

-- at rest is at rest but for nobody
pub rest_but_none : (colormap size : ℕ) (z : Heap) → IsAtRest colormap size z → IsAtRestExcept colormap size [] z
rest_but_none colormap size z r = record { block = r.block; is = r.is; place = r.place; static = r.pinned; others = λ o h n. r.others o h; passing = λ o h. unpinned_passing (owned_block o z.blocks) (r.others o h) }

pub rest_of_none : (colormap size : ℕ) (z : Heap) → IsAtRestExcept colormap size [] z → IsAtRest colormap size z
rest_of_none colormap size z r = record { block = r.block; is = r.is; place = r.place; pinned = r.static; others = λ o h. r.others o h refl }

owner_flip : (a b : Owner) → same_owner a b ≡ false → same_owner b a ≡ false
owner_flip a b e = go (same_owner b a) refl where
  go : (t : Bool) → same_owner b a ≡ t → t ≡ false
  go true k = absurd (false≢true (sym e ∙ ap (same_owner a) (owner_eq b a k) ∙ same_refl a))
  go false k = refl

kept_passing : (old new : Option Block) → KeptOrPurged old new → static_in old ≡ false → static_in new ≡ false
kept_passing old new (inl e) k = ap static_in e ∙ k
kept_passing old new (inr e) k = ap static_in e.0

pub passing_after : {A E : Type 0} → (r : Result A E) (tag : Tag) (size : ℕ) (b : Option Block) → is_static_tag tag ≡ false → OnOk r (HasBlock tag size b) → OnErr r (b ≡ None) → static_in b ≡ false
passing_after (Err x) tag size b t k e = ap static_in e
passing_after (Ok x) tag size b t k e = block b k where
  use' : (h : Option Holding) → HasUse tag size h → holds_static h ≡ false
  use' None k = absurd k
  use' (Some h) k = ap is_static_tag k.0 ∙ t

  block : (b : Option Block) → HasBlock tag size b → static_in b ≡ false
  block None k = absurd k
  block (Some b) k = use' b.holding k

-- an owner that is pinned for the whole run is the colormap's
pub not_colormap : (colormap size : ℕ) (pinned : List Owner) (z : Heap) (l : Owner) → IsAtRestExcept colormap size pinned z → holds_static (holding_of l z.blocks) ≡ false → same_owner l (lump_owner colormap) ≡ false
not_colormap colormap size pinned z l rest s = go (same_owner l (lump_owner colormap)) refl where
  go : (t : Bool) → same_owner l (lump_owner colormap) ≡ t → t ≡ false
  go true e =
      let holding_is_colormaps : holding_of l z.blocks ≡ rest.block.holding = ap (λ (q : Owner). holding_of q z.blocks) (owner_eq l (lump_owner colormap) e) ∙ ap (option_and_then (λ (b : Block). b.holding)) rest.is in
      absurd (false≢true (sym s ∙ ap holds_static holding_is_colormaps ∙ static_held size rest.block.holding rest.static))
  go false e = refl

-- one owner beside the colormap's has another block, or none, and the others are kept or purged
module _ (colormap size : ℕ) (pinned : List Owner) (old new : Heap) (l : Owner) (apart : same_owner l (lump_owner colormap) ≡ false) (others : (o : Owner) → same_owner l o ≡ false → KeptOrPurged (owned_block o old.blocks) (owned_block o new.blocks)) (rest : IsAtRestExcept colormap size pinned old) where
  colormap_stays : owned_block (lump_owner colormap) new.blocks ≡ Some rest.block
  colormap_stays = kept_static size rest.block (owned_block (lump_owner colormap) new.blocks) rest.static (subst (λ x. KeptOrPurged x (owned_block (lump_owner colormap) new.blocks)) rest.is (others (lump_owner colormap) apart))

  passing_stays : static_in (owned_block l new.blocks) ≡ false → (o : Owner) → same_owner (lump_owner colormap) o ≡ false → static_in (owned_block o new.blocks) ≡ false
  passing_stays s o h = go (same_owner l o) refl where
    go : (t : Bool) → same_owner l o ≡ t → static_in (owned_block o new.blocks) ≡ false
    go true e = ap (λ (q : Owner). static_in (owned_block q new.blocks)) (sym (owner_eq l o e)) ∙ s
    go false e = kept_passing (owned_block o old.blocks) (owned_block o new.blocks) (others o e) (rest.passing o h)

  pub rest_but_more : static_in (owned_block l new.blocks) ≡ false → IsAtRestExcept colormap size (l ∷ pinned) new
  rest_but_more s = record {
    block = rest.block;
    is = colormap_stays;
    place = rest.place;
    static = rest.static;
    others = λ o h n. let neither_owner = or_parts (same_owner o l) (list_any (same_owner o) pinned) n in kept_unpinned (owned_block o old.blocks) (owned_block o new.blocks) (others o (owner_flip o l neither_owner.0)) (rest.others o h neither_owner.1);
    passing = passing_stays s;
  }

  pub rest_but_same : IsUnpinned (owned_block l new.blocks) → IsAtRestExcept colormap size pinned new
  rest_but_same u = record {
    block = rest.block;
    is = colormap_stays;
    place = rest.place;
    static = rest.static;
    others = λ o h n. go o h n (same_owner l o) refl;
    passing = passing_stays (unpinned_passing (owned_block l new.blocks) u);
  } where
    go : (o : Owner) → same_owner (lump_owner colormap) o ≡ false → list_any (same_owner o) pinned ≡ false → (t : Bool) → same_owner l o ≡ t → IsUnpinned (owned_block o new.blocks)
    go o h n true e = subst (λ (q : Owner). IsUnpinned (owned_block q new.blocks)) (owner_eq l o e) u
    go o h n false e = kept_unpinned (owned_block o old.blocks) (owned_block o new.blocks) (others o e) (rest.others o h n)

pub rest_but_wider : (colormap size : ℕ) (pinned : List Owner) (z : Heap) (l : Owner) → IsAtRestExcept colormap size pinned z → IsAtRestExcept colormap size (l ∷ pinned) z
rest_but_wider colormap size pinned z l r =
    record { block = r.block; is = r.is; place = r.place; static = r.static; others = λ o h n. r.others o h (or_parts (same_owner o l) (list_any (same_owner o) pinned) n).1; passing = r.passing }

-- a list without an owner that is not pinned
pub rest_but_fewer : (colormap size : ℕ) (pinned : List Owner) (z : Heap) (l : Owner) → (same_owner (lump_owner colormap) l ≡ false → IsUnpinned (owned_block l z.blocks)) → IsAtRestExcept colormap size (l ∷ pinned) z → IsAtRestExcept colormap size pinned z
rest_but_fewer colormap size pinned z l u r = record { block = r.block; is = r.is; place = r.place; static = r.static; others = λ o h n. go o h n (same_owner o l) refl; passing = r.passing } where
  go : (o : Owner) → same_owner (lump_owner colormap) o ≡ false → list_any (same_owner o) pinned ≡ false → (t : Bool) → same_owner o l ≡ t → IsUnpinned (owned_block o z.blocks)
  go o h n true e = let owner_same = owner_eq o l e in subst (λ (q : Owner). IsUnpinned (owned_block q z.blocks)) (sym owner_same) (u (ap (same_owner (lump_owner colormap)) (sym owner_same) ∙ h))
  go o h n false e = r.others o h (or_from (same_owner o l) (list_any (same_owner o) pinned) e n)

pub owned_held : (o : Owner) (b : Block) (bs : List Block) → owned_block o bs ≡ Some b → is_held_by o b ≡ true
owned_held o b [] e = cc
owned_held o b (c ∷ bs) e = go (is_held_by o c) refl e (λ k. owned_held o b bs k) where
  go : (t : Bool) → is_held_by o c ≡ t → cond t (Some c) (owned_block o bs) ≡ Some b → (owned_block o bs ≡ Some b → is_held_by o b ≡ true) → is_held_by o b ≡ true
  go true h k rest = let block_same : c ≡ b = cc in ap (is_held_by o) (sym block_same) ∙ h
  go false h k rest = rest k

-- a new tag
module _ (l : Owner) (tag : Tag) (bs : List Block) where
  retag_is : owned_block l (map (retag_block l tag) bs) ≡ option_map (retag_block l tag) (owned_block l bs)
  retag_is = owned_block-map l (retag_block l tag) (λ b. retag_held l l tag b) bs

  set_passing : is_static_tag tag ≡ false → (h : Option Holding) → holds_static (set_tag tag h) ≡ false
  set_passing t None = refl
  set_passing t (Some h) = t

  retag_passing : is_static_tag tag ≡ false → static_in (owned_block l (map (retag_block l tag) bs)) ≡ false
  retag_passing t = ap static_in retag_is ∙ go (owned_block l bs) refl where
    go : (b : Option Block) → owned_block l bs ≡ b → static_in (option_map (retag_block l tag) b) ≡ false
    go None e = refl
    go (Some b) e = ap (λ (c : Block). holds_static c.holding) (cond-true (is_held_by l b) (record b { holding = set_tag tag b.holding }) b (owned_held l b bs e)) ∙ set_passing t b.holding

cached_unpinned : (l : Owner) (bs : List Block) → IsUnpinned (owned_block l (map (retag_block l Cache) bs))
cached_unpinned l bs = subst IsUnpinned (sym (retag_is l Cache bs)) (go (owned_block l bs) refl) where
  set : (h : Option Holding) → pins (set_tag Cache h) ≡ false
  set None = refl
  set (Some h) = refl

  go : (b : Option Block) → owned_block l bs ≡ b → IsUnpinned (option_map (retag_block l Cache) b)
  go None e = tt
  go (Some b) e = ap is_pinned (cond-true (is_held_by l b) (record b { holding = set_tag Cache b.holding }) b (owned_held l b bs e)) ∙ set b.holding

empty_unpinned : (b : Option Block) → option_and_then (λ (x : Block). x.holding) b ≡ None → IsUnpinned b
empty_unpinned None e = tt
empty_unpinned (Some b) e = ap pins e

module _ (colormap size : ℕ) (l : Owner) (old : Heap) where
  pub rest_but_retag : (tag : Tag) (pinned : List Owner) → is_static_tag tag ≡ false → IsAtRestExcept colormap size pinned old → IsAtRestExcept colormap size (l ∷ pinned) (with_tag_unless_static l tag old)
  rest_but_retag tag pinned t rest = go (holds_static (holding_of l old.blocks)) refl where
    go : (s : Bool) → holds_static (holding_of l old.blocks) ≡ s → IsAtRestExcept colormap size (l ∷ pinned) (cond s old (with_tag l tag old))
    go true s = rest_but_wider colormap size pinned old l rest
    go false s =
        rest_but_more colormap size pinned old (with_tag l tag old) l (not_colormap colormap size pinned old l rest s) (λ o e. inl (owned_retagged_others o l tag e old.blocks)) rest (retag_passing l tag old.blocks t)

  -- a release
  pub rest_but_released : (pinned : List Owner) → IsAtRestExcept colormap size (l ∷ pinned) old → IsAtRestExcept colormap size pinned (release_heap l old)
  rest_but_released pinned rest = go (holding_of l old.blocks) refl where
    inner : (s : Bool) → holds_static (holding_of l old.blocks) ≡ s → IsAtRestExcept colormap size pinned (cond s old (with_tag l Cache old))
    inner true s = rest_but_fewer colormap size pinned old l (λ h. absurd (false≢true (sym (rest.passing l h) ∙ s))) rest
    inner false s =
        rest_but_fewer colormap size pinned (with_tag l Cache old) l (λ h. cached_unpinned l old.blocks)
        (rest_but_same colormap size (l ∷ pinned) old (with_tag l Cache old) l (not_colormap colormap size (l ∷ pinned) old l rest s) (λ o e. inl (owned_retagged_others o l Cache e old.blocks)) rest (cached_unpinned l old.blocks))

    go : (h : Option Holding) → holding_of l old.blocks ≡ h → IsAtRestExcept colormap size pinned (released_heap l old h)
    go None e = rest_but_fewer colormap size pinned old l (λ h. empty_unpinned (owned_block l old.blocks) e) rest
    go (Some h) e = inner (holds_static (holding_of l old.blocks)) refl

-- new bytes of an owner beside the colormap's
module _ (l : Owner) (w : List ℕ) where
  write_unpinned : (b : Option Block) → IsUnpinned b → IsUnpinned (option_map (write_block l w) b)
  write_unpinned None u = tt
  write_unpinned (Some b) u = go (is_held_by l b) where
    set : (h : Option Holding) → pins (write_holding w h) ≡ pins h
    set None = refl
    set (Some h) = refl

    go : (t : Bool) → is_pinned (cond t (record b { holding = write_holding w b.holding }) b) ≡ false
    go true = set b.holding ∙ u
    go false = u

  pub written_pinned : (o : Owner) (bs : List Block) → IsPinned (owned_block o bs) → IsPinned (owned_block o (map (write_block l w) bs))
  written_pinned o bs p = subst IsPinned (sym (owned_block-map o (write_block l w) (λ b. write_held o l w b) bs)) (block (owned_block o bs) p) where
    set : (h : Option Holding) → pins h ≡ true → pins (write_holding w h) ≡ true
    set None p = p
    set (Some h) p = p

    block : (b : Option Block) → IsPinned b → IsPinned (option_map (write_block l w) b)
    block None p = p
    block (Some b) p = go (is_held_by l b) where
      go : (t : Bool) → is_pinned (cond t (record b { holding = write_holding w b.holding }) b) ≡ true
      go true = set b.holding p
      go false = p

  write_static : (b : Option Block) → static_in (option_map (write_block l w) b) ≡ static_in b
  write_static None = refl
  write_static (Some b) = go (is_held_by l b) where
    set : (h : Option Holding) → holds_static (write_holding w h) ≡ holds_static h
    set None = refl
    set (Some h) = refl

    go : (t : Bool) → holds_static (cond t (record b { holding = write_holding w b.holding }) b).holding ≡ holds_static b.holding
    go true = set b.holding
    go false = refl

  write_is : (o : Owner) (bs : List Block) → owned_block o (map (write_block l w) bs) ≡ option_map (write_block l w) (owned_block o bs)
  write_is o bs = owned_block-map o (write_block l w) (λ b. write_held o l w b) bs

  pub rest_but_written : (colormap size : ℕ) (pinned : List Owner) (z : Heap) → same_owner l (lump_owner colormap) ≡ false → IsAtRestExcept colormap size pinned z → IsAtRestExcept colormap size pinned (with_bytes l w z)
  rest_but_written colormap size pinned z apart r = record {
    block = r.block;
    is = owned_written_others (lump_owner colormap) l w apart z.blocks ∙ r.is;
    place = r.place;
    static = r.static;
    others = λ o h n. subst IsUnpinned (sym (write_is o z.blocks)) (write_unpinned (owned_block o z.blocks) (r.others o h n));
    passing = λ o h. ap static_in (write_is o z.blocks) ∙ write_static (owned_block o z.blocks) ∙ r.passing o h;
  }

  pub rest_written : (colormap size : ℕ) (z : Heap) → same_owner l (lump_owner colormap) ≡ false → IsAtRest colormap size z → IsAtRest colormap size (with_bytes l w z)
  rest_written colormap size z apart r = rest_of_none colormap size (with_bytes l w z) (rest_but_written colormap size [] z apart (rest_but_none colormap size z r))
