-- What follows of a request for a block.
use Rattle.zone_rules.proofs.Common.{◌≡◌, ℕ, false, true, List, [], ◌∷◌, Result, Ok, Err, refl, sym, subst, arith, IfErr, IsOk, OnOk, OnErr}
use Rattle.lump_cache.specs.Rules.{Heap, IsInOrder, IsLive, Item, KeepsOrder, Lump, Owner, Tag, TakesBlock, block_left, block_size, has_item, owned_block, passed_blocks, same_owner, stretches, without_room}
use Rattle.zone_heap.specs.declared.zone.ZoneFull.{ZoneFull}
use Rattle.lump_cache.specs.Caches.{IsFaithful, IsAtRest, IsAtRestExcept, IsPinned, IsUnpinned, KeepsCounts, KeptOrPurged, HasBlock, is_static_tag, lump_owner}
use Rattle.lump_cache.specs.{Fetches.RequestsBlock, Sizes.IsGapBeside}
use Rattle.lump_cache.proofs.FillLemmas.{kept_along, left_kept, on_err, on_ok, takes_use, use_live}
use Rattle.lump_cache.proofs.{OrderLemmas.order_answer, RestLemmas.kept_pinned}
use Rattle.lump_cache.proofs.RestButLemmas.{passing_after, rest_but_more, rest_but_none, rest_but_same, rest_of_none}
use Rattle.lump_cache.proofs.{RoomLemmas.gap_of_rest, WriteLemmas.faithful_kept}

where_err : {E : Type 0} {P Q : E → Type 0} (r : Result (Unit {0}) E) → ((e : E) → P e → Q e) → IfErr r P → IfErr r Q
where_err (Ok done) f k = tt
where_err (Err e) f k = f e k

either_answer : {E P Q R : Type 0} (r : Result (Unit {0}) E) → (P → R) → (Q → R) → OnOk r P → OnErr r Q → R
either_answer (Ok done) p q k l = p k
either_answer (Err e) p q k l = q l

module _ {o : Owner} {size : ℕ} {tag : Tag} {old new : Heap} {result : Result (Unit {0}) ZoneFull} (f : RequestsBlock o size tag old new result) where
  -- after Ok the owner has a block of that tag and size, and is live
  pub take_block : OnOk result (HasBlock tag size (owned_block o new.blocks))
  take_block = on_ok result (takes_use o size tag old new) f.ok

  pub take_live : OnOk result (IsLive new o)
  take_live = on_ok result (use_live tag size (owned_block o new.blocks)) take_block

  -- another owner's block stands, or was purged
  pub take_others : (p : Owner) → same_owner o p ≡ false → KeptOrPurged (owned_block p old.blocks) (owned_block p new.blocks)
  take_others p apart =
      let passed = passed_blocks (block_size size) (stretches old.rover old.blocks) in
      kept_along (owned_block p old.blocks) (block_left passed (owned_block p old.blocks)) (owned_block p new.blocks) (f.others p apart) (left_kept passed (owned_block p old.blocks))

  -- and a pinned one stands
  pub take_pinned : (p : Owner) → same_owner o p ≡ false → IsPinned (owned_block p old.blocks) → owned_block p new.blocks ≡ owned_block p old.blocks
  take_pinned p apart pinned = kept_pinned (owned_block p old.blocks) (owned_block p new.blocks) (take_others p apart) pinned

  -- the zone keeps its size and its slots
  pub take_counts : KeepsCounts old new
  take_counts = either_answer result took full f.ok f.err where
    took : TakesBlock old new o size tag → KeepsCounts old new
    took t = subst (KeepsCounts old) (sym t.zone) (refl, refl, refl)

    full : new ≡ without_room (block_size size) old → KeepsCounts old new
    full e = subst (KeepsCounts old) (sym e) (refl, refl, refl)

  -- the widest gap of a zone at rest that was full
  pub take_gap : (colormap count : ℕ) → IsAtRest colormap count old → IfErr result (λ e. IsGapBeside old.size (block_size count) e.widest)
  take_gap colormap count rest = where_err result (λ e k. gap_of_rest size old e.wanted e.widest f.sound k colormap count rest) f.report

  -- a cache in order for a list that has the item has room for it, and stays in order
  pub take_order : (items : List Item) (taken : ℕ) → has_item items o size ≡ true → IsInOrder items old → IsOk result × KeepsOrder items old new taken taken
  take_order items taken in_list order = order_answer items old new f.sound order o size tag in_list f.vacant result taken taken f.full.0 f.ok (omega arith)

  -- an owner that is no lump
  module _ (apart : (number : ℕ) → same_owner o (lump_owner number) ≡ false) where
    -- each live lump keeps the bytes that its files have
    pub take_faithful : (contents : List (List ℕ)) (lumps : List Lump) → IsFaithful contents lumps old → IsFaithful contents lumps new
    take_faithful contents lumps faithful = faithful_kept contents lumps old new (λ number. take_others (lump_owner number) (apart number)) faithful

    -- a cache at rest stays so where the zone was full
    pub take_rest : (colormap count : ℕ) → IsAtRest colormap count old → OnErr result (IsAtRest colormap count new)
    take_rest colormap count rest =
        on_err result (λ e. rest_of_none colormap count new (rest_but_same colormap count [] old new o (apart colormap) take_others (rest_but_none colormap count old rest) (subst IsUnpinned (sym e) tt))) f.empty

    -- and is so except for the owner, where it is not pinned for the whole run
    pub take_rest_except : is_static_tag tag ≡ false → (colormap count : ℕ) (pinned : List Owner) → IsAtRestExcept colormap count pinned old → IsAtRestExcept colormap count (o ∷ pinned) new
    take_rest_except passing colormap count pinned rest = rest_but_more colormap count pinned old new o (apart colormap) take_others rest (passing_after result tag size (owned_block o new.blocks) passing take_block f.empty)
