-- What follows of the fetch of a lump.
use Rattle.zone_rules.proofs.Common.{◌≡◌, ℕ, ◌+◌, ◌<◌, ◌≤◌, Bool, true, false, List, [], ◌∷◌, length, Option, Some, None, Result, Ok, Err, refl, sym, subst, ap, ◌∙◌, arith, inl, inr, ◌⊎◌, option_map, MatchResult, IfErr, IfSome, IsSome, IsNone, OnOk, ⊤, cases_lt, cond-true, false≢true}
use Rattle.lump_cache.specs.Rules.{Block, Cache, Heap, Holding, IsInOrder, IsLive, Item, KeepsOrder, NameFiles, Owner, ShelfView, Static, Tag, TakesBlock, block_size, bytes_of, counted, has_item, holding_of, lump_at, lump_bytes, owned_block, same_owner, without_block, without_room}
use Rattle.zone_rules.proofs.GapLemmas.{small_all}
use Rattle.zone_rules.proofs.OrderLemmas.{order_has_room, order_taken}
use Rattle.zone_rules.proofs.OwnerLemmas.{owner_eq}
use Rattle.wad_dir.specs.DirectoryView.{DirectoryView}
use Rattle.lump_cache.specs.declared.fault.CacheFault.{CacheFault}
use Rattle.lump_cache.specs.declared.fault.CacheFault.TheVariants.{ZoneFull, ReadFault}
use Rattle.lump_cache.specs.Caches.{IsFaithful, IsAtRest, IsAtRestExcept, IsEmpty, IsPinned, IsUnpinned, KeepsCounts, MatchAnswer, WhereFull, NoRoom, GivesBack, HasAsked, HasBlock, HasStatic, KeptOrPurged, cache_fault, composite_owner, holds_static, is_static_tag, lump_owner, with_tag_unless_static}
use Rattle.lump_cache.specs.Calls.{IsFullFor, IfFull, InOrderAt, ReadsLumps}
use Rattle.lump_cache.specs.Fetches.{FetchesLump}
use Rattle.lump_cache.specs.Sizes.{HasSizes, IsGapBeside, IsGapBesideTwo}
use Rattle.lump_cache.proofs.AnswerLemmas.{answer_all, answer_at, answer_both, answer_map, answer_ok, none_is, where_full}
use Rattle.lump_cache.proofs.FaithLemmas.{bytes_in, faithful_by, faithful_retag}
use Rattle.lump_cache.proofs.FillLemmas.{on_ok, takes_use, use_live}
use Rattle.lump_cache.proofs.{FirstLemmas.first_at_rest, RoomButLemmas.gap_of_except}
use Rattle.lump_cache.proofs.OrderLemmas.{counted_least, live_unless_static, order_unless_static}
use Rattle.lump_cache.proofs.RestButLemmas.{not_colormap, passing_after, rest_but_more, rest_but_retag}
use Rattle.lump_cache.proofs.RestLemmas.{kept_pinned, kept_unpinned, rest_retag, rest_taken, unpinned_after}
use Rattle.lump_cache.proofs.RoomLemmas.{gap_of_empty, gap_of_rest}
use Rattle.lump_cache.proofs.SizeLemmas.{sizes_fetched}
use Rattle.lump_cache.proofs.StaticLemmas.{held_pinned, static_retagged, static_sized, static_taken}
use Rattle.lump_cache.proofs.TagLemmas.{counts_unless_static, static_unless_static}

-- a slot that a call does not name has its bytes, or none
pub others_keep : (old new : Option Block) → KeptOrPurged old new → IfSome (bytes_in new) (λ bytes. bytes_in old ≡ Some bytes)
others_keep old new (inl e) = subst (λ x. IfSome (bytes_in x) (λ bytes. bytes_in old ≡ Some bytes)) (sym e) (same (bytes_in old)) where
  same : (x : Option (List ℕ)) → IfSome x (λ bytes. x ≡ Some bytes)
  same None = tt
  same (Some bytes) = refl
others_keep old new (inr e) = subst (λ x. IfSome (bytes_in x) (λ bytes. bytes_in old ≡ Some bytes)) (sym e.0) tt

-- a live lump of a faithful cache has the bytes of its lump
pub live_faithful : (contents : List (List ℕ)) (dir : DirectoryView) (z : Heap) (lump : ℕ) → lump < length dir.lumps → IsFaithful contents dir.lumps z → IsLive z (lump_owner lump) → bytes_of (lump_owner lump) z.blocks ≡ Some (lump_bytes contents dir.lumps lump)
live_faithful contents dir z lump there faithful live = go (holding_of (lump_owner lump) z.blocks) refl live where
  go : (h : Option Holding) → holding_of (lump_owner lump) z.blocks ≡ h → IsSome h → bytes_of (lump_owner lump) z.blocks ≡ Some (lump_bytes contents dir.lumps lump)
  go None e k = cc
  go (Some h) e k =
      let owner_has_bytes : bytes_of (lump_owner lump) z.blocks ≡ Some h.bytes = rw e refl in
      let bytes_faithful : h.bytes ≡ lump_bytes contents dir.lumps lump = subst (λ x. IfSome x (λ bytes. bytes ≡ lump_bytes contents dir.lumps lump)) owner_has_bytes (faithful.at lump there) in
      owner_has_bytes ∙ ap Some bytes_faithful

module _ {dir : DirectoryView} {lump : ℕ} {tag : Tag} {view after : ShelfView} {old new : Heap} {result : Result (Unit {0}) CacheFault} (f : FetchesLump dir lump tag view after old new result) where
  abbrev owner : Owner
  owner = lump_owner lump

  abbrev size : ℕ
  size = (lump_at dir.lumps lump).size

  -- a slot is live or empty
  by_slot : {P : Type 0} → (IsLive old owner → P) → (IsNone (holding_of owner old.blocks) → P) → P
  by_slot {P} live none = go (holding_of owner old.blocks) refl where
    go : (h : Option Holding) → holding_of owner old.blocks ≡ h → P
    go None e = none (rw e refl)
    go (Some h) e = live (rw e refl)

  -- on a live slot, what is true of the old zone with the new tag
  at_hit : (P : Heap → Type 0) → IsLive old owner → P (with_tag_unless_static owner tag old) → P new
  at_hit P live k = subst P (sym (f.hit live).2) k

  -- Ok on an empty slot: a block was taken, of that tag and size
  pub fetch_takes : OnOk result (IsNone (holding_of owner old.blocks) → TakesBlock old new owner size tag)
  fetch_takes = answer_ok _ _ _ result f.miss

  pub fetch_block : OnOk result (IsNone (holding_of owner old.blocks) → HasBlock tag size (owned_block owner new.blocks))
  fetch_block = on_ok result (λ takes none. takes_use owner size tag old new (takes none)) fetch_takes

  -- the zone was full: no gap held the block
  pub fetch_no_room : WhereFull result (NoRoom size old)
  fetch_no_room = by_slot (λ live. answer_at (NoRoom size old) ⊤ result (f.hit live).0 tt) (λ none. answer_map result (λ t. tt) (λ wanted widest' k. k.0) (λ t. tt) (f.miss none))

  -- what either error leaves
  pub fetch_left : MatchAnswer result ⊤ (λ wanted widest'. new ≡ without_room (block_size size) old) (GivesBack old new owner size tag)
  fetch_left = by_slot (λ live. answer_at (λ wanted widest'. new ≡ without_room (block_size size) old) (GivesBack old new owner size tag) result (f.hit live).0 tt) (λ none. answer_map result (λ t. tt) (λ wanted widest' k. k.1) (λ t. t) (f.miss none))

  -- the widest gap of a zone at rest that was full
  pub fetch_gap : (colormap count : ℕ) → IsAtRest colormap count old → WhereFull result (λ wanted widest'. IsGapBeside old.size (block_size count) widest')
  fetch_gap colormap count rest = where_full result (λ wanted widest' k. gap_of_rest size old wanted widest' f.sound k colormap count rest) fetch_no_room

  -- the same where one more block is pinned
  pub fetch_gap_except : (colormap count : ℕ) (o : Owner) (asked : ℕ) → IsAtRestExcept colormap count (o ∷ []) old → same_owner (lump_owner colormap) o ≡ false → HasAsked asked (owned_block o old.blocks) → IsPinned (owned_block o old.blocks) →
      WhereFull result (λ wanted widest'. IsGapBesideTwo old.size (block_size count + block_size asked) widest')
  fetch_gap_except colormap count o asked rest apart has pinned = where_full result (λ wanted widest' k. gap_of_except size old wanted widest' f.sound k colormap count o asked rest apart has pinned) fetch_no_room

  -- the same where no slot was live
  pub fetch_gap_first : IsEmpty old → WhereFull result (λ wanted widest'. widest' ≡ old.size)
  fetch_gap_first none = where_full result (λ wanted widest' k. gap_of_empty size old wanted widest' f.sound k none) fetch_no_room

  -- the zone keeps its size and its slots
  pub fetch_counts : KeepsCounts old new
  fetch_counts = by_slot (λ live. at_hit (KeepsCounts old) live (counts_unless_static owner tag old)) (λ none. answer_all result (answer_map result took (λ wanted widest' k. full k.1) back (f.miss none))) where
    took : TakesBlock old new owner size tag → KeepsCounts old new
    took t = subst (KeepsCounts old) (sym t.zone) (refl, refl, refl)

    full : new ≡ without_room (block_size size) old → KeepsCounts old new
    full e = subst (KeepsCounts old) (sym e) (refl, refl, refl)

    back : GivesBack old new owner size tag → KeepsCounts old new
    back g = subst (KeepsCounts old) (sym (g.freed ∙ ap (without_block owner) g.takes.zone)) (refl, refl, refl)

  -- and with them as many slots for composites as it was made with
  pub fetch_composites : new.composites ≡ old.composites
  fetch_composites = fetch_counts.2

  -- after Ok the lump is live
  pub fetch_live : OnOk result (IsLive new owner)
  fetch_live =
      by_slot (λ live. on_ok result (λ takes. at_hit (λ (z : Heap). IsLive z owner) live (live_unless_static owner owner tag old live)) fetch_takes)
      (λ none. on_ok result (λ block. use_live tag size (owned_block owner new.blocks) (block none)) fetch_block)

  -- a pinned block of another owner stands
  pub fetch_pinned : (o : Owner) → same_owner owner o ≡ false → IsPinned (owned_block o old.blocks) → owned_block o new.blocks ≡ owned_block o old.blocks
  fetch_pinned o apart pinned = kept_pinned (owned_block o old.blocks) (owned_block o new.blocks) (f.others o apart) pinned

  -- and one that is pinned for the whole run, also if it is the lump's
  pub fetch_stays : (o : Owner) → holds_static (holding_of o old.blocks) ≡ true → owned_block o new.blocks ≡ owned_block o old.blocks
  fetch_stays o static = go (same_owner owner o) refl where
    go : (t : Bool) → same_owner owner o ≡ t → owned_block o new.blocks ≡ owned_block o old.blocks
    go false apart = fetch_pinned o apart (held_pinned (owned_block o old.blocks) static)
    go true same =
        let owner_is : owner ≡ o = owner_eq owner o same in let owner_static : holds_static (holding_of owner old.blocks) ≡ true =
        subst (λ (p : Owner). holds_static (holding_of p old.blocks) ≡ true) (sym owner_is) static in
        by_slot
        (λ live. at_hit (λ (z : Heap). owned_block o z.blocks ≡ owned_block o old.blocks) live (ap (λ (z : Heap). owned_block o z.blocks) (cond-true _ _ _ owner_static)))
        (λ none. absurd (false≢true (sym (ap holds_static (none_is (holding_of owner old.blocks) none)) ∙ owner_static)))

  -- each live lump keeps the bytes that its files have
  pub fetch_faithful : (contents : List (List ℕ)) → NameFiles view dir.files contents → IsFaithful contents dir.lumps old → IsFaithful contents dir.lumps new
  fetch_faithful contents stand faithful =
      by_slot (λ live. at_hit (IsFaithful contents dir.lumps) live (faithful_retag contents dir.lumps owner tag old faithful))
      (λ none. faithful_by contents dir.lumps old new lump (f.bytes contents stand none) f.others faithful)

  -- each live lump keeps the directory's size
  pub fetch_sizes : lump < length dir.lumps → HasSizes dir.lumps old → HasSizes dir.lumps new
  fetch_sizes inside has = sizes_fetched dir.lumps lump tag old new result inside (λ live. (f.hit live).2) fetch_block f.empty f.others has

  -- a cache at rest stays at rest, where nothing is pinned
  pub fetch_rest : (colormap count : ℕ) → tag ≡ Cache → IsAtRest colormap count old → IsAtRest colormap count new
  fetch_rest colormap count cached rest =
      by_slot (λ live. at_hit (IsAtRest colormap count) live (subst (λ t. IsAtRest colormap count (with_tag_unless_static owner t old)) (sym cached) (rest_retag colormap count old rest owner)))
      (λ none. rest_taken colormap count old rest lump new (none_is (holding_of owner old.blocks) none) (unpinned_after result tag size (owned_block owner new.blocks) cached (on_ok result (λ block. block none) fetch_block) f.empty) f.others)

  -- or is so except for the lump, where it is not pinned for the whole run
  pub fetch_rest_except : (colormap count : ℕ) (pinned : List Owner) → is_static_tag tag ≡ false → IsAtRestExcept colormap count pinned old → IsAtRestExcept colormap count (owner ∷ pinned) new
  fetch_rest_except colormap count pinned passing rest =
      by_slot (λ live. at_hit (IsAtRestExcept colormap count (owner ∷ pinned)) live (rest_but_retag colormap count owner old tag pinned passing rest))
      (λ none. rest_but_more colormap count pinned old new owner (not_colormap colormap count pinned old owner rest (rw (none_is (holding_of owner old.blocks) none) refl)) f.others rest
      (passing_after result tag size (owned_block owner new.blocks) passing (on_ok result (λ block. block none) fetch_block) f.empty))

  -- the first lump, pinned for the whole run, leaves an empty cache at rest
  pub fetch_first : tag ≡ Static → IsEmpty old → OnOk result (IsAtRest lump size new)
  fetch_first static none =
      on_ok result (λ takes.
      let takes_block = takes (rw (none owner) refl) in
      first_at_rest lump size tag old new new f.sound static none takes_block _ takes_block.block refl (static, refl)
      (λ o apart. kept_unpinned (owned_block o old.blocks) (owned_block o new.blocks) (f.others o apart) (subst IsUnpinned (sym (none o)) tt))) fetch_takes

  -- with the tag `Static` the lump is pinned for the whole run, whatever was live before
  pub fetch_static : tag ≡ Static → OnOk result (option_map (λ (h : Holding). h.tag) (holding_of owner new.blocks) ≡ Some Static)
  fetch_static static =
      by_slot (λ live. on_ok result (λ takes. at_hit (λ (z : Heap). option_map (λ (h : Holding). h.tag) (holding_of owner z.blocks) ≡ Some Static) live (subst (λ t. option_map (λ (h : Holding). h.tag) (holding_of owner (with_tag_unless_static owner t old).blocks) ≡ Some Static) (sym static) (static_unless_static owner old live))) fetch_takes)
      (λ none. on_ok result (λ takes. tag_of (takes none)) fetch_takes) where
        tag_of : TakesBlock old new owner size tag → option_map (λ (h : Holding). h.tag) (holding_of owner new.blocks) ≡ Some Static
        tag_of t = rw t.block (ap Some static)

  -- and its block has the lump's size, in a cache with the directory's sizes
  pub fetch_has_static : tag ≡ Static → lump < length dir.lumps → HasSizes dir.lumps old → OnOk result (HasStatic size (owned_block owner new.blocks))
  fetch_has_static static inside has =
      by_slot
      (λ live. on_ok result (λ takes. at_hit (λ (z : Heap). HasStatic size (owned_block owner z.blocks)) live
      (subst (λ t. HasStatic size (owned_block owner (with_tag_unless_static owner t old).blocks)) (sym static) (static_retagged owner size old (static_sized owner size old f.sound live (has.at lump inside))))) fetch_takes)
      (λ none. on_ok result (λ block. static_taken size (owned_block owner new.blocks) (subst (λ t. HasBlock t size (owned_block owner new.blocks)) static (block none))) fetch_block)

  -- no more bytes are read than the lump has
  taken_least : OnOk result (IsNone (holding_of owner old.blocks) → after.taken ≤ view.taken + size)
  taken_least = on_ok result (λ taken none. go taken none (cases_lt 0 size)) f.taken where
    go : (IsNone (holding_of owner old.blocks) → 0 < size → after.taken ≡ counted view.taken size) → IsNone (holding_of owner old.blocks) → (0 < size) ⊎ (size ≤ 0) → after.taken ≤ view.taken + size
    go taken none (inl some) =
        let bytes_counted = taken none some in
        let counted_at_most = counted_least view.taken size in
        omega (arith, bytes_counted, counted_at_most)
    go taken none (inr zero) = let bytes_taken_same = ap (λ (v : ShelfView). v.taken) (f.untouched (omega (arith, zero))) in omega (arith, bytes_taken_same)

  -- a cache in order for a list that has the lump has room for it, and stays in order
  pub fetch_order : (items : List Item) → has_item items owner size ≡ true → IsInOrder items old → MatchAnswer result (KeepsOrder items old new view.taken after.taken) (λ wanted widest'. ⊥) ⊤
  fetch_order items in_list order =
      by_slot (λ live. answer_at (λ wanted widest'. ⊥) ⊤ result (f.hit live).0 (at_hit (λ (z : Heap). KeepsOrder items old z view.taken after.taken) live (subst (λ (v : ShelfView). KeepsOrder items old (with_tag_unless_static owner tag old) view.taken v.taken) (sym (f.hit live).1) (order_unless_static owner tag items old view.taken order))))
      (λ none. answer_map result (λ k. order_taken items old f.sound order owner size in_list none new tag k.0 view.taken after.taken k.1) (λ wanted widest' k. order_has_room items old f.sound order owner size in_list none k.0.none) (λ t. tt) (answer_both _ _ _ (after.taken ≤ view.taken + size) result (f.miss none) (on_ok result (λ least. least none) taken_least)))

  -- the zone is full for that lump, as a call that asks for it reports
  pub fetch_full : IfErr result (λ fault. IfFull (cache_fault fault) (IsFullFor (λ number. number ≡ lump) dir old))
  fetch_full = go result (where_full result full fetch_no_room) where
    full : (wanted widest' : ℕ) → NoRoom size old wanted widest' → IsFullFor (λ number. number ≡ lump) dir old wanted widest'
    full wanted widest' k = record {
      lump = lump;
      asked = refl;
      wanted_is = k.wanted_is;
      narrow = omega (arith, k.wanted_is, k.widest_is, small_all (block_size size) _ (omega arith) k.none);
      gap = λ colormap count rest. gap_of_rest size old wanted widest' f.sound k colormap count rest;
    }

    go : (r : Result (Unit {0}) CacheFault) → WhereFull r (IsFullFor (λ number. number ≡ lump) dir old) → IfErr r (λ fault. IfFull (cache_fault fault) (IsFullFor (λ number. number ≡ lump) dir old))
    go (Ok done) k = tt
    go (Err ReadFault) k = tt
    go (Err (ZoneFull wanted widest')) k = k

-- the order, as a call that asks for lumps states it
pub order_of_answer : (P : Type 0) (r : Result (Unit {0}) CacheFault) → MatchAnswer r P (λ wanted widest'. ⊥) ⊤ → MatchResult r (λ done. P) (λ fault. InOrderAt (cache_fault fault) P)
order_of_answer P (Ok done) k = k
order_of_answer P (Err ReadFault) k = tt
order_of_answer P (Err (ZoneFull wanted widest')) k = k

-- a fetch that pins nothing is a call that asks for the lump
pub fetch_reads : {dir : DirectoryView} {lump : ℕ} {view after : ShelfView} {old new : Heap} {result : Result (Unit {0}) CacheFault} → FetchesLump dir lump Cache view after old new result → lump < length dir.lumps →
    ReadsLumps cache_fault view after dir old new (λ number. number ≡ lump) (λ done. done) (λ bytes. Ok tt) result
fetch_reads {dir} {lump} {view} {after} {old} {new} {result} f inside = record {
  keeps = record {
    follows = f.follows;
    counts = fetch_counts f;
    rest = λ colormap count r. fetch_rest f colormap count refl r;
    static = fetch_stays f;
    faithful = fetch_faithful f;
    sizes = fetch_sizes f inside;
    composites = λ number. others_keep (owned_block (composite_owner number) old.blocks) (owned_block (composite_owner number) new.blocks) (f.others (composite_owner number) refl);
  };
  answers = λ contents t. f.answers contents t.stand t.within;
  causes = f.causes;
  full = fetch_full f;
  order = λ items all k. order_of_answer _ result (fetch_order f items (all lump refl) k);
}
