use Rattle.zone_rules.proofs.Common.{◌≡◌, ◌∙◌, ◌+◌, ◌<◌, ◌≤◌, ap, sym, subst, subst₂, ℕ, List, length, Option, None, Some, option_map, Err, true, false, refl, rules, arith, inl, inr, All, IfSome, ◌⊎◌, is_some, false≢true, cases_lt, err_from_is_err_and}
use Rattle.lump_cache.specs.Rules.{AllWithin, Block, Heap, Holding, LiesWithin, NameFiles, Owner, Tag, TakesBlock, block_left, block_size, bytes_of, counted, file_bytes, gaps, holding_of, lump_at, no_lump, owned_block, owner_at, same_owner, total, without_block, without_room}
use Rattle.outside.proofs.ShelfLemmas.{follows_none}
use Rattle.lump_cache.specs.Caches.{KeptOrPurged, lump_owner, with_tag_unless_static}
use Rattle.lump_cache.specs.Fetches.{FetchesLump}
use Rattle.lump_cache.proofs.FillLemmas.{filled_takes, written_len, written_bytes, left_kept, filled_others, filled_sound, written_use, use_live}
use Rattle.lump_cache.proofs.FaithLemmas.{bytes_in, some_bytes, file_stands, filled_lump, nothing_is_lump}
use Rattle.lump_cache.proofs.MissLemmas.{fetch_hit, miss_full, miss_ok, miss_read}
use Rattle.lump_cache.proofs.fetching.fetch_lump.Given.{Over}
use Rattle.lump_cache.proofs.fetching.fetch_lump.Goals as goal
use Rattle.lump_cache.proofs.fetching.fetch_lump.Goals.{After-read_into}

-- the slot was live: only the tag changed
pub returns-in-Some-clause-fetches : goal.returns-in-Some-clause-fetches
returns-in-Some-clause-fetches g c =
    let old = c.args.zone.now in
    let tag_is = sym (ap (λ n. option_map (λ (h : Holding). h.tag) (holding_of (owner_at 0 n) old.blocks)) c.lump_slot.ensures) ∙ sym c.tag.ensures ∙ c.in-Some.is in
    fetch_hit c.args.dir.now c.args.lump.0 c.args.tag (g.S.Shelf.view c.args.shelf.now) old c.requires.sound c.retag.new.zone (tag_some (holding_of (lump_owner c.args.lump.0) old.blocks) c.in-Some.current tag_is)
    (c.retag.ensures.zone ∙ ap (λ n. with_tag_unless_static (owner_at 0 n) c.args.tag old) c.lump_slot-in-Some.ensures) where
      tag_some : (h : Option Holding) (tag : Tag) → option_map (λ (x : Holding). x.tag) h ≡ Some tag → is_some h ≡ true
      tag_some None tag e = cc
      tag_some (Some h) tag e = refl

-- a block of another owner, after the request
beside : (old new : Heap) (o : Owner) (chosen : List Block) → owned_block o new.blocks ≡ block_left chosen (owned_block o old.blocks) → KeptOrPurged (owned_block o old.blocks) (owned_block o new.blocks)
beside old new o chosen is = subst (KeptOrPurged (owned_block o old.blocks)) (sym is) (left_kept chosen (owned_block o old.blocks))

-- no gap held the block
pub returns-in_err-malloc-clause-fetches : goal.returns-in_err-malloc-clause-fetches
returns-in_err-malloc-clause-fetches g c =
    let malloc_ensures = c.in_err-malloc.ensures in
    let old = c.args.zone.now in
    let new = c.malloc.new.self in
    let view = g.S.Shelf.view c.args.shelf.now in
    let fault = c.in_err-malloc.field-0.0 in
    let error_is = err_from_is_err_and c.from_residual.result c.from_residual.ensures.1 in
    let size = c.size-size.ensures in
    subst (FetchesLump c.args.dir.now c.args.lump.0 c.args.tag view view old new) (sym (error_is.1 ∙ ap Err error_is.2))
    (miss_full c.args.dir.now c.args.lump.0 c.args.tag view old c.requires.sound new (search rules)
    (λ o apart. beside old new o _ (malloc_ensures.others o (ap (λ n. same_owner (owner_at 0 n) o) c.lump_slot-2.ensures ∙ apart)))
    fault.wanted fault.widest
    (record { wanted_is = malloc_ensures.report.0 ∙ ap block_size size; widest_is = malloc_ensures.report.1; none = subst (λ n. All (λ x. total x < block_size n) (gaps old.blocks)) size (malloc_ensures.full.0 refl) })
    (malloc_ensures.err ∙ ap (λ n. without_room (block_size n) old) size)
    (ap (λ n. owned_block (owner_at 0 n) new.blocks) (sym c.lump_slot-2.ensures) ∙ malloc_ensures.empty))

-- a gap holds the block where one was taken
room : (old : Heap) (size wanted : ℕ) → size ≡ wanted → (All (λ x. total x < block_size size) (gaps old.blocks) → false ≡ true) → All (λ x. total x < block_size wanted) (gaps old.blocks) → ⊥
room old size wanted is full all = false≢true (full (subst (λ n. All (λ x. total x < block_size n) (gaps old.blocks)) (sym is) all))

-- the block that was taken, by the directory's names of the lump and of its size
taken_is : {old new : Heap} {number lump asked size : ℕ} {tag : Tag} → number ≡ lump → asked ≡ size → TakesBlock old new (owner_at 0 number) asked tag → TakesBlock old new (lump_owner lump) size tag
taken_is {old} {new} {tag} slot is t = subst₂ (λ n m. TakesBlock old new (owner_at 0 n) m tag) slot is t

-- an empty lump
pub returns-then-size-eq0-clause-fetches : goal.returns-then-size-eq0-clause-fetches
returns-then-size-eq0-clause-fetches g c =
    let old = c.args.zone.now in
    let new = c.malloc.new.self in
    let owner = lump_owner c.args.lump.0 in
    let view = g.S.Shelf.view c.args.shelf.now in
    let takes_block = taken_is c.lump_slot-2.ensures c.size-size.ensures c.in_ok-malloc.ensures.ok in
    let zero = sym c.size-size.ensures ∙ c.if-size-eq0.true in
    miss_ok c.args.dir.now c.args.lump.0 c.args.tag view old c.requires.sound new (search rules)
    (λ p apart. beside old new p _ (c.in_ok-malloc.ensures.others p (ap (λ n. same_owner (owner_at 0 n) p) c.lump_slot-2.ensures ∙ apart)))
    view (room old _ _ c.size-size.ensures c.in_ok-malloc.ensures.full.1) (follows_none view) takes_block
    (λ contents stand. some_bytes owner new.blocks takes_block.bytes _ (ap bytes_in takes_block.block) (nothing_is_lump contents c.args.dir.now.lumps c.args.lump.0 takes_block.bytes (takes_block.len ∙ zero) zero))
    (λ some. absurd (omega (arith, some, zero))) (λ z. refl) refl

-- one that is read
taken : (g : Over) (c : After-read_into g) → TakesBlock c.args.zone.now c.malloc.new.self (lump_owner c.args.lump.0) (lump_at c.args.dir.now.lumps c.args.lump.0).size c.args.tag
taken g c = taken_is c.lump_slot-2.ensures c.size-size.ensures c.in_ok-malloc.ensures.ok

others : (g : Over) (c : After-read_into g) (o : Owner) → same_owner (lump_owner c.args.lump.0) o ≡ false → KeptOrPurged (owned_block o c.args.zone.now.blocks) (owned_block o c.read_into.new.zone.blocks)
others g c o apart =
    subst (KeptOrPurged (owned_block o c.args.zone.now.blocks)) (sym (filled_others (lump_owner c.args.lump.0) c.malloc.new.self c.read_into.new.zone _ c.read_into.ensures.filled o apart ∙ c.in_ok-malloc.ensures.others o (ap (λ n. same_owner (owner_at 0 n) o) c.lump_slot-2.ensures ∙ apart))) (left_kept _ (owned_block o c.args.zone.now.blocks))

-- the zone is that of a request, with the bytes that were read
filled : (g : Over) (c : After-read_into g) → TakesBlock c.args.zone.now c.read_into.new.zone (lump_owner c.args.lump.0) (lump_at c.args.dir.now.lumps c.args.lump.0).size c.args.tag
filled g c = filled_takes (lump_owner c.args.lump.0) (lump_at c.args.dir.now.lumps c.args.lump.0).size c.args.tag c.args.zone.now c.malloc.new.self c.read_into.new.zone _ (search rules) (taken g c) c.read_into.ensures.filled

pub free-requires-clause-live : goal.free-requires-clause-live
free-requires-clause-live g c =
    let after_read = (goal.at.free-requires-clause-live g c).After-read_into in
    let block_stands = written_use (lump_owner c.args.lump.0) _ c.args.tag c.args.zone.now c.malloc.new.self c.read_into.new.zone _ (taken g after_read) c.read_into.ensures.filled in
    rw c.lump_slot-in-Err.ensures (use_live c.args.tag _ (owned_block (lump_owner c.args.lump.0) c.read_into.new.zone.blocks) block_stands)

pub returns-in-Ok-clause-sound : goal.returns-in-Ok-clause-sound
returns-in-Ok-clause-sound g c = filled_sound (lump_owner c.args.lump.0) c.malloc.new.self c.read_into.new.zone _ c.read_into.ensures.filled c.in_ok-malloc.ensures.sound

-- the block has the lump's bytes
pub returns-in-Ok-clause-fetches : goal.returns-in-Ok-clause-fetches
returns-in-Ok-clause-fetches g c =
    let after_read = (goal.at.returns-in-Ok-clause-fetches g c).After-read_into in
    let old = c.args.zone.now in
    let zone_made = c.malloc.new.self in
    let new = c.read_into.new.zone in
    let owner = lump_owner c.args.lump.0 in
    let lump = lump_at c.args.dir.now.lumps c.args.lump.0 in
    let view = g.S.Shelf.view c.args.shelf.now in
    let view_after = g.S.Shelf.view c.read_into.new.shelf in
    let block_filled = c.read_into.ensures.filled in
    let takes_block = taken g after_read in
    let bytes_length = written_len owner _ c.args.tag old zone_made new _ takes_block block_filled in
    miss_ok c.args.dir.now c.args.lump.0 c.args.tag view old c.requires.sound new (search rules) (others g after_read)
    view_after (room old _ _ c.size-size.ensures c.in_ok-malloc.ensures.full.1) c.read_into.ensures.follows (filled g after_read)
    (λ contents stand. some_bytes owner new.blocks block_filled.bytes _ (written_bytes owner _ c.args.tag old zone_made new _ takes_block block_filled) (filled_lump contents c.args.dir.now.lumps view c.args.dir.now.files c.args.lump.0 c.file.result c.place.result block_filled.bytes stand c.file.ensures c.place.ensures bytes_length (rw c.in-Ok.is at block_filled.says)))
    (λ some. subst (λ (b : Option (List ℕ)). IfSome b (λ xs. view_after.taken ≡ counted view.taken (length xs))) (ap bytes_in takes_block.block) c.in-Ok.ensures.taken ∙ ap (counted view.taken) takes_block.len)
    (λ zero. absurd (c.if-size-eq0.false (c.size-size.ensures ∙ zero))) c.in-Ok.ensures.settled

-- over a steady shelf with the lump's file the read is answered
steady_read : (g : Over) (c : After-read_into g) (contents : List (List ℕ)) → NameFiles (g.S.Shelf.view c.args.shelf.now) c.args.dir.now.files contents → AllWithin contents c.args.dir.now.lumps →
    IfSome ((g.S.Shelf.view c.args.shelf.now).file c.file.result.0) (λ bytes. IfSome (bytes_of (lump_owner c.args.lump.0) c.malloc.new.self.blocks) (λ xs. c.place.result + length xs ≤ length bytes → false ≡ true)) → ⊥
steady_read g c contents stand within steady =
    let lump = lump_at c.args.dir.now.lumps c.args.lump.0 in
    let takes_block = taken g c in
    let view = g.S.Shelf.view c.args.shelf.now in
    let lies : LiesWithin contents lump = within c.args.lump.0 no_lump c.requires.listed in
    let size = c.size-size.ensures in
    let lump_not_empty : 0 < lump.size = pos_size c.size-size.result lump.size size c.if-size-eq0.false in
    let lump_fits_file = lies.bytes lump_not_empty in
    let place_is = c.place.ensures in
    let block_length = takes_block.len in
    let file = file_stands view c.args.dir.now.files contents lump.file c.file.result stand c.file.ensures in
    let fails_in_file = subst (λ (x : Option (List ℕ)). IfSome x (λ bytes. IfSome (bytes_of (lump_owner c.args.lump.0) c.malloc.new.self.blocks) (λ xs. c.place.result + length xs ≤ length bytes → false ≡ true))) file steady in
    let fails_within = subst (λ (x : Option (List ℕ)). IfSome x (λ xs. c.place.result + length xs ≤ length (file_bytes contents lump.file) → false ≡ true)) (ap bytes_in takes_block.block) fails_in_file in
    false≢true (fails_within (omega (arith, lump_fits_file, place_is, block_length))) where
      pos_size : (n m : ℕ) → n ≡ m → (n ≡ 0 → ⊥) → 0 < m
      pos_size n m e h = go (cases_lt 0 m) where
        go : (0 < m) ⊎ (m ≤ 0) → 0 < m
        go (inl l) = l
        go (inr l) = absurd (h (omega (arith, e, l)))

pub returns-in-Err-clause-fetches : goal.returns-in-Err-clause-fetches
returns-in-Err-clause-fetches g c =
    let after_read = (goal.at.returns-in-Err-clause-fetches g c).After-read_into in
    let old = c.args.zone.now in
    let zone_filled = c.read_into.new.zone in
    let slot = c.lump_slot-in-Err.ensures in
    miss_read c.args.dir.now c.args.lump.0 c.args.tag (g.S.Shelf.view c.args.shelf.now) old c.requires.sound c.free.new.self (search rules)
    (λ p apart. subst (KeptOrPurged (owned_block p old.blocks)) (sym (c.free.ensures.others p (ap (λ n. same_owner (owner_at 0 n) p) slot ∙ apart))) (others g after_read p apart))
    (g.S.Shelf.view c.read_into.new.shelf) (room old _ _ c.size-size.ensures c.in_ok-malloc.ensures.full.1) c.read_into.ensures.follows
    (record { between = zone_filled; takes = filled g after_read; freed = c.free.ensures.freed ∙ ap (λ n. without_block (owner_at 0 n) zone_filled) slot })
    (ap (λ n. owned_block (owner_at 0 n) c.free.new.self.blocks) (sym slot) ∙ c.free.ensures.empty)
    (λ zero. c.if-size-eq0.false (c.size-size.ensures ∙ zero)) c.in-Err.ensures.failed
    (λ contents stand within steady. steady_read g after_read contents stand within (c.in-Err.ensures.steady steady))
