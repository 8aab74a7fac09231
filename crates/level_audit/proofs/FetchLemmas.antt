-- What is told of an audit after its first fetch, that of COLORMAP, by what is told of the rest.
use Rattle.art_rules.proofs.Common.{ap, arith, Bool, Err, err_from_is_err_and, IfErr, IfOk, inl, inr, IsErrAnd, List, MatchResult, None, Ok, OnOk, Option, option_and_then, option_map, Result, Some, subst, sym, true, ℕ, ◌+◌, ◌<◌, ◌∙◌, ◌≡◌, ◌≢◌, ◌≤◌}
use Rattle.level_audit.specs.Rules.{AuditRefusal, Block, Fault, Heap, Holding, IsLaterShelf, Item, KeepsOrder, MIN_FRAGMENT, NameFiles, Owner, Refused, ResultIs, SceneValue, ShelfView, Static, ThingLine, block_size, colormap_of, gaps, holding_of, itself, lump_at, lump_bytes, owned_block}
use Rattle.art_rules.proofs.Laws.{all_stand_later}
use Rattle.scene_rules.proofs.Laws.{order_then, small_all}
use Rattle.texture_build.specs.{DirectoryView.DirectoryView, CacheFault.CacheFault}
use Rattle.texture_build.specs.CacheFault.TheVariants.{ZoneFull, ReadFault}
use Rattle.texture_build.specs.Caches.{HasStatic, IsAtRest, IsFaithful, NoRoom, WhereFull, from_cache, holds_static, is_static_tag, lump_owner}
use Rattle.texture_build.specs.Calls.{IfFull, InOrderAt, IsFullFor, HoldContents}
use Rattle.texture_build.specs.Sizes.{HasSizes, IsGapAround, IsGapBeside, StandsBeside}
use Rattle.texture_build.proofs.CallLemmas.{full_at, full_room, order_at}
use Rattle.level_audit.specs.{Asked.IsOfBase, Reads.IsFullAudit, Reads.IsReadLater}
use Rattle.sound_scene.specs.Sound.{SoundValue}

-- the contents are told after a fetch
pub told_after : {v w : ShelfView} {dir : DirectoryView} {a b : Heap} → IsLaterShelf v w → ((contents : List (List ℕ)) → NameFiles v dir.files contents → IsFaithful contents dir.lumps a → IsFaithful contents dir.lumps b) → (contents : List (List ℕ)) → HoldContents v dir a contents → HoldContents w dir b contents
told_after {v} {w} {dir} follows faithful contents told = record {
  stand = all_stand_later v w dir.files contents follows told.stand;
  within = told.within;
  faithful = faithful contents told.stand told.faithful;
}

-- no colormap
pub answers_none : {B : Type 0} {value : B → SceneValue} (steady : Bool) (expected : Result SceneValue AuditRefusal) (refusal : AuditRefusal) (result : Result B (Fault AuditRefusal)) → expected ≡ Err refusal → IsErrAnd result (λ e. e ≡ Refused refusal) → ResultIs itself steady value expected result
answers_none steady expected refusal result e is =
    let error_is = err_from_is_err_and result is in
    rw (error_is.1, error_is.2) (record { ok = tt; err = e })

-- what is said of a zone without room for the fetched lump, said of the audit
pub full_above : (P Q : ℕ → ℕ → Type 0) (fetched : Result (Unit {0}) CacheFault) (fault : CacheFault) (result : Result SoundValue (Fault AuditRefusal)) → fetched ≡ Err fault → IsErrAnd result (λ e. e ≡ from_cache {R = AuditRefusal} fault) → ((wanted widest' : ℕ) → P wanted widest' → Q wanted widest') → WhereFull fetched P → IfErr result (λ f. IfFull (itself f) Q)
full_above P Q fetched fault result was is then_ full =
    let error_is = err_from_is_err_and result is in
    subst (λ (r : Result SoundValue (Fault AuditRefusal)). IfErr r (λ f. IfFull (itself f) Q)) (sym (error_is.1 ∙ ap Err error_is.2)) (go fault (subst (λ (r : Result (Unit {0}) CacheFault). WhereFull r P) was full)) where
      go : (f : CacheFault) → WhereFull {A = Unit {0}} (Err f) P → IfFull (itself (from_cache {R = AuditRefusal} f)) Q
      go ReadFault k = tt
      go (ZoneFull wanted widest') k = then_ wanted widest' k

-- no room for COLORMAP itself
pub full_first : (v : ShelfView) (dir : DirectoryView) (a : Heap) (lines : List ThingLine) (name : List ℕ) (skill colormap wanted widest' : ℕ) → colormap_of dir.lumps ≡ Ok colormap → NoRoom (lump_at dir.lumps colormap).size a wanted widest' → IsFullAudit v dir a lines name skill wanted widest'
full_first v dir a lines name skill colormap wanted widest' is full = record {
  lump = colormap;
  asked = λ contents told. inl is;
  wanted_is = full.wanted_is;
  narrow = omega (arith, full.wanted_is, full.widest_is, small_all (block_size (lump_at dir.lumps colormap).size) _ (omega arith) full.none);
}

module _ {v w : ShelfView} {dir : DirectoryView} {a b : Heap} (later : (contents : List (List ℕ)) → HoldContents v dir a contents → HoldContents w dir b contents) where
  pub answers_after : {A B R E : Type 0} {told : E → Fault R} {value : B → A} (expected : (ℕ → List ℕ) → Result A R) (result : Result B E) → w.steady ≡ v.steady → ((contents : List (List ℕ)) → HoldContents w dir b contents → ResultIs told w.steady value (expected (lump_bytes contents dir.lumps)) result) →
      (contents : List (List ℕ)) → HoldContents v dir a contents → ResultIs told v.steady value (expected (lump_bytes contents dir.lumps)) result
  answers_after {told} {value} expected result steady answers contents t = subst (λ s. ResultIs told s value (expected (lump_bytes contents dir.lumps)) result) steady (answers contents (later contents t))

  -- no room for a later lump
  pub full_after : (lines : List ThingLine) (name : List ℕ) (skill : ℕ) (result : Result SoundValue (Fault AuditRefusal)) → IfErr result (λ f. IfFull (itself f) (IsFullFor (IsReadLater w dir b lines name skill) dir b)) → IfErr result (λ f. IfFull (itself f) (IsFullAudit v dir a lines name skill))
  full_after lines name skill (Ok sound) full = tt
  full_after lines name skill (Err fault) full =
      full_at (itself fault) (λ wanted widest' k. record { lump = k.lump; asked = λ contents t. inr (k.asked contents (later contents t)); wanted_is = k.wanted_is; narrow = k.narrow }) full

-- COLORMAP itself has no room in an empty zone
pub room_first : (size : ℕ) (a : Heap) (fetched : Result (Unit {0}) CacheFault) → WhereFull fetched (NoRoom size a) → WhereFull fetched (λ wanted widest'. widest' ≡ a.size) → WhereFull fetched (λ wanted widest'. (a.size < wanted) × ((wanted ≡ block_size size) × (widest' ≡ a.size)))
room_first size a (Ok done) none gap = tt
room_first size a (Err ReadFault) none gap = tt
room_first size a (Err (ZoneFull wanted widest')) none gap =
    let gaps_too_small = small_all (block_size size) (gaps a.blocks) (omega arith) none.none in
    (omega (arith, gap, gaps_too_small, none.wanted_is, none.widest_is), (none.wanted_is, gap))

-- no room for a later lump: the zone does not hold it beside the colormap
pub room_after : (wants : ℕ → Type 0) (dir : DirectoryView) (a b : Heap) (colormap other : ℕ) (result : Result SoundValue (Fault AuditRefusal)) → colormap ≡ other → IsAtRest colormap (lump_at dir.lumps colormap).size b → b.size ≡ a.size →
    IfErr result (λ f. IfFull (itself f) (IsFullFor wants dir b)) → IfErr result (λ f. IfFull (itself f) (λ wanted widest'. a.size < block_size (lump_at dir.lumps other).size + wanted + MIN_FRAGMENT))
room_after wants dir a b colormap other (Ok sound) same rest size full = tt
room_after wants dir a b colormap other (Err fault) same rest size full =
    full_at fault (λ wanted widest' k.
    subst (λ n. n < block_size (lump_at dir.lumps other).size + wanted + MIN_FRAGMENT) size
    (subst (λ n. b.size < block_size (lump_at dir.lumps n).size + wanted + MIN_FRAGMENT) same (full_room k colormap (lump_at dir.lumps colormap).size rest))) full

-- the widest gap is what is left there
pub gap_after : (wants : ℕ → Type 0) (dir : DirectoryView) (a b : Heap) (colormap other : ℕ) (result : Result SoundValue (Fault AuditRefusal)) → colormap ≡ other → IsAtRest colormap (lump_at dir.lumps colormap).size b → b.size ≡ a.size →
    IfErr result (λ f. IfFull (itself f) (IsFullFor wants dir b)) → IfErr result (λ f. IfFull (itself f) (λ wanted widest'. IsGapAround a.size (block_size (lump_at dir.lumps other).size) wanted widest'))
gap_after wants dir a b colormap other (Ok sound) same rest size full = tt
gap_after wants dir a b colormap other (Err fault) same rest size full =
    full_at fault (λ wanted widest' k. inr
    (subst (λ n. IsGapBeside n (block_size (lump_at dir.lumps other).size) widest') size
    (subst (λ n. IsGapBeside b.size (block_size (lump_at dir.lumps n).size) widest') same (k.gap colormap (lump_at dir.lumps colormap).size rest)))) full

-- a cache that was in order stays so through both
pub order_after : {R E A : Type 0} {items : List Item} {a b : Heap} {i j : ℕ} (told : E → Fault R) (c : Heap) (k : ℕ) (result : Result A E) → KeepsOrder items a b i j → MatchResult result (λ _. KeepsOrder items b c j k) (λ f. InOrderAt (told f) (KeepsOrder items b c j k)) →
    MatchResult result (λ _. KeepsOrder items a c i k) (λ f. InOrderAt (told f) (KeepsOrder items a c i k))
order_after told c k (Ok found) one two = order_then one two
order_after told c k (Err fault) one two = order_at (told fault) (λ two. order_then one two) two

module _ (dir : DirectoryView) (a b : Heap) (colormap : ℕ) (result : Result SoundValue (Fault AuditRefusal)) (same : IfOk result (λ sound. sound.scene.base.colormap ≡ colormap)) where
  -- the colormap is pinned, and nothing else
  pub rest_after : (c : Heap) → IsAtRest colormap (lump_at dir.lumps colormap).size b → ((number count : ℕ) → IsAtRest number count b → IsAtRest number count c) → IfOk result (λ sound. IsAtRest sound.scene.base.colormap (lump_at dir.lumps sound.scene.base.colormap).size c)
  rest_after c rest keeps = go result same where
    go : (r : Result SoundValue (Fault AuditRefusal)) → IfOk r (λ sound. sound.scene.base.colormap ≡ colormap) → IfOk r (λ sound. IsAtRest sound.scene.base.colormap (lump_at dir.lumps sound.scene.base.colormap).size c)
    go (Ok sound) is = subst (λ n. IsAtRest n (lump_at dir.lumps n).size c) (sym is) (keeps colormap (lump_at dir.lumps colormap).size rest)
    go (Err fault) is = tt

  -- it is pinned for the whole run after any call that keeps such a block
  pub pinned_after : (c : Heap) → option_map (λ (h : Holding). h.tag) (holding_of (lump_owner colormap) b.blocks) ≡ Some Static → ((o : Owner) → holds_static (holding_of o b.blocks) ≡ true → owned_block o c.blocks ≡ owned_block o b.blocks) → IfOk result (λ sound. holds_static (holding_of (lump_owner sound.scene.base.colormap) c.blocks) ≡ true)
  pinned_after c tag stays = go result same where
    held : (h : Option Holding) → option_map (λ (x : Holding). x.tag) h ≡ Some Static → holds_static h ≡ true
    held None e = cc
    held (Some h) e = let tag_is_static : h.tag ≡ Static = cc in ap is_static_tag tag_is_static

    before : holds_static (holding_of (lump_owner colormap) b.blocks) ≡ true
    before = held (holding_of (lump_owner colormap) b.blocks) tag

    after : holds_static (holding_of (lump_owner colormap) c.blocks) ≡ true
    after = ap (λ (x : Option Block). holds_static (option_and_then (λ (y : Block). y.holding) x)) (stays (lump_owner colormap) before) ∙ before

    go : (r : Result SoundValue (Fault AuditRefusal)) → IfOk r (λ sound. sound.scene.base.colormap ≡ colormap) → IfOk r (λ sound. holds_static (holding_of (lump_owner sound.scene.base.colormap) c.blocks) ≡ true)
    go (Ok sound) is = subst (λ n. holds_static (holding_of (lump_owner n) c.blocks) ≡ true) (sym is) after
    go (Err fault) is = tt

  -- each lump of the base stands beside it
  pub fits_after : {A : Type 0} (fetched : Result A CacheFault) (done : A) (name : List ℕ) → fetched ≡ Ok done → OnOk fetched (HasStatic (lump_at dir.lumps colormap).size (owned_block (lump_owner colormap) b.blocks)) → HasSizes dir.lumps b → b.size ≡ a.size → IfOk result (λ sound. (lump : ℕ) → IsOfBase dir.lumps name lump → StandsBeside dir.lumps b lump) →
      IfOk result (λ sound. (lump : ℕ) → IsOfBase dir.lumps name lump → lump ≢ sound.scene.base.colormap → block_size (lump_at dir.lumps sound.scene.base.colormap).size + block_size (lump_at dir.lumps lump).size ≤ a.size)
  fits_after fetched done name was static has size fits = go result same fits where
    pinned : HasStatic (lump_at dir.lumps colormap).size (owned_block (lump_owner colormap) b.blocks)
    pinned = subst (λ r. OnOk r (HasStatic (lump_at dir.lumps colormap).size (owned_block (lump_owner colormap) b.blocks))) was static

    go : (r : Result SoundValue (Fault AuditRefusal)) → IfOk r (λ sound. sound.scene.base.colormap ≡ colormap) → IfOk r (λ sound. (lump : ℕ) → IsOfBase dir.lumps name lump → StandsBeside dir.lumps b lump) →
        IfOk r (λ sound. (lump : ℕ) → IsOfBase dir.lumps name lump → lump ≢ sound.scene.base.colormap → block_size (lump_at dir.lumps sound.scene.base.colormap).size + block_size (lump_at dir.lumps lump).size ≤ a.size)
    go (Ok sound) is beside = λ lump asked.
        subst (λ n. lump ≢ n → block_size (lump_at dir.lumps n).size + block_size (lump_at dir.lumps lump).size ≤ a.size) (sym is)
        (λ other. subst (λ n. block_size (lump_at dir.lumps colormap).size + block_size (lump_at dir.lumps lump).size ≤ n) size (beside lump asked colormap (lump_at dir.lumps colormap).size pinned has other))
    go (Err fault) is beside = tt
