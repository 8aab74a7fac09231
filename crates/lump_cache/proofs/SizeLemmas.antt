-- Sizes of live lumps, through a fetch, and for callers.
use Rattle.zone_rules.proofs.Common.{◌≡◌, ◌<◌, ◌≤◌, ◌+◌, ℕ, false, List, length, Option, Some, None, Result, Ok, Err, refl, sym, subst, ap, ◌∙◌, inl, inr, ◌⊎◌, option_map, IfSome, IsNone, IsSome, OnOk, OnErr, cases_eq, ne_eqb, All-get_or}
use Rattle.lump_cache.specs.Rules.{Block, Heap, Holding, IsLive, LiesWithin, Lump, LumpNo, Owner, ShelfView, Tag, block_size, bytes_of, holding_of, last_of, lump_at, no_lump, owned_block, same_owner}
use Rattle.lump_rules.proofs.ContentLemmas.{lump_bytes-length}
use Rattle.wad_dir.specs.DirectoryView.{DirectoryView}
use Rattle.lump_cache.specs.declared.fault.CacheFault.{CacheFault}
use Rattle.lump_cache.specs.Caches.{HasStatic, IsEmpty, HasBlock, HasUse, KeptOrPurged, lump_owner, with_tag_unless_static}
use Rattle.lump_cache.proofs.FaithLemmas.{bytes_in, kept_bytes, none_bytes, unless_static_bytes}
use Rattle.lump_cache.specs.Calls.{PreservesCache, HoldContents}
use Rattle.lump_cache.specs.{Named.IsLast, Named.live_bytes, Sizes.HasSizes, Sizes.StandsBeside}
use Rattle.lump_cache.proofs.StaticLemmas.{has_static_held}

-- an empty cache has no other sizes, and neither has one that tells contents
pub sizes_empty : (lumps : List Lump) (z : Heap) → IsEmpty z → HasSizes lumps z
sizes_empty lumps z empty = record { at = λ number there. none_bytes (lump_owner number) z.blocks (λ bytes. length bytes ≡ (lump_at lumps number).size) (empty (lump_owner number)) }

some_else : {X : Type 0} {P Q : X → Type 0} (x : Option X) → ((v : X) → P v → Q v) → IfSome x P → IfSome x Q
some_else None f p = tt
some_else (Some v) f p = f v p

pub sizes_told : (view : ShelfView) (dir : DirectoryView) (z : Heap) (contents : List (List ℕ)) → HoldContents view dir z contents → HasSizes dir.lumps z
sizes_told view dir z contents hold = record {
  at = λ number there. some_else (bytes_of (lump_owner number) z.blocks) (λ bytes is. ap length is ∙ lump_bytes-length contents dir.lumps number (All-get_or (LiesWithin contents) dir.lumps number no_lump there hold.within)) (hold.faithful.at number there);
}

used_size : (tag : Tag) (size : ℕ) (x : Option Holding) → HasUse tag size x → IfSome (option_map (λ (h : Holding). h.bytes) x) (λ bytes. length bytes ≡ size)
used_size tag size None used = tt
used_size tag size (Some h) used = used.2

block_has_size : (tag : Tag) (size : ℕ) (b : Option Block) → HasBlock tag size b → IfSome (bytes_in b) (λ bytes. length bytes ≡ size)
block_has_size tag size None has = tt
block_has_size tag size (Some b) has = used_size tag size b.holding has

-- the lump that was asked for, whatever the answer
module _ (o : Owner) (tag : Tag) (size : ℕ) (old new : Heap) (hit : IsLive old o → new ≡ with_tag_unless_static o tag old) (before : IfSome (bytes_of o old.blocks) (λ bytes. length bytes ≡ size)) where
  asked_size : {A : Type 0} (r : Result A CacheFault) → OnOk r (IsNone (holding_of o old.blocks) → HasBlock tag size (owned_block o new.blocks)) → OnErr r (owned_block o new.blocks ≡ None) → IfSome (bytes_of o new.blocks) (λ bytes. length bytes ≡ size)
  asked_size (Err fault) block empty = none_bytes o new.blocks (λ bytes. length bytes ≡ size) empty
  asked_size (Ok done) block empty = go (holding_of o old.blocks) refl where
    go : (h : Option Holding) → holding_of o old.blocks ≡ h → IfSome (bytes_of o new.blocks) (λ bytes. length bytes ≡ size)
    go None e = block_has_size tag size (owned_block o new.blocks) (block (rw e refl))
    go (Some h) e = subst (λ x. IfSome x (λ bytes. length bytes ≡ size)) (sym (ap (λ (z : Heap). bytes_of o z.blocks) (hit (rw e refl)) ∙ unless_static_bytes o o tag old)) before

-- the sizes stay through a fetch
pub sizes_fetched : {A : Type 0} (lumps : List Lump) (lump : ℕ) (tag : Tag) (old new : Heap) (r : Result A CacheFault) → lump < length lumps → (IsLive old (lump_owner lump) → new ≡ with_tag_unless_static (lump_owner lump) tag old) →
    OnOk r (IsNone (holding_of (lump_owner lump) old.blocks) → HasBlock tag (lump_at lumps lump).size (owned_block (lump_owner lump) new.blocks)) → OnErr r (owned_block (lump_owner lump) new.blocks ≡ None) →
    ((o : Owner) → same_owner (lump_owner lump) o ≡ false → KeptOrPurged (owned_block o old.blocks) (owned_block o new.blocks)) → HasSizes lumps old → HasSizes lumps new
sizes_fetched lumps lump tag old new r inside hit block empty others has = record { at = λ number there. go number there (cases_eq number lump) } where
  go : (number : ℕ) → number < length lumps → (number ≡ lump) ⊎ (number ≡ lump → ⊥) → IfSome (bytes_of (lump_owner number) new.blocks) (λ bytes. length bytes ≡ (lump_at lumps number).size)
  go number there (inl e) =
      subst (λ n. IfSome (bytes_of (lump_owner n) new.blocks) (λ bytes. length bytes ≡ (lump_at lumps n).size)) (sym e)
      (asked_size (lump_owner lump) tag (lump_at lumps lump).size old new hit (has.at lump inside) r block empty)
  go number there (inr h) =
      kept_bytes (owned_block (lump_owner number) old.blocks) (owned_block (lump_owner number) new.blocks) (λ bytes. length bytes ≡ (lump_at lumps number).size)
      (others (lump_owner number) (ne_eqb lump number (λ e. h (sym e)))) (has.at number there)

-- a lump that stands beside the colormap later did so before
pub beside_earlier : {v w : ShelfView} {dir : DirectoryView} {a b : Heap} (lump : ℕ) → PreservesCache v w dir a b → StandsBeside dir.lumps b lump → StandsBeside dir.lumps a lump
beside_earlier {dir} {a} lump keeps beside = λ colormap count static has other.
    let static_later = subst (HasStatic count) (sym (keeps.static (lump_owner colormap) (has_static_held count (owned_block (lump_owner colormap) a.blocks) static))) static in
    subst (λ n. block_size count + block_size (lump_at dir.lumps lump).size ≤ n) keeps.counts.0 (beside colormap count static_later (keeps.sizes has) other)

-- lumps of an earlier and of a later call
pub either_beside : {v w : ShelfView} {dir : DirectoryView} {a b : Heap} {early late : ℕ → Type 0} → PreservesCache v w dir a b → ((lump : ℕ) → early lump → StandsBeside dir.lumps a lump) → ((lump : ℕ) → late lump → StandsBeside dir.lumps b lump) → (lump : ℕ) → early lump ⊎ late lump → StandsBeside dir.lumps a lump
either_beside keeps first next lump (inl asked) = first lump asked
either_beside keeps first next lump (inr asked) = beside_earlier lump keeps (next lump asked)

-- a live lump of those sizes, lent as so many bytes
pub beside_lent : (lumps : List Lump) (z : Heap) (lump : ℕ) (bytes : List ℕ) → lump < length lumps → bytes_of (lump_owner lump) z.blocks ≡ Some bytes →
    ((colormap count : ℕ) → HasStatic count (owned_block (lump_owner colormap) z.blocks) → same_owner (lump_owner colormap) (lump_owner lump) ≡ false → block_size count + block_size (length bytes) ≤ z.size) → StandsBeside lumps z lump
beside_lent lumps z lump bytes there is fits = λ colormap count static has other.
    let size : length bytes ≡ (lump_at lumps lump).size = subst (λ x. IfSome x (λ b. length b ≡ (lump_at lumps lump).size)) is (has.at lump there) in
    subst (λ n. block_size count + block_size n ≤ z.size) size (fits colormap count static (ne_eqb colormap lump (λ e. other (sym e))))

-- the last lump of a name, made live and then lent
pub beside_named : (lumps : List Lump) (name : List ℕ) (z : Heap) (lump : Option LumpNo) (lent : Option (List ℕ)) → option_map (λ (l : LumpNo). l.0) lump ≡ last_of lumps name → IfSome lump (λ l. l.0 < length lumps) → IfSome lump (λ l. IsLive z (lump_owner l.0)) → lent ≡ live_bytes lump z →
    ((colormap count : ℕ) → HasStatic count (owned_block (lump_owner colormap) z.blocks) → IfSome lump (λ l. same_owner (lump_owner colormap) (lump_owner l.0) ≡ false) → IfSome lent (λ bytes. block_size count + block_size (length bytes) ≤ z.size)) → (number : ℕ) → IsLast lumps name number → StandsBeside lumps z number
beside_named lumps name z None lent found there live is fits number last = cc
beside_named lumps name z (Some l) lent found there live is fits number last =
    let number_same : l.0 ≡ number = cc in
    subst (StandsBeside lumps z) number_same (go (holding_of (lump_owner l.0) z.blocks) refl live) where
      go : (h : Option Holding) → holding_of (lump_owner l.0) z.blocks ≡ h → IsSome h → StandsBeside lumps z l.0
      go None e k = let impossible : ⊥ = cc in absurd impossible
      go (Some h) e k =
          let bytes : bytes_of (lump_owner l.0) z.blocks ≡ Some h.bytes = rw e refl in
          beside_lent lumps z l.0 h.bytes there bytes (λ colormap count static apart. subst (λ x. IfSome x (λ b. block_size count + block_size (length b) ≤ z.size)) (is ∙ bytes) (fits colormap count static apart))
