-- What a request for a block and the fetch of a lump do to a cache, and the fetch to the shelf.
-- What follows of either is in `proofs/TakeLemmas` and `proofs/FetchLemmas`.
use Rattle.std.specs.Prelude.{◌≡◌, ℕ, ◌<◌, ◌↔◌, false, List, None, IfSome, IfErr, IsNone, IsErr, OnOk, OnErr, Result, Ok, All, ⊤}
use Rattle.lump_cache.specs.Rules.{AllWithin, HasCauses, Heap, IsLaterShelf, IsLive, IsSound, NameFiles, Owner, ResultIs, ShelfView, Tag, TakesBlock, block_left, block_size, bytes_of, counted, gaps, holding_of, lump_at, lump_bytes, owned_block, passed_blocks, same_owner, stretches, total, without_room}
use Rattle.zone_heap.specs.declared.zone.ZoneFull.{ZoneFull}
use Rattle.wad_dir.specs.DirectoryView.{DirectoryView}
use Rattle.lump_cache.specs.declared.fault.CacheFault.{CacheFault}
use Rattle.lump_cache.specs.Caches.{lump_owner, with_tag_unless_static, MatchAnswer, GivesBack, NoRoom, KeptOrPurged, cache_fault}

-- A request for a block of `size` bytes, for an owner that has none.
pub record RequestsBlock (owner : Owner) (size : ℕ) (tag : Tag) (old new : Heap)
    (result : Result (Unit {0}) ZoneFull) : Type 0 where
  pub sound : IsSound old
  pub vacant : IsNone (holding_of owner old.blocks)
  -- the zone is full exactly where no gap holds the block
  pub full : IsErr result ↔ All (λ g. total g < block_size size) (gaps old.blocks)
  pub ok : OnOk result (TakesBlock old new owner size tag)
  pub report : IfErr result (λ e. NoRoom size old e.wanted e.widest)
  pub err : OnErr result (new ≡ without_room (block_size size) old)
  pub empty : OnErr result (owned_block owner new.blocks ≡ None)
  -- the search may purge the blocks that it passes
  pub others : (o : Owner) → same_owner owner o ≡ false →
      owned_block o new.blocks
      ≡ block_left (passed_blocks (block_size size) (stretches old.rover old.blocks))
      (owned_block o old.blocks)

-- the slot of a lump is empty
abbrev pub IsVacant : ℕ → Heap → Type 0
IsVacant lump z = IsNone (holding_of (lump_owner lump) z.blocks)

-- how many bytes a lump has by the directory
abbrev pub lump_length : DirectoryView → ℕ → ℕ
lump_length dir lump = (lump_at dir.lumps lump).size

-- A lump is made live.
pub record FetchesLump (dir : DirectoryView) (lump : ℕ) (tag : Tag) (view after : ShelfView)
    (old new : Heap) (result : Result (Unit {0}) CacheFault) : Type 0 where
  pub sound : IsSound old
  -- on a live slot only the tag changes, unless it is `Static`
  pub hit : IsLive old (lump_owner lump) →
      (result ≡ Ok tt) × (after ≡ view)
      × (new ≡ with_tag_unless_static (lump_owner lump) tag old)
  -- on an empty slot a block is taken and filled; after a failed read it is given back
  pub miss : IsVacant lump old →
      MatchAnswer result
      (TakesBlock old new (lump_owner lump) (lump_length dir lump) tag)
      (λ wanted widest'.
      NoRoom (lump_length dir lump) old wanted widest'
      × (new ≡ without_room (block_size (lump_length dir lump)) old))
      (GivesBack old new (lump_owner lump) (lump_length dir lump) tag)
  -- where no gap holds the block, no other answer comes
  pub full : IsVacant lump old →
      All (λ g. total g < block_size (lump_length dir lump)) (gaps old.blocks) →
      MatchAnswer result ⊥ (λ wanted widest'. ⊤) ⊥
  pub empty : OnErr result (owned_block (lump_owner lump) new.blocks ≡ None)
  -- the blocks of other owners stand, or were purged
  pub others : (o : Owner) → same_owner (lump_owner lump) o ≡ false →
      KeptOrPurged (owned_block o old.blocks) (owned_block o new.blocks)
  -- a new block has the lump's bytes
  pub bytes : (contents : List (List ℕ)) → NameFiles view dir.files contents →
      IsVacant lump old →
      IfSome (bytes_of (lump_owner lump) new.blocks)
      (λ xs. xs ≡ lump_bytes contents dir.lumps lump)
  -- how many bytes the shelf has read then
  pub taken : OnOk result
      (IsVacant lump old → 0 < lump_length dir lump →
      after.taken ≡ counted view.taken (lump_length dir lump))
  -- an empty lump is not read
  pub untouched : lump_length dir lump ≡ 0 → after ≡ view
  pub follows : IsLaterShelf view after
  -- a read failed only where the shelf's count of faults rose
  pub causes : HasCauses cache_fault view.faults after.faults result
  -- and never over a steady shelf with the lump's file
  pub answers : (contents : List (List ℕ)) → NameFiles view dir.files contents →
      AllWithin contents dir.lumps →
      ResultIs cache_fault view.steady (λ done. done) (Ok tt) result
