-- The steps by which a composite is built, while its block is pinned.
use Rattle.std.specs.Prelude.{◌≡◌, ℕ, ◌+◌, ◌<◌, ◌==◌, false, true, List, [], ◌∷◌, length, replicate, Some, None, IfSome, IfErr, OnOk, OnErr, Result, Ok, slice_get}
use Rattle.texture_build.specs.Rules.{AllWithin, HasCauses, IsLaterShelf, Lump, NameFiles, PlacedPatch, PreparedTexture, ResultIs, ShelfView, composite_of_first, lump_bytes}
use Rattle.lump_cache.specs.Zones.{Owner, Heap, owned_block, bytes_of, block_size, same_owner}
use Rattle.lump_cache.specs.Orders.{Item, IsInOrder, KeepsOrder, has_item}
use Rattle.lump_cache.specs.{DirectoryView.DirectoryView, declared.fault.CacheFault.CacheFault}
use Rattle.lump_cache.specs.Caches.{HasAsked, IsAtRest, IsAtRestExcept, IsFaithful, IsPinned, KeepsCounts, cache_fault, composite_owner, lump_owner, release_heap}
use Rattle.lump_cache.specs.Calls.{IfFull, LeavesInOrder, HoldContents}
use Rattle.lump_cache.specs.Sizes.{IsGapBeside}
use Rattle.texture_build.specs.Asked.{IsPatch, IsGapBesideComposite, size_of}

-- the composite's block is pinned, and has `size` bytes
pub record IsBuilding (number size : ℕ) (z : Heap) : Type 0 where
  pub pinned : IsPinned (owned_block (composite_owner number) z.blocks)
  pub asked : HasAsked size (owned_block (composite_owner number) z.blocks)

-- each other composite has its bytes, or is not live
pub record OthersKeep (number : ℕ) (old new : Heap) : Type 0 where
  pub at : (n : ℕ) → (number == n) ≡ false →
      IfSome (bytes_of (composite_owner n) new.blocks)
      (λ bytes. bytes_of (composite_owner n) old.blocks ≡ Some bytes)

-- What is kept by a step, whatever is answered: no block but the composite's, and the colormap's,
-- is pinned before it or after it.
pub record KeepsBuild (number : ℕ) (view after : ShelfView) (dir : DirectoryView)
    (old new : Heap) : Type 0 where
  pub follows : IsLaterShelf view after
  pub counts : KeepsCounts old new
  pub rest : (colormap count : ℕ) →
      IsAtRestExcept colormap count (composite_owner number ∷ []) old →
      IsAtRestExcept colormap count (composite_owner number ∷ []) new
  pub faithful : (contents : List (List ℕ)) → NameFiles view dir.files contents →
      IsFaithful contents dir.lumps old → IsFaithful contents dir.lumps new
  pub others : OthersKeep number old new
  pub building : (size : ℕ) → IsBuilding number size old → IsBuilding number size new

-- No gap held the block of a patch. Where no block but the composite's and the colormap's was
-- pinned, the widest gap is the wider of the two that are left.
pub record IsFullForPatch (lumps : List Lump) (number : ℕ) (t : PreparedTexture) (z : Heap)
    (wanted widest' : ℕ) : Type 0 where
  pub owner : Owner
  pub size : ℕ
  pub asked : IsPatch lumps t owner size
  pub wanted_is : wanted ≡ block_size size
  pub narrow : widest' < wanted
  pub gap : (colormap count : ℕ) → IsAtRestExcept colormap count (composite_owner number ∷ []) z →
      IsBuilding number (size_of t) z → IsGapBesideComposite z.size count (size_of t) widest'

-- the list has each patch of the texture
abbrev pub HasPatches : List Item → List Lump → PreparedTexture → Type 0
HasPatches items lumps t = (o : Owner) (size : ℕ) → IsPatch lumps t o size →
    has_item items o size ≡ true

-- the composite so far, once the first n patches are put
abbrev pub built_of : (ℕ → List ℕ) → PreparedTexture → ℕ → List ℕ
built_of bytes t n = composite_of_first bytes t.patches n (length t.columns) t.height

-- the composite has the bytes of its first n patches
abbrev pub HasBuilt : (ℕ → List ℕ) → ℕ → PreparedTexture → ℕ → Heap → Type 0
HasBuilt bytes number t n z = bytes_of (composite_owner number) z.blocks ≡ Some (built_of bytes t n)

-- the patches of a texture from one to another were fetched and put, each released before the next
pub record PutsPatches (number : ℕ) (t : PreparedTexture) (from to : ℕ) (view after : ShelfView)
    (dir : DirectoryView) (old new : Heap) (result : Result (Unit {0}) CacheFault) : Type 0 where
  pub keeps : KeepsBuild number view after dir old new
  pub answers : (contents : List (List ℕ)) → NameFiles view dir.files contents →
      AllWithin contents dir.lumps →
      ResultIs cache_fault view.steady (λ (done : Unit {0}). done) (Ok tt) result
  pub causes : HasCauses cache_fault view.faults after.faults result
  pub full : IfErr result
      (λ fault. IfFull (cache_fault fault) (IsFullForPatch dir.lumps number t old))
  pub order : (items : List Item) → HasPatches items dir.lumps t → IsInOrder items old →
      LeavesInOrder cache_fault items view after old new result
  pub put : (contents : List (List ℕ)) → HoldContents view dir old contents →
      HasBuilt (lump_bytes contents dir.lumps) number t from old →
      OnOk result (HasBuilt (lump_bytes contents dir.lumps) number t to new)

-- a patch whose lump's bytes are live is put into the composite's, over those before it
pub record PutsPatch (number : ℕ) (t : PreparedTexture) (patch : PlacedPatch) (old : Heap)
    (w : List ℕ) : Type 0 where
  pub put : (bytes : ℕ → List ℕ) (n : ℕ) → slice_get t.patches n ≡ Some patch →
      bytes_of (lump_owner patch.lump) old.blocks ≡ Some (bytes patch.lump) →
      HasBuilt bytes number t n old → w ≡ built_of bytes t (n + 1)

-- a composite of `size` bytes is begun: its block is taken and pinned, and each of its bytes is 0
pub record StartsComposite (number size : ℕ) (old new : Heap) : Type 0 where
  pub counts : KeepsCounts old new
  pub rest : (colormap count : ℕ) → IsAtRest colormap count old →
      IsAtRestExcept colormap count (composite_owner number ∷ []) new
  pub faithful : (contents : List (List ℕ)) (lumps : List Lump) → IsFaithful contents lumps old →
      IsFaithful contents lumps new
  pub others : OthersKeep number old new
  pub building : IsBuilding number size new
  pub zeros : bytes_of (composite_owner number) new.blocks ≡ Some (replicate size 0)
  pub order : (items : List Item) (count : ℕ) →
      has_item items (composite_owner number) size ≡ true → IsInOrder items old →
      KeepsOrder items old new count count

-- no gap held the block of a composite of `size` bytes
pub record FailsToBegin (number size : ℕ) (old new : Heap) (wanted widest' : ℕ) : Type 0 where
  pub counts : KeepsCounts old new
  pub rest : (colormap count : ℕ) → IsAtRest colormap count old → IsAtRest colormap count new
  pub faithful : (contents : List (List ℕ)) (lumps : List Lump) → IsFaithful contents lumps old →
      IsFaithful contents lumps new
  pub others : OthersKeep number old new
  pub empty : owned_block (composite_owner number) new.blocks ≡ None
  pub wanted_is : wanted ≡ block_size size
  pub narrow : widest' < wanted
  pub gap : (colormap count : ℕ) → IsAtRest colormap count old →
      IsGapBeside old.size (block_size count) widest'
  pub order : (items : List Item) → has_item items (composite_owner number) size ≡ true →
      IsInOrder items old → ⊥

-- the building of a composite ends: where it was built it is released, and else its block is freed
pub record EndsComposite (number : ℕ) (old new : Heap) (built : Result (Unit {0}) CacheFault) : Type
    0 where
  pub released : OnOk built (new ≡ release_heap (composite_owner number) old)
  pub empty : OnErr built (owned_block (composite_owner number) new.blocks ≡ None)
  pub others : (o : Owner) → same_owner (composite_owner number) o ≡ false →
      owned_block o new.blocks ≡ owned_block o old.blocks
  pub counts : KeepsCounts old new
  pub faithful : (contents : List (List ℕ)) (lumps : List Lump) → IsFaithful contents lumps old →
      IsFaithful contents lumps new
  pub rest : (colormap count : ℕ) (pinned : List Owner) →
      IsAtRestExcept colormap count (composite_owner number ∷ pinned) old →
      IsAtRestExcept colormap count pinned new
  pub order : OnOk built
      ((items : List Item) (count : ℕ) → IsInOrder items old → KeepsOrder items old new count count)
