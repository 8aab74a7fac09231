-- What a call with the bytes of a block, or of two, did.
use Rattle.std.specs.Prelude.{◌≡◌, ℕ, List, length, Some}
use Rattle.std.specs.Borrow.{Bor, MutBor}
use Rattle.std.specs.Fn.{Once, FnOnceReturnsAtMut}
use Rattle.zone_heap.specs.Rules.{Heap, Owner, bytes_of, with_bytes}

-- at a `&` to x and a `&mut` to y, f may give r and leave w there
pub record ReturnsAtPair {F R : Type 0} (g : Once F (Bor (List ℕ) × (MutBor (List ℕ) × Unit {0})) (R × (MutBor (List ℕ) × Unit {0}))) (f : F) (x y : List ℕ) (r : R) (w : List ℕ) : Type 0 where
  pub read : Bor (List ℕ)
  pub shown : MutBor (List ℕ)
  pub left : MutBor (List ℕ)
  pub reads : read.now ≡ x
  pub shows : shown.now ≡ y
  pub met : g.post f (read, (shown, tt)) (r, (left, tt))
  pub leaves : left.now ≡ w

-- f saw one owner's bytes and another's, and the zone has what it left of these
pub record PairCalled {F R : Type 0} (g : Once F (Bor (List ℕ) × (MutBor (List ℕ) × Unit {0})) (R × (MutBor (List ℕ) × Unit {0}))) (f : F) (read write : Owner) (old new : Heap) (r : R) : Type 0 where
  pub x : List ℕ
  pub y : List ℕ
  pub w : List ℕ
  pub x_is : bytes_of read old.blocks ≡ Some x
  pub y_is : bytes_of write old.blocks ≡ Some y
  pub len : length w ≡ length y
  pub called : ReturnsAtPair g f x y r w
  pub zone : new ≡ with_bytes write w old

-- f saw one owner's bytes, and the zone has what it left of these
pub record BytesChanged {F R : Type 0} (g : Once F (MutBor (List ℕ) × Unit {0}) (R × (MutBor (List ℕ) × Unit {0}))) (f : F) (owner : Owner) (old new : Heap) (r : R) : Type 0 where
  pub x : List ℕ
  pub w : List ℕ
  pub x_is : bytes_of owner old.blocks ≡ Some x
  pub len : length w ≡ length x
  pub called : FnOnceReturnsAtMut g f x r w
  pub zone : new ≡ with_bytes owner w old

-- at a `&mut` to x and one to y, f may give r and leave w and v there
pub record ReturnsAtBoth {F C R : Type 0} (g : Once F (MutBor (List ℕ) × (MutBor C × Unit {0})) (R × (MutBor (List ℕ) × (MutBor C × Unit {0})))) (f : F) (x : List ℕ) (y : C) (r : R) (w : List ℕ) (v : C) : Type 0 where
  pub shown : MutBor (List ℕ)
  pub context : MutBor C
  pub left : MutBor (List ℕ)
  pub context_left : MutBor C
  pub shows : shown.now ≡ x
  pub context_is : context.now ≡ y
  pub met : g.post f (shown, (context, tt)) (r, (left, (context_left, tt)))
  pub leaves : left.now ≡ w
  pub context_leaves : context_left.now ≡ v

-- f saw one owner's bytes and a context, and the zone has what it left of the bytes
pub record BytesChangedWith {F C R : Type 0} (g : Once F (MutBor (List ℕ) × (MutBor C × Unit {0})) (R × (MutBor (List ℕ) × (MutBor C × Unit {0})))) (f : F) (owner : Owner) (old new : Heap) (before after : C) (r : R) : Type 0 where
  pub x : List ℕ
  pub w : List ℕ
  pub x_is : bytes_of owner old.blocks ≡ Some x
  pub len : length w ≡ length x
  pub called : ReturnsAtBoth g f x before r w after
  pub zone : new ≡ with_bytes owner w old
