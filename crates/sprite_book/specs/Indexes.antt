-- What an index of mentions holds.
use Rattle.std.specs.Prelude.{◌≡◌, ◌↔◌, ℕ, List, Contains}
use Rattle.std.specs.List.{position_from}
use Rattle.std.specs.List.Sorted.{IsStrictlyIncreasing}
use Rattle.std.specs.Ordering.{nat_cmp, ordering_then}
use Rattle.std.specs.declared.cmp.Ordering.{Ordering}
use Rattle.std.specs.Cmp.Lexicographic.{slice_cmp}
use Rattle.std.specs.BTreeMap.{BTreeMap, get}
use Rattle.sprite_book.specs.Rules.{Frame, Mention, book_lumps, is_frame, is_of_frame, is_of_rotation, last_that}
use Rattle.sprite_book.specs.declared.mentions.Mentions.{Mentions}

-- how keys are ordered: by letters, then by frame, then by rotation
abbrev pub frame_cmp : (List ℕ × ℕ) → (List ℕ × ℕ) → Ordering
frame_cmp x y = ordering_then (slice_cmp nat_cmp x.0 y.0) (nat_cmp x.1 y.1)

abbrev pub turned_cmp : (List ℕ × ℕ × ℕ) → (List ℕ × ℕ × ℕ) → Ordering
turned_cmp x y =
    ordering_then (ordering_then (slice_cmp nat_cmp x.0 y.0) (nat_cmp x.1 y.1)) (nat_cmp x.2 y.2)

-- the index has the last mention of each frame, and of each frame with a rotation, where these are
-- the mentions of each sprite
pub record IsIndexOf (index : Mentions) (all : List ℕ → List Mention) : Type 0 where
  pub frames : (sprite : List ℕ) (frame : ℕ) →
      get frame_cmp index.frames (sprite, frame) ≡ last_that (is_of_frame frame) (all sprite)
  pub turned : (sprite : List ℕ) (frame rotation : ℕ) →
      get turned_cmp index.turned (sprite, frame, rotation)
      ≡ last_that (is_of_rotation frame rotation) (all sprite)

-- the index has the place of each frame of the list
pub record IsPlaceOf (index : BTreeMap (List ℕ × ℕ) ℕ) (frames : List Frame) : Type 0 where
  pub at : (sprite : List ℕ) (letter : ℕ) →
      get frame_cmp index (sprite, letter) ≡ position_from (is_frame sprite letter) 0 frames

-- the lumps of all shapes of some frames, ascending and each once
pub record ArePictures (frames : List Frame) (numbers : List ℕ) : Type 0 where
  pub ascending : IsStrictlyIncreasing numbers
  pub lumps : (lump : ℕ) → Contains numbers lump ↔ Contains (book_lumps frames) lump
