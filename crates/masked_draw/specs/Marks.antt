-- The marks of masked columns that are painted: one for each opening, at the place of its texture column.
use Rattle.std.specs.Prelude.{◌≡◌, ◌≤◌, ◌<◌, ◌+◌, ◌-◌, ◌⊎◌, ◌&&◌, ◌||◌, ℕ, Bool, false, cond, not, nat_le, nat_lt, List, [], Option, Some, None, slice_get, slice_index_or, filter, IfSome, ⊤}
use Rattle.masked_draw.specs.Rules.{Drawseg, FragmentNote, SpriteEntry, ViewValue, entry_has, is_behind, joined_lists, listed_from, sprite_in_front}
use Rattle.brush.specs.Strips.{Strip}
use Rattle.masked_draw.specs.Strips.{masked_column_strips}

-- the mark at a place, not set past the end
abbrev pub mark_in : List Bool → ℕ → Bool
mark_in marks p = slice_index_or marks p false

-- the mark of column x of a note whose texture columns begin at a place
abbrev pub mark_of : List Bool → FragmentNote → ℕ → ℕ → Bool
mark_of marks d place x = mark_in marks (place + (x - d.first))

-- the columns of a masked note that pass a test and are not marked
unfoldable pub unmarked_by : List Bool → FragmentNote → (ℕ → Bool) → Option ℕ → List ℕ
unmarked_by marks d gives None = []
unmarked_by marks d gives (Some place) =
    filter (λ x. not (mark_of marks d place x) && gives x) (listed_from (λ x. x) d.first d.last)

-- the strips of these columns
unfoldable pub unmarked_strips : ViewValue → List Bool → FragmentNote → (ℕ → Bool) → ℕ → Drawseg → List Strip
unmarked_strips v marks d gives k drawseg =
    joined_lists (masked_column_strips v k drawseg) (unmarked_by marks d gives d.masked)

-- the strips of a column, where it is not marked
abbrev pub if_unmarked : Bool → List Strip → List Strip
if_unmarked marked strips = cond (not marked) strips []

-- the columns from first to last
abbrev pub is_between : ℕ → ℕ → ℕ → Bool
is_between first last x = nat_le first x && nat_lt x (last + 1)

-- the columns of a sprite, where the fragment is behind it
abbrev pub is_passed : SpriteEntry → Drawseg → ℕ → Bool
is_passed e d x = entry_has e x && is_behind d e

-- the note has none of the columns, or neither clips nor is masked
abbrev pub MissesColumns : FragmentNote → ℕ → ℕ → Type 0
MissesColumns d first last = (last < d.first) ⊎ ((d.last < first) ⊎ ((d.silhouette ≡ 0) × (d.masked ≡ None)))

-- a place is none of the note's texture columns
abbrev pub IsOutside : FragmentNote → Option ℕ → ℕ → Type 0
IsOutside d None p = ⊤
IsOutside d (Some place) p = (p < place) ⊎ (place + (d.last + 1 - d.first) ≤ p)

abbrev pub AreOwnMarked : FragmentNote → (ℕ → Bool) → List Bool → List Bool → Option ℕ → Type 0
AreOwnMarked d gives old new None = ⊤
AreOwnMarked d gives old new (Some place) = (x : ℕ) → d.first ≤ x → x ≤ d.last →
    mark_of new d place x ≡ (mark_of old d place x || gives x)

-- the columns of a note that pass a test are marked too, and no others
pub record MarksBy (d : FragmentNote) (gives : ℕ → Bool) (old new : List Bool) : Type 0 where
  pub own : AreOwnMarked d gives old new d.masked
  pub others : (p : ℕ) → IsOutside d d.masked p → mark_in new p ≡ mark_in old p

-- the number, if any, is below i
abbrev pub is_before : Option ℕ → ℕ → Bool
is_before None i = false
is_before (Some j) i = nat_lt j i

-- the marked columns of a note are those before whose first sprite in front i sprites are drawn
abbrev pub AreBefore : (FragmentNote → Drawseg) → List SpriteEntry → List Bool → FragmentNote → ℕ → Option ℕ → Type 0
AreBefore seg es marks d i None = ⊤
AreBefore seg es marks d i (Some place) = (x : ℕ) → d.first ≤ x → x ≤ d.last →
    mark_of marks d place x ≡ is_before (sprite_in_front es (seg d) x) i

-- so it is for each of the first n notes, `turn k` sprites in for note k
pub record MarkedTo (seg : FragmentNote → Drawseg) (notes : List FragmentNote) (es : List SpriteEntry) (n : ℕ)
    (turn : ℕ → ℕ) (marks : List Bool) : Type 0 where
  pub at : (k : ℕ) → k < n → IfSome (slice_get notes k) (λ d. AreBefore seg es marks d (turn k) d.masked)
