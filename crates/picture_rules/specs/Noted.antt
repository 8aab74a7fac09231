-- What the masked pass asks of the notes of a view and of the openings that they name (drawseg_t, r_defs.h).
use Rattle.std.specs.Prelude.{◌≢◌, ◌≤◌, ◌<◌, ◌+◌, ◌-◌, ◌^◌, ◌≤ℤ◌, ◌<ℤ◌, ℕ, ℤ, pos, negsuc, bit_and, List, length, Option, Some, None, IfSome, IsSome, ⊤, slice_get}
use Rattle.picture_rules.specs.Rules.{MAX_DRAWSEGS, ViewShape, minus_one, step_at}
use Rattle.picture_rules.specs.declared.wall.TheConstants.{SIL_BOTTOM, SIL_TOP}
use Rattle.picture_rules.specs.{declared.wall.Clip.Clip, declared.wall.FragmentNote.FragmentNote}
use Rattle.picture_rules.specs.declared.wall.Clip.TheVariants.{Absent, Constant, Saved}
use Rattle.picture_rules.specs.wall.Notes.{clip_row_at}

-- the clip of a column is a row between these
unfoldable pub greatest_clip : ℤ
greatest_clip = pos (2 ^ 20)

unfoldable pub least_clip : ℤ
least_clip = negsuc (2 ^ 20 - 1)

-- a list with an entry for each column of the note lies among the openings
abbrev pub IsListAt : List ℤ → FragmentNote → ℕ → Type 0
IsListAt openings d place = place + (d.last + 1 - d.first) ≤ length openings

abbrev pub IsClipAmong : List ℤ → FragmentNote → Clip → Type 0
IsClipAmong openings d Absent = ⊤
IsClipAmong openings d (Constant row) = ⊤
IsClipAmong openings d (Saved place) = IsListAt openings d place

abbrev pub IsClip : Clip → Type 0
IsClip Absent = ⊥
IsClip (Constant row) = ⊤
IsClip (Saved place) = ⊤

pub record IsWholeNote (shape : ViewShape) (openings : List ℤ) (d : FragmentNote) : Type 0 where
  pub ordered : d.first ≤ d.last
  pub within : d.last < shape.width
  -- its scale at each of its columns is above 0
  pub scale : (x : ℕ) → d.first ≤ x → x ≤ d.last → pos 0 <ℤ step_at d.scale1 d.step (x - d.first)
  -- its lists are whole
  pub columns : IfSome d.masked (IsListAt openings d)
  pub top_list : IsClipAmong openings d d.top_clip
  pub bottom_list : IsClipAmong openings d d.bottom_clip
  -- it has a clip for each silhouette, and both where it is masked
  pub top : bit_and d.silhouette SIL_TOP ≢ 0 → IsClip d.top_clip
  pub bottom : bit_and d.silhouette SIL_BOTTOM ≢ 0 → IsClip d.bottom_clip
  pub masked_top : IsSome d.masked → IsClip d.top_clip
  pub masked_bottom : IsSome d.masked → IsClip d.bottom_clip
  -- a sprite that it clips keeps to the view
  pub top_rows : (x : ℕ) → d.first ≤ x → x ≤ d.last → IsClip d.top_clip →
      (minus_one ≤ℤ clip_row_at openings d.first d.top_clip x) × (clip_row_at openings d.first d.top_clip x ≤ℤ greatest_clip)
  pub bottom_rows : (x : ℕ) → d.first ≤ x → x ≤ d.last → IsClip d.bottom_clip →
      (least_clip ≤ℤ clip_row_at openings d.first d.bottom_clip x) × (clip_row_at openings d.first d.bottom_clip x ≤ℤ pos shape.height)

-- the texture columns of an earlier note end before those of a later one
abbrev pub ListsApart : FragmentNote → Option ℕ → Option ℕ → Type 0
ListsApart d None other = ⊤
ListsApart d (Some place) None = ⊤
ListsApart d (Some place) (Some other) = place + (d.last + 1 - d.first) ≤ other

pub record AreNoted (shape : ViewShape) (notes : List FragmentNote) (openings : List ℤ) : Type 0 where
  pub few : length notes ≤ MAX_DRAWSEGS
  pub whole : (k : ℕ) → IfSome (slice_get notes k) (IsWholeNote shape openings)
  pub apart : (i k : ℕ) → i < k → IfSome (slice_get notes i) (λ d. IfSome (slice_get notes k) (λ e. ListsApart d d.masked e.masked))
