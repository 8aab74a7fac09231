-- What one fragment does in one of its columns: rows that it marks and paints, and what it leaves open (R_RenderSegLoop, r_segs.c).
use Rattle.std.specs.Prelude.{ℕ, ℤ, pos, int_le, Bool, cond}
use Rattle.word_rules.specs.Words.{plus, minus, shr_word, greater_word, lesser_word, minus_one}
use Rattle.picture_rules.specs.declared.wall.TheConstants.{EDGE_BITS, MAX_EDGE_FRACTION}
use Rattle.picture_rules.specs.{wall.Parts.has_texture, declared.wall.ColumnClip.ColumnClip}
use Rattle.picture_rules.specs.declared.wall.Edges.{Edges}
use Rattle.picture_rules.specs.declared.wall.FragmentNumbers.{FragmentNumbers}
use Rattle.picture_rules.specs.declared.wall.RowRange.{RowRange}

-- the whole column of a view is open
unfoldable pub open_clip : ℕ → ColumnClip
open_clip height = record { ceiling_clip = minus_one; floor_clip = pos height }

-- the row of an edge, rounded up, and rounded down
unfoldable pub row_from : ℤ → ℤ
row_from edge = shr_word (plus edge MAX_EDGE_FRACTION) EDGE_BITS

unfoldable pub row_to : ℤ → ℤ
row_to edge = shr_word edge EDGE_BITS

-- the least row from the edge on that a ceiling clip leaves, and the greatest that a floor clip leaves
unfoldable pub below_clip : ℤ → ℤ → ℤ
below_clip ceiling_clip row = greater_word (plus ceiling_clip (pos 1)) row

unfoldable pub above_clip : ℤ → ℤ → ℤ
above_clip floor_clip row = lesser_word (minus floor_clip (pos 1)) row

-- the first and the last row of the fragment: yl, yh
unfoldable pub wall_first : ColumnClip → Edges → ℤ
wall_first clip e = below_clip clip.ceiling_clip (row_from e.top)

unfoldable pub wall_last : ColumnClip → Edges → ℤ
wall_last clip e = above_clip clip.floor_clip (row_to e.bottom)

-- the rows of the ceiling above the fragment, and of the floor below it
unfoldable pub ceiling_rows : ColumnClip → Edges → RowRange
ceiling_rows clip e = record {
  first = plus clip.ceiling_clip (pos 1);
  last = above_clip clip.floor_clip (minus (wall_first clip e) (pos 1));
}

unfoldable pub floor_rows : ColumnClip → Edges → RowRange
floor_rows clip e = record {
  first = below_clip clip.ceiling_clip (plus (wall_last clip e) (pos 1));
  last = minus clip.floor_clip (pos 1);
}

unfoldable pub middle_rows : ColumnClip → Edges → RowRange
middle_rows clip e = record { first = wall_first clip e; last = wall_last clip e }

-- the upper wall: its last row, its rows, and the ceiling clip after it
unfoldable pub top_last : ColumnClip → Edges → ℤ
top_last clip e = above_clip clip.floor_clip (row_to e.high)

unfoldable pub top_rows : ColumnClip → Edges → RowRange
top_rows clip e = record { first = wall_first clip e; last = top_last clip e }

unfoldable pub ceiling_past_top : ℤ → ℤ → ℤ
ceiling_past_top first last = cond (int_le first last) last (minus first (pos 1))

unfoldable pub ceiling_past_none : Bool → ℤ → ℤ → ℤ
ceiling_past_none mark clip first = cond mark (minus first (pos 1)) clip

unfoldable pub ceiling_after : FragmentNumbers → ColumnClip → Edges → ℤ
ceiling_after n clip e =
    cond (has_texture n.top_part)
    (ceiling_past_top (wall_first clip e) (top_last clip e))
    (ceiling_past_none n.ceiling_mark clip.ceiling_clip (wall_first clip e))

-- the lower wall, below the ceiling clip that the upper wall left: its first row, its rows, and the floor clip after it
unfoldable pub bottom_first : FragmentNumbers → ColumnClip → Edges → ℤ
bottom_first n clip e = below_clip (ceiling_after n clip e) (row_from e.low)

unfoldable pub bottom_rows : FragmentNumbers → ColumnClip → Edges → RowRange
bottom_rows n clip e = record { first = bottom_first n clip e; last = wall_last clip e }

unfoldable pub floor_past_bottom : ℤ → ℤ → ℤ
floor_past_bottom first last = cond (int_le first last) first (plus last (pos 1))

unfoldable pub floor_past_none : Bool → ℤ → ℤ → ℤ
floor_past_none mark clip last = cond mark (plus last (pos 1)) clip

unfoldable pub floor_after : FragmentNumbers → ColumnClip → Edges → ℤ
floor_after n clip e =
    cond (has_texture n.bottom_part)
    (floor_past_bottom (bottom_first n clip e) (wall_last clip e))
    (floor_past_none n.floor_mark clip.floor_clip (wall_last clip e))

-- nothing is left open behind a wall of one side
unfoldable pub shut_clip : ℕ → ColumnClip
shut_clip height = record { ceiling_clip = pos height; floor_clip = minus_one }

unfoldable pub narrowed_clip : FragmentNumbers → ColumnClip → Edges → ColumnClip
narrowed_clip n clip e = record { ceiling_clip = ceiling_after n clip e; floor_clip = floor_after n clip e }

-- what the fragment leaves open of a column in which it has these edges
unfoldable pub clip_after : ℕ → FragmentNumbers → ColumnClip → Edges → ColumnClip
clip_after height n clip e = cond (has_texture n.middle_part) (shut_clip height) (narrowed_clip n clip e)
