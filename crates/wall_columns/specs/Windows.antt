-- What is open of each column of a frame, row by row (ceilingclip, floorclip, r_plane.c).
use Rattle.std.specs.Prelude.{◌≤ℤ◌, ℕ, ℤ, pos, List, slice_index_or, slice_set}
use Rattle.wall_columns.specs.Rules.{ColumnClip, greatest_clip, least_clip, listed_from, minus_one}

-- the two clips of each column, and the rows of the view
pub record WindowsView : Type 0 where
  pub ceiling_clips : List ℤ
  pub floor_clips : List ℤ
  pub height : ℕ

abbrev pub windows_view : List ℤ → List ℤ → ℕ → WindowsView
windows_view ceiling_clips floor_clips height =
    record { ceiling_clips = ceiling_clips; floor_clips = floor_clips; height = height }

-- what is open of a column
unfoldable pub window_at : WindowsView → ℕ → ColumnClip
window_at w x = record {
  ceiling_clip = slice_index_or w.ceiling_clips x (pos 0);
  floor_clip = slice_index_or w.floor_clips x (pos 0);
}

-- the ceiling clips of columns first to last, and the floor clips
abbrev pub ceilings_in : WindowsView → ℕ → ℕ → List ℤ
ceilings_in w first last = listed_from (λ x. (window_at w x).ceiling_clip) first last

abbrev pub floors_in : WindowsView → ℕ → ℕ → List ℤ
floors_in w first last = listed_from (λ x. (window_at w x).floor_clip) first last

-- the windows with another one at a column
unfoldable pub with_window : WindowsView → ℕ → ColumnClip → WindowsView
with_window w x clip = record {
  ceiling_clips = slice_set w.ceiling_clips x clip.ceiling_clip;
  floor_clips = slice_set w.floor_clips x clip.floor_clip;
  height = w.height;
}

-- the clip of a column, in which no row outside the view is open
pub record IsClipIn (height : ℕ) (clip : ColumnClip) : Type 0 where
  pub ceiling_low : minus_one ≤ℤ clip.ceiling_clip
  pub ceiling_high : clip.ceiling_clip ≤ℤ greatest_clip
  pub floor_low : least_clip ≤ℤ clip.floor_clip
  pub floor_high : clip.floor_clip ≤ℤ pos height
