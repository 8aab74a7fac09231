-- What contracts see of the walls of a view as far as they are drawn.
use Rattle.std.specs.Prelude.{◌≡◌, ◌≤◌, ◌≤ℤ◌, ℕ, ℤ, pos, List, All, Option, length, slice_index_or}
use Rattle.wall_columns.specs.Rules.{ColumnClip, FRAME_HEIGHT, FRAME_WIDTH, FragmentNote, greatest_clip, least_clip, minus_one}

pub record WallsView : Type 0 where
  -- the notes of the drawn fragments, the openings that they saved, and how many there is room for
  pub notes : List FragmentNote
  pub openings : List ℤ
  pub room : ℕ
  -- what is open of each column of a frame, and the rows of the view
  pub ceiling_clips : List ℤ
  pub floor_clips : List ℤ
  pub height : ℕ
  -- the planes of the leaf that is entered
  pub floor : Option ℕ
  pub ceiling : Option ℕ

-- what is open of a column
unfoldable pub clip_at : WallsView → ℕ → ColumnClip
clip_at walls x = record {
  ceiling_clip = slice_index_or walls.ceiling_clips x (pos 0);
  floor_clip = slice_index_or walls.floor_clips x (pos 0);
}

-- the clips of the columns of a frame, in which no row outside the view is open
pub record AreClips (height : ℕ) (ceilings floors : List ℤ) : Type 0 where
  pub rows : height ≤ FRAME_HEIGHT
  pub ceiling_columns : length ceilings ≡ FRAME_WIDTH
  pub floor_columns : length floors ≡ FRAME_WIDTH
  pub ceilings_low : All (λ row. minus_one ≤ℤ row) ceilings
  pub ceilings_high : All (λ row. row ≤ℤ greatest_clip) ceilings
  pub floors_low : All (λ row. least_clip ≤ℤ row) floors
  pub floors_high : All (λ row. row ≤ℤ pos height) floors
