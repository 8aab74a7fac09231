-- What contracts see of a wall state, by its parts.
use Rattle.std.specs.Prelude.{List}
use Rattle.picture_rules.specs.declared.wall.FragmentNote.{FragmentNote}
use Rattle.wall_columns.specs.{declared.column_state.ColumnState.ColumnState, Columns.plane_number}
use Rattle.wall_columns.specs.Walls.{WallsView}

abbrev pub walls_view : List FragmentNote → ColumnState → WallsView
walls_view notes columns = record {
  notes = notes;
  openings = columns.openings.saved;
  room = columns.openings.room;
  ceiling_clips = columns.windows.ceiling_clips;
  floor_clips = columns.windows.floor_clips;
  height = columns.windows.height;
  floor = plane_number columns.floor;
  ceiling = plane_number columns.ceiling;
}
