-- Where a fragment saves its lists among the openings.
use Rattle.std.specs.Prelude.{ℕ, ◌+◌, ℤ, Bool, cond, Option, Some, None}
use Rattle.wall_columns.specs.Rules.{Absent, Clip, Constant, FragmentNumbers, Saved, place_if, saves_bottom, saves_top}
use Rattle.wall_columns.specs.declared.notes.SavePlaces.{SavePlaces}

-- how many openings a list takes, where it is saved
abbrev pub room_of : Bool → ℕ → ℕ
room_of saves columns = cond saves columns 0

-- the texture columns first, then the top clip, then the bottom clip
unfoldable pub places_of : FragmentNumbers → ℕ → ℕ → SavePlaces
places_of n used columns = record {
  masked = place_if n.masked used;
  top = place_if (saves_top n) (used + room_of n.masked columns);
  bottom = place_if (saves_bottom n)
      (used + room_of n.masked columns + room_of (saves_top n) columns);
  end = used + room_of n.masked columns + room_of (saves_top n) columns
      + room_of (saves_bottom n) columns;
}

-- the clip of a side by the place where it is saved
abbrev pub saved_clip : Option ℕ → Clip
saved_clip None = Absent
saved_clip (Some place) = Saved place

abbrev pub clip_noted : Bool → ℤ → Option ℕ → Clip
clip_noted is_constant row saved = cond is_constant (Constant row) (saved_clip saved)
