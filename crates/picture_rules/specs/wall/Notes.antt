-- What drawn fragments save among the openings, and the note of each for the masked pass (R_StoreWallRange, r_segs.c).
use Rattle.std.specs.Prelude.{ℕ, ◌+◌, ◌-◌, ◌*◌, ℤ, pos, Bool, cond, List, [], ◌∷◌, ◌++◌, Option, Some, None, slice_index_or}
use Rattle.std.specs.Int.{from_bool}
use Rattle.picture_rules.specs.Rules.{ViewValue, listed_from, minus_one}
use Rattle.picture_rules.specs.declared.wall.TheConstants.{SIL_BOTTOM, SIL_TOP}
use Rattle.picture_rules.specs.{declared.wall.Clip.Clip, declared.wall.FragmentNote.FragmentNote}
use Rattle.picture_rules.specs.declared.wall.Clip.TheVariants.{Absent, Constant, Saved}
use Rattle.picture_rules.specs.declared.wall.FragmentNumbers.{FragmentNumbers}
use Rattle.picture_rules.specs.{wall.Walls.Wall, wall.Walls.clip_past, wall.Columns.texture_column}
use Rattle.picture_rules.specs.wall.Openings.{saves_top, saves_bottom}

-- a list of openings that is saved or not
unfoldable pub saved_if : Bool → List ℤ → List ℤ
saved_if saves xs = cond saves xs []

-- of a fragment, column by column: the texture columns, and the clips after it
unfoldable pub middle_columns : ViewValue → Wall → List ℤ
middle_columns v w = listed_from (texture_column v w.facts) w.first w.last

unfoldable pub top_clips : ViewValue → List Wall → ℕ → Wall → List ℤ
top_clips v walls k w = listed_from (λ x. (clip_past v.shape walls k x).ceiling_clip) w.first w.last

unfoldable pub bottom_clips : ViewValue → List Wall → ℕ → Wall → List ℤ
bottom_clips v walls k w = listed_from (λ x. (clip_past v.shape walls k x).floor_clip) w.first w.last

-- what fragment k saves, in this order: texture columns, top clip, bottom clip
unfoldable pub saved_by : ViewValue → List Wall → ℕ → Wall → List ℤ
saved_by v walls k w =
    saved_if w.numbers.masked (middle_columns v w)
    ++ (saved_if (saves_top w.numbers) (top_clips v walls k w)
    ++ saved_if (saves_bottom w.numbers) (bottom_clips v walls k w))

-- what the fragments from number k on save, one after the other
unfoldable pub saved_from : ViewValue → List Wall → ℕ → List Wall → List ℤ
saved_from v walls k [] = []
saved_from v walls k (w ∷ ws) = saved_by v walls k w ++ saved_from v walls (k + 1) ws

-- the openings of a view
unfoldable pub openings_list : ViewValue → List Wall → List ℤ
openings_list v walls = saved_from v walls 0 walls

-- how many openings a fragment's columns take, where they are saved
unfoldable pub room_if : Bool → Wall → ℕ
room_if saves w = cond saves (w.last + 1 - w.first) 0

unfoldable pub silhouette_of : FragmentNumbers → ℕ
silhouette_of n = SIL_BOTTOM * from_bool n.bottom.is_there + SIL_TOP * from_bool n.top.is_there

-- the clip of a side of a fragment: constant, saved at a place, or none
unfoldable pub clip_note : Bool → ℤ → Bool → ℕ → Clip
clip_note constant row saves place = cond constant (Constant row) (cond saves (Saved place) Absent)

unfoldable pub place_if : Bool → ℕ → Option ℕ
place_if saves place = cond saves (Some place) None

-- the note of a fragment whose first opening has this place
unfoldable pub note_at : ViewValue → Wall → ℕ → FragmentNote
note_at v w place = record {
  seg_no = w.facts.seg_no;
  first = w.first;
  last = w.last;
  scale1 = w.numbers.scale1;
  scale2 = w.numbers.scale2;
  step = w.numbers.step;
  silhouette = silhouette_of w.numbers;
  bottom_height = w.numbers.bottom.height;
  top_height = w.numbers.top.height;
  masked = place_if w.numbers.masked place;
  top_clip = clip_note w.numbers.top_is_constant (pos v.shape.height) (saves_top w.numbers) (place + room_if w.numbers.masked w);
  bottom_clip =
      clip_note w.numbers.bottom_is_constant minus_one (saves_bottom w.numbers)
      (place + room_if w.numbers.masked w + room_if (saves_top w.numbers) w);
}

unfoldable pub notes_from : ViewValue → ℕ → List Wall → List FragmentNote
notes_from v place [] = []
notes_from v place (w ∷ ws) =
    note_at v w place
    ∷ notes_from v (place + room_if w.numbers.masked w + room_if (saves_top w.numbers) w + room_if (saves_bottom w.numbers) w) ws

-- the notes of the drawn fragments of a view
unfoldable pub view_notes : ViewValue → List Wall → List FragmentNote
view_notes v walls = notes_from v 0 walls

-- the row of a clip at column x of a fragment that begins at column first, where openings were saved
unfoldable pub clip_row_at : List ℤ → ℕ → Clip → ℕ → ℤ
clip_row_at openings first Absent x = pos 0
clip_row_at openings first (Constant row) x = row
clip_row_at openings first (Saved place) x = slice_index_or openings (place + (x - first)) (pos 0)
