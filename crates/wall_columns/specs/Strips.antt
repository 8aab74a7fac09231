-- The strips of a fragment, for which a brush is asked: column by column, the upper one of a column first.
use Rattle.std.specs.Prelude.{◌<◌, ◌≤◌, ◌≤ℤ◌, ◌+◌, ◌-◌, ◌++◌, ℕ, pos, nat_lt, int_lt, cond, List, [], ◌∷◌, length}
use Rattle.wall_columns.specs.Rules.{ColumnClip, Edges, FRAME_WIDTH, FragmentNumbers, LIGHT_LEVELS, MAX_DRAWSEGS, Part, RowRange, ViewShape, ViewValue, WALL, Wall, WallFacts, WallStrip, clip_before, edges_at, inverse_word, joined_lists, listed_from, natural, scale_map, wall_strips}
use Rattle.wall_edges.specs.{Fragments.FragmentValue, Fragments.fragment_of, Lines.column_of_line}
use Rattle.texture_build.specs.declared.strip.TextureStrip.{TextureStrip}
use Rattle.brush.specs.Strips.{Strip, Texture}
use Rattle.wall_columns.specs.declared.clips.ColumnPlan.{ColumnPlan}
use Rattle.wall_columns.specs.declared.paint.ColumnLook.{ColumnLook}
use Rattle.wall_columns.specs.{Columns.column_edges, Plans.strips_by, Windows.IsClipIn}
use Rattle.wall_columns.specs.Walls.{WallsView, clip_at}

abbrev pub strip_with : Part → RowRange → WallStrip
strip_with part rows = record { part = part; rows = rows }

-- what the strips of fragment number k have in common in column x, where it has these edges
unfoldable pub look_at : ViewValue → ℕ → FragmentValue → ℕ → Edges → ColumnLook
look_at v k f x e = record {
  number = k;
  x = x;
  column = column_of_line v f.line x;
  step = inverse_word e.scale;
  map = scale_map v f.numbers.light e.scale;
}

-- rows of a part, by its texture
unfoldable pub part_strip : ViewShape → ColumnLook → WallStrip → TextureStrip
part_strip shape look s = record {
  kind = WALL;
  number = look.number;
  tex = record { 0 = s.part.number };
  column = look.column;
  x = look.x;
  first = natural s.rows.first;
  last = natural s.rows.last;
  centre = shape.centre_y;
  mid = s.part.mid;
  step = look.step;
  map = look.map;
}

-- they are one strip, and none where there are no rows
unfoldable pub part_strips : ViewShape → ColumnLook → WallStrip → List Strip
part_strips shape look s = cond (int_lt s.rows.last s.rows.first) [] (Texture (part_strip shape look s) ∷ [])

-- the strips of a plan
unfoldable pub plan_strips : ViewShape → ColumnLook → FragmentNumbers → ColumnPlan → List Strip
plan_strips shape look n plan = joined_lists (part_strips shape look) (strips_by n plan)

-- those of fragment number k in column x, of which this is open
unfoldable pub column_strips : ViewValue → ℕ → FragmentValue → (ℕ → ColumnClip) → ℕ → List Strip
column_strips v k f before x =
    joined_lists (part_strips v.shape (look_at v k f x (column_edges f x))) (wall_strips f.numbers (before x) (column_edges f x))

-- all of fragment number k
unfoldable pub fragment_strips : ViewValue → ℕ → FragmentValue → (ℕ → ColumnClip) → List Strip
fragment_strips v k f before = joined_lists (column_strips v k f before) (listed_from (λ x. x) f.first f.last)

-- those of the fragment of a seg behind the fragments that are noted, none where there is no room for a note
unfoldable pub range_strips : ViewValue → WallsView → WallFacts → ℕ → ℕ → List Strip
range_strips v state facts first last =
    cond (nat_lt (length state.notes) MAX_DRAWSEGS)
    (fragment_strips v (length state.notes) (fragment_of v facts first last) (clip_at state)) []

-- the strips of fragment number k of these, which is open where those before it left it so
unfoldable pub wall_strips_at : ViewValue → List Wall → ℕ → Wall → List Strip
wall_strips_at v walls k w = fragment_strips v k (fragment_of v w.facts w.first w.last) (λ x. clip_before v.shape walls k x)

-- and those of all of them, one fragment after the other
unfoldable pub walls_strips_from : ViewValue → List Wall → ℕ → List Wall → List Strip
walls_strips_from v walls k [] = []
walls_strips_from v walls k (w ∷ ws) = wall_strips_at v walls k w ++ walls_strips_from v walls (k + 1) ws

unfoldable pub walls_strips : ViewValue → List Wall → List Strip
walls_strips v walls = walls_strips_from v walls 0 walls

-- no row outside the view is open
abbrev pub AreOpenIn : WallsView → Type 0
AreOpenIn state = (x : ℕ) → x < FRAME_WIDTH → IsClipIn state.height (clip_at state x)

-- a fragment lies in the view; its scales are not below 0, and its light is one of the levels
pub record CanShow (v : ViewValue) (f : FragmentValue) : Type 0 where
  pub within : f.last < v.shape.width
  pub scales : (k : ℕ) → k ≤ f.last - f.first → pos 0 ≤ℤ (edges_at f.shape f.numbers k).scale
  pub light : f.numbers.light < LIGHT_LEVELS
