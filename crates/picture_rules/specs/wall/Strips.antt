-- What drawn fragments paint of their walls, and which rows they mark in planes (R_RenderSegLoop, r_segs.c).
use Rattle.std.specs.Prelude.{ℕ, ◌++◌, ℤ, int_lt, Bool, cond, List, [], ◌∷◌, Option, Some, None}
use Rattle.picture_rules.specs.Rules.{Art, Dot, ViewValue, WALL, column_dots, inverse_word, joined_lists, listed_from, natural, painter_of, row_fraction, rows_between, scale_map, texel_row}
use Rattle.picture_rules.specs.{declared.wall.ColumnClip.ColumnClip, declared.wall.Edges.Edges}
use Rattle.picture_rules.specs.{declared.wall.Part.Part, wall.Parts.has_texture}
use Rattle.picture_rules.specs.{wall.Columns.texture_column, declared.wall.RowRange.RowRange}
use Rattle.picture_rules.specs.wall.Clips.{middle_rows, top_rows, bottom_rows, ceiling_rows, floor_rows}
use Rattle.picture_rules.specs.wall.Walls.{Wall, wall_edges, clip_before}
use Rattle.picture_rules.specs.declared.wall.FragmentNumbers.{FragmentNumbers}

-- a strip of a wall: rows of a texture
pub record WallStrip : Type 0 where
  pub part : Part
  pub rows : RowRange

-- a part that is there is one strip, texture number 0 is none
unfoldable pub strip_of : Part → RowRange → List WallStrip
strip_of part rows = cond (has_texture part) (record { part = part; rows = rows } ∷ []) []

-- the strips in a column, the upper one first
unfoldable pub wall_strips : FragmentNumbers → ColumnClip → Edges → List WallStrip
wall_strips n clip e =
    cond (has_texture n.middle_part)
    (strip_of n.middle_part (middle_rows clip e))
    (strip_of n.top_part (top_rows clip e) ++ strip_of n.bottom_part (bottom_rows n clip e))

-- the colour of a texture column at row y, by the scale there
unfoldable pub wall_colour : ViewValue → Art → Part → ℕ → ℤ → ℤ → ℕ → ℕ
wall_colour v art part light column scale y =
    art.shade (scale_map v light scale)
    (art.texel part.number column (texel_row (row_fraction v.shape.centre_y part.mid (inverse_word scale) y)))

-- the dots of a strip; its painter has the number of the fragment
unfoldable pub strip_dots : ViewValue → Art → ℕ → ℕ → ℕ → ℤ → ℤ → WallStrip → List Dot
strip_dots v art k x light column scale s =
    column_dots (painter_of WALL k (art.texture_source s.part.number column)) x (wall_colour v art s.part light column scale) (rows_between s.rows.first s.rows.last)

unfoldable pub wall_column_by : ViewValue → Art → ℕ → ℕ → Wall → ColumnClip → Edges → List Dot
wall_column_by v art k x w clip e =
    joined_lists (strip_dots v art k x w.numbers.light (texture_column v w.facts x) e.scale) (wall_strips w.numbers clip e)

-- the dots of fragment k in column x
unfoldable pub wall_column : ViewValue → Art → List Wall → ℕ → Wall → ℕ → List Dot
wall_column v art walls k w x = wall_column_by v art k x w (clip_before v.shape walls k x) (wall_edges v.shape w x)

-- the dots of fragment k, column by column
unfoldable pub wall_dots : ViewValue → Art → List Wall → ℕ → Wall → List Dot
wall_dots v art walls k w = joined_lists (wall_column v art walls k w) (listed_from (λ x. x) w.first w.last)

-- the rows that are marked in a plane, if any
unfoldable pub marked_rows : Bool → RowRange → Option (ℕ × ℕ)
marked_rows mark rows = cond mark (cond (int_lt rows.last rows.first) None (Some (natural rows.first, natural rows.last))) None

unfoldable pub ceiling_marks : ViewValue → List Wall → ℕ → Wall → ℕ → Option (ℕ × ℕ)
ceiling_marks v walls k w x = marked_rows w.numbers.ceiling_mark (ceiling_rows (clip_before v.shape walls k x) (wall_edges v.shape w x))

unfoldable pub floor_marks : ViewValue → List Wall → ℕ → Wall → ℕ → Option (ℕ × ℕ)
floor_marks v walls k w x = marked_rows w.numbers.floor_mark (floor_rows (clip_before v.shape walls k x) (wall_edges v.shape w x))
