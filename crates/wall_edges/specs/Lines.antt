-- The line of a seg, as a view sees it and as a fragment keeps it (R_StoreWallRange, r_segs.c).
use Rattle.std.specs.Prelude.{ℕ, ℤ}
use Rattle.picture_rules.specs.Words.{line_column, seg_distance, seg_normal, texture_offset, ViewValue}
use Rattle.picture_rules.specs.declared.wall.WallFacts.{WallFacts}
use Rattle.wall_edges.specs.declared.line.SegLine.{SegLine}

abbrev pub seg_line_of : ViewValue → WallFacts → SegLine
seg_line_of v facts = record { normal = seg_normal facts.seg; distance = seg_distance v facts.seg; offset = texture_offset v facts }

-- its texture column at column x of the view
abbrev pub column_of_line : ViewValue → SegLine → ℕ → ℤ
column_of_line v line x = line_column v line.normal line.offset line.distance x
