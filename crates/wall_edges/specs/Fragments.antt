-- What a fragment keeps: the numbers that it shows, all its numbers, its columns, and the line on which it lies (R_StoreWallRange, r_segs.c).
use Rattle.std.specs.Prelude.{ℕ, ℤ, Bool}
use Rattle.picture_rules.specs.Words.{fragment_numbers, silhouette_of, ViewShape, ViewValue}
use Rattle.picture_rules.specs.declared.wall.WallFacts.{WallFacts}
use Rattle.picture_rules.specs.declared.wall.FragmentNumbers.{FragmentNumbers}
use Rattle.wall_edges.specs.{declared.line.SegLine.SegLine, Lines.seg_line_of}

-- the numbers that a fragment shows
pub record FragmentFields : Type 0 where
  pub floor_mark : Bool
  pub ceiling_mark : Bool
  pub silhouette : ℕ
  pub bottom_height : ℤ
  pub top_height : ℤ
  pub middle_mid : ℤ
  pub top_mid : ℤ
  pub bottom_mid : ℤ
  pub masked : Bool
  pub scale1 : ℤ
  pub scale2 : ℤ
  pub step : ℤ

abbrev pub fields_of : FragmentNumbers → FragmentFields
fields_of n = record {
  floor_mark = n.floor_mark;
  ceiling_mark = n.ceiling_mark;
  silhouette = silhouette_of n;
  bottom_height = n.bottom.height;
  top_height = n.top.height;
  middle_mid = n.middle_part.mid;
  top_mid = n.top_part.mid;
  bottom_mid = n.bottom_part.mid;
  masked = n.masked;
  scale1 = n.scale1;
  scale2 = n.scale2;
  step = n.step;
}

-- what contracts see of a fragment
pub record FragmentValue : Type 0 where
  pub fields : FragmentFields
  pub numbers : FragmentNumbers
  pub shape : ViewShape
  pub first : ℕ
  pub last : ℕ
  pub line : SegLine

-- the fragment of these facts in these columns of a view
abbrev pub fragment_of : ViewValue → WallFacts → ℕ → ℕ → FragmentValue
fragment_of v facts first last = record {
  fields = fields_of (fragment_numbers v facts first last);
  numbers = fragment_numbers v facts first last;
  shape = v.shape;
  first = first;
  last = last;
  line = seg_line_of v facts;
}
