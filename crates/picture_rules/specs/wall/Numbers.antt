-- The numbers of a fragment, in one record (R_StoreWallRange, r_segs.c).
use Rattle.std.specs.Prelude.{ℕ, ◌-◌, ℤ, pos, cond}
use Rattle.picture_rules.specs.Rules.{Seg, ViewValue, light_number, minus_one, same_word}
use Rattle.picture_rules.specs.declared.wall.WallFacts.{WallFacts}
use Rattle.picture_rules.specs.wall.Scales.{scale_of_column, scale_step}
use Rattle.picture_rules.specs.wall.Heights.{world_top, world_bottom, world_high, world_low}
use Rattle.picture_rules.specs.wall.Silhouettes.{bottom_silhouette, top_silhouette, bottom_is_constant, top_is_constant}
use Rattle.picture_rules.specs.wall.Marks.{floor_mark, ceiling_mark}
use Rattle.picture_rules.specs.wall.Parts.{middle_part, top_part, bottom_part, is_masked}
use Rattle.picture_rules.specs.declared.wall.FragmentNumbers.{FragmentNumbers}

-- a wall along the x axis is darker, one along the y axis brighter
unfoldable pub seg_contrast : Seg → ℤ
seg_contrast seg = cond (same_word seg.y1 seg.y2) minus_one (cond (same_word seg.x1 seg.x2) (pos 1) (pos 0))

unfoldable pub seg_light : ViewValue → Seg → ℤ → ℕ
seg_light v seg light = light_number v light (seg_contrast seg)

-- the record by its two scales
unfoldable pub numbers_by : ViewValue → WallFacts → ℕ → ℤ → ℤ → FragmentNumbers
numbers_by v facts n scale1 scale2 = record {
  scale1 = scale1;
  scale2 = scale2;
  step = scale_step scale1 scale2 n;
  world_top = world_top v.eye.z facts.front facts.back;
  world_bottom = world_bottom v.eye.z facts.front;
  world_high = world_high v.eye.z facts.back;
  world_low = world_low v.eye.z facts.back;
  floor_mark = floor_mark v.eye.z facts.front facts.back;
  ceiling_mark = ceiling_mark v.eye.z facts.front facts.back;
  bottom = bottom_silhouette v.eye.z facts.front facts.back (is_masked facts facts.back);
  top = top_silhouette v.eye.z facts.front facts.back (is_masked facts facts.back);
  bottom_is_constant = bottom_is_constant facts.front facts.back;
  top_is_constant = top_is_constant facts.front facts.back;
  middle_part = middle_part v.eye.z facts facts.back;
  top_part = top_part v.eye.z facts facts.back;
  bottom_part = bottom_part v.eye.z facts facts.back;
  masked = is_masked facts facts.back;
  light = seg_light v facts.seg facts.front.light;
}

unfoldable pub fragment_numbers : ViewValue → WallFacts → ℕ → ℕ → FragmentNumbers
fragment_numbers v facts first last =
    numbers_by v facts (last - first) (scale_of_column v facts.seg first) (scale_of_column v facts.seg last)
