-- The scale and the edges of a fragment at a column: each its first value and a step a column (R_RenderSegLoop, r_segs.c).
use Rattle.std.specs.Prelude.{ℕ, ℤ, pos}
use Rattle.picture_rules.specs.Rules.{ViewShape, fixed, minus, mul, neg_word, plus, shr_word, step_at}
use Rattle.picture_rules.specs.{declared.wall.TheConstants.HEIGHT_SHIFT, declared.wall.Edges.Edges}
use Rattle.picture_rules.specs.declared.wall.FragmentNumbers.{FragmentNumbers}

-- the centre row, with 12 bits of fraction
unfoldable pub centre_edge : ViewShape → ℤ
centre_edge shape = shr_word (fixed (pos shape.centre_y)) HEIGHT_SHIFT

-- the edge of height w (12 bits of fraction) at a scale, and what it gains a column
unfoldable pub edge_first : ViewShape → ℤ → ℤ → ℤ
edge_first shape w scale = minus (centre_edge shape) (mul w scale)

unfoldable pub edge_step : ℤ → ℤ → ℤ
edge_step w step = neg_word (mul step w)

-- the edge of a height above the viewpoint at column number k of a fragment
unfoldable pub edge_at : ViewShape → ℤ → ℤ → ℤ → ℕ → ℤ
edge_at shape height scale step k = step_at (edge_first shape (shr_word height HEIGHT_SHIFT) scale) (edge_step (shr_word height HEIGHT_SHIFT) step) k

unfoldable pub edges_at : ViewShape → FragmentNumbers → ℕ → Edges
edges_at shape n k = record {
  scale = step_at n.scale1 n.step k;
  top = edge_at shape n.world_top n.scale1 n.step k;
  bottom = edge_at shape n.world_bottom n.scale1 n.step k;
  high = edge_at shape n.world_high n.scale1 n.step k;
  low = edge_at shape n.world_low n.scale1 n.step k;
}

-- the edges at the first column, what each gains a column, and the sum of two
unfoldable pub edges_first : ViewShape → FragmentNumbers → Edges
edges_first shape n = record {
  scale = n.scale1;
  top = edge_first shape (shr_word n.world_top HEIGHT_SHIFT) n.scale1;
  bottom = edge_first shape (shr_word n.world_bottom HEIGHT_SHIFT) n.scale1;
  high = edge_first shape (shr_word n.world_high HEIGHT_SHIFT) n.scale1;
  low = edge_first shape (shr_word n.world_low HEIGHT_SHIFT) n.scale1;
}

unfoldable pub edges_step : FragmentNumbers → Edges
edges_step n = record {
  scale = n.step;
  top = edge_step (shr_word n.world_top HEIGHT_SHIFT) n.step;
  bottom = edge_step (shr_word n.world_bottom HEIGHT_SHIFT) n.step;
  high = edge_step (shr_word n.world_high HEIGHT_SHIFT) n.step;
  low = edge_step (shr_word n.world_low HEIGHT_SHIFT) n.step;
}

unfoldable pub edges_plus : Edges → Edges → Edges
edges_plus a b = record {
  scale = plus a.scale b.scale;
  top = plus a.top b.top;
  bottom = plus a.bottom b.bottom;
  high = plus a.high b.high;
  low = plus a.low b.low;
}
