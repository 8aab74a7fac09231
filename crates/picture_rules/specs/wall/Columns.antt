-- The texture column of a fragment at a column of the view (R_StoreWallRange, R_RenderSegLoop, r_segs.c).
use Rattle.std.specs.Prelude.{ℕ, ◌%◌, min, ℤ, nat_lt, cond}
use Rattle.picture_rules.specs.Rules.{FRACTION_BITS, Seg, TANGENTS, ViewValue, ang180, ang90, angle_of_column, fine_angle, minus, mul, neg_word, plus, shr_word, sine_at, tangent_at, turn, turn_back}
use Rattle.picture_rules.specs.declared.wall.WallFacts.{WallFacts}
use Rattle.picture_rules.specs.wall.Scales.{seg_normal, normal_turn, vertex_dist, seg_distance}

-- a turn without its sign, at most a quarter turn
unfoldable pub quarter_of : ℕ → ℕ
quarter_of o = min (cond (nat_lt ang180 o) (turn_back 0 o) o) ang90

-- how far the first vertex is along the line from the foot of the viewpoint
unfoldable pub foot_offset : ViewValue → Seg → ℤ
foot_offset v seg = mul (vertex_dist v seg) (sine_at v.tables (fine_angle (quarter_of (normal_turn v seg))))

unfoldable pub signed_foot : ViewValue → Seg → ℤ
signed_foot v seg = cond (nat_lt (normal_turn v seg) ang180) (neg_word (foot_offset v seg)) (foot_offset v seg)

-- the texture column at that foot, 16.16
unfoldable pub texture_offset : ViewValue → WallFacts → ℤ
texture_offset v facts = plus (plus (signed_foot v facts.seg) facts.x_offset) facts.seg.offset

-- the fine angle between the normal of a line and the look of column x, for the tangent
unfoldable pub column_tangent : ViewValue → ℕ → ℕ → ℕ
column_tangent v normal x =
    fine_angle (turn (turn_back (turn ang90 v.eye.angle) normal) (angle_of_column v.tables v.shape x)) % TANGENTS

-- the texture column at column x of a line, by its normal, the texture column at its foot (16.16) and its distance
unfoldable pub line_column : ViewValue → ℕ → ℤ → ℤ → ℕ → ℤ
line_column v normal offset distance x =
    shr_word (minus offset (mul (tangent_at v.tables (column_tangent v normal x)) distance)) FRACTION_BITS

unfoldable pub texture_column : ViewValue → WallFacts → ℕ → ℤ
texture_column v facts x = line_column v (seg_normal facts.seg) (texture_offset v facts) (seg_distance v facts.seg) x
