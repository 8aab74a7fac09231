-- The textures of a fragment, each with the texel row at the view's centre row (R_StoreWallRange, r_segs.c).
use Rattle.std.specs.Prelude.{bit_and, ◌==◌, ℤ, pos, int_lt, Bool, false, not, cond, Option, Some, None}
use Rattle.picture_rules.specs.Rules.{BOTTOM_UNPEGGED, Seg, Surface, TOP_UNPEGGED, fixed, minus, plus}
use Rattle.picture_rules.specs.declared.wall.WallTexture.{WallTexture}
use Rattle.picture_rules.specs.{declared.wall.WallFacts.WallFacts, declared.wall.Part.Part}
use Rattle.picture_rules.specs.wall.Heights.{world_top, world_bottom, world_high, world_low}

abbrev pub no_part : Part
no_part = record { number = 0; mid = pos 0 }

-- the part is drawn
unfoldable pub has_texture : Part → Bool
has_texture part = not (part.number == 0)

unfoldable pub top_is_unpegged : Seg → Bool
top_is_unpegged seg = not (bit_and seg.flags TOP_UNPEGGED == 0)

unfoldable pub bottom_is_unpegged : Seg → Bool
bottom_is_unpegged seg = not (bit_and seg.flags BOTTOM_UNPEGGED == 0)

-- a texture that stands with its bottom at z, above the viewpoint
unfoldable pub mid_from : ℤ → ℤ → WallTexture → ℤ
mid_from eye_z z texture = minus (plus z (fixed (pos texture.height))) eye_z

unfoldable pub middle_mid : ℤ → WallFacts → ℤ
middle_mid eye_z facts =
    cond (bottom_is_unpegged facts.seg) (mid_from eye_z facts.front.floor facts.middle) (world_top eye_z facts.front facts.back)

-- the wall of a line with one side
unfoldable pub middle_part : ℤ → WallFacts → Option Surface → Part
middle_part eye_z facts None = record { number = facts.middle.number; mid = plus (middle_mid eye_z facts) facts.y_offset }
middle_part eye_z facts (Some back) = no_part

unfoldable pub top_mid : ℤ → WallFacts → Surface → ℤ
top_mid eye_z facts back =
    cond (top_is_unpegged facts.seg) (world_top eye_z facts.front facts.back) (mid_from eye_z back.ceiling facts.top)

-- the upper wall, where the back's ceiling is lower
unfoldable pub top_part : ℤ → WallFacts → Option Surface → Part
top_part eye_z facts None = no_part
top_part eye_z facts (Some back) =
    cond (int_lt (world_high eye_z (Some back)) (world_top eye_z facts.front (Some back)))
    (record { number = facts.top.number; mid = plus (top_mid eye_z facts back) facts.y_offset })
    no_part

unfoldable pub bottom_mid : ℤ → WallFacts → ℤ
bottom_mid eye_z facts =
    cond (bottom_is_unpegged facts.seg) (world_top eye_z facts.front facts.back) (world_low eye_z facts.back)

-- the lower wall, where the back's floor is higher
unfoldable pub bottom_part : ℤ → WallFacts → Option Surface → Part
bottom_part eye_z facts None = no_part
bottom_part eye_z facts (Some back) =
    cond (int_lt (world_bottom eye_z facts.front) (world_low eye_z (Some back)))
    (record { number = facts.bottom.number; mid = plus (bottom_mid eye_z facts) facts.y_offset })
    no_part

-- a middle texture that is seen through
unfoldable pub is_masked : WallFacts → Option Surface → Bool
is_masked facts None = false
is_masked facts (Some back) = not (facts.middle.number == 0)
