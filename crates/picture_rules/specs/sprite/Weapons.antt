-- The pixels of a weapon's picture over a view (R_DrawPSprite, r_things.c).
use Rattle.std.specs.Prelude.{ℕ, ◌-◌, ◌*◌, ◌/◌, Bool, ℤ, pos, cond, List, []}
use Rattle.picture_rules.specs.Rules.{Art, Dot, FRAME_WIDTH, HALF_UNIT, MaskedColumn, SCALE_STEPS, ViewShape, ViewValue, WEAPON, bright_map, fixed, fixed_or, greater_word, joined_lists, lesser_word, light_number, lump_source, minus, minus_one, painter_of, plus, posts_dots, rows_between, scale_light}
use Rattle.picture_rules.specs.declared.sprite.Shape5.{Shape5}
use Rattle.picture_rules.specs.declared.sprite.TheConstants.{WEAPON_CENTRE, WEAPON_MID}
use Rattle.picture_rules.specs.sprite.Entries.{edge_column, misses_view}
use Rattle.picture_rules.specs.sprite.Sprites.{picture_column}

-- a weapon's picture over a view: its row in the file, from 1, its picture at rotation 0, its place (16.16) and the light of the eye's sector
pub record WeaponLayer : Type 0 where
  pub row : ℕ
  pub shape : Shape5
  pub sx : ℤ
  pub sy : ℤ
  pub bright : Bool
  pub light : ℤ

-- pixels a texel, and texels a pixel: pspritescale, pspriteiscale
unfoldable pub weapon_scale : ViewShape → ℤ
weapon_scale shape = pos (65536 * shape.width / FRAME_WIDTH)

unfoldable pub weapon_iscale : ViewShape → ℤ
weapon_iscale shape = pos (65536 * FRAME_WIDTH / shape.width)

-- the edges of the picture from the view's middle
unfoldable pub weapon_left : WeaponLayer → ℤ
weapon_left l = minus (minus l.sx WEAPON_CENTRE) (fixed l.shape.left)

unfoldable pub weapon_right : WeaponLayer → ℤ
weapon_right l = plus (weapon_left l) (fixed (pos l.shape.width))

unfoldable pub weapon_first : ViewValue → WeaponLayer → ℤ
weapon_first v l = edge_column v (weapon_left l) (weapon_scale v.shape)

unfoldable pub weapon_last : ViewValue → WeaponLayer → ℤ
weapon_last v l = minus (edge_column v (weapon_right l) (weapon_scale v.shape)) (pos 1)

unfoldable pub weapon_mid : WeaponLayer → ℤ
weapon_mid l = minus (plus WEAPON_MID HALF_UNIT) (minus l.sy (fixed l.shape.top))

-- the colormap of the nearest scale, or the brightest
unfoldable pub weapon_map : ViewValue → WeaponLayer → ℕ
weapon_map v l = cond l.bright (bright_map v) (fixed_or v (scale_light v.shape (light_number v l.light (pos 0)) (SCALE_STEPS - 1)))

unfoldable pub weapon_masked : ViewValue → WeaponLayer → MaskedColumn
weapon_masked v l = record {
  scale = weapon_scale v.shape;
  mid = weapon_mid l;
  iscale = weapon_iscale v.shape;
  top_clip = minus_one;
  bottom_clip = pos v.shape.height;
}

-- the dots of a weapon's column; its painter has the number of the row
unfoldable pub weapon_column : ViewValue → Art → WeaponLayer → ℤ → ℕ → List Dot
weapon_column v art l x1 x =
    posts_dots v.shape (painter_of WEAPON l.row (lump_source l.shape.lump)) x (weapon_masked v l)
    (art.byte l.shape.lump) (art.shade (weapon_map v l))
    (art.picture_posts l.shape.lump (picture_column l.shape.flip l.shape.width x1 (weapon_iscale v.shape) x))

unfoldable pub weapon_within : ViewValue → Art → WeaponLayer → ℤ → ℤ → List Dot
weapon_within v art l x1 x2 =
    cond (misses_view v x1 x2) []
    (joined_lists (weapon_column v art l x1) (rows_between (greater_word x1 (pos 0)) (lesser_word x2 (minus (pos v.shape.width) (pos 1)))))

unfoldable pub weapon_dots : ViewValue → Art → WeaponLayer → List Dot
weapon_dots v art l = weapon_within v art l (weapon_first v l) (weapon_last v l)
