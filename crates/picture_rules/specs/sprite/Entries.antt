-- The vissprites of a view, in order of making (R_ProjectSprite, R_NewVisSprite, r_things.c).
use Rattle.std.specs.Prelude.{ℕ, ℤ, pos, int_lt, nat_lt, ◌||◌, Bool, cond, List, [], ◌∷◌, ◌++◌, length, Option, Some, None}
use Rattle.std.specs.Int.{is_negative}
use Rattle.picture_rules.specs.Rules.{FRACTION_UNIT, ViewValue, bright_map, div, fixed, greater_word, lesser_word, minus, mul, plus, projection, scale_map, shr_word}
use Rattle.picture_rules.specs.declared.sprite.TheConstants.{MAX_VISSPRITES}
use Rattle.picture_rules.specs.{declared.sprite.Placed.Placed, declared.sprite.Seen.Seen}
use Rattle.picture_rules.specs.declared.sprite.Shape5.{Shape5}
use Rattle.picture_rules.specs.declared.sprite.SpriteEntry.{SpriteEntry}

-- the left and the right edge of the picture across the view
unfoldable pub left_edge : ℤ → Shape5 → ℤ
left_edge tx shape = minus tx (fixed shape.left)

unfoldable pub right_edge : ℤ → Shape5 → ℤ
right_edge tx shape = plus (left_edge tx shape) (fixed (pos shape.width))

-- the column of an edge at a scale
unfoldable pub edge_column : ViewValue → ℤ → ℤ → ℤ
edge_column v edge scale = shr_word (plus (projection v.shape) (mul edge scale)) 16

-- the first and the last column of the picture: a1, a2
unfoldable pub picture_first : ViewValue → Seen → Shape5 → ℤ
picture_first v seen shape = edge_column v (left_edge seen.side shape) seen.scale

unfoldable pub picture_last : ViewValue → Seen → Shape5 → ℤ
picture_last v seen shape = minus (edge_column v (right_edge seen.side shape) seen.scale) (pos 1)

-- the picture is right of the view, or left of it
unfoldable pub misses_view : ViewValue → ℤ → ℤ → Bool
misses_view v a1 a2 = int_lt (pos v.shape.width) a1 || is_negative a2

unfoldable pub sprite_map : ViewValue → Placed → ℤ → ℕ
sprite_map v thing scale = cond thing.bright (bright_map v) (scale_map v thing.light scale)

-- the top of the picture, map units 16.16
unfoldable pub picture_height : Placed → Shape5 → ℤ
picture_height thing shape = plus thing.z (fixed shape.top)

unfoldable pub entry_of : ViewValue → ℕ → Placed → Seen → Shape5 → ℤ → ℤ → SpriteEntry
entry_of v number thing seen shape a1 a2 = record {
  number = number;
  first = greater_word a1 (pos 0);
  last = lesser_word a2 (minus (pos v.shape.width) (pos 1));
  a1 = a1;
  x = thing.x;
  y = thing.y;
  gz = thing.z;
  gzt = picture_height thing shape;
  mid = minus (picture_height thing shape) v.eye.z;
  scale = seen.scale;
  iscale = div FRACTION_UNIT seen.scale;
  flip = shape.flip;
  width = shape.width;
  lump = shape.lump;
  map = sprite_map v thing seen.scale;
}

-- the entry of a thing's picture, none where it misses the view
unfoldable pub entry_within : ViewValue → ℕ → Placed → Seen → Shape5 → ℤ → ℤ → Option SpriteEntry
entry_within v number thing seen shape a1 a2 =
    cond (misses_view v a1 a2) None (Some (entry_of v number thing seen shape a1 a2))

unfoldable pub entry_for : ViewValue → ℕ → Placed → Seen → Shape5 → Option SpriteEntry
entry_for v number thing seen shape =
    entry_within v number thing seen shape (picture_first v seen shape) (picture_last v seen shape)

unfoldable pub with_entry : List SpriteEntry → Option SpriteEntry → List SpriteEntry
with_entry entries None = entries
with_entry entries (Some e) = cond (nat_lt (length entries) MAX_VISSPRITES) (entries ++ e ∷ []) entries

-- the entries after one more thing; past the most that a view keeps nothing changes
unfoldable pub add_entry : ViewValue → List SpriteEntry → Placed → Seen → Shape5 → List SpriteEntry
add_entry v entries thing seen shape = with_entry entries (entry_for v (length entries) thing seen shape)
