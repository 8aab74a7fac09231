-- What the masked pass needs of a drawn fragment (drawseg_t, r_defs.h), and what of it is behind a sprite (R_DrawSprite, r_things.c).
use Rattle.std.specs.Prelude.{◌≡◌, ◌≤◌, ℕ, ◌==◌, ◌&&◌, ◌||◌, nat_le, int_lt, int_le, ℤ, pos, Bool}
use Rattle.picture_rules.specs.Rules.{Partition, Seg, greater_word, lesser_word, minus, side_of}
use Rattle.picture_rules.specs.declared.sprite.SpriteEntry.{SpriteEntry}

pub record Drawseg : Type 0 where
  pub seg : Seg
  pub first : ℕ
  pub last : ℕ
  pub scale1 : ℤ
  pub scale2 : ℤ
  pub step : ℤ
  pub has_bottom : Bool
  pub has_top : Bool
  pub bottom_height : ℤ
  pub top_height : ℤ
  -- the clips at a column: a sprite is cut from the bottom clip on and up to the top clip
  pub bottom_clip : ℕ → ℤ
  pub top_clip : ℕ → ℤ
  -- the masked mid texture, if any: its number, its mid, its light and its texture column at a column
  pub masked : Bool
  pub middle : ℕ
  pub mid : ℤ
  pub light : ℕ
  pub column : ℕ → ℤ

unfoldable pub seg_line : Seg → Partition
seg_line seg = record { x = seg.x1; y = seg.y1; dx = minus seg.x2 seg.x1; dy = minus seg.y2 seg.y1 }

unfoldable pub drawseg_has : Drawseg → ℕ → Bool
drawseg_has d x = nat_le d.first x && nat_le x d.last

unfoldable pub entry_has : SpriteEntry → ℕ → Bool
entry_has e x = int_le e.first (pos x) && int_le (pos x) e.last

-- the place is in front of the seg
unfoldable pub is_in_front : Seg → ℤ → ℤ → Bool
is_in_front seg x y = side_of (seg_line seg) x y == 0

-- the fragment is behind the sprite: smaller throughout, or smaller somewhere with the sprite in front of its seg
unfoldable pub is_behind : Drawseg → SpriteEntry → Bool
is_behind d e =
    int_lt (greater_word d.scale1 d.scale2) e.scale || (int_lt (lesser_word d.scale1 d.scale2) e.scale && is_in_front d.seg e.x e.y)

-- two fragments that differ at most in columns that they do not have
pub record DrawAlike (a b : Drawseg) : Type 0 where
  pub seg : a.seg ≡ b.seg
  pub first : a.first ≡ b.first
  pub last : a.last ≡ b.last
  pub scale1 : a.scale1 ≡ b.scale1
  pub scale2 : a.scale2 ≡ b.scale2
  pub step : a.step ≡ b.step
  pub has_bottom : a.has_bottom ≡ b.has_bottom
  pub has_top : a.has_top ≡ b.has_top
  pub bottom_height : a.bottom_height ≡ b.bottom_height
  pub top_height : a.top_height ≡ b.top_height
  pub bottom_clip : (x : ℕ) → a.first ≤ x → x ≤ a.last → a.bottom_clip x ≡ b.bottom_clip x
  pub top_clip : (x : ℕ) → a.first ≤ x → x ≤ a.last → a.top_clip x ≡ b.top_clip x
  pub masked : a.masked ≡ b.masked
  pub middle : a.middle ≡ b.middle
  pub mid : a.mid ≡ b.mid
  pub light : a.light ≡ b.light
  pub column : (x : ℕ) → a.first ≤ x → x ≤ a.last → a.column x ≡ b.column x
