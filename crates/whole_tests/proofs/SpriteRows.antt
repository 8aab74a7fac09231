-- Rows of sprites, by evaluation: their order, and how a fragment in front of them cuts them.
use Rattle.std.specs.Prelude.{◌≡◌, ℕ, ℤ, pos, true, false, [], ◌∷◌, map, None, refl}
use Rattle.picture_rules.specs.Words.{clip_of_number, clip_of_some, draw_order, Drawseg, drawseg_has, entry_has, gives_bottom, gives_top, greatest, greatest_that, insert_entry, insert_last, is_behind, is_in_front, is_smaller, minus_one, passes_at, seg_line, side_by_product, side_by_slope, side_of, sprite_bottom, sprite_top, words_unfolded}
use Rattle.picture_rules.specs.declared.sprite.SpriteEntry.{SpriteEntry}

-- who unfolds it unfolds the rules of these
unfoldable pub sprites_cut : ℕ
unfolding words_unfolded greatest insert_entry draw_order is_smaller insert_last seg_line drawseg_has entry_has is_in_front is_behind gives_bottom gives_top passes_at greatest_that clip_of_some clip_of_number sprite_bottom sprite_top side_by_product side_by_slope side_of
sprites_cut = 0

unfoldable pub entry_scaled : ℕ → ℤ → SpriteEntry
entry_scaled n scale = record { number = n; first = pos 0; last = pos 9; a1 = pos 0; x = pos 0; y = pos 0; gz = pos 0; gzt = pos 0; mid = pos 0; scale = scale; iscale = pos 65536; flip = false; width = 32; lump = 9; map = 0 }

unfoldable pub entry_between : ℤ → ℤ → SpriteEntry
entry_between gz gzt = record (entry_scaled 0 (pos 5)) { gz = gz; gzt = gzt }

-- it stands in front of each sprite in columns 0 to 9, with bottom height 100 and top height 200, cut at row 50 and row 20
unfoldable pub front_seg : Drawseg
front_seg = record {
  seg = record { x1 = pos 0; y1 = pos 0; x2 = pos 0; y2 = pos 0; angle = 0; offset = pos 0; flags = 0; side = 0; front = 0; back = None };
  first = 0;
  last = 9;
  scale1 = pos 9;
  scale2 = pos 9;
  step = pos 0;
  has_bottom = true;
  has_top = true;
  bottom_height = pos 100;
  top_height = pos 200;
  bottom_clip = λ x. pos 50;
  top_clip = λ x. pos 20;
  masked = false;
  middle = 0;
  mid = pos 0;
  light = 0;
  column = λ x. pos 0;
}

-- the least scale comes first, and of equal ones the one made first
pub order_row : map (λ e. e.number) (draw_order (entry_scaled 0 (pos 7) ∷ entry_scaled 1 (pos 5) ∷ entry_scaled 2 (pos 7) ∷ entry_scaled 3 (pos 5) ∷ [])) ≡ 1 ∷ 3 ∷ 0 ∷ 2 ∷ []
unfolding sprites_cut entry_scaled
order_row = refl

-- a sprite whose feet are at the bottom height is not cut there, and one just below it is
pub feet_row : map (λ gz. sprite_bottom 200 (front_seg ∷ []) (entry_between gz (pos 300)) 4) (pos 100 ∷ pos 99 ∷ []) ≡ pos 200 ∷ pos 50 ∷ []
unfolding sprites_cut front_seg entry_scaled entry_between
feet_row = refl

-- one whose top is at the top height is not cut there, and one just above it is
pub head_row : map (λ gzt. sprite_top (front_seg ∷ []) (entry_between (pos 0) gzt) 4) (pos 200 ∷ pos 201 ∷ []) ≡ minus_one ∷ pos 20 ∷ []
unfolding sprites_cut front_seg entry_scaled entry_between
head_row = refl

-- a fragment of the sprite's own scale is not behind it, and a smaller one is
pub behind_row : map (λ scale. is_behind front_seg (entry_scaled 0 scale)) (pos 9 ∷ pos 10 ∷ []) ≡ false ∷ true ∷ []
unfolding sprites_cut front_seg entry_scaled
behind_row = refl
