-- Sprites whose lumps have other numbers: made and put in order alike, and the same dots of sprites and weapons.
use Rattle.picture_rules.proofs.Common.{[], Bool, cond, false, int_le, length, length-map, List, map, map-append, nat_lt, None, Option, option_map, pos, position_or_len, refl, Some, sym, true, ℕ, ℤ, ◌&&◌, ◌++◌, ◌∷◌, ◌≡◌}
use Rattle.alike_rules.specs.Rules.{Art, Dot, Drawseg, MAX_VISSPRITES, Placed, SPRITE, Seen, Shape5, SpriteEntry, ViewValue, WEAPON, WeaponLayer, add_entry, draw_order, entry_for, entry_has, entry_of, entry_within, gives_bottom, gives_top, greater_word, insert_entry, is_behind, left_edge, lesser_word, lump_source, minus, misses_view, painter_of, picture_column, picture_first, picture_height, picture_last, right_edge, rows_between, sprite_bottom, sprite_column, sprite_dots, sprite_in_front, sprite_masked, sprite_top, weapon_column, weapon_dots, weapon_first, weapon_iscale, weapon_last, weapon_left, weapon_map, weapon_masked, weapon_mid, weapon_right, weapon_within, with_entry}
use Rattle.alike_rules.proofs.DotLemmas.{IsMovedArt, joined-moved, lump-moved, moved_dot, painter-moved, posts_dots-moved}

abbrev pub moved_shape : (ℕ → ℕ) → Shape5 → Shape5
moved_shape σ s = record { lump = σ s.lump; flip = s.flip; width = s.width; left = s.left; top = s.top }

abbrev pub moved_entry : (ℕ → ℕ) → SpriteEntry → SpriteEntry
moved_entry σ e = record {
  number = e.number;
  first = e.first;
  last = e.last;
  a1 = e.a1;
  x = e.x;
  y = e.y;
  gz = e.gz;
  gzt = e.gzt;
  mid = e.mid;
  scale = e.scale;
  iscale = e.iscale;
  flip = e.flip;
  width = e.width;
  lump = σ e.lump;
  map = e.map;
}

abbrev pub moved_layer : (ℕ → ℕ) → WeaponLayer → WeaponLayer
moved_layer σ l = record { row = l.row; shape = moved_shape σ l.shape; sx = l.sx; sy = l.sy; bright = l.bright; light = l.light }

module _ (σ : ℕ → ℕ) (v : ViewValue) where
  within_step : (b : Bool) (e : SpriteEntry) → cond b None (Some (moved_entry σ e)) ≡ option_map (moved_entry σ) (cond b None (Some e))
  within_step true e = refl
  within_step false e = refl

  entry-moved : (number : ℕ) (thing : Placed) (seen : Seen) (shape : Shape5) → entry_for v number thing seen (moved_shape σ shape) ≡ option_map (moved_entry σ) (entry_for v number thing seen shape)
  unfolding entry_for entry_within entry_of picture_first picture_last picture_height left_edge right_edge
  entry-moved number thing seen shape = within_step (misses_view v (picture_first v seen shape) (picture_last v seen shape)) (entry_of v number thing seen shape (picture_first v seen shape) (picture_last v seen shape))

  room_step : (b : Bool) (entries : List SpriteEntry) (e : SpriteEntry)
      → cond b (map (moved_entry σ) entries ++ moved_entry σ e ∷ []) (map (moved_entry σ) entries) ≡ map (moved_entry σ) (cond b (entries ++ e ∷ []) entries)
  room_step true entries e = sym (map-append (moved_entry σ) entries (e ∷ []))
  room_step false entries e = refl

  with-moved : (entries : List SpriteEntry) (o : Option SpriteEntry) → with_entry (map (moved_entry σ) entries) (option_map (moved_entry σ) o) ≡ map (moved_entry σ) (with_entry entries o)
  unfolding with_entry
  with-moved entries None = refl
  with-moved entries (Some e) = rw (length-map entries (moved_entry σ)) (room_step (nat_lt (length entries) MAX_VISSPRITES) entries e)

  -- one more thing
  pub add-moved : (entries : List SpriteEntry) (thing : Placed) (seen : Seen) (shape : Shape5)
      → add_entry v (map (moved_entry σ) entries) thing seen (moved_shape σ shape) ≡ map (moved_entry σ) (add_entry v entries thing seen shape)
  unfolding add_entry
  add-moved entries thing seen shape =
      rw (length-map entries (moved_entry σ), entry-moved (length entries) thing seen shape) (with-moved entries (entry_for v (length entries) thing seen shape))

module _ (σ : ℕ → ℕ) where
  insert_step : (b : Bool) (e f : SpriteEntry) (fs gs : List SpriteEntry)
      → cond b (moved_entry σ e ∷ (moved_entry σ f ∷ map (moved_entry σ) fs)) (moved_entry σ f ∷ map (moved_entry σ) gs) ≡ map (moved_entry σ) (cond b (e ∷ (f ∷ fs)) (f ∷ gs))
  insert_step true e f fs gs = refl
  insert_step false e f fs gs = refl

  insert-moved : (e : SpriteEntry) (fs : List SpriteEntry) → insert_entry (moved_entry σ e) (map (moved_entry σ) fs) ≡ map (moved_entry σ) (insert_entry e fs)
  unfolding insert_entry
  insert-moved e [] = refl
  insert-moved e (f ∷ fs) = rw (insert-moved e fs) (insert_step (int_le e.scale f.scale) e f fs (insert_entry e fs))

  -- the order in which sprites are drawn
  pub order-moved : (es : List SpriteEntry) → draw_order (map (moved_entry σ) es) ≡ map (moved_entry σ) (draw_order es)
  unfolding draw_order
  order-moved [] = refl
  order-moved (e ∷ es) = rw (order-moved es) (insert-moved e (draw_order es))

  -- which sprite stands in front of a fragment
  places_same : (d : Drawseg) (x : ℕ) (es : List SpriteEntry) → position_or_len (λ e. entry_has e x && is_behind d e) (map (moved_entry σ) es) ≡ position_or_len (λ e. entry_has e x && is_behind d e) es
  unfolding entry_has is_behind
  places_same d x [] = refl
  places_same d x (e ∷ es) = rw (places_same d x es) refl

  pub front-same : (es : List SpriteEntry) (d : Drawseg) (x : ℕ) → sprite_in_front (map (moved_entry σ) es) d x ≡ sprite_in_front es d x
  unfolding sprite_in_front
  front-same es d x = rw (places_same d x es, length-map es (moved_entry σ)) refl

  masked-same : (v : ViewValue) (ds : List Drawseg) (e : SpriteEntry) (x : ℕ) → sprite_masked v ds (moved_entry σ e) x ≡ sprite_masked v ds e x
  unfolding sprite_masked sprite_top sprite_bottom gives_top gives_bottom is_behind
  masked-same v ds e x = refl

module _ (σ : ℕ → ℕ) (art other : Art) (moved : IsMovedArt σ art other) (v : ViewValue) where
  column-moved : (ds : List Drawseg) (e : SpriteEntry) (x : ℕ) → sprite_column v other ds (moved_entry σ e) x ≡ map (moved_dot σ) (sprite_column v art ds e x)
  unfolding sprite_column
  column-moved ds e x =
      rw (masked-same σ v ds e x, lump-moved σ e.lump, painter-moved σ SPRITE e.number (lump_source e.lump), moved.picture_posts e.lump (picture_column e.flip e.width e.a1 e.iscale x))
      (posts_dots-moved σ v.shape (painter_of SPRITE e.number (lump_source e.lump)) x (sprite_masked v ds e x) (art.byte e.lump) (other.byte (σ e.lump)) (art.shade e.map) (other.shade e.map)
      (λ i. moved.byte e.lump i) (λ i. moved.shade e.map i) (art.picture_posts e.lump (picture_column e.flip e.width e.a1 e.iscale x)))

  -- the dots of a sprite
  pub sprite_dots-moved : (ds : List Drawseg) (e : SpriteEntry) → sprite_dots v other ds (moved_entry σ e) ≡ map (moved_dot σ) (sprite_dots v art ds e)
  unfolding sprite_dots
  sprite_dots-moved ds e =
      joined-moved (moved_dot σ) (sprite_column v art ds e) (sprite_column v other ds (moved_entry σ e)) (λ x. column-moved ds e x) (rows_between e.first e.last)

  weapon_masked-same : (l : WeaponLayer) → weapon_masked v (moved_layer σ l) ≡ weapon_masked v l
  unfolding weapon_masked weapon_mid
  weapon_masked-same l = refl

  weapon_map-same : (l : WeaponLayer) → weapon_map v (moved_layer σ l) ≡ weapon_map v l
  unfolding weapon_map
  weapon_map-same l = refl

  weapon_column-moved : (l : WeaponLayer) (x1 : ℤ) (x : ℕ) → weapon_column v other (moved_layer σ l) x1 x ≡ map (moved_dot σ) (weapon_column v art l x1 x)
  unfolding weapon_column
  weapon_column-moved l x1 x =
      rw (
        weapon_masked-same l,
        weapon_map-same l,
        lump-moved σ l.shape.lump,
        painter-moved σ WEAPON l.row (lump_source l.shape.lump),
        moved.picture_posts l.shape.lump (picture_column l.shape.flip l.shape.width x1 (weapon_iscale v.shape) x),
      )
      (posts_dots-moved σ v.shape (painter_of WEAPON l.row (lump_source l.shape.lump)) x (weapon_masked v l) (art.byte l.shape.lump) (other.byte (σ l.shape.lump))
      (art.shade (weapon_map v l)) (other.shade (weapon_map v l)) (λ i. moved.byte l.shape.lump i) (λ i. moved.shade (weapon_map v l) i)
      (art.picture_posts l.shape.lump (picture_column l.shape.flip l.shape.width x1 (weapon_iscale v.shape) x)))

  none_step : (b : Bool) (ds : List Dot) → cond b [] (map (moved_dot σ) ds) ≡ map (moved_dot σ) (cond b [] ds)
  none_step true ds = refl
  none_step false ds = refl

  weapon_within-moved : (l : WeaponLayer) (x1 x2 : ℤ) → weapon_within v other (moved_layer σ l) x1 x2 ≡ map (moved_dot σ) (weapon_within v art l x1 x2)
  unfolding weapon_within
  weapon_within-moved l x1 x2 =
      rw (joined-moved (moved_dot σ) (weapon_column v art l x1) (weapon_column v other (moved_layer σ l) x1) (λ x. weapon_column-moved l x1 x)
      (rows_between (greater_word x1 (pos 0)) (lesser_word x2 (minus (pos v.shape.width) (pos 1)))))
      (none_step (misses_view v x1 x2) _)

  -- the dots of a weapon
  pub weapon_dots-moved : (l : WeaponLayer) → weapon_dots v other (moved_layer σ l) ≡ map (moved_dot σ) (weapon_dots v art l)
  unfolding weapon_dots weapon_first weapon_last weapon_left weapon_right
  weapon_dots-moved l = weapon_within-moved l (weapon_first v l) (weapon_last v l)
