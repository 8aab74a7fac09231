-- The fragments that the notes of a view stand for are those of its picture, as far as the masked pass reads them.
use Rattle.picture_rules.proofs.Common.{[], AllByRecursion, AllZip, ap, append_assoc, arith, bit_and, Bool, cond, false, from_bool, get_or, is_some, length, length-append, List, map, None, not, Option, option_map, pos, refl, slice_index_or, Some, subst, suc, sym, true, zero, ℕ, ℤ, ◌&&◌, ◌*◌, ◌++◌, ◌+◌, ◌-◌, ◌==◌, ◌||◌, ◌∙◌, ◌∷◌, ◌≡◌}
use Rattle.std.proofs.Math.ListN.{get_or-map}
use Rattle.frame_core.specs.Rules.{Art, DrawAlike, Event, FragmentNote, FragmentNumbers, LeafFragment, SIL_BOTTOM, SIL_TOP, SceneValue, Sector, SectorFlats, Seg, SideTextures, SpriteEntry, Surface, ViewValue, Wall, WallFacts, WallTexture, back_of, drawseg_of, drawsegs, drawsegs_from, facts_of, fragment_facts, fragment_wall, masked_dots, masked_mid, middle_hangs, middle_stands, no_surface, no_textures, note_at, notes_from, openings_list, own_front, own_mid, place_if, room_if, saved_by, saved_from, saves_bottom, saves_top, seg_at, seg_light, side_at, silhouette_of, surface_at, surface_of, surfaces_of, texture_at, textures_at, view_drawsegs, view_notes, wall_of, wall_texture, walls_of}
use Rattle.picture_rules.proofs.wall.NoteLemmas.{length-saved_by, note-bottom_clip, note-middle_column, note-top_clip}
use Rattle.sound_scene.specs.{Sound.middles_of, Sound.textures_view, Pictures.scene_of}
use Rattle.masked_draw.specs.Lists.{heights_of, middle_by, no_sector, note_mid, note_seg, noted_drawseg, noted_drawsegs, saved_column, sector_by, side_by}
use Rattle.frame_core.specs.ViewStrips.{mask_lists}
use Rattle.frame_core.proofs.AlikeLemmas.{as_read, masked_dots-read}

-- a surface has the heights and the light of its sector
record HasHeights (surface : Surface) (sector : Sector) : Type 0 where
  floor : surface.floor ≡ sector.floor
  ceiling : surface.ceiling ≡ sector.ceiling
  light : surface.light ≡ sector.light

surfaces_from : (sectors : List Sector) (flats : List SectorFlats) (n : ℕ) → length flats ≡ length sectors → HasHeights (slice_index_or (surfaces_of sectors flats) n no_surface) (slice_index_or sectors n no_sector)
unfolding surfaces_of surface_of
surfaces_from [] flats n e = record { floor = refl; ceiling = refl; light = refl }
surfaces_from (sector ∷ sectors) [] n e = absurd (omega (arith, e))
surfaces_from (sector ∷ sectors) (both ∷ flats) zero e = record { floor = refl; ceiling = refl; light = refl }
surfaces_from (sector ∷ sectors) (both ∷ flats) (suc n) e = surfaces_from sectors flats n (omega (arith, e))

heights_at : (bytes : ℕ → List ℕ) (s : SceneValue) (n : ℕ) → length s.faces.flats ≡ length s.base.level.sectors → HasHeights (surface_at (scene_of bytes s).level n) (sector_by (mask_lists s) n)
unfolding surface_at sector_by scene_of
heights_at bytes s n e = surfaces_from s.base.level.sectors s.faces.flats n e

-- the masked texture hangs by heights alone
same_mid : (z : ℤ) (seg : Seg) (a b c d : Surface) (height : ℕ) (y : ℤ) → a.floor ≡ c.floor → a.ceiling ≡ c.ceiling → b.floor ≡ d.floor → b.ceiling ≡ d.ceiling →
    masked_mid z seg a b height y ≡ masked_mid z seg c d height y
unfolding masked_mid middle_hangs middle_stands
same_mid z seg a b c d height y e f g h = cc

-- what is read of a list is the same where it is read
same_read : (p q : Bool) (y z : ℤ) → p ≡ q → (q ≡ true → y ≡ z) → cond p y (pos 0) ≡ cond q z (pos 0)
same_read true true y z e h = h refl
same_read true false y z e h = absurd (cc)
same_read false true y z e h = absurd (cc)
same_read false false y z e h = refl

-- a silhouette is told by its bit
bottom_told : (bottom top : Bool) → not (bit_and (SIL_BOTTOM * from_bool bottom + SIL_TOP * from_bool top) SIL_BOTTOM == 0) ≡ bottom
bottom_told true true = refl
bottom_told true false = refl
bottom_told false true = refl
bottom_told false false = refl

top_told : (bottom top : Bool) → not (bit_and (SIL_BOTTOM * from_bool bottom + SIL_TOP * from_bool top) SIL_TOP == 0) ≡ top
top_told true true = refl
top_told true false = refl
top_told false true = refl
top_told false false = refl

masked_told : (masked : Bool) (place : ℕ) → is_some (place_if masked place) ≡ masked
unfolding place_if
masked_told true place = refl
masked_told false place = refl

both_told : (p q r t : Bool) → p ≡ r → q ≡ t → (p || q) ≡ (r || t)
both_told p q r t e f = cc

-- a clip that is read is saved or constant
saved_or : (there masked constant : Bool) → (there || masked) ≡ true → (((there || masked) && not constant) || constant) ≡ true
saved_or true masked true e = refl
saved_or true masked false e = refl
saved_or false true true e = refl
saved_or false true false e = refl
saved_or false false constant e = absurd (cc)

column_saved : (openings : List ℤ) (first place x : ℕ) (masked : Bool) → masked ≡ true → saved_column openings first (place_if masked place) x ≡ slice_index_or openings (place + (x - first)) (pos 0)
unfolding saved_column place_if
column_saved openings first place x true e = refl
column_saved openings first place x false e = absurd (cc)

-- a fragment is drawn from its own seg, side and middle texture
record HasOwnFacts (bytes : ℕ → List ℕ) (s : SceneValue) (facts : WallFacts) : Type 0 where
  seg : facts.seg ≡ seg_at (scene_of bytes s).level facts.seg_no
  back : facts.back ≡ back_of (scene_of bytes s).level facts.seg
  offset : facts.y_offset ≡ (side_at (scene_of bytes s) facts.seg.side).y_offset
  middle : facts.middle ≡ wall_texture (scene_of bytes s) (textures_at (scene_of bytes s) facts.seg.side).middle

own_facts : (bytes : ℕ → List ℕ) (s : SceneValue) (f : LeafFragment) → HasOwnFacts bytes s (fragment_facts (scene_of bytes s) f)
unfolding fragment_facts facts_of
own_facts bytes s f = record { seg = refl; back = refl; offset = refl; middle = refl }

own_walls : (bytes : ℕ → List ℕ) (v : ViewValue) (s : SceneValue) (fs : List LeafFragment) → AllByRecursion (λ (w : Wall). HasOwnFacts bytes s w.facts) (map (fragment_wall v (scene_of bytes s)) fs)
unfolding fragment_wall wall_of
own_walls bytes v s [] = tt
own_walls bytes v s (f ∷ fs) = (own_facts bytes s f, own_walls bytes v s fs)

module _ (bytes : ℕ → List ℕ) (v : ViewValue) (s : SceneValue) (flats : length s.faces.flats ≡ length s.base.level.sectors) where
  seg_noted : (w : Wall) (place : ℕ) → HasOwnFacts bytes s w.facts → note_seg (mask_lists s) (note_at v w place) ≡ w.facts.seg
  unfolding note_seg note_at seg_at scene_of
  seg_noted w place own = sym own.seg

  middle_noted : (w : Wall) (place : ℕ) → HasOwnFacts bytes s w.facts → middle_by (mask_lists s) (note_at v w place) ≡ w.facts.middle.number
  unfolding middle_by textures_at wall_texture scene_of
  middle_noted w place own =
      ap (λ (seg : Seg). get_or (middles_of s.faces.sides) seg.side 0) (seg_noted w place own)
      ∙ get_or-map (λ (side : SideTextures). side.middle) s.faces.sides w.facts.seg.side no_textures
      ∙ sym (ap (λ (t : WallTexture). t.number) own.middle)

  height_noted : (facts : WallFacts) → HasOwnFacts bytes s facts → (texture_at s.base.lists.textures facts.middle.number).height ≡ facts.middle.height
  unfolding wall_texture scene_of
  height_noted facts own =
      ap (λ (t : WallTexture). (texture_at s.base.lists.textures t.number).height) own.middle ∙ sym (ap (λ (t : WallTexture). t.height) own.middle)

  offset_noted : (facts : WallFacts) → HasOwnFacts bytes s facts → (side_by (mask_lists s) facts.seg.side).y_offset ≡ facts.y_offset
  unfolding side_by side_at scene_of
  offset_noted facts own = sym own.offset

  mid_by : (d : FragmentNote) (facts : WallFacts) (back : Option ℕ) → HasOwnFacts bytes s facts → note_seg (mask_lists s) d ≡ facts.seg → middle_by (mask_lists s) d ≡ facts.middle.number →
      note_mid v (textures_view s) (mask_lists s) d back ≡ own_mid v (scene_of bytes s) facts (option_map (surface_at (scene_of bytes s).level) back)
  unfolding note_mid own_mid own_front
  mid_by d facts None own e m = refl
  mid_by d facts (Some back) own e m =
      let front : Surface = heights_of (sector_by (mask_lists s) facts.seg.front) in
      let behind : Surface = heights_of (sector_by (mask_lists s) back) in
      let front_heights = heights_at bytes s facts.seg.front flats in
      let back_heights = heights_at bytes s back flats in
      ap (λ (seg : Seg). masked_mid v.eye.z seg (heights_of (sector_by (mask_lists s) seg.front)) behind (texture_at s.base.lists.textures (middle_by (mask_lists s) d)).height (side_by (mask_lists s) seg.side).y_offset) e
      ∙ ap (λ (n : ℕ). masked_mid v.eye.z facts.seg front behind (texture_at s.base.lists.textures n).height (side_by (mask_lists s) facts.seg.side).y_offset) m
      ∙ ap (λ (h : ℕ). masked_mid v.eye.z facts.seg front behind h (side_by (mask_lists s) facts.seg.side).y_offset) (height_noted facts own)
      ∙ ap (masked_mid v.eye.z facts.seg front behind facts.middle.height) (offset_noted facts own)
      ∙ same_mid v.eye.z facts.seg front behind (surface_at (scene_of bytes s).level facts.seg.front) (surface_at (scene_of bytes s).level back) facts.middle.height facts.y_offset
      (sym front_heights.floor) (sym front_heights.ceiling) (sym back_heights.floor) (sym back_heights.ceiling)

  mid_noted : (w : Wall) (place : ℕ) → HasOwnFacts bytes s w.facts →
      note_mid v (textures_view s) (mask_lists s) (note_at v w place) (note_seg (mask_lists s) (note_at v w place)).back ≡ own_mid v (scene_of bytes s) w.facts w.facts.back
  unfolding back_of
  mid_noted w place own =
      let seg_same = seg_noted w place own in
      ap (λ (seg : Seg). note_mid v (textures_view s) (mask_lists s) (note_at v w place) seg.back) seg_same
      ∙ mid_by (note_at v w place) w.facts w.facts.seg.back own seg_same (middle_noted w place own)
      ∙ sym (ap (own_mid v (scene_of bytes s) w.facts) own.back)

  light_noted : (w : Wall) (place : ℕ) → HasOwnFacts bytes s w.facts →
      seg_light v (note_seg (mask_lists s) (note_at v w place)) (sector_by (mask_lists s) (note_seg (mask_lists s) (note_at v w place)).front).light
      ≡ seg_light v w.facts.seg (own_front (scene_of bytes s) w.facts).light
  unfolding own_front
  light_noted w place own =
      ap (λ (seg : Seg). seg_light v seg (sector_by (mask_lists s) seg.front).light) (seg_noted w place own)
      ∙ ap (seg_light v w.facts.seg) (sym (heights_at bytes s w.facts.seg.front flats).light)

  -- a note whose openings lie at its place stands for its fragment
  note_alike : (walls : List Wall) (k : ℕ) (w : Wall) (before after : List ℤ) (place : ℕ) → length before ≡ place → HasOwnFacts bytes s w.facts →
      DrawAlike (as_read (noted_drawseg v (textures_view s) (mask_lists s) (before ++ (saved_by v walls k w ++ after)) (note_at v w place))) (as_read (drawseg_of v (scene_of bytes s) walls k w))
  unfolding noted_drawseg drawseg_of note_at silhouette_of saves_bottom saves_top
  note_alike walls k w before after place e own =
      let numbers : FragmentNumbers = w.numbers in
      let bottom = bottom_told numbers.bottom.is_there numbers.top.is_there in
      let top = top_told numbers.bottom.is_there numbers.top.is_there in
      let masked = masked_told numbers.masked place in
      record {
        seg = seg_noted w place own;
        first = refl;
        last = refl;
        scale1 = refl;
        scale2 = refl;
        step = refl;
        has_bottom = bottom;
        has_top = top;
        bottom_height = refl;
        top_height = refl;
        bottom_clip = λ x l m. same_read _ (numbers.bottom.is_there || numbers.masked) _ _ (both_told _ _ numbers.bottom.is_there numbers.masked bottom masked)
            (λ h. note-bottom_clip v walls k w before after place x e l m (saved_or numbers.bottom.is_there numbers.masked numbers.bottom_is_constant h));
        top_clip = λ x l m. same_read _ (numbers.top.is_there || numbers.masked) _ _ (both_told _ _ numbers.top.is_there numbers.masked top masked)
            (λ h. note-top_clip v walls k w before after place x e l m (saved_or numbers.top.is_there numbers.masked numbers.top_is_constant h));
        masked = masked;
        middle = middle_noted w place own;
        mid = mid_noted w place own;
        light = light_noted w place own;
        column = λ x l m. same_read _ numbers.masked _ _ masked
            (λ h. column_saved (before ++ (saved_by v walls k w ++ after)) w.first place x numbers.masked h ∙ note-middle_column v walls k w before after place x e l m h);
      }

  -- so do all notes from one on
  alike_from : (walls : List Wall) (k : ℕ) (ws : List Wall) (before : List ℤ) (place : ℕ) → length before ≡ place → AllByRecursion (λ (w : Wall). HasOwnFacts bytes s w.facts) ws →
      AllZip DrawAlike (map as_read (map (noted_drawseg v (textures_view s) (mask_lists s) (before ++ saved_from v walls k ws)) (notes_from v place ws))) (map as_read (drawsegs_from v (scene_of bytes s) walls k ws))
  unfolding notes_from saved_from drawsegs_from
  alike_from walls k [] before place e own = tt
  alike_from walls k (w ∷ ws) before place e own =
      let next : ℕ = place + room_if w.numbers.masked w + room_if (saves_top w.numbers) w + room_if (saves_bottom w.numbers) w in
      let next_is_length : length (before ++ saved_by v walls k w) ≡ next = (let joined_length = length-append before (saved_by v walls k w) in let openings_added = length-saved_by v walls k w in omega arith) in
      let alike_with : List ℤ → Type 0 = λ openings. AllZip DrawAlike (map as_read (map (noted_drawseg v (textures_view s) (mask_lists s) openings) (notes_from v next ws))) (map as_read (drawsegs_from v (scene_of bytes s) walls (k + 1) ws)) in (
        note_alike walls k w before (saved_from v walls (k + 1) ws) place e own.0,
        subst alike_with (append_assoc before (saved_by v walls k w) (saved_from v walls (k + 1) ws)) (alike_from walls (k + 1) ws (before ++ saved_by v walls k w) next next_is_length own.1),
      )

  as_many : (openings : List ℤ) (walls : List Wall) (k place : ℕ) (ws : List Wall) →
      length (map (noted_drawseg v (textures_view s) (mask_lists s) openings) (notes_from v place ws)) ≡ length (drawsegs_from v (scene_of bytes s) walls k ws)
  unfolding notes_from drawsegs_from
  as_many openings walls k place [] = refl
  as_many openings walls k place (w ∷ ws) =
      ap suc (as_many openings walls (k + 1) (place + room_if w.numbers.masked w + room_if (saves_top w.numbers) w + room_if (saves_bottom w.numbers) w) ws)

  -- the masked pass over the notes is that of the picture
  pub masked_dots-noted : (art : Art) (events : List Event) (notes : List FragmentNote) (openings : List ℤ) (es : List SpriteEntry) →
      notes ≡ view_notes v (walls_of v (scene_of bytes s) events) → openings ≡ openings_list v (walls_of v (scene_of bytes s) events) →
      masked_dots v art (noted_drawsegs v (textures_view s) (mask_lists s) openings notes) es
      ≡ masked_dots v art (view_drawsegs v (scene_of bytes s) (walls_of v (scene_of bytes s) events)) es
  unfolding noted_drawsegs view_notes openings_list view_drawsegs walls_of
  masked_dots-noted art events notes openings es e f =
      let walls : List Wall = map (fragment_wall v (scene_of bytes s)) (drawsegs events) in
      ap (λ (ns : List FragmentNote). masked_dots v art (map (noted_drawseg v (textures_view s) (mask_lists s) openings) ns) es) e
      ∙ ap (λ (os : List ℤ). masked_dots v art (map (noted_drawseg v (textures_view s) (mask_lists s) os) (notes_from v 0 walls)) es) f
      ∙ masked_dots-read v art (map (noted_drawseg v (textures_view s) (mask_lists s) (saved_from v walls 0 walls)) (notes_from v 0 walls)) (drawsegs_from v (scene_of bytes s) walls 0 walls) es
      (alike_from walls 0 walls [] 0 refl (own_walls bytes v s (drawsegs events))) (as_many (saved_from v walls 0 walls) walls 0 0 walls)
