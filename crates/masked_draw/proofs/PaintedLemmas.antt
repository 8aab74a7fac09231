-- A brush over what is lent takes the strips of the masked pass, and paints its dots with them.
use Rattle.picture_rules.proofs.Common.{All, All-contains_itself, All-get_or, All-permutation, AllPass, and_parts, ap, arith, Bool, Contains, false, get_or, gets, inl, inr, int_le, int_lt, ints, is_some, IsSome, length, List, ltb-true, negsuc, None, Option, option_map, pos, refl, Result, slice_get, slice_get-map, slice_get_within, Some, subst, sym, true, unwrap_or, ℕ, ℤ, ◌+◌, ◌-◌, ◌<◌, ◌∙◌, ◌≡◌, ◌≤ℤ◌, ◌≤◌}
use Rattle.picture_rules.proofs.Laws.{greatest-is}
use Rattle.picture_rules.proofs.sprite.OrderLemmas.{draw_order-permutation}
use Rattle.pixel_strips.specs.{Standing.StandsInFrame}
use Rattle.texture_build.specs.{CacheFault.CacheFault, Caches.cache_fault}
use Rattle.texture_build.specs.Paints.{PaintState, PaintTools, Paints, painted_art}
use Rattle.texture_build.proofs.PaintLemmas.{paints-same, paints-wider}
use Rattle.vissprites.specs.Bounds.{has_lump_below, lies_within}
use Rattle.brush.specs.{Posts.HasClipsIn}
use Rattle.brush.specs.Strips.{IsStripColumn, IsStripLump, Middle, ShowsColumn, ShowsLump, Strip, picture_masked}
use Rattle.brush.specs.Works.{BrushValue, CanTake, HasSlots, PaintsStrips}
use Rattle.masked_draw.specs.Rules.{Drawseg, FragmentNote, IsWholeNote, Painter, SpriteEntry, clip_of_number, clip_of_some, draw_order, gives_bottom, gives_top, greatest_clip, greatest_that, least_clip, masked_dots, middle_masked, minus_one, natural, passes_at, sprite_bottom, sprite_masked, sprite_top}
use Rattle.masked_draw.specs.declared.scene.MaskScene.{MaskScene}
use Rattle.masked_draw.specs.Lists.{noted_drawseg, noted_drawsegs}
use Rattle.masked_draw.specs.Ready.{IsListed, IsMiddleColumn, IsNotedMiddle, IsSpriteLump}
use Rattle.masked_draw.specs.Scenes.{scene_drawseg, scene_drawsegs, scene_lists}
use Rattle.masked_draw.specs.Strips.{masked_column_strip, masked_strips, shown_sprite, sprite_strip}
use Rattle.masked_draw.specs.Takes.{TakesFragments, TakesMasked, TakesSprite}
use Rattle.masked_draw.proofs.CaseLemmas.{IsColumnStrip, masked-cases}
use Rattle.masked_draw.proofs.DotLemmas.{masked-dots, masked-same}
use Rattle.masked_draw.proofs.SceneLemmas.{gives_bottom-bounds, gives_top-bounds}

-- a note is one of some
pub record IsNoteAt (s : MaskScene) (notes : List FragmentNote) (k : ℕ) (d : Drawseg) : Type 0 where
  pub note : FragmentNote
  pub there : slice_get notes k ≡ Some note
  pub is : scene_drawseg s note ≡ d

some_of : (s : MaskScene) (o : Option FragmentNote) (d : Drawseg) → option_map (scene_drawseg s) o ≡ Some d → (note : FragmentNote) × (o ≡ Some note) × (scene_drawseg s note ≡ d)
some_of s None d e = cc
some_of s (Some note) d e = (note, refl, ap (λ (o : Option Drawseg). unwrap_or o (scene_drawseg s note)) e)

-- a drawn fragment is that of a note
note_at : (s : MaskScene) (notes : List FragmentNote) (k : ℕ) (d : Drawseg) → slice_get (scene_drawsegs s notes) k ≡ Some d → IsNoteAt s notes k d
unfolding noted_drawsegs
note_at s notes k d e =
    let found = some_of s (slice_get notes k) d (sym (slice_get-map (scene_drawseg s) notes k) ∙ e) in
    record { note = found.0; there = found.1; is = found.2 }

got_at : {X : Type 0} (xs : List X) (k : ℕ) (x : X) → slice_get xs k ≡ Some x → get_or xs k x ≡ x
got_at xs k x e = grind (arith, gets)

-- what the brush is lent, and what the pass asks of it
pub record CanPaintMasked (s : MaskScene) (notes : List FragmentNote) (sprites : List SpriteEntry) (b : BrushValue) : Type 0 where
  pub slots : HasSlots b
  pub placed : StandsInFrame s.view.now.shape b.state.canvas
  pub textures : b.tools.textures ≡ s.textures.now
  pub whole : (k : ℕ) (note : FragmentNote) → slice_get notes k ≡ Some note → IsWholeNote s.view.now.shape s.openings.now note
  pub listed : All (IsListed b.tools.dir.lumps s.textures.now b.state.cache (scene_lists s)) notes
  pub columns : AllPass (lies_within s.view.now.shape.width) sprites
  pub lumps : AllPass (has_lump_below (length b.tools.dir.lumps)) sprites

module _ (s : MaskScene) (notes : List FragmentNote) (sprites : List SpriteEntry) (b : BrushValue) (can : CanPaintMasked s notes sprites b) where
  listed_at : (k : ℕ) (note : FragmentNote) → slice_get notes k ≡ Some note → IsListed b.tools.dir.lumps s.textures.now b.state.cache (scene_lists s) note
  listed_at k note e =
      let IsListedNote : FragmentNote → Type 0 = IsListed b.tools.dir.lumps s.textures.now b.state.cache (scene_lists s) in
      subst IsListedNote (got_at notes k note e) (All-get_or IsListedNote notes k note (slice_get_within notes k note e) can.listed)

  is_masked : (o : Option ℕ) → is_some o ≡ true → IsSome o
  is_masked o e = e

  -- a masked column of a note
  note_taken : (k : ℕ) (note : FragmentNote) (x : ℕ) → slice_get notes k ≡ Some note → is_some note.masked ≡ true → note.first ≤ x → x ≤ note.last →
      CanTake b (Middle (masked_column_strip s.view.now k (scene_drawseg s note) x))
  unfolding masked_column_strip noted_drawseg middle_masked
  note_taken k note x e masked first last =
      let whole = can.whole k note e in
      let drawn = (listed_at k note e).masked (is_masked note.masked masked) in
      let inside = whole.within in
      let top = whole.top_rows x first last (whole.masked_top (is_masked note.masked masked)) in
      let bottom = whole.bottom_rows x first last (whole.masked_bottom (is_masked note.masked masked)) in
      record {
        slots = can.slots;
        texture = rw can.textures drawn.texture;
        single = rw can.textures drawn.single;
        column = (omega (arith, inside, last, can.placed.columns), can.placed.rows);
        clips = record { least_top = top.0; greatest_top = top.1; least_bottom = bottom.0; greatest_bottom = bottom.1 };
      }

  fragments_taken : TakesFragments CanTake b s.view.now (scene_drawsegs s notes)
  unfolding noted_drawseg
  fragments_taken = record {
    at = λ k d e. record {
      each = λ masked x first last.
          let at = note_at s notes k d e in
          let OfFragment : Drawseg → Type 0 = λ d. d.masked ≡ true → d.first ≤ x → x ≤ d.last → CanTake b (Middle (masked_column_strip s.view.now k d x)) in
          subst OfFragment at.is (λ masked first last. note_taken k at.note x at.there masked first last) masked first last;
    };
  }

  -- the clips of a sprite keep to the view
  lowest : minus_one ≤ℤ greatest_clip
  unfolding greatest_clip
  lowest = grind (arith, ints)

  least_height : (n : ℕ) → least_clip ≤ℤ pos n
  unfolding least_clip
  least_height n = grind (arith, ints)

  refl_le : (z : ℤ) → z ≤ℤ z
  refl_le z = grind (arith, ints)

  some_between : (clip : Drawseg → ℤ) (low without high : ℤ) (k : ℕ) (d : Option Drawseg) → slice_get (scene_drawsegs s notes) k ≡ d → low ≤ℤ without → without ≤ℤ high →
      ((note : FragmentNote) → slice_get notes k ≡ Some note → (low ≤ℤ clip (scene_drawseg s note)) × (clip (scene_drawseg s note) ≤ℤ high)) → (low ≤ℤ clip_of_some clip without d) × (clip_of_some clip without d ≤ℤ high)
  unfolding clip_of_some
  some_between clip low without high k None e a c each = (a, c)
  some_between clip low without high k (Some d) e a c each =
      let at = note_at s notes k d e in
      let Within : Drawseg → Type 0 = λ d. (low ≤ℤ clip d) × (clip d ≤ℤ high) in
      subst Within at.is (each at.note at.there)

  clip_between : (test : Drawseg → Bool) (clip : Drawseg → ℤ) (low without high : ℤ) (o : Option ℕ) → low ≤ℤ without → without ≤ℤ high →
      ((k : ℕ) (note : FragmentNote) → o ≡ Some k → slice_get notes k ≡ Some note → (low ≤ℤ clip (scene_drawseg s note)) × (clip (scene_drawseg s note) ≤ℤ high)) →
      (low ≤ℤ clip_of_number clip without (scene_drawsegs s notes) o) × (clip_of_number clip without (scene_drawsegs s notes) o ≤ℤ high)
  unfolding clip_of_number
  clip_between test clip low without high None a c each = (a, c)
  clip_between test clip low without high (Some k) a c each = some_between clip low without high k (slice_get (scene_drawsegs s notes) k) refl a c (λ note there. each k note refl there)

  gives_at : (test : Drawseg → Bool) (k : ℕ) (note : FragmentNote) → greatest_that test (scene_drawsegs s notes) ≡ Some k → slice_get notes k ≡ Some note → test (scene_drawseg s note) ≡ true
  unfolding greatest_that passes_at noted_drawsegs
  gives_at test k note e g =
      let found = greatest-is (λ j. passes_at test (slice_get (scene_drawsegs s notes) j)) (length (scene_drawsegs s notes)) k e in
      sym (ap (passes_at test) (slice_get-map (scene_drawseg s) notes k ∙ ap (option_map (scene_drawseg s)) g)) ∙ found.1

  sprite_clips : (e : SpriteEntry) (x : ℕ) → HasClipsIn s.view.now.shape.height (sprite_masked s.view.now (scene_drawsegs s notes) e x)
  unfolding sprite_masked sprite_top sprite_bottom
  sprite_clips e x =
      let height = s.view.now.shape.height in
      let top = clip_between (gives_top e x) (λ d. d.top_clip x) minus_one minus_one greatest_clip (greatest_that (gives_top e x) (scene_drawsegs s notes)) (refl_le minus_one) lowest
      (λ k note g there. gives_top-bounds s note e x (can.whole k note there) (gives_at (gives_top e x) k note g there)) in
      let bottom = clip_between (gives_bottom e x) (λ d. d.bottom_clip x) least_clip (pos height) (pos height) (greatest_that (gives_bottom e x) (scene_drawsegs s notes)) (least_height height) (refl_le (pos height))
      (λ k note g there. gives_bottom-bounds s note e x (can.whole k note there) (gives_at (gives_bottom e x) k note g there)) in
      record { least_top = top.0; greatest_top = top.1; least_bottom = bottom.0; greatest_bottom = bottom.1 }

  in_view : (first last : ℤ) (width : ℕ) → int_le (pos 0) first ≡ true → int_lt last (pos width) ≡ true → int_lt last first ≡ false → (natural first ≤ natural last) × (natural last < width)
  unfolding natural
  in_view (pos m) (pos n) width a c o = (grind (arith, ints), grind (arith, ints))
  in_view (negsuc m) last width a c o = absurd (grind (arith, ints))
  in_view (pos m) (negsuc n) width a c o = absurd (grind (arith, ints))

  within_of : (e : SpriteEntry) → Contains sprites e → lies_within s.view.now.shape.width e ≡ true
  within_of e among = subst (λ (x : SpriteEntry). lies_within s.view.now.shape.width x ≡ true) among.2 (All-get_or (λ (x : SpriteEntry). lies_within s.view.now.shape.width x ≡ true) sprites among.0 e among.1 can.columns)

  lump_of : (e : SpriteEntry) → Contains sprites e → has_lump_below (length b.tools.dir.lumps) e ≡ true
  lump_of e among = subst (λ (x : SpriteEntry). has_lump_below (length b.tools.dir.lumps) x ≡ true) among.2 (All-get_or (λ (x : SpriteEntry). has_lump_below (length b.tools.dir.lumps) x ≡ true) sprites among.0 e among.1 can.lumps)

  sprite_taken : (e : SpriteEntry) → Contains sprites e → TakesSprite CanTake b s.view.now (scene_drawsegs s notes) e
  unfolding shown_sprite sprite_strip lies_within has_lump_below
  sprite_taken e among some =
      let bounds = and_parts (int_le (pos 0) e.first) (int_lt e.last (pos s.view.now.shape.width)) (within_of e among) in
      let columns = in_view e.first e.last s.view.now.shape.width bounds.0 bounds.1 some in
      record {
        slots = can.slots;
        lump = ltb-true e.lump (length b.tools.dir.lumps) (lump_of e among);
        columns = record {
          ordered = columns.0;
          last = (omega (arith, columns.1, can.placed.columns), can.placed.rows);
          clips = λ x first last.
              let back : natural e.first + (x - natural e.first) ≡ x = omega (arith, first) in
              let n : ℕ = x - natural e.first in
              let Clips : ℕ → Type 0 = λ x. HasClipsIn s.view.now.shape.height (picture_masked (shown_sprite s.view.now (scene_drawsegs s notes) e) x) in
              subst Clips back (subst (HasClipsIn s.view.now.shape.height) (sym (masked-same s.view.now (scene_drawsegs s notes) e n (omega (arith, first, last)))) (sprite_clips e (natural e.first + n)));
        };
      }

  -- it takes the strips of the pass
  pub pass-taken : TakesMasked CanTake b s.view.now (scene_drawsegs s notes) sprites
  pass-taken = record { fragments = fragments_taken; sprites = sprite_taken }

-- what the strips show
column_shown : (s : MaskScene) (notes : List FragmentNote) (es : List SpriteEntry) (number : ℕ) (own : ℤ) (strip : Strip) (column : IsColumnStrip s.view.now (scene_drawsegs s notes) strip) →
    IsStripColumn (Middle (masked_column_strip s.view.now column.number column.fragment column.x)) number own → IsNotedMiddle (scene_lists s) s.openings.now notes number own
unfolding masked_column_strip noted_drawseg
column_shown s notes es number own strip column is =
    let at = note_at s notes column.number column.fragment column.there in
    let OfFragment : Drawseg → Type 0 = λ d. d.masked ≡ true → d.first ≤ column.x → column.x ≤ d.last → number ≡ d.middle → own ≡ d.column column.x → IsMiddleColumn (scene_lists s) s.openings.now at.note number own in
    record {
      note = at.note;
      among = (column.number, slice_get_within notes column.number at.note at.there, got_at notes column.number at.note at.there);
      is = subst OfFragment at.is (λ masked first last texture saved. record { masked = masked; texture = texture; x = column.x; first = first; last = last; is = saved })
          column.masked column.first column.last is.0 is.1;
    }

pub columns-shown : (s : MaskScene) (notes : List FragmentNote) (es : List SpriteEntry) (number : ℕ) (own : ℤ) → ShowsColumn (masked_strips s.view.now (scene_drawsegs s notes) es) number own → IsNotedMiddle (scene_lists s) s.openings.now notes number own
columns-shown s notes es number own shows =
    elim (masked-cases s.view.now (scene_drawsegs s notes) es shows.strip shows.among) [
      | inl column ↦ column_shown s notes es number own shows.strip column (subst (λ (strip : Strip). IsStripColumn strip number own) (sym column.is) shows.is)
      | inr sprite ↦ absurd (subst (λ (strip : Strip). IsStripColumn strip number own) (sym sprite.is) shows.is)
    ]

ordered_by : (first last : ℤ) → int_lt last first ≡ false → first ≤ℤ last
ordered_by first last h = grind (arith, ints)

pub lumps-shown : (s : MaskScene) (notes : List FragmentNote) (sprites : List SpriteEntry) (lump : ℕ) → ShowsLump (masked_strips s.view.now (scene_drawsegs s notes) (draw_order sprites)) lump → IsSpriteLump sprites lump
unfolding shown_sprite sprite_strip
lumps-shown s notes sprites lump shows =
    elim (masked-cases s.view.now (scene_drawsegs s notes) (draw_order sprites) shows.strip shows.among) [
      | inl column ↦ absurd (subst (λ (strip : Strip). IsStripLump strip lump) (sym column.is) shows.is)
      | inr sprite ↦
          (let e = sprite.sprite in
          record {
            sprite = e;
            among = subst (Contains sprites) sprite.among.2 (All-permutation (Contains sprites) sprites (draw_order sprites) (draw_order-permutation sprites) (All-contains_itself sprites) sprite.among.0 e sprite.among.1);
            is = (subst (λ (strip : Strip). IsStripLump strip lump) (sym sprite.is) shows.is, ordered_by e.first e.last sprite.some);
          })
    ]

-- so a call that paints them draws the pass
pub pass-painted : {mark : Painter → ℕ → ℕ} (s : MaskScene) (notes : List FragmentNote) (sprites : List SpriteEntry) (t : PaintTools) {old new : PaintState} {result : Result (Unit {0}) CacheFault} →
    PaintsStrips mark t (masked_strips s.view.now (scene_drawsegs s notes) (draw_order sprites)) old new result →
    Paints cache_fault mark t (IsNotedMiddle (scene_lists s) s.openings.now notes) (IsSpriteLump sprites) (λ (q : Unit {0}). Unit {0})
    (λ contents q. masked_dots s.view.now (painted_art contents t) (scene_drawsegs s notes) (draw_order sprites)) old new result
pass-painted s notes sprites t one =
    paints-same _ (λ contents q is. masked-dots s.view.now (painted_art contents t) (scene_drawsegs s notes) (draw_order sprites))
    (paints-wider (columns-shown s notes (draw_order sprites)) (lumps-shown s notes sprites) one)
