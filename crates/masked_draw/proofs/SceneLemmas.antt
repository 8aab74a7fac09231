-- Laws of the notes of a scene as drawn fragments, and of what the calls ask of them.
use Rattle.picture_rules.proofs.Common.{All-get_or, and_parts, ap, arith, Bool, get_or, gets, IfSome, int_lt, leb-true, length, length-map, List, nat_le, nat_tests, not, Option, option_map, pos, refl, slice_get, slice_get-map, Some, subst, true, ℕ, ℤ, ◌&&◌, ◌<◌, ◌==◌, ◌∙◌, ◌≡◌, ◌≢◌, ◌≤ℤ◌, ◌≤◌}
use Rattle.receiver_rules.specs.Receivers.{StillTakes}
use Rattle.masked_draw.specs.Rules.{AreNoted, Drawseg, FragmentNote, IsWholeNote, Lump, SpriteEntry, ViewShape, ViewValue, drawseg_has, gives_bottom, gives_top, greatest_clip, is_behind, least_clip, minus_one}
use Rattle.brush.specs.Strips.{Middle, Picture, Strip}
use Rattle.masked_draw.specs.declared.scene.MaskScene.{MaskScene}
use Rattle.masked_draw.specs.Lists.{MaskedLists, noted_drawseg, noted_drawsegs}
use Rattle.masked_draw.specs.Ready.{IsInLists, IsListed}
use Rattle.texture_build.specs.{Zones.Heap, Views.TexturesView}
use Rattle.masked_draw.specs.Scenes.{CanShow, IsInScene, scene_drawseg, scene_drawsegs}
use Rattle.masked_draw.specs.Strips.{masked_column_strip, shown_sprite}
use Rattle.masked_draw.specs.Takes.{TakesColumns, TakesFragments, TakesMasked}
use Rattle.masked_draw.proofs.EntryLemmas.{IsSegOf}
use Rattle.masked_draw.proofs.PassedLemmas.{HasColumnsOf, ApartNotes}

-- the fragments by number
pub scene-columns : (s : MaskScene) (d : FragmentNote) → HasColumnsOf d (scene_drawseg s d)
unfolding noted_drawseg
scene-columns s d = record { first = refl; last = refl; masked = refl }

pub scene-seg : (s : MaskScene) (d : FragmentNote) → IsSegOf d (scene_drawseg s d)
unfolding noted_drawseg
scene-seg s d = record { first = refl; last = refl; has_bottom = refl; has_top = refl; bottom_height = refl; top_height = refl }

pub scene-length : (s : MaskScene) (notes : List FragmentNote) → length (scene_drawsegs s notes) ≡ length notes
unfolding noted_drawsegs
scene-length s notes = length-map notes (scene_drawseg s)

pub scene-get : (s : MaskScene) (notes : List FragmentNote) (k : ℕ) (d : FragmentNote) → slice_get notes k ≡ Some d → slice_get (scene_drawsegs s notes) k ≡ Some (scene_drawseg s d)
unfolding noted_drawsegs
scene-get s notes k d e = slice_get-map (scene_drawseg s) notes k ∙ ap (option_map (scene_drawseg s)) e

-- what the notes are
pub scene-apart : {shape : ViewShape} {notes : List FragmentNote} {openings : List ℤ} → AreNoted shape notes openings → ApartNotes notes
scene-apart noted = record { at = noted.apart }

pub scene-whole : {shape : ViewShape} {notes : List FragmentNote} {openings : List ℤ} (k : ℕ) (d : FragmentNote) → AreNoted shape notes openings → slice_get notes k ≡ Some d → IsWholeNote shape openings d
scene-whole {shape} {notes} {openings} k d noted e =
    let IsWhole : Option FragmentNote → Type 0 = λ o. IfSome o (IsWholeNote shape openings) in subst IsWhole e (noted.whole k)

get_at : {X : Type 0} (xs : List X) (k : ℕ) (x : X) → slice_get xs k ≡ Some x → get_or xs k x ≡ x
get_at xs k x e = grind (arith, gets)

-- a note's entries are in the lists
pub note-listed : {s : MaskScene} {notes : List FragmentNote} {marks : List Bool} (k : ℕ) (d : FragmentNote) → CanShow s notes marks → slice_get notes k ≡ Some d → k < length notes → IsInScene s d
note-listed {s} {notes} k d can e l = subst (IsInScene s) (get_at notes k d e) (All-get_or (IsInScene s) notes k d l can.listed)

-- what a call asks it may ask again
pub can_show-later : {s : MaskScene} {notes : List FragmentNote} {old new : List Bool} → length new ≡ length old → CanShow s notes old → CanShow s notes new
can_show-later same can = record { width = can.width; noted = can.noted; listed = can.listed; room = rw same can.room }

-- the strips that it takes of fragments, it takes of each
pub note-taken : {S : Type 0} {takes : S → Strip → Type 0} {brush : S} (s : MaskScene) (notes : List FragmentNote) (k : ℕ) (d : FragmentNote) → slice_get notes k ≡ Some d →
    TakesFragments takes brush s.view.now (scene_drawsegs s notes) → TakesColumns takes brush s.view.now k (scene_drawseg s d)
note-taken s notes k d e taken = taken.at k (scene_drawseg s d) (scene-get s notes k d e)

-- and after strips that it was asked for
pub columns-later : {S : Type 0} {takes : S → Strip → Type 0} {a b : S} {v : ViewValue} {k : ℕ} {d : Drawseg} → StillTakes takes a b → TakesColumns takes a v k d → TakesColumns takes b v k d
columns-later {v = v} {k} {d} still taken = record { each = λ is x from to. still.each (Middle (masked_column_strip v k d x)) (taken.each is x from to) }

pub fragments-later : {S : Type 0} {takes : S → Strip → Type 0} {a b : S} {v : ViewValue} {ds : List Drawseg} → StillTakes takes a b → TakesFragments takes a v ds → TakesFragments takes b v ds
fragments-later still taken = record { at = λ k d e. columns-later still (taken.at k d e) }

pub masked-later : {S : Type 0} {takes : S → Strip → Type 0} {a b : S} {v : ViewValue} {ds : List Drawseg} {sprites : List SpriteEntry} → StillTakes takes a b → TakesMasked takes a v ds sprites → TakesMasked takes b v ds sprites
masked-later {v = v} {ds} still taken =
    record { fragments = fragments-later still taken.fragments; sprites = λ e h some. still.each (Picture (shown_sprite v ds e)) (taken.sprites e h some) }

pub still-then : {S : Type 0} {takes : S → Strip → Type 0} {a b c : S} → StillTakes takes a b → StillTakes takes b c → StillTakes takes a c
still-then first second = record { each = λ strip h. second.each strip (first.each strip h) }

-- a clip that a fragment gives keeps to the view
not_zero : (n : ℕ) → not (n == 0) ≡ true → n ≢ 0
not_zero n h e = absurd (grind (arith, nat_tests))

has_parts : (a : Drawseg) (x : ℕ) → drawseg_has a x ≡ true → (a.first ≤ x) × (x ≤ a.last)
unfolding drawseg_has
has_parts a x h = let bounds = and_parts (nat_le a.first x) (nat_le x a.last) h in (leb-true a.first x bounds.0, leb-true x a.last bounds.1)

given_parts : (a : Drawseg) (e : SpriteEntry) (x : ℕ) (has meets : Bool) → (drawseg_has a x && (not (is_behind a e) && (has && meets))) ≡ true → ((a.first ≤ x) × (x ≤ a.last)) × (has ≡ true)
given_parts a e x has meets g =
    let has_column = and_parts (drawseg_has a x) (not (is_behind a e) && (has && meets)) g in
    let in_front = and_parts (not (is_behind a e)) (has && meets) has_column.1 in
    (has_parts a x has_column.0, (and_parts has meets in_front.1).0)

pub gives_bottom-bounds : (s : MaskScene) (d : FragmentNote) (e : SpriteEntry) (x : ℕ) → IsWholeNote s.view.now.shape s.openings.now d → gives_bottom e x (scene_drawseg s d) ≡ true →
    (least_clip ≤ℤ (scene_drawseg s d).bottom_clip x) × ((scene_drawseg s d).bottom_clip x ≤ℤ pos s.view.now.shape.height)
unfolding gives_bottom noted_drawseg
gives_bottom-bounds s d e x whole g =
    let seg = scene_drawseg s d in
    let bottom_is_clipped = given_parts seg e x seg.has_bottom (int_lt e.gz seg.bottom_height) g in
    whole.bottom_rows x bottom_is_clipped.0.0 bottom_is_clipped.0.1 (whole.bottom (not_zero _ bottom_is_clipped.1))

pub gives_top-bounds : (s : MaskScene) (d : FragmentNote) (e : SpriteEntry) (x : ℕ) → IsWholeNote s.view.now.shape s.openings.now d →
    gives_top e x (scene_drawseg s d) ≡ true → (minus_one ≤ℤ (scene_drawseg s d).top_clip x) × ((scene_drawseg s d).top_clip x ≤ℤ greatest_clip)
unfolding gives_top noted_drawseg
gives_top-bounds s d e x whole g =
    let seg = scene_drawseg s d in
    let top_is_clipped = given_parts seg e x seg.has_top (int_lt seg.top_height e.gzt) g in
    whole.top_rows x top_is_clipped.0.0 top_is_clipped.0.1 (whole.top (not_zero _ top_is_clipped.1))

-- a note whose middle texture may be drawn has its entries in the lists
pub listed-in : {lumps : List Lump} {textures : TexturesView} {z : Heap} {lists : MaskedLists} {d : FragmentNote} → IsListed lumps textures z lists d → IsInLists (length textures.lists.textures) lists d
listed-in one = record {
  seg = one.seg;
  front = one.front;
  side = one.side;
  middle = one.middle;
  masked = λ is. let of_middle = one.masked is in record { back = of_middle.back; some = of_middle.some; among = of_middle.among };
}

-- what the value of a brush takes, the brush does
pub taken-by : {P S : Type 0} {takes : S → Strip → Type 0} {v : ViewValue} {ds : List Drawseg} {es : List SpriteEntry} (value : P → S) (brush : P) → TakesMasked takes (value brush) v ds es → TakesMasked (λ (p : P). takes (value p)) brush v ds es
taken-by value brush taken = record {
  fragments = record { at = λ k d e. record { each = (taken.fragments.at k d e).each } };
  sprites = taken.sprites;
}
