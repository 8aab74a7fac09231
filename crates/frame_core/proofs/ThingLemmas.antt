-- Laws of `with_things`: one thing more, and a thing of a scene.
use Rattle.picture_rules.proofs.Common.{[], All, ap, arith, at_drop_all, at_drop_more, Bool, cond, drop, false, find, get_or, get_or-append-add, get_or_append_left, get_or_from_slice_get, length, length-append, length-map, List, map, None, Option, option_and_then, option_map, pos, refl, slice_get, slice_get_within, Some, subst, sym, true, ℕ, ◌++◌, ◌+◌, ◌<◌, ◌∙◌, ◌∷◌, ◌≡◌, ◌≤◌}
use Rattle.std.proofs.Math.ListN.{get_or-map}
use Rattle.frame_core.specs.Rules.{Frame, Placed, PlacedThing, Scene, SceneValue, Seen, Shape, Shape5, SpriteEntry, ViewValue, add_entry, book_lumps, is_frame, joined_lists, light_number, picked, placed_of, project, shape_lumps, surface_at, with_seen, with_shape, with_thing, with_things}
use Rattle.picture_rules.proofs.Laws.{joined_lists-cons}
use Rattle.sound_scene.specs.Pictures.{drawn_shape, lists_of, scene_of}

-- what is below n
abbrev AllBelow : ℕ → List ℕ → Type 0
AllBelow n lumps = All (λ lump. lump < n) lumps

left_below : (n : ℕ) (xs ys : List ℕ) → AllBelow n (xs ++ ys) → AllBelow n xs
left_below n xs ys below = λ i d l. subst (λ (lump : ℕ). lump < n) (get_or_append_left xs ys d i l) (below i d (grind (arith, length-append)))

right_below : (n : ℕ) (xs ys : List ℕ) → AllBelow n (xs ++ ys) → AllBelow n ys
right_below n xs ys below = λ i d l. subst (λ (lump : ℕ). lump < n) (get_or-append-add xs ys i d) (below (length xs + i) d (grind (arith, length-append)))

-- the frame that is first found has the lumps of its shapes in the book
first_or_later : (n : ℕ) (passes : Bool) (first frame : Frame) (later : Option Frame) → cond passes (Some first) later ≡ Some frame → AllBelow n (shape_lumps first) →
    (later ≡ Some frame → AllBelow n (shape_lumps frame)) → AllBelow n (shape_lumps frame)
first_or_later n true first frame later e below after = let frame_is : first ≡ frame = cc in subst (λ (f : Frame). AllBelow n (shape_lumps f)) frame_is below
first_or_later n false first frame later e below after = after e

frame_below : (n : ℕ) (test : Frame → Bool) (book : List Frame) (frame : Frame) → find test book ≡ Some frame → AllBelow n (joined_lists shape_lumps book) → AllBelow n (shape_lumps frame)
frame_below n test [] frame e below = absurd (cc)
frame_below n test (first ∷ rest) frame e below =
    let lumps_below : AllBelow n (shape_lumps first ++ joined_lists shape_lumps rest) = subst (AllBelow n) (joined_lists-cons shape_lumps first rest) below in
    first_or_later n (test first) first frame (find test rest) e (left_below n (shape_lumps first) (joined_lists shape_lumps rest) lumps_below)
    (λ later. frame_below n test rest frame later (right_below n (shape_lumps first) (joined_lists shape_lumps rest) lumps_below))

shape_below : (n rotation : ℕ) (shapes : List Shape) (shape : Shape) → slice_get shapes rotation ≡ Some shape → AllBelow n (map (λ (s : Shape). s.lump.0) shapes) → shape.lump.0 < n
shape_below n rotation shapes shape e below =
    let inside : rotation < length shapes = slice_get_within shapes rotation shape e in
    let lump_below = below rotation (shape.lump.0) (subst (λ (m : ℕ). rotation < m) (sym (length-map shapes (λ (s : Shape). s.lump.0))) inside) in
    subst (λ (lump : ℕ). lump < n) (get_or-map (λ (s : Shape). s.lump.0) shapes rotation shape ∙ ap (λ (s : Shape). s.lump.0) (get_or_from_slice_get shapes rotation shape shape e)) lump_below

picked_from : (n rotation : ℕ) (frame : Option Frame) (shape : Shape) → option_and_then (λ (f : Frame). slice_get f.shapes rotation) frame ≡ Some shape →
    ((f : Frame) → frame ≡ Some f → AllBelow n (shape_lumps f)) → shape.lump.0 < n
unfolding shape_lumps
picked_from n rotation None shape e below = absurd (cc)
picked_from n rotation (Some f) shape e below = shape_below n rotation f.shapes shape e (below f refl)

-- the lump of a picture that is picked is one of the book's
picked_below : (n : ℕ) (book : List Frame) (sprite : List ℕ) (letter rotation : ℕ) (shape : Shape) → picked book sprite letter rotation ≡ Some shape → All (λ lump. lump < n) (book_lumps book) → shape.lump.0 < n
unfolding picked book_lumps
picked_below n book sprite letter rotation shape e below =
    picked_from n rotation (find (is_frame sprite letter) book) shape e (λ f is. frame_below n (is_frame sprite letter) book f is below)

pub drawn_below : (n : ℕ) (book : List Frame) (sprite : List ℕ) (letter rotation : ℕ) (shape : Shape) (drawn : Shape5) → Some shape ≡ picked book sprite letter rotation → drawn ≡ drawn_shape shape →
    All (λ lump. lump < n) (book_lumps book) → drawn.lump < n
drawn_below n book sprite letter rotation shape drawn e f below =
    subst (λ (lump : ℕ). lump < n) (sym (ap (λ (d : Shape5). d.lump) f)) (picked_below n book sprite letter rotation shape (sym e) below)

-- a thing that is seen, with a picture and without one
pub seen_with : (bytes : ℕ → List ℕ) (v : ViewValue) (s : SceneValue) (entries next : List SpriteEntry) (thing : PlacedThing) (placed : Placed) (seen : Seen) (shape : Shape) (drawn : Shape5) →
    Some shape ≡ picked s.book thing.sprite thing.frame seen.rotation → drawn ≡ drawn_shape shape → next ≡ add_entry v entries placed seen drawn →
    next ≡ with_seen v (scene_of bytes s) entries thing placed (Some seen)
unfolding with_seen with_shape scene_of
seen_with bytes v s entries next thing placed seen shape drawn e f g =
    g ∙ ap (add_entry v entries placed seen) f ∙ ap (λ (o : Option Shape). with_shape v entries placed seen (option_map drawn_shape o)) e

pub seen_without : (bytes : ℕ → List ℕ) (v : ViewValue) (s : SceneValue) (entries : List SpriteEntry) (thing : PlacedThing) (placed : Placed) (seen : Seen) →
    None ≡ picked s.book thing.sprite thing.frame seen.rotation → entries ≡ with_seen v (scene_of bytes s) entries thing placed (Some seen)
unfolding with_seen with_shape scene_of
seen_without bytes v s entries thing placed seen e = ap (λ (o : Option Shape). with_shape v entries placed seen (option_map drawn_shape o)) e

-- a thing with the light of its sector
pub placed_with : (bytes : ℕ → List ℕ) (v : ViewValue) (s : SceneValue) (sector light : ℕ) (thing : PlacedThing) (placed : Placed) →
    placed ≡ record { x = thing.x; y = thing.y; z = thing.z; angle = thing.angle; bright = thing.bright; light = light } → light ≡ light_number v (surface_at (lists_of s) sector).light (pos 0) →
    placed ≡ placed_of v (scene_of bytes s) sector thing
unfolding placed_of scene_of
placed_with bytes v s sector light thing placed e lit =
    e ∙ ap (λ (l : ℕ). record { x = thing.x; y = thing.y; z = thing.z; angle = thing.angle; bright = thing.bright; light = l }) lit

-- a thing, seen or not
pub thing_with : (v : ViewValue) (scene : Scene) (sector : ℕ) (entries next : List SpriteEntry) (thing : PlacedThing) (placed : Placed) (seen : Option Seen) →
    placed ≡ placed_of v scene sector thing → seen ≡ project v placed → next ≡ with_seen v scene entries thing placed seen → next ≡ with_thing v scene sector entries thing
unfolding with_thing
thing_with v scene sector entries next thing placed seen e f g =
    g ∙ ap (with_seen v scene entries thing placed) f ∙ ap (λ (p : Placed). with_seen v scene entries thing p (project v p)) e

pub thing_without : (v : ViewValue) (scene : Scene) (sector : ℕ) (entries : List SpriteEntry) (thing : PlacedThing) (placed : Placed) →
    placed ≡ placed_of v scene sector thing → None ≡ project v placed → entries ≡ with_thing v scene sector entries thing
unfolding with_seen
thing_without v scene sector entries thing placed e f = thing_with v scene sector entries entries thing placed None e f refl

-- one thing more
pub things_more : (v : ViewValue) (scene : Scene) (sector : ℕ) (entries next : List SpriteEntry) (things : List PlacedThing) (i : ℕ) (d : PlacedThing) → i < length things →
    next ≡ with_thing v scene sector entries (get_or things i d) → with_things v scene sector next (drop (i + 1) things) ≡ with_things v scene sector entries (drop i things)
unfolding with_things
things_more v scene sector entries next things i d l e =
    ap (λ (es : List SpriteEntry). with_things v scene sector es (drop (i + 1) things)) e ∙ sym (at_drop_more (λ ts. with_things v scene sector entries ts) things i d l)

-- no thing is left
pub things_end : (v : ViewValue) (scene : Scene) (sector : ℕ) (entries : List SpriteEntry) (things : List PlacedThing) (i : ℕ) → length things ≤ i → with_things v scene sector entries (drop i things) ≡ entries
unfolding with_things
things_end v scene sector entries things i l = at_drop_all (λ ts. with_things v scene sector entries ts) things i l
