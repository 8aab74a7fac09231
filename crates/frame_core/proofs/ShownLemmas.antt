-- Laws of the things of a sector as their vissprites are listed, and of the planes of a view with their makers.
use Rattle.picture_rules.proofs.Common.{[], and_parts, ap, arith, at_drop_all, at_drop_more, Bool, clamps, cond, count_by, count_by_more_no, count_by_more_yes, drop, false, get_or, int_le, int_lt, ints, is_negative, is_some, length, List, map, map-append, None, not, Option, option_map, pos, refl, Some, subst, suc, sym, take, take_all, true, zero, zip, ℕ, ℤ, ◌++◌, ◌+◌, ◌<◌, ◌||◌, ◌∙◌, ◌∷◌, ◌≡◌, ◌≤ℤ◌, ◌≤◌}
use Rattle.frame_core.specs.Rules.{AreWide, FRAME_WIDTH, ListedPlane, ListedSprite, Placed, PlacedThing, Plane, PlaneMaker, Scene, SceneValue, Seen, Shape, Shape5, SpriteEntry, ViewValue, column, entry_for, entry_of, entry_within, greater_word, listed_plane, listed_sprite, marked_columns, misses_view, picked, picture_first, picture_last, placed_of, project, things_of}
use Rattle.visplanes.specs.Planes.{no_plane, plane_at}
use Rattle.vissprites.specs.Bounds.{lies_within}
use Rattle.vissprites.proofs.BoundLemmas.{entry_for-lies_within}
use Rattle.sound_scene.specs.Pictures.{drawn_shape, scene_of}
use Rattle.frame_core.specs.ViewLists.{WalkListValue, listed_planes, seen_sprite, shape_sprite, thing_sprite, with_entered, with_sprite, with_sprites}

-- one thing more, and none left
pub sprites_more : (v : ViewValue) (scene : Scene) (sector : ℕ) (list next : WalkListValue) (s : Option ListedSprite) (things : List PlacedThing) (i : ℕ) (d : PlacedThing) → i < length things →
    s ≡ thing_sprite v scene sector (get_or things i d) → next ≡ with_sprite list s → with_sprites v scene sector next (drop (i + 1) things) ≡ with_sprites v scene sector list (drop i things)
unfolding with_sprites
sprites_more v scene sector list next s things i d l is made =
    ap (λ (new : WalkListValue). with_sprites v scene sector new (drop (i + 1) things)) (made ∙ ap (with_sprite list) is) ∙ sym (at_drop_more (λ ts. with_sprites v scene sector list ts) things i d l)

pub sprites_end : (v : ViewValue) (scene : Scene) (sector : ℕ) (list : WalkListValue) (things : List PlacedThing) (i : ℕ) → length things ≤ i → with_sprites v scene sector list (drop i things) ≡ list
unfolding with_sprites
sprites_end v scene sector list things i l = at_drop_all (λ ts. with_sprites v scene sector list ts) things i l

-- a thing, seen or not
pub thing_listed : (v : ViewValue) (scene : Scene) (sector : ℕ) (thing : PlacedThing) (placed : Placed) (seen : Option Seen) (s : Option ListedSprite) → placed ≡ placed_of v scene sector thing → seen ≡ project v placed →
    s ≡ seen_sprite v scene thing placed seen → s ≡ thing_sprite v scene sector thing
unfolding thing_sprite
thing_listed v scene sector thing placed seen s e f g = g ∙ ap (seen_sprite v scene thing placed) f ∙ ap (λ (p : Placed). seen_sprite v scene thing p (project v p)) e

pub thing_unlisted : (v : ViewValue) (scene : Scene) (sector : ℕ) (thing : PlacedThing) (placed : Placed) → placed ≡ placed_of v scene sector thing → None ≡ project v placed → None ≡ thing_sprite v scene sector thing
unfolding seen_sprite
thing_unlisted v scene sector thing placed e f = thing_listed v scene sector thing placed None None e f refl

-- a thing that is seen, with a picture and without one
pub seen_listed : (bytes : ℕ → List ℕ) (v : ViewValue) (s : SceneValue) (thing : PlacedThing) (placed : Placed) (seen : Seen) (shape : Shape) (drawn : Shape5) (listed : Option ListedSprite) →
    Some shape ≡ picked s.book thing.sprite thing.frame seen.rotation → drawn ≡ drawn_shape shape → listed ≡ shape_sprite v thing placed seen (Some drawn) → listed ≡ seen_sprite v (scene_of bytes s) thing placed (Some seen)
unfolding seen_sprite scene_of
seen_listed bytes v s thing placed seen shape drawn listed e f g =
    g ∙ ap (λ (d : Shape5). shape_sprite v thing placed seen (Some d)) f ∙ ap (λ (o : Option Shape). shape_sprite v thing placed seen (option_map drawn_shape o)) e

pub seen_unlisted : (bytes : ℕ → List ℕ) (v : ViewValue) (s : SceneValue) (thing : PlacedThing) (placed : Placed) (seen : Seen) → None ≡ picked s.book thing.sprite thing.frame seen.rotation →
    None ≡ seen_sprite v (scene_of bytes s) thing placed (Some seen)
unfolding seen_sprite shape_sprite scene_of
seen_unlisted bytes v s thing placed seen e = ap (λ (o : Option Shape). shape_sprite v thing placed seen (option_map drawn_shape o)) e

-- a picture that does not miss the view, and one that does
pub shape_listed : (v : ViewValue) (thing : PlacedThing) (placed : Placed) (seen : Seen) (shape : Shape5) (e : SpriteEntry) (s : ListedSprite) → Some e ≡ entry_for v 0 placed seen shape → s ≡ listed_sprite e thing →
    Some s ≡ shape_sprite v thing placed seen (Some shape)
unfolding shape_sprite
shape_listed v thing placed seen shape e s h is = ap Some is ∙ ap (option_map (λ e. listed_sprite e thing)) h

pub shape_unlisted : (v : ViewValue) (thing : PlacedThing) (placed : Placed) (seen : Seen) (shape : Shape5) → None ≡ entry_for v 0 placed seen shape → None ≡ shape_sprite v thing placed seen (Some shape)
unfolding shape_sprite
shape_unlisted v thing placed seen shape h = ap (option_map (λ e. listed_sprite e thing)) h

-- the columns of an entry end with the frame
first_bound : (width : ℕ) (a : ℤ) → int_lt (pos width) a ≡ false → greater_word a (pos 0) ≤ℤ pos width
unfolding greater_word
first_bound width a h = grind (arith, ints, clamps)

either_false : (a b : Bool) → (a || b) ≡ false → a ≡ false
either_false true b h = absurd (cc)
either_false false b h = refl

wider : (z : ℤ) (width most : ℕ) → z ≤ℤ pos width → width ≤ most → z ≤ℤ pos most
wider z width most h l = omega (arith, ints, h, l)

first_of : (v : ViewValue) (number : ℕ) (thing : Placed) (seen : Seen) (shape : Shape5) (a1 a2 : ℤ) (misses : Bool) (e : SpriteEntry) → misses_view v a1 a2 ≡ misses → Some e ≡ cond misses None (Some (entry_of v number thing seen shape a1 a2)) → e.first ≤ℤ pos v.shape.width
unfolding misses_view entry_of
first_of v number thing seen shape a1 a2 true e is h = absurd (cc)
first_of v number thing seen shape a1 a2 false e is h =
    let entry_is : e ≡ entry_of v number thing seen shape a1 a2 = cc in
    subst (λ (f : SpriteEntry). f.first ≤ℤ pos v.shape.width) (sym entry_is) (first_bound v.shape.width a1 (either_false (int_lt (pos v.shape.width) a1) (is_negative a2) is))

pub entry-first : (v : ViewValue) (number : ℕ) (thing : Placed) (seen : Seen) (shape : Shape5) (e : SpriteEntry) → v.shape.width ≤ FRAME_WIDTH → Some e ≡ entry_for v number thing seen shape → e.first ≤ℤ pos FRAME_WIDTH
unfolding entry_for entry_within
entry-first v number thing seen shape e l h =
    wider e.first v.shape.width FRAME_WIDTH
    (first_of v number thing seen shape (picture_first v seen shape) (picture_last v seen shape) (misses_view v (picture_first v seen shape) (picture_last v seen shape)) e refl h) l

below : (z : ℤ) (width : ℕ) → int_lt z (pos width) ≡ true → z ≤ℤ pos width
below z width h = grind (arith, ints)

pub entry-last : (v : ViewValue) (number : ℕ) (thing : Placed) (seen : Seen) (shape : Shape5) (e : SpriteEntry) → v.shape.width ≤ FRAME_WIDTH → Some e ≡ entry_for v number thing seen shape → e.last ≤ℤ pos FRAME_WIDTH
unfolding lies_within
entry-last v number thing seen shape e l h =
    let columns_in_view = and_parts (int_le (pos 0) e.first) (int_lt e.last (pos v.shape.width)) (entry_for-lies_within v number thing seen shape e (sym h)) in
    wider e.last v.shape.width FRAME_WIDTH (below e.last v.shape.width columns_in_view.1) l

-- a sector's things, where it was not entered before
pub entered-new : (bytes : ℕ → List ℕ) (v : ViewValue) (s : SceneValue) (is_known : Bool) (sector : ℕ) (list next : WalkListValue) → is_known ≡ false →
    next ≡ with_sprites v (scene_of bytes s) sector list (things_of s.placed sector) → next ≡ with_entered v (scene_of bytes s) is_known sector list
unfolding with_entered scene_of
entered-new bytes v s true sector list next e h = absurd (cc)
entered-new bytes v s false sector list next e h = h

pub entered-known : (v : ViewValue) (scene : Scene) (is_known : Bool) (sector : ℕ) (list : WalkListValue) → is_known ≡ true → list ≡ with_entered v scene is_known sector list
unfolding with_entered
entered-known v scene true sector list e = refl
entered-known v scene false sector list e = absurd (cc)

-- a plane more with its maker
abbrev no_makers : List PlaneMaker
no_makers = []

zip_none : (planes : List Plane) → zip planes no_makers ≡ []
zip_none [] = refl
zip_none (p ∷ ps) = refl

zip_more : (planes : List Plane) (makers : List PlaneMaker) (i : ℕ) (p : Plane) (m : PlaneMaker) → i < length makers → length makers ≤ length planes →
    zip planes (take i makers) ++ (get_or planes i p, get_or makers i m) ∷ [] ≡ zip planes (take (suc i) makers)
zip_more [] [] i p m l k = absurd (omega (arith, l))
zip_more [] (b ∷ bs) i p m l k = absurd (omega (arith, k))
zip_more (a ∷ cs) [] i p m l k = absurd (omega (arith, l))
zip_more (a ∷ cs) (b ∷ bs) zero p m l k = ap (λ (rest : List (Plane × PlaneMaker)). (a, b) ∷ rest) (sym (zip_none cs))
zip_more (a ∷ cs) (b ∷ bs) (suc i) p m l k = ap (λ (rest : List (Plane × PlaneMaker)). (a, b) ∷ rest) (zip_more cs bs i p m (omega (arith, l)) (omega (arith, k)))

pub planes-more : (planes : List Plane) (makers : List PlaneMaker) (i n : ℕ) (p : Plane) (m : PlaneMaker) → i + 1 ≡ n → i < length makers → length makers ≤ length planes →
    listed_planes planes (take i makers) ++ listed_plane (get_or planes i p) (get_or makers i m) ∷ [] ≡ listed_planes planes (take n makers)
unfolding listed_planes
planes-more planes makers i n p m e l k =
    let listed_pair : Plane × PlaneMaker → ListedPlane = λ both. listed_plane both.0 both.1 in
    let next : suc i ≡ n = omega (arith, e) in
    sym (map-append listed_pair (zip planes (take i makers)) ((get_or planes i p, get_or makers i m) ∷ []))
    ∙ ap (map listed_pair) (zip_more planes makers i p m l k ∙ ap (λ (j : ℕ). zip planes (take j makers)) next)

pub planes-none : (planes : List Plane) (makers : List PlaneMaker) (i : ℕ) → i ≡ 0 → [] ≡ listed_planes planes (take i makers)
unfolding listed_planes
planes-none planes makers i e =
    let listed_pair : Plane × PlaneMaker → ListedPlane = λ both. listed_plane both.0 both.1 in
    ap (map listed_pair) (sym (zip_none planes)) ∙ ap (λ (j : ℕ). map listed_pair (zip planes (take j makers))) (sym e)

pub planes-end : (planes : List Plane) (makers : List PlaneMaker) (i : ℕ) → length makers ≤ i → listed_planes planes (take i makers) ≡ listed_planes planes makers
planes-end planes makers i l = ap (listed_planes planes) (take_all i makers l)

-- a plane of a view is as wide as a frame
wide_at : (planes : List Plane) (n : ℕ) → AreWide planes → n < length planes → length (plane_at planes n).runs ≡ FRAME_WIDTH
wide_at planes n wide l = wide n no_plane l

-- a column more, without a run and with one
module _ (planes : List Plane) (n x columns : ℕ) (o : Option (ℕ × ℕ)) (b : Bool) (wide : AreWide planes) (l : n < length planes) (inside : x < FRAME_WIDTH) where
  pub columns-without : o ≡ column (plane_at planes n) x → is_some o ≡ not b → b ≡ true → columns ≡ count_by is_some (take x (plane_at planes n).runs) → columns ≡ count_by is_some (take (x + 1) (plane_at planes n).runs)
  unfolding column
  columns-without e t is count =
      count ∙ sym (count_by_more_no is_some (plane_at planes n).runs x None (omega (arith, inside, wide_at planes n wide l)) (ap is_some (sym e) ∙ t ∙ ap not is))

  pub columns-with : o ≡ column (plane_at planes n) x → is_some o ≡ not b → b ≡ false → columns ≡ count_by is_some (take x (plane_at planes n).runs) → columns + 1 ≡ count_by is_some (take (x + 1) (plane_at planes n).runs)
  unfolding column
  columns-with e t is count =
      ap (λ (k : ℕ). k + 1) count ∙ sym (count_by_more_yes is_some (plane_at planes n).runs x None (omega (arith, inside, wide_at planes n wide l)) (ap is_some (sym e) ∙ t ∙ ap not is))

pub columns-all : (planes : List Plane) (n x columns : ℕ) → AreWide planes → n < length planes → FRAME_WIDTH ≤ x → columns ≡ count_by is_some (take x (plane_at planes n).runs) → columns ≡ marked_columns (plane_at planes n)
unfolding marked_columns
columns-all planes n x columns wide l end count =
    count ∙ ap (count_by is_some) (take_all x (plane_at planes n).runs (omega (arith, end, wide_at planes n wide l)))
