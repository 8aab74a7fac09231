-- The pictures of the vissprites of a view are those of its scene's book.
use Rattle.picture_rules.proofs.Common.{[], All-from_recursion, AllByRecursion, Bool, cond, eq-eqb, false, find, get_or, length, List, list_any, list_any_at, map, nat_lt, None, Option, option_and_then, option_map, recursion_from_All, refl, slice_get, Some, subst, suc, sym, true, zero, ℕ, ◌++◌, ◌<◌, ◌==◌, ◌∷◌, ◌≡◌}
use Rattle.frame_core.specs.Rules.{Event, Frame, MAX_VISSPRITES, Placed, PlacedThing, SceneValue, Seen, Shape, Shape5, SpriteEntry, ViewValue, add_entry, book_lumps, entry_for, entry_of, entry_within, is_frame, joined_lists, picked, placed_of, project, sectors_entered, shape_lumps, view_entries, with_entry, with_sectors, with_seen, with_shape, with_thing, with_things}
use Rattle.picture_rules.proofs.Laws.{joined_lists-cons}
use Rattle.sound_scene.specs.Pictures.{drawn_shape, scene_of}

-- each number of a list is found in it
each_found : (xs : List ℕ) → AllByRecursion (λ (n : ℕ). list_any (λ m. m == n) xs ≡ true) xs
each_found xs =
    recursion_from_All (λ (n : ℕ). list_any (λ m. m == n) xs ≡ true) xs
    (λ k d l. list_any_at (λ m. m == get_or xs k d) xs k d l (eq-eqb (get_or xs k d) (get_or xs k d) refl))

module _ (Q : ℕ → Type 0) where
  all_left : (xs ys : List ℕ) → AllByRecursion Q (xs ++ ys) → AllByRecursion Q xs
  all_left [] ys h = tt
  all_left (x ∷ xs) ys h = (h.0, all_left xs ys h.1)

  all_right : (xs ys : List ℕ) → AllByRecursion Q (xs ++ ys) → AllByRecursion Q ys
  all_right [] ys h = h
  all_right (x ∷ xs) ys h = all_right xs ys h.1

  -- what holds of all lumps of a book holds of that of a picture that is picked from it
  first_or_later : (passes : Bool) (first frame : Frame) (later : Option Frame) → cond passes (Some first) later ≡ Some frame → AllByRecursion Q (shape_lumps first) →
      (later ≡ Some frame → AllByRecursion Q (shape_lumps frame)) → AllByRecursion Q (shape_lumps frame)
  first_or_later true first frame later e h after = let frame_is : first ≡ frame = cc in subst (λ (f : Frame). AllByRecursion Q (shape_lumps f)) frame_is h
  first_or_later false first frame later e h after = after e

  frame_has : (test : Frame → Bool) (book : List Frame) (frame : Frame) → find test book ≡ Some frame → AllByRecursion Q (joined_lists shape_lumps book) → AllByRecursion Q (shape_lumps frame)
  frame_has test [] frame e h = absurd (cc)
  frame_has test (first ∷ rest) frame e h =
      let all_lumps_pass : AllByRecursion Q (shape_lumps first ++ joined_lists shape_lumps rest) = subst (AllByRecursion Q) (joined_lists-cons shape_lumps first rest) h in
      first_or_later (test first) first frame (find test rest) e (all_left (shape_lumps first) (joined_lists shape_lumps rest) all_lumps_pass)
      (λ later. frame_has test rest frame later (all_right (shape_lumps first) (joined_lists shape_lumps rest) all_lumps_pass))

  shape_has : (rotation : ℕ) (shapes : List Shape) (shape : Shape) → slice_get shapes rotation ≡ Some shape → AllByRecursion Q (map (λ (s : Shape). s.lump.0) shapes) → Q shape.lump.0
  shape_has rotation [] shape e h = absurd (cc)
  shape_has zero (first ∷ rest) shape e h = let shapes_same : first ≡ shape = cc in subst (λ (s : Shape). Q s.lump.0) shapes_same h.0
  shape_has (suc rotation) (first ∷ rest) shape e h = shape_has rotation rest shape e h.1

  picked_from : (rotation : ℕ) (frame : Option Frame) (shape : Shape) → option_and_then (λ (f : Frame). slice_get f.shapes rotation) frame ≡ Some shape →
      ((f : Frame) → frame ≡ Some f → AllByRecursion Q (shape_lumps f)) → Q shape.lump.0
  unfolding shape_lumps
  picked_from rotation None shape e h = absurd (cc)
  picked_from rotation (Some f) shape e h = shape_has rotation f.shapes shape e (h f refl)

  picked_has : (book : List Frame) (sprite : List ℕ) (letter rotation : ℕ) (shape : Shape) → picked book sprite letter rotation ≡ Some shape → AllByRecursion Q (book_lumps book) → Q shape.lump.0
  unfolding picked book_lumps
  picked_has book sprite letter rotation shape e h =
      picked_from rotation (find (is_frame sprite letter) book) shape e (λ f is. frame_has (is_frame sprite letter) book f is h)

  -- so it holds of all entries that are made with its pictures
  pushed : (es : List SpriteEntry) (e : SpriteEntry) → AllByRecursion (λ (e : SpriteEntry). Q e.lump) es → Q e.lump → AllByRecursion (λ (e : SpriteEntry). Q e.lump) (es ++ e ∷ [])
  pushed [] e h q = (q, tt)
  pushed (f ∷ fs) e h q = (h.0, pushed fs e h.1 q)

  pushed_if : (room : Bool) (es : List SpriteEntry) (e : SpriteEntry) → AllByRecursion (λ (e : SpriteEntry). Q e.lump) es → Q e.lump → AllByRecursion (λ (e : SpriteEntry). Q e.lump) (cond room (es ++ e ∷ []) es)
  pushed_if true es e h q = pushed es e h q
  pushed_if false es e h q = h

  added_if : (es : List SpriteEntry) (misses : Bool) (e : SpriteEntry) → AllByRecursion (λ (e : SpriteEntry). Q e.lump) es → Q e.lump →
      AllByRecursion (λ (e : SpriteEntry). Q e.lump) (with_entry es (cond misses None (Some e)))
  unfolding with_entry
  added_if es true e h q = h
  added_if es false e h q = pushed_if (nat_lt (length es) MAX_VISSPRITES) es e h q

  added : (v : ViewValue) (es : List SpriteEntry) (thing : Placed) (seen : Seen) (shape : Shape5) → AllByRecursion (λ (e : SpriteEntry). Q e.lump) es → Q shape.lump →
      AllByRecursion (λ (e : SpriteEntry). Q e.lump) (add_entry v es thing seen shape)
  unfolding add_entry entry_for entry_within entry_of
  added v es thing seen shape h q = added_if es _ _ h q

  shape_added : (v : ViewValue) (es : List SpriteEntry) (thing : Placed) (seen : Seen) (shape : Option Shape) → AllByRecursion (λ (e : SpriteEntry). Q e.lump) es → ((one : Shape) → shape ≡ Some one → Q one.lump.0) →
      AllByRecursion (λ (e : SpriteEntry). Q e.lump) (with_shape v es thing seen (option_map drawn_shape shape))
  unfolding with_shape
  shape_added v es thing seen None h q = h
  shape_added v es thing seen (Some shape) h q = added v es thing seen (drawn_shape shape) h (q shape refl)

  module _ (bytes : ℕ → List ℕ) (v : ViewValue) (s : SceneValue) (all : AllByRecursion Q (book_lumps s.book)) where
    seen_added : (es : List SpriteEntry) (thing : PlacedThing) (placed : Placed) (seen : Option Seen) → AllByRecursion (λ (e : SpriteEntry). Q e.lump) es →
        AllByRecursion (λ (e : SpriteEntry). Q e.lump) (with_seen v (scene_of bytes s) es thing placed seen)
    unfolding with_seen scene_of
    seen_added es thing placed None h = h
    seen_added es thing placed (Some seen) h =
        shape_added v es placed seen (picked s.book thing.sprite thing.frame seen.rotation) h (λ one e. picked_has s.book thing.sprite thing.frame seen.rotation one e all)

    things_added : (sector : ℕ) (es : List SpriteEntry) (things : List PlacedThing) → AllByRecursion (λ (e : SpriteEntry). Q e.lump) es →
        AllByRecursion (λ (e : SpriteEntry). Q e.lump) (with_things v (scene_of bytes s) sector es things)
    unfolding with_things with_thing
    things_added sector es [] h = h
    things_added sector es (t ∷ ts) h =
        things_added sector (with_thing v (scene_of bytes s) sector es t) ts (seen_added es t (placed_of v (scene_of bytes s) sector t) (project v (placed_of v (scene_of bytes s) sector t)) h)

    sectors_added : (es : List SpriteEntry) (sectors : List ℕ) → AllByRecursion (λ (e : SpriteEntry). Q e.lump) es → AllByRecursion (λ (e : SpriteEntry). Q e.lump) (with_sectors v (scene_of bytes s) es sectors)
    unfolding with_sectors
    sectors_added es [] h = h
    sectors_added es (n ∷ ns) h =
        sectors_added (with_things v (scene_of bytes s) n es ((scene_of bytes s).things_of n)) ns (things_added n es ((scene_of bytes s).things_of n) h)

    entries_have : (events : List Event) → AllByRecursion (λ (e : SpriteEntry). Q e.lump) (view_entries v (scene_of bytes s) events)
    unfolding view_entries
    entries_have events = sectors_added [] (sectors_entered (scene_of bytes s) events) tt

-- the lump of an entry of a view is one of the book's
pub entry_lump : (bytes : ℕ → List ℕ) (v : ViewValue) (s : SceneValue) (events : List Event) (sprites : List SpriteEntry) (i : ℕ) (e : SpriteEntry) → sprites ≡ view_entries v (scene_of bytes s) events →
    i < length sprites → list_any (λ n. n == (get_or sprites i e).lump) (book_lumps s.book) ≡ true
entry_lump bytes v s events sprites i e is l =
    let is_book_lump : ℕ → Type 0 = λ lump. list_any (λ n. n == lump) (book_lumps s.book) ≡ true in
    let all_book_lumps = entries_have is_book_lump bytes v s (each_found (book_lumps s.book)) events in All-from_recursion
    (λ (e : SpriteEntry). is_book_lump e.lump) sprites (subst (AllByRecursion (λ (e : SpriteEntry). is_book_lump e.lump)) (sym is) all_book_lumps) i e l
