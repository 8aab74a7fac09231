-- Laws of the list of a view: it is that of the events after one leaf more, and after one fragment more.
use Rattle.picture_rules.proofs.Common.{[], ap, append-nil, append_assoc, arith, Bool, cases_lt, cond, false, filter, inl, inr, length, length-map, length-zip, length_push, List, map, map-append, min, nat_lt, nat_tests, None, Option, refl, replicate, Some, subst, sym, true, zip, ℕ, ℤ, ◌++◌, ◌+◌, ◌-◌, ◌<◌, ◌∙◌, ◌∷◌, ◌≡◌, ◌≤◌}
use Rattle.frame_core.specs.Rules.{Event, Fragment, FragmentEvent, Leaf, LeafEvent, Limits, ListedFragment, ListedSprite, MAX_DRAWSEGS, MAX_VISSPRITES, MOST_TOLD, Placed, PlacedThing, Plane, PlaneMaker, Scene, SceneValue, Seen, Shape5, SpriteEntry, ViewValue, add_entry, count_shown, drawsegs, entry_for, entry_of, entry_within, event_planes, first_mentions, is_entered, is_seen, is_shown, leaf_at, leaf_fragments, leaf_sector, leaves_entered, listed_fragment, listed_sprite, maker_of, makes_entry, misses_view, picture_first, picture_last, placed_of, plane_makers, planes_made, planes_of, project, sectors_entered, shown_things, view_entries, view_planes, with_entry, with_sectors, with_seen, with_shape, with_thing, with_things}
use Rattle.picture_rules.proofs.ListLemmas.{all_fragments-fragment, all_fragments-leaf, fragments-full, fragments-leaf, fragments-room, plane_makers-count, plane_makers-more, plane_makers-none, shown_things-again, shown_things-fragment, shown_things-new, shown_things-none, told-more}
use Rattle.picture_rules.proofs.ThingLemmas.{view_entries-again, view_entries-fragment, view_entries-new}
use Rattle.frame_core.specs.{declared.bench.Bench.Bench, Entered.has_entered}
use Rattle.sound_scene.specs.Pictures.{lists_of, scene_of}
use Rattle.frame_core.specs.Walked.{HasWalked, planes_after}
use Rattle.frame_core.specs.ViewLists.{HasListed, HasSprites, WalkListValue, list_fragment, list_leaf, listed_sprites, nothing_listed, seen_sprite, shape_sprite, thing_sprite, with_entered, with_fragment, with_makers, with_sprite, with_sprites}

-- pairs of two lists, each with one item more, and the second alone
pub zip_push : {X Y : Type 0} (xs : List X) (ys : List Y) (x : X) (y : Y) → length xs ≡ length ys → zip (xs ++ x ∷ []) (ys ++ y ∷ []) ≡ zip xs ys ++ (x, y) ∷ []
zip_push [] [] x y e = refl
zip_push [] (b ∷ bs) x y e = absurd (omega (arith, e))
zip_push (a ∷ cs) [] x y e = absurd (omega (arith, e))
zip_push {X} {Y} (a ∷ cs) (b ∷ bs) x y e = ap (λ (both : List (X × Y)). (a, b) ∷ both) (zip_push cs bs x y (omega (arith, e)))

zip_longer : {X Y : Type 0} (xs : List X) (ys : List Y) (y : Y) → length xs ≤ length ys → zip xs (ys ++ y ∷ []) ≡ zip xs ys
zip_longer [] ys y l = refl
zip_longer (a ∷ cs) [] y l = absurd (omega (arith, l))
zip_longer {X} {Y} (a ∷ cs) (b ∷ bs) y l = ap (λ (both : List (X × Y)). (a, b) ∷ both) (zip_longer cs bs y (omega (arith, l)))

-- one vissprite more
sprites_push : (entries : List SpriteEntry) (things : List PlacedThing) (e : SpriteEntry) (thing : PlacedThing) → length entries ≡ length things →
    listed_sprites (entries ++ e ∷ []) (things ++ thing ∷ []) ≡ listed_sprites entries things ++ listed_sprite e thing ∷ []
unfolding listed_sprites
sprites_push entries things e thing same =
    ap (map (λ (both : SpriteEntry × PlacedThing). listed_sprite both.0 both.1)) (zip_push entries things e thing same)
    ∙ map-append (λ (both : SpriteEntry × PlacedThing). listed_sprite both.0 both.1) (zip entries things) ((e, thing) ∷ [])

sprites_longer : (entries : List SpriteEntry) (things : List PlacedThing) (thing : PlacedThing) → length entries ≤ length things → listed_sprites entries (things ++ thing ∷ []) ≡ listed_sprites entries things
unfolding listed_sprites
sprites_longer entries things thing l = ap (map (λ (both : SpriteEntry × PlacedThing). listed_sprite both.0 both.1)) (zip_longer entries things thing l)

sprites_counted : (entries : List SpriteEntry) (things : List PlacedThing) → length entries ≤ length things → length (listed_sprites entries things) ≡ length entries
unfolding listed_sprites
sprites_counted entries things l =
    let map_length = length-map (zip entries things) (λ (both : SpriteEntry × PlacedThing). listed_sprite both.0 both.1) in
    let zip_length = length-zip entries things in
    omega (arith, map_length, zip_length, l)

list_counted : (entries : List SpriteEntry) (things : List PlacedThing) (list : WalkListValue) → HasSprites entries things list → length list.sprites ≡ length entries
list_counted entries things list h =
    let entries_to_things : length entries ≤ length things = (let entries_count = h.count in omega (arith, entries_count)) in
    ap length h.sprites ∙ sprites_counted entries things entries_to_things

counts_more : (list : WalkListValue) (things : List PlacedThing) (thing : PlacedThing) → list.all_sprites ≡ count_shown (length things) → min (list.all_sprites + 1) MOST_TOLD ≡ count_shown (length (things ++ thing ∷ []))
counts_more list things thing e =
    ap (λ (n : ℕ). min (n + 1) MOST_TOLD) e ∙ told-more (length things) ∙ ap count_shown (sym (length_push things thing))

with_room : (entries : List SpriteEntry) (things : List PlacedThing) (list : WalkListValue) (e : SpriteEntry) (thing : PlacedThing) (s : ListedSprite) → s ≡ listed_sprite e thing → length entries < MAX_VISSPRITES → HasSprites entries things list →
    HasSprites (entries ++ e ∷ []) (things ++ thing ∷ []) (with_sprite list (Some s))
unfolding with_sprite
with_room entries things list e thing s is room h =
    let counts_same : length entries ≡ length things = (let entries_count = h.count in omega (arith, entries_count, room)) in
    let sprites_count = list_counted entries things list h in
    let has_room : nat_lt (length list.sprites) MAX_VISSPRITES ≡ true = rw sprites_count (grind (arith, nat_tests)) in
    record {
      count = (let more_things = length_push things thing in let more_entries = length_push entries e in
          omega (arith, counts_same, more_things, more_entries, room));
      sprites = ap (λ (b : Bool). cond b (list.sprites ++ s ∷ []) list.sprites) has_room
          ∙ ap (λ (ss : List ListedSprite). ss ++ s ∷ []) h.sprites
          ∙ ap (λ (t : ListedSprite). listed_sprites entries things ++ t ∷ []) is
          ∙ sym (sprites_push entries things e thing counts_same);
      all = counts_more list things thing h.all;
    }

without_room : (entries : List SpriteEntry) (things : List PlacedThing) (list : WalkListValue) (thing : PlacedThing) (s : ListedSprite) → MAX_VISSPRITES ≤ length entries → HasSprites entries things list →
    HasSprites entries (things ++ thing ∷ []) (with_sprite list (Some s))
unfolding with_sprite
without_room entries things list thing s full h =
    let entries_to_things : length entries ≤ length things = (let entries_count = h.count in omega (arith, entries_count)) in
    let sprites_count = list_counted entries things list h in
    let no_room : nat_lt (length list.sprites) MAX_VISSPRITES ≡ false = rw sprites_count (grind (arith, nat_tests)) in record {
      count = (let entries_count = h.count in let more_things = length_push things thing in omega (arith, entries_count, more_things, full));
      sprites = ap (λ (b : Bool). cond b (list.sprites ++ s ∷ []) list.sprites) no_room ∙ h.sprites
          ∙ sym (sprites_longer entries things thing entries_to_things);
      all = counts_more list things thing h.all;
    }

made_if : (entries : List SpriteEntry) (things : List PlacedThing) (list : WalkListValue) (e : SpriteEntry) (thing : PlacedThing) (s : ListedSprite) (room : Bool) → s ≡ listed_sprite e thing → nat_lt (length entries) MAX_VISSPRITES ≡ room →
    HasSprites entries things list → HasSprites (cond room (entries ++ e ∷ []) entries) (things ++ thing ∷ []) (with_sprite list (Some s))
made_if entries things list e thing s true same is h = with_room entries things list e thing s same (grind (arith, nat_tests)) h
made_if entries things list e thing s false same is h = without_room entries things list thing s (grind (arith, nat_tests)) h

-- its number is no part of how an entry is listed
same_listed : (v : ViewValue) (number : ℕ) (placed : Placed) (seen : Seen) (shape : Shape5) (a1 a2 : ℤ) (thing : PlacedThing) → listed_sprite (entry_of v 0 placed seen shape a1 a2) thing ≡ listed_sprite (entry_of v number placed seen shape a1 a2) thing
unfolding listed_sprite entry_of
same_listed v number placed seen shape a1 a2 thing = refl

module _ (v : ViewValue) (scene : Scene) where
  shape_with : (entries : List SpriteEntry) (things : List PlacedThing) (list : WalkListValue) (thing : PlacedThing) (placed : Placed) (seen : Seen) (shape : Shape5) (misses : Bool) →
      misses_view v (picture_first v seen shape) (picture_last v seen shape) ≡ misses → HasSprites entries things list →
      HasSprites (with_shape v entries placed seen (Some shape)) (things ++ cond (is_shown v placed seen (Some shape)) (thing ∷ []) []) (with_sprite list (shape_sprite v thing placed seen (Some shape)))
  unfolding with_shape is_shown add_entry with_entry entry_for entry_within shape_sprite with_sprite
  shape_with entries things list thing placed seen shape true is h = rw is (rw (append-nil things) h)
  shape_with entries things list thing placed seen shape false is h =
      let new_entry = entry_of v (length entries) placed seen shape (picture_first v seen shape) (picture_last v seen shape) in
      let new_sprite = listed_sprite (entry_of v 0 placed seen shape (picture_first v seen shape) (picture_last v seen shape)) thing in
      rw is (made_if entries things list new_entry thing new_sprite (nat_lt (length entries) MAX_VISSPRITES) (same_listed v (length entries) placed seen shape (picture_first v seen shape) (picture_last v seen shape) thing) refl h)

  picked_with : (entries : List SpriteEntry) (things : List PlacedThing) (list : WalkListValue) (thing : PlacedThing) (placed : Placed) (seen : Seen) (shape : Option Shape5) → HasSprites entries things list →
      HasSprites (with_shape v entries placed seen shape) (things ++ cond (is_shown v placed seen shape) (thing ∷ []) []) (with_sprite list (shape_sprite v thing placed seen shape))
  unfolding with_shape is_shown shape_sprite with_sprite
  picked_with entries things list thing placed seen None h = rw (append-nil things) h
  picked_with entries things list thing placed seen (Some shape) h =
      shape_with entries things list thing placed seen shape (misses_view v (picture_first v seen shape) (picture_last v seen shape)) refl h

  seen_with : (entries : List SpriteEntry) (things : List PlacedThing) (list : WalkListValue) (thing : PlacedThing) (placed : Placed) (seen : Option Seen) → HasSprites entries things list →
      HasSprites (with_seen v scene entries thing placed seen) (things ++ cond (is_seen v scene thing placed seen) (thing ∷ []) []) (with_sprite list (seen_sprite v scene thing placed seen))
  unfolding with_seen is_seen seen_sprite with_sprite
  seen_with entries things list thing placed None h = rw (append-nil things) h
  seen_with entries things list thing placed (Some seen) h = picked_with entries things list thing placed seen (scene.pick thing.sprite thing.frame seen.rotation) h

  thing_with : (sector : ℕ) (entries : List SpriteEntry) (things : List PlacedThing) (list : WalkListValue) (thing : PlacedThing) → HasSprites entries things list →
      HasSprites (with_thing v scene sector entries thing) (things ++ cond (makes_entry v scene sector thing) (thing ∷ []) []) (with_sprite list (thing_sprite v scene sector thing))
  unfolding with_thing makes_entry thing_sprite
  thing_with sector entries things list thing h = seen_with entries things list thing (placed_of v scene sector thing) (project v (placed_of v scene sector thing)) h

  filter_cons : (p : PlacedThing → Bool) (things : List PlacedThing) (t : PlacedThing) (ts : List PlacedThing) (b : Bool) → p t ≡ b → (things ++ cond b (t ∷ []) []) ++ filter p ts ≡ things ++ filter p (t ∷ ts)
  filter_cons p things t ts true is = rw is (append_assoc things (t ∷ []) (filter p ts))
  filter_cons p things t ts false is = rw is (ap (λ (us : List PlacedThing). us ++ filter p ts) (append-nil things))

  -- the things of a sector
  things_with : (sector : ℕ) (entries : List SpriteEntry) (things : List PlacedThing) (list : WalkListValue) (ts : List PlacedThing) → HasSprites entries things list →
      HasSprites (with_things v scene sector entries ts) (things ++ filter (makes_entry v scene sector) ts) (with_sprites v scene sector list ts)
  unfolding with_things with_sprites
  things_with sector entries things list [] h = rw (append-nil things) h
  things_with sector entries things list (t ∷ ts) h =
      subst (λ (us : List PlacedThing). HasSprites (with_things v scene sector (with_thing v scene sector entries t) ts) us (with_sprites v scene sector (with_sprite list (thing_sprite v scene sector t)) ts))
      (filter_cons (makes_entry v scene sector) things t ts (makes_entry v scene sector t) refl)
      (things_with sector (with_thing v scene sector entries t) (things ++ cond (makes_entry v scene sector t) (t ∷ []) []) (with_sprite list (thing_sprite v scene sector t)) ts (thing_with sector entries things list t h))

-- what is listed of walls and planes stays where vissprites are listed
pub record IsSameButSprites (old new : WalkListValue) : Type 0 where
  pub fragments : new.fragments ≡ old.fragments
  pub all : new.all_fragments ≡ old.all_fragments
  pub makers : new.makers ≡ old.makers

sprite_same : (list : WalkListValue) (s : Option ListedSprite) → IsSameButSprites list (with_sprite list s)
unfolding with_sprite
sprite_same list None = record { fragments = refl; all = refl; makers = refl }
sprite_same list (Some s) = record { fragments = refl; all = refl; makers = refl }

sprites_same : (v : ViewValue) (scene : Scene) (sector : ℕ) (list : WalkListValue) (ts : List PlacedThing) → IsSameButSprites list (with_sprites v scene sector list ts)
unfolding with_sprites
sprites_same v scene sector list [] = record { fragments = refl; all = refl; makers = refl }
sprites_same v scene sector list (t ∷ ts) =
    let same_here = sprite_same list (thing_sprite v scene sector t) in
    let same_behind = sprites_same v scene sector (with_sprite list (thing_sprite v scene sector t)) ts in
    record { fragments = same_behind.fragments ∙ same_here.fragments; all = same_behind.all ∙ same_here.all; makers = same_behind.makers ∙ same_here.makers }

entered_same : (v : ViewValue) (scene : Scene) (is_known : Bool) (sector : ℕ) (list : WalkListValue) → IsSameButSprites list (with_entered v scene is_known sector list)
unfolding with_entered
entered_same v scene true sector list = record { fragments = refl; all = refl; makers = refl }
entered_same v scene false sector list = sprites_same v scene sector list (scene.things_of sector)

-- makers are no vissprites, nor are fragments
makers_sprites : (entries : List SpriteEntry) (things : List PlacedThing) (list : WalkListValue) (maker : PlaneMaker) (planes : ℕ) → HasSprites entries things list → HasSprites entries things (with_makers list maker planes)
unfolding with_makers
makers_sprites entries things list maker planes h = record { count = h.count; sprites = h.sprites; all = h.all }

-- the makers with those of one event more
makers_more : (v : ViewValue) (scene : Scene) (es : List Event) (e : Event) (list : WalkListValue) (maker : PlaneMaker) (planes : ℕ) → list.makers ≡ plane_makers v scene es → maker ≡ maker_of (length (drawsegs es)) e →
    planes ≡ length (event_planes v scene (es ++ e ∷ [])) → (with_makers list maker planes).makers ≡ plane_makers v scene (es ++ e ∷ [])
unfolding with_makers planes_made
makers_more v scene es e list maker planes has is count =
    ap (λ (ms : List PlaneMaker). ms ++ replicate (planes - length ms) maker) has
    ∙ ap (λ (n : ℕ). plane_makers v scene es ++ replicate (planes - n) maker) (plane_makers-count v scene es)
    ∙ ap (λ (n : ℕ). plane_makers v scene es ++ replicate (n - length (event_planes v scene es)) maker) count
    ∙ ap (λ (m : PlaneMaker). plane_makers v scene es ++ replicate (length (event_planes v scene (es ++ e ∷ [])) - length (event_planes v scene es)) m) is
    ∙ sym (plane_makers-more v scene es e)

leaf_maker : (k n : ℕ) → Leaf n ≡ maker_of k (LeafEvent n)
unfolding maker_of
leaf_maker k n = refl

fragment_maker : (k seg first last : ℕ) → Fragment k ≡ maker_of k (FragmentEvent seg first last)
unfolding maker_of
fragment_maker k seg first last = refl

module _ (v : ViewValue) (scene : Scene) (es : List Event) where
  -- the vissprites after a leaf
  sprites_after : (n : ℕ) (is_known : Bool) (list : WalkListValue) → is_entered scene es (leaf_sector scene n) ≡ is_known → HasSprites (view_entries v scene es) (shown_things v scene es) list →
      HasSprites (view_entries v scene (es ++ LeafEvent n ∷ [])) (shown_things v scene (es ++ LeafEvent n ∷ [])) (with_entered v scene is_known (leaf_sector scene n) list)
  unfolding with_entered
  sprites_after n true list is h = rw (view_entries-again v scene es n is, shown_things-again v scene es n is) h
  sprites_after n false list is h =
      rw (view_entries-new v scene es n is, shown_things-new v scene es n is)
      (things_with v scene (leaf_sector scene n) (view_entries v scene es) (shown_things v scene es) list (scene.things_of (leaf_sector scene n)) h)

  with_makers_same : (list : WalkListValue) (maker : PlaneMaker) (planes : ℕ) → ((with_makers list maker planes).fragments ≡ list.fragments) × ((with_makers list maker planes).all_fragments ≡ list.all_fragments)
  unfolding with_makers
  with_makers_same list maker planes = (refl, refl)

  -- one leaf more
  pub listed-leaf : (n planes : ℕ) (is_known : Bool) (list : WalkListValue) → is_entered scene es (leaf_sector scene n) ≡ is_known → planes ≡ length (event_planes v scene (es ++ LeafEvent n ∷ [])) → HasListed v scene es list →
      HasListed v scene (es ++ LeafEvent n ∷ []) (list_leaf v scene is_known n (leaf_sector scene n) planes list)
  unfolding list_leaf
  listed-leaf n planes is_known list is count h =
      let mid = with_makers list (Leaf n) planes in
      let entered_alike = entered_same v scene is_known (leaf_sector scene n) mid in
      let makers_stay = with_makers_same list (Leaf n) planes in
      record {
        fragments = entered_alike.fragments ∙ makers_stay.0 ∙ h.fragments ∙ sym (fragments-leaf es n);
        all = entered_alike.all ∙ makers_stay.1 ∙ h.all ∙ ap count_shown (sym (all_fragments-leaf es n));
        makers = entered_alike.makers ∙ makers_more v scene es (LeafEvent n) list (Leaf n) planes h.makers (leaf_maker (length (drawsegs es)) n) count;
        sprites = sprites_after n is_known mid is (makers_sprites (view_entries v scene es) (shown_things v scene es) list (Leaf n) planes h.sprites);
      }

  fragments_counted : (list : WalkListValue) → HasListed v scene es list → length list.fragments ≡ length (drawsegs es)
  fragments_counted list h = ap length h.fragments ∙ length-map (drawsegs es) listed_fragment

  fragments_if : (list : WalkListValue) (seg first last : ℕ) → HasListed v scene es list →
      cond (nat_lt (length list.fragments) MAX_DRAWSEGS) (list.fragments ++ record { seg = seg; first = first; last = last } ∷ []) list.fragments ≡ map listed_fragment (drawsegs (es ++ FragmentEvent seg first last ∷ []))
  fragments_if list seg first last h =
      let new_fragment : ListedFragment = record { seg = seg; first = first; last = last } in
      let fragments_count = fragments_counted list h in
      elim (cases_lt (length (drawsegs es)) MAX_DRAWSEGS) [
        | inl room ↦ (
            let has_room : nat_lt (length list.fragments) MAX_DRAWSEGS ≡ true = rw fragments_count (grind (arith, nat_tests)) in
            ap (λ (b : Bool). cond b (list.fragments ++ new_fragment ∷ []) list.fragments) has_room
            ∙ ap (λ (fs : List ListedFragment). fs ++ new_fragment ∷ []) h.fragments ∙ sym (fragments-room es seg first last room))
        | inr full ↦ (
            let no_room : nat_lt (length list.fragments) MAX_DRAWSEGS ≡ false = rw fragments_count (grind (arith, nat_tests)) in
            ap (λ (b : Bool). cond b (list.fragments ++ new_fragment ∷ []) list.fragments) no_room ∙ h.fragments ∙ sym (fragments-full es seg first last full))
      ]

  -- one fragment more
  pub listed-fragment : (seg first last planes : ℕ) (list : WalkListValue) → planes ≡ length (event_planes v scene (es ++ FragmentEvent seg first last ∷ [])) → HasListed v scene es list →
      HasListed v scene (es ++ FragmentEvent seg first last ∷ []) (list_fragment (record { seg = seg; first = first; last = last }) planes list)
  unfolding list_fragment with_fragment with_makers
  listed-fragment seg first last planes list count h =
      let fragments_count = fragments_counted list h in
      record {
        fragments = fragments_if list seg first last h;
        all = ap (λ (k : ℕ). min (k + 1) MOST_TOLD) h.all ∙ told-more (length (leaf_fragments 0 es)) ∙ ap count_shown (sym (all_fragments-fragment es seg first last));
        makers = makers_more v scene es (FragmentEvent seg first last) list (Fragment (length list.fragments)) planes h.makers (ap Fragment fragments_count ∙ fragment_maker (length (drawsegs es)) seg first last) count;
        sprites = (
            let list_has_sprites : HasSprites (view_entries v scene es) (shown_things v scene es) (list_fragment (record { seg = seg; first = first; last = last }) planes list) =
            record { count = h.sprites.count; sprites = h.sprites.sprites; all = h.sprites.all } in
            rw (view_entries-fragment v scene es seg first last, shown_things-fragment v scene es seg first last) list_has_sprites);
      }

-- nothing is listed of no event
told_none : 0 ≡ count_shown 0
unfolding count_shown
told_none = omega arith

no_entries : (v : ViewValue) (scene : Scene) → view_entries v scene [] ≡ []
unfolding view_entries with_sectors sectors_entered first_mentions leaves_entered
no_entries v scene = refl

no_sprites : HasSprites [] [] nothing_listed
unfolding listed_sprites
no_sprites = record { count = omega arith; sprites = refl; all = told_none }

no_fragments : ([] ≡ map listed_fragment (drawsegs [])) × (0 ≡ count_shown (length (leaf_fragments 0 [])))
unfolding drawsegs leaf_fragments
no_fragments = (refl, told_none)

pub listed-none : (v : ViewValue) (scene : Scene) → HasListed v scene [] nothing_listed
listed-none v scene = record {
  fragments = no_fragments.0;
  all = no_fragments.1;
  makers = sym (plane_makers-none v scene);
  sprites = rw (no_entries v scene, shown_things-none v scene) no_sprites;
}

-- the planes of a bench are those of its events
pub planes-walked : (v : ViewValue) (bytes : ℕ → List ℕ) (s : SceneValue) (most : Limits) (es : List Event) (b : Bench) → HasWalked v bytes s most es b → b.planes.planes ≡ event_planes v (scene_of bytes s) es
unfolding event_planes view_planes planes_of planes_after
planes-walked v bytes s most es b h = h.built.planes

leaf_of : (bytes : ℕ → List ℕ) (s : SceneValue) (n sector : ℕ) → sector ≡ (leaf_at (lists_of s) n).sector → sector ≡ leaf_sector (scene_of bytes s) n
unfolding leaf_sector scene_of
leaf_of bytes s n sector e = e

-- a leaf that the bench has entered
pub leaf-listed : (v : ViewValue) (bytes : ℕ → List ℕ) (s : SceneValue) (most : Limits) (es : List Event) (n sector planes : ℕ) (is_known : Bool) (b c : Bench) (list mid next : WalkListValue) →
    sector ≡ (leaf_at (lists_of s) n).sector → sector < length s.base.level.sectors → is_known ≡ has_entered b.entered sector → planes ≡ length c.planes.planes →
    mid ≡ with_makers list (Leaf n) planes → next ≡ with_entered v (scene_of bytes s) is_known sector mid →
    HasWalked v bytes s most es b → HasWalked v bytes s most (es ++ LeafEvent n ∷ []) c → HasListed v (scene_of bytes s) es list → HasListed v (scene_of bytes s) (es ++ LeafEvent n ∷ []) next
unfolding list_leaf
leaf-listed v bytes s most es n sector planes is_known b c list mid next is there known count making entering before after h =
    let scene = scene_of bytes s in let leaf_sector_is : sector ≡ leaf_sector scene n = leaf_of bytes s n sector is in
    let entered : is_entered scene es (leaf_sector scene n) ≡ is_known = ap (is_entered scene es) (sym leaf_sector_is) ∙ sym (before.entered sector there)
    ∙ sym known in let next_is : next ≡ list_leaf v scene is_known n (leaf_sector scene n) planes list = entering
    ∙ ap (with_entered v scene is_known sector) making ∙ ap (λ (k : ℕ). with_entered v scene is_known k (with_makers list (Leaf n) planes)) leaf_sector_is in
    subst (HasListed v scene (es ++ LeafEvent n ∷ [])) (sym next_is)
    (listed-leaf v scene es n planes is_known list entered (count ∙ ap (λ (ps : List Plane). length ps) (planes-walked v bytes s most (es ++ LeafEvent n ∷ []) c after)) h)

-- a fragment that the bench has counted
pub fragment-listed : (v : ViewValue) (bytes : ℕ → List ℕ) (s : SceneValue) (most : Limits) (es : List Event) (seg first last planes : ℕ) (c : Bench) (list next : WalkListValue) →
    planes ≡ length c.planes.planes → next ≡ list_fragment (record { seg = seg; first = first; last = last }) planes list →
    HasWalked v bytes s most (es ++ FragmentEvent seg first last ∷ []) c → HasListed v (scene_of bytes s) es list → HasListed v (scene_of bytes s) (es ++ FragmentEvent seg first last ∷ []) next
fragment-listed v bytes s most es seg first last planes c list next count made after h =
    subst (HasListed v (scene_of bytes s) (es ++ FragmentEvent seg first last ∷ [])) (sym made)
    (listed-fragment v (scene_of bytes s) es seg first last planes list (count ∙ ap (λ (ps : List Plane). length ps) (planes-walked v bytes s most (es ++ FragmentEvent seg first last ∷ []) c after)) h)
