-- Laws of the list of a view: what one event more adds to each of its parts, and of which things its vissprites are.
use Rattle.word_rules.proofs.Common.{[], ap, append-nil, append_assoc, arith, Bool, cases_lt, cond, false, filter, inl, inr, length, length-append, length-map, length-replicate, length-take, length_push, List, map, map-append, min, nat_lt, nat_tests, None, Option, refl, replicate, slice_get, slice_get_within, Some, subst, suc, sym, true, zero, ℕ, ◌++◌, ◌+◌, ◌<◌, ◌∙◌, ◌∷◌, ◌≡◌, ◌≤◌, ◌⊎◌}
use Rattle.picture_rules.specs.Rules.{Event, FragmentEvent, LeafEvent, MAX_DRAWSEGS, PlacedThing, ViewValue, drawsegs, joined_lists, last_leaf, leaf_fragments, leaves_entered}
use Rattle.word_rules.proofs.ListedLemmas.{joined_lists-append}
use Rattle.level_rules.proofs.walk.DrawsegLemmas.{drawsegs-full, drawsegs-leaf, drawsegs-room, full-drawsegs, leaf_fragments-append, room-drawsegs}
use Rattle.picture_rules.specs.declared.list.TheConstants.{MOST_TOLD}
use Rattle.picture_rules.specs.declared.list.PlaneMaker.{PlaneMaker}
use Rattle.picture_rules.specs.declared.sprite.TheConstants.{MAX_VISSPRITES}
use Rattle.picture_rules.specs.{declared.sprite.Seen.Seen, declared.sprite.Shape5.Shape5}
use Rattle.picture_rules.specs.{declared.sprite.SpriteEntry.SpriteEntry, wall.Walls.Wall}
use Rattle.picture_rules.specs.plane.Built.{PlanesNow, after_events, no_planes, planes_of}
use Rattle.picture_rules.proofs.plane.BuiltLemmas.{after_event-longer, after_events-more}
use Rattle.picture_rules.specs.sprite.Entries.{add_entry, entry_for, entry_of, entry_within, misses_view, picture_first, picture_last, with_entry}
use Rattle.picture_rules.specs.sprite.Projection.{project}
use Rattle.picture_rules.specs.Scene.{Scene, leaf_sector, leaf_surface}
use Rattle.picture_rules.specs.{Walls.fragment_wall, Walls.walls_of, Counts.view_steps}
use Rattle.picture_rules.specs.Planes.{Step, leaf_step, steps_from, steps_of, view_planes, wall_step}
use Rattle.picture_rules.specs.Things.{first_mentions, is_entered, placed_of, sectors_entered, view_entries, with_sectors, with_seen, with_shape, with_thing, with_things}
use Rattle.picture_rules.specs.Lists.{AreEntriesOf, IsEntryOf, event_planes, is_seen, is_shown, listed_fragment, maker_of, makers_from, makes_entry, plane_makers, planes_made, shown_things, count_shown}
use Rattle.picture_rules.proofs.EventLemmas.{steps_of-full, steps_of-leaf, steps_of-room, walls_of-full, walls_of-leaf, walls_of-room}
use Rattle.picture_rules.proofs.ThingLemmas.{sectors_entered-fragment, sectors_entered-leaf}

-- the count of one more
told_by : (most n : ℕ) → min (min n most + 1) most ≡ min (n + 1) most
told_by most n = omega arith

pub told-more : (n : ℕ) → min (count_shown n + 1) MOST_TOLD ≡ count_shown (n + 1)
unfolding count_shown
told-more n = told_by MOST_TOLD n

-- one drawn fragment more, while fewer are drawn than a view keeps
pub fragments-room : (es : List Event) (seg first last : ℕ) → length (drawsegs es) < MAX_DRAWSEGS →
    map listed_fragment (drawsegs (es ++ FragmentEvent seg first last ∷ [])) ≡ map listed_fragment (drawsegs es) ++ record { seg = seg; first = first; last = last } ∷ []
unfolding listed_fragment
fragments-room es seg first last room =
    ap (map listed_fragment) (drawsegs-room es seg first last (room-drawsegs es room))
    ∙ map-append listed_fragment (drawsegs es) (record { leaf = last_leaf 0 es; seg = seg; first = first; last = last } ∷ [])

-- past the most nothing is listed, and a leaf lists no fragment
pub fragments-full : (es : List Event) (seg first last : ℕ) → MAX_DRAWSEGS ≤ length (drawsegs es) →
    map listed_fragment (drawsegs (es ++ FragmentEvent seg first last ∷ [])) ≡ map listed_fragment (drawsegs es)
fragments-full es seg first last full = ap (map listed_fragment) (drawsegs-full es seg first last (full-drawsegs es full))

pub fragments-leaf : (es : List Event) (n : ℕ) → map listed_fragment (drawsegs (es ++ LeafEvent n ∷ [])) ≡ map listed_fragment (drawsegs es)
fragments-leaf es n = ap (map listed_fragment) (drawsegs-leaf es n)

-- each fragment counts, drawn or not
pub all_fragments-fragment : (es : List Event) (seg first last : ℕ) → length (leaf_fragments 0 (es ++ FragmentEvent seg first last ∷ [])) ≡ length (leaf_fragments 0 es) + 1
unfolding leaf_fragments
all_fragments-fragment es seg first last =
    ap length (leaf_fragments-append 0 es (FragmentEvent seg first last ∷ []))
    ∙ length_push (leaf_fragments 0 es) (record { leaf = last_leaf 0 es; seg = seg; first = first; last = last })

pub all_fragments-leaf : (es : List Event) (n : ℕ) → length (leaf_fragments 0 (es ++ LeafEvent n ∷ [])) ≡ length (leaf_fragments 0 es)
unfolding leaf_fragments
all_fragments-leaf es n = ap length (leaf_fragments-append 0 es (LeafEvent n ∷ []) ∙ append-nil (leaf_fragments 0 es))

-- a step takes no plane away
longer_step : (steps : List Step) (s : Step) → length (view_planes steps) ≤ length (view_planes (steps ++ s ∷ []))
unfolding view_planes planes_of
longer_step steps s =
    let after_one_step = ap (after_events no_planes) (map-append (λ (t : Step). t.event) steps (s ∷ [])) ∙ after_events-more no_planes (map (λ (t : Step). t.event) steps) s.event in
    let is_longer = after_event-longer (after_events no_planes (map (λ (t : Step). t.event) steps)) s.event in
    subst (λ (now : PlanesNow). length (after_events no_planes (map (λ (t : Step). t.event) steps)).planes ≤ length now.planes) (sym after_one_step) is_longer

pub walls_counted : (v : ViewValue) (scene : Scene) (es : List Event) → length (walls_of v scene es) ≡ length (drawsegs es)
unfolding walls_of
walls_counted v scene es = length-map (drawsegs es) (fragment_wall v scene)

pub drawn_counted : (es : List Event) → length (drawsegs es) ≤ length (leaf_fragments 0 es)
unfolding drawsegs
drawn_counted es = omega (arith, length-take MAX_DRAWSEGS (leaf_fragments 0 es))

pub all_counted : (es : List Event) → length (drawsegs es) < MAX_DRAWSEGS → length (drawsegs es) ≡ length (leaf_fragments 0 es)
unfolding drawsegs
all_counted es h = omega (arith, length-take MAX_DRAWSEGS (leaf_fragments 0 es))

-- an event takes no plane away
pub event_planes-longer : (v : ViewValue) (scene : Scene) (es : List Event) (e : Event) → length (event_planes v scene es) ≤ length (event_planes v scene (es ++ e ∷ []))
unfolding event_planes view_steps
event_planes-longer v scene es (LeafEvent n) =
    let steps_after_leaf = ap (λ walls. steps_of v scene walls (es ++ LeafEvent n ∷ [])) (walls_of-leaf v scene es n) ∙ steps_of-leaf v scene
    (walls_of v scene es) es n in rw steps_after_leaf (longer_step (steps_of v scene (walls_of v scene es) es) (leaf_step v (leaf_surface scene n)))
event_planes-longer v scene es (FragmentEvent seg first last) =
    let same_counts = walls_counted v scene es in
    elim (cases_lt (length (walls_of v scene es)) MAX_DRAWSEGS) [
      | inl room ↦ (
          let wall = fragment_wall v scene (record { leaf = last_leaf 0 es; seg = seg; first = first; last = last }) in
          let has_room : length (drawsegs es) < MAX_DRAWSEGS = omega arith in let steps_after_wall =
          ap (λ (walls : List Wall). steps_of v scene walls (es ++ FragmentEvent seg first last ∷ [])) (walls_of-room v scene es seg first last room)
          ∙ steps_of-room v scene (walls_of v scene es) wall es seg first last (same_counts ∙ all_counted es has_room) in rw steps_after_wall
          (longer_step (steps_of v scene (walls_of v scene es) es) (wall_step v (walls_of v scene es ++ wall ∷ []) (length (walls_of v scene es)) wall)))
      | inr full ↦ (
          let drawn_at_most = drawn_counted es in let steps_when_full =
          ap (λ (walls : List Wall). steps_of v scene walls (es ++ FragmentEvent seg first last ∷ [])) (walls_of-full v scene es seg first last full)
          ∙ steps_of-full v scene (walls_of v scene es) es seg first last (omega arith) in
          rw steps_when_full (omega arith))
    ]

pub event_planes-none : (v : ViewValue) (scene : Scene) → event_planes v scene [] ≡ []
unfolding event_planes view_steps steps_of walls_of drawsegs leaf_fragments steps_from view_planes planes_of after_events
event_planes-none v scene = refl

-- one event more: its planes are the last, and are its own
makers_last : (v : ViewValue) (scene : Scene) (before es : List Event) (e : Event) →
    makers_from v scene before (es ++ e ∷ []) ≡ makers_from v scene before es ++ replicate (planes_made v scene (before ++ es) e) (maker_of (length (drawsegs (before ++ es))) e)
unfolding makers_from
makers_last v scene before [] e =
    append-nil (replicate (planes_made v scene before e) (maker_of (length (drawsegs before)) e))
    ∙ ap (λ (fs : List Event). replicate (planes_made v scene fs e) (maker_of (length (drawsegs fs)) e)) (sym (append-nil before))
makers_last v scene before (f ∷ fs) e =
    let makers_of_event = replicate (planes_made v scene before f) (maker_of (length (drawsegs before)) f) in
    ap (λ (ms : List PlaneMaker). makers_of_event ++ ms) (makers_last v scene (before ++ f ∷ []) fs e
    ∙ ap (λ (gs : List Event). makers_from v scene (before ++ f ∷ []) fs ++ replicate (planes_made v scene gs e) (maker_of (length (drawsegs gs)) e)) (append_assoc before (f ∷ []) fs))
    ∙ sym (append_assoc makers_of_event (makers_from v scene (before ++ f ∷ []) fs) (replicate (planes_made v scene (before ++ f ∷ fs) e) (maker_of (length (drawsegs (before ++ f ∷ fs))) e)))

pub plane_makers-more : (v : ViewValue) (scene : Scene) (es : List Event) (e : Event) →
    plane_makers v scene (es ++ e ∷ []) ≡ plane_makers v scene es ++ replicate (planes_made v scene es e) (maker_of (length (drawsegs es)) e)
unfolding plane_makers
plane_makers-more v scene es e = makers_last v scene [] es e

pub plane_makers-none : (v : ViewValue) (scene : Scene) → plane_makers v scene [] ≡ []
unfolding plane_makers makers_from
plane_makers-none v scene = refl

-- each plane has a maker
makers_counted : (v : ViewValue) (scene : Scene) (before es : List Event) → length (makers_from v scene before es) + length (event_planes v scene before) ≡ length (event_planes v scene (before ++ es))
unfolding makers_from planes_made
makers_counted v scene before [] = let planes_same = ap (λ (fs : List Event). length (event_planes v scene fs)) (append-nil before) in
    omega (arith, planes_same)
makers_counted v scene before (e ∷ es) =
    let planes_grow = event_planes-longer v scene before e in
    let rest_is = makers_counted v scene (before ++ e ∷ []) es ∙ ap (λ (fs : List Event). length (event_planes v scene fs)) (append_assoc before (e ∷ []) es) in
    let makers_of_event = replicate (planes_made v scene before e) (maker_of (length (drawsegs before)) e) in
    let joined_length = length-append makers_of_event (makers_from v scene (before ++ e ∷ []) es) in
    let own_length = length-replicate (planes_made v scene before e) (maker_of (length (drawsegs before)) e) in
    omega (arith, planes_grow, rest_is, joined_length, own_length)

pub plane_makers-count : (v : ViewValue) (scene : Scene) (es : List Event) → length (plane_makers v scene es) ≡ length (event_planes v scene es)
unfolding plane_makers
plane_makers-count v scene es =
    let no_planes_yet = ap length (event_planes-none v scene) in let makers_are_counted = makers_counted v scene [] es in
    omega (arith, no_planes_yet, makers_are_counted)

-- a fragment shows no thing, a leaf those of its sector where none of that was entered before
pub shown_things-fragment : (v : ViewValue) (scene : Scene) (es : List Event) (seg first last : ℕ) → shown_things v scene (es ++ FragmentEvent seg first last ∷ []) ≡ shown_things v scene es
unfolding shown_things
shown_things-fragment v scene es seg first last =
    ap (joined_lists (λ sector. filter (makes_entry v scene sector) (scene.things_of sector))) (sectors_entered-fragment scene es seg first last)

pub shown_things-again : (v : ViewValue) (scene : Scene) (es : List Event) (n : ℕ) → is_entered scene es (leaf_sector scene n) ≡ true → shown_things v scene (es ++ LeafEvent n ∷ []) ≡ shown_things v scene es
unfolding shown_things
shown_things-again v scene es n h =
    ap (joined_lists (λ sector. filter (makes_entry v scene sector) (scene.things_of sector)))
    (sectors_entered-leaf scene es n ∙ ap (λ b. sectors_entered scene es ++ cond b [] (leaf_sector scene n ∷ [])) h ∙ append-nil (sectors_entered scene es))

pub shown_things-new : (v : ViewValue) (scene : Scene) (es : List Event) (n : ℕ) → is_entered scene es (leaf_sector scene n) ≡ false →
    shown_things v scene (es ++ LeafEvent n ∷ []) ≡ shown_things v scene es ++ filter (makes_entry v scene (leaf_sector scene n)) (scene.things_of (leaf_sector scene n))
unfolding shown_things joined_lists
shown_things-new v scene es n h =
    let things : ℕ → List PlacedThing = λ sector. filter (makes_entry v scene sector) (scene.things_of sector) in
    ap (joined_lists things)
    (sectors_entered-leaf scene es n ∙ ap (λ (b : Bool). sectors_entered scene es ++ cond b [] (leaf_sector scene n ∷ [])) h)
    ∙ joined_lists-append things (sectors_entered scene es) (leaf_sector scene n ∷ [])
    ∙ ap (λ (ts : List PlacedThing). joined_lists things (sectors_entered scene es) ++ ts) (append-nil (things (leaf_sector scene n)))

pub shown_things-none : (v : ViewValue) (scene : Scene) → shown_things v scene [] ≡ []
unfolding shown_things joined_lists sectors_entered first_mentions leaves_entered
shown_things-none v scene = refl

-- what is at a place of a list with one item more
get_push : {X : Type 0} (xs : List X) (x y : X) (k : ℕ) → slice_get (xs ++ x ∷ []) k ≡ Some y → (slice_get xs k ≡ Some y) ⊎ ((k ≡ length xs) × (x ≡ y))
get_push [] x y zero h = inr (refl, cc)
get_push [] x y (suc k) h = absurd (cc)
get_push (z ∷ zs) x y zero h = inl h
get_push (z ∷ zs) x y (suc k) h = elim (get_push zs x y k h) [ inl l ↦ inl l | inr r ↦ inr (ap suc r.0, r.1) ]

module _ (v : ViewValue) (scene : Scene) where
  -- a thing more that makes no entry for want of room
  without_room : (entries : List SpriteEntry) (things : List PlacedThing) (thing : PlacedThing) → MAX_VISSPRITES ≤ length entries →
      AreEntriesOf v scene entries things → AreEntriesOf v scene entries (things ++ thing ∷ [])
  without_room entries things thing full h = record {
    count = omega (arith, h.count, length_push things thing, full);
    each = λ k e t is on. elim (get_push things thing t k on) [
      | inl old ↦ h.each k e t is old
      | inr new ↦ absurd (omega (arith, slice_get_within entries k e is, new.0, h.count))
    ];
  }

  -- and one that makes the next entry
  with_room : (entries : List SpriteEntry) (things : List PlacedThing) (thing : PlacedThing) (e : SpriteEntry) → length entries < MAX_VISSPRITES →
      IsEntryOf v scene (length entries) thing e → AreEntriesOf v scene entries things → AreEntriesOf v scene (entries ++ e ∷ []) (things ++ thing ∷ [])
  with_room entries things thing e room own h =
      let counts_same : length entries ≡ length things = omega (arith, h.count, room) in
      record {
        count = omega (arith, counts_same, length_push things thing, length_push entries e, room);
        each = λ k f t is on. elim (get_push entries e f k is) [
          | inl old ↦ elim (get_push things thing t k on) [
            | inl on_old ↦ h.each k f t old on_old
            | inr on_new ↦ absurd (omega (arith, slice_get_within entries k f old, on_new.0, counts_same))
          ]
          | inr new ↦ elim (get_push things thing t k on) [
            | inl on_old ↦ absurd (omega (arith, slice_get_within things k t on_old, new.0, counts_same))
            | inr on_new ↦
                subst (λ (f : SpriteEntry). IsEntryOf v scene k t f) new.1
                (subst (λ (t : PlacedThing). IsEntryOf v scene k t e) on_new.1
                (subst (λ (n : ℕ). IsEntryOf v scene n thing e) (sym new.0) own))
          ]
        ];
      }

  made_if : (entries : List SpriteEntry) (things : List PlacedThing) (thing : PlacedThing) (e : SpriteEntry) (room : Bool) → nat_lt (length entries) MAX_VISSPRITES ≡ room → IsEntryOf v scene (length entries) thing e → AreEntriesOf v scene entries things →
      AreEntriesOf v scene (cond room (entries ++ e ∷ []) entries) (things ++ thing ∷ [])
  made_if entries things thing e true is own h = with_room entries things thing e (grind (arith, nat_tests)) own h
  made_if entries things thing e false is own h = without_room entries things thing (grind (arith, nat_tests)) h

  -- the entries after a thing that is seen with a picture
  shape_with : (sector : ℕ) (entries : List SpriteEntry) (things : List PlacedThing) (thing : PlacedThing) (seen : Seen) (shape : Shape5) (misses : Bool) →
      project v (placed_of v scene sector thing) ≡ Some seen → scene.pick thing.sprite thing.frame seen.rotation ≡ Some shape →
      misses_view v (picture_first v seen shape) (picture_last v seen shape) ≡ misses → AreEntriesOf v scene entries things →
      AreEntriesOf v scene (with_shape v entries (placed_of v scene sector thing) seen (Some shape)) (things ++ cond (is_shown v (placed_of v scene sector thing) seen (Some shape)) (thing ∷ []) [])
  unfolding with_shape is_shown add_entry with_entry entry_for entry_within
  shape_with sector entries things thing seen shape true is_seen is_picked is h = rw is (rw (append-nil things) h)
  shape_with sector entries things thing seen shape false is_seen is_picked is h =
      let placed = placed_of v scene sector thing in
      let entry = entry_of v (length entries) placed seen shape (picture_first v seen shape) (picture_last v seen shape) in
      let is_entry_of_thing : IsEntryOf v scene (length entries) thing entry = record {
        sector = sector;
        seen = seen;
        shape = shape;
        is_seen = is_seen;
        is_picked = is_picked;
        is_made = rw is refl;
      } in
      rw is (made_if entries things thing entry (nat_lt (length entries) MAX_VISSPRITES) refl is_entry_of_thing h)

  picked_with : (sector : ℕ) (entries : List SpriteEntry) (things : List PlacedThing) (thing : PlacedThing) (seen : Seen) (shape : Option Shape5) →
      project v (placed_of v scene sector thing) ≡ Some seen → scene.pick thing.sprite thing.frame seen.rotation ≡ shape → AreEntriesOf v scene entries things →
      AreEntriesOf v scene (with_shape v entries (placed_of v scene sector thing) seen shape) (things ++ cond (is_shown v (placed_of v scene sector thing) seen shape) (thing ∷ []) [])
  unfolding with_shape is_shown
  picked_with sector entries things thing seen None is_seen is_picked h = rw (append-nil things) h
  picked_with sector entries things thing seen (Some shape) is_seen is_picked h =
      shape_with sector entries things thing seen shape (misses_view v (picture_first v seen shape) (picture_last v seen shape)) is_seen is_picked refl h

  seen_with : (sector : ℕ) (entries : List SpriteEntry) (things : List PlacedThing) (thing : PlacedThing) (seen : Option Seen) → project v (placed_of v scene sector thing) ≡ seen → AreEntriesOf v scene entries things →
      AreEntriesOf v scene (with_seen v scene entries thing (placed_of v scene sector thing) seen) (things ++ cond (is_seen v scene thing (placed_of v scene sector thing) seen) (thing ∷ []) [])
  unfolding with_seen is_seen
  seen_with sector entries things thing None is h = rw (append-nil things) h
  seen_with sector entries things thing (Some seen) is h =
      picked_with sector entries things thing seen (scene.pick thing.sprite thing.frame seen.rotation) is refl h

  -- one thing more
  thing_with : (sector : ℕ) (entries : List SpriteEntry) (things : List PlacedThing) (thing : PlacedThing) → AreEntriesOf v scene entries things →
      AreEntriesOf v scene (with_thing v scene sector entries thing) (things ++ cond (makes_entry v scene sector thing) (thing ∷ []) [])
  unfolding with_thing makes_entry
  thing_with sector entries things thing h = seen_with sector entries things thing (project v (placed_of v scene sector thing)) refl h

  filter_cons : (p : PlacedThing → Bool) (things : List PlacedThing) (t : PlacedThing) (ts : List PlacedThing) (b : Bool) → p t ≡ b → (things ++ cond b (t ∷ []) []) ++ filter p ts ≡ things ++ filter p (t ∷ ts)
  filter_cons p things t ts true is = rw is (append_assoc things (t ∷ []) (filter p ts))
  filter_cons p things t ts false is = rw is (ap (λ (us : List PlacedThing). us ++ filter p ts) (append-nil things))

  -- the things of a sector
  things_with : (sector : ℕ) (entries : List SpriteEntry) (things ts : List PlacedThing) → AreEntriesOf v scene entries things →
      AreEntriesOf v scene (with_things v scene sector entries ts) (things ++ filter (makes_entry v scene sector) ts)
  unfolding with_things
  things_with sector entries things [] h = rw (append-nil things) h
  things_with sector entries things (t ∷ ts) h =
      subst (AreEntriesOf v scene (with_things v scene sector (with_thing v scene sector entries t) ts)) (filter_cons (makes_entry v scene sector) things t ts (makes_entry v scene sector t) refl)
      (things_with sector (with_thing v scene sector entries t) (things ++ cond (makes_entry v scene sector t) (t ∷ []) []) ts (thing_with sector entries things t h))

  -- and those of sectors
  sectors_with : (entries : List SpriteEntry) (things : List PlacedThing) (sectors : List ℕ) → AreEntriesOf v scene entries things →
      AreEntriesOf v scene (with_sectors v scene entries sectors) (things ++ joined_lists (λ sector. filter (makes_entry v scene sector) (scene.things_of sector)) sectors)
  unfolding with_sectors joined_lists
  sectors_with entries things [] h = rw (append-nil things) h
  sectors_with entries things (n ∷ ns) h =
      subst (AreEntriesOf v scene (with_sectors v scene (with_things v scene n entries (scene.things_of n)) ns))
      (append_assoc things (filter (makes_entry v scene n) (scene.things_of n)) (joined_lists (λ sector. filter (makes_entry v scene sector) (scene.things_of sector)) ns))
      (sectors_with (with_things v scene n entries (scene.things_of n)) (things ++ filter (makes_entry v scene n) (scene.things_of n)) ns (things_with n entries things (scene.things_of n) h))

  -- Vissprite number k of a view is that of the k-th thing that is shown; there are as many, up to the most that a view keeps.
  pub entries-of_shown : (es : List Event) → AreEntriesOf v scene (view_entries v scene es) (shown_things v scene es)
  unfolding view_entries shown_things
  entries-of_shown es = sectors_with [] [] (sectors_entered scene es) (record { count = omega arith; each = λ k e t is on. absurd (cc) })
