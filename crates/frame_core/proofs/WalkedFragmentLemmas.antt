-- Laws of a bench as a list of events makes it: a fragment more.
use Rattle.picture_rules.proofs.Common.{[], All, All-push, ap, append-nil, arith, cases_lt, Err, inl, inr, length, length-append, length-map, List, list_any, map, None, Ok, OnOk, Option, refl, Result, subst, suc, sym, ℕ, ◌++◌, ◌+◌, ◌<◌, ◌==◌, ◌∙◌, ◌∷◌, ◌≡◌, ◌≤◌}
use Rattle.frame_core.specs.Rules.{Event, FRAME_HEIGHT, FragmentEvent, Limits, MAX_DRAWSEGS, OverLimit, Plane, PlanesNow, Scene, SceneValue, Step, ViewValue, Wall, WallFacts, after_event, drawsegs, facts_of, fragment_wall, is_entered, last_leaf, leaf_sector, leaf_surface, leaves_entered, notes_from, openings_after, openings_list, openings_of, openings_past, saved_by, seg_at, steps_over, surface_at, view_notes, view_steps, wall_of, wall_step, walls_of}
use Rattle.picture_rules.proofs.Laws.{drawsegs-within, last_leaf-append, leaves_entered-append}
use Rattle.picture_rules.proofs.wall.NoteLemmas.{length-saved_openings, openings_list-more}
use Rattle.picture_rules.proofs.ThingLemmas.{view_entries-fragment}
use Rattle.visplanes.specs.Planes.{PlanesView}
use Rattle.wall_columns.specs.Built.{IsBuilt, limits_of, step_of_wall, step_over, with_wall}
use Rattle.wall_columns.specs.{Faults.over_of_stop, Walls.WallsView}
use Rattle.wall_columns.specs.declared.fault.WallStop.{WallStop}
use Rattle.frame_core.specs.declared.bench.Bench.{Bench}
use Rattle.sound_scene.specs.Pictures.{lists_of, scene_of}
use Rattle.frame_core.specs.Walked.{HasWalked, IsEventIn, IsPlaneIn, next_wall, planes_after}
use Rattle.frame_core.proofs.PlaneStepLemmas.{planes-wall}
use Rattle.frame_core.proofs.StepLemmas.{one_more-room, planes_after-full, steps-full, walls-full, walls-room}
use Rattle.frame_core.proofs.WalkedLemmas.{IsSeen, bench_of, built_as, over-step, planes_so_far, walked_step}

entered_fragment : (scene : Scene) (es : List Event) (seg first last sector : ℕ) → is_entered scene (es ++ FragmentEvent seg first last ∷ []) sector ≡ is_entered scene es sector
unfolding is_entered leaves_entered
entered_fragment scene es seg first last sector =
    ap (λ (ls : List ℕ). list_any (λ m. m == sector) (map (leaf_sector scene) ls)) (leaves_entered-append es (FragmentEvent seg first last ∷ []) ∙ append-nil (leaves_entered es))

last_of_fragment : (es : List Event) (seg first last : ℕ) → last_leaf 0 es ≡ last_leaf 0 (es ++ FragmentEvent seg first last ∷ [])
unfolding last_leaf
last_of_fragment es seg first last = sym (last_leaf-append 0 es (FragmentEvent seg first last ∷ []))

-- what stays seen of a fragment more
pub seen-fragment : (v : ViewValue) (bytes : ℕ → List ℕ) (scene : SceneValue) (most : Limits) (events : List Event) (seg first last : ℕ) (old : Bench) (planes : PlanesView) (walls : WallsView) →
    HasWalked v bytes scene most events old → IsSeen v bytes scene (events ++ FragmentEvent seg first last ∷ []) (bench_of planes walls old.sprites old.entered old.sector)
seen-fragment v bytes scene most events seg first last old planes walls h =
    let whole_scene = scene_of bytes scene in
    record {
      sprites = h.sprites ∙ sym (view_entries-fragment v whole_scene events seg first last);
      columns = h.columns;
      lumps = h.lumps;
      entered = λ sector l. h.entered sector l ∙ sym (entered_fragment whole_scene events seg first last sector);
      sector = h.sector ∙ ap (leaf_sector whole_scene) (last_of_fragment events seg first last);
    }

-- a fragment past the most that a view keeps
walked_full : (v : ViewValue) (bytes : ℕ → List ℕ) (scene : SceneValue) (most : Limits) (events : List Event) (seg first last : ℕ) (old : Bench) (planes : PlanesView) (walls : WallsView) →
    IsEventIn v scene (FragmentEvent seg first last) → MAX_DRAWSEGS ≤ length (walls_of v (scene_of bytes scene) events) → planes ≡ old.planes → walls ≡ old.walls →
    HasWalked v bytes scene most events old → HasWalked v bytes scene most (events ++ FragmentEvent seg first last ∷ []) (bench_of planes walls old.sprites old.entered old.sector)
walked_full v bytes scene most events seg first last old planes walls there full same_planes same_walls h =
    let whole_scene = scene_of bytes scene in let es = events ++ FragmentEvent seg first last ∷ [] in
    let stays_seen = seen-fragment v bytes scene most events seg first last old planes walls h in
    let steps = steps-full v whole_scene events seg first last full in
    record {
      there = All-push (IsEventIn v scene) events (FragmentEvent seg first last) h.there there;
      built = built_as v (walls_of v whole_scene events) (walls_of v whole_scene es) (planes_after v whole_scene events) (planes_after v whole_scene es) walls
          old.planes.planes planes.planes (walls-full v whole_scene events seg first last full) (planes_after-full v whole_scene events seg first last full)
          (ap (λ (p : PlanesView). p.planes) same_planes)
          (subst (λ (w : WallsView). IsBuilt v (walls_of v whole_scene events) (planes_after v whole_scene events) w old.planes.planes) (sym same_walls)
          h.built);
      openings = ap (λ (w : WallsView). length w.openings) same_walls ∙ h.openings ∙ ap (openings_after 0) (sym steps);
      limits = ap (λ (w : WallsView). limits_of w planes) same_walls ∙ ap (limits_of old.walls) same_planes ∙ h.limits;
      within = ap (steps_over most) steps ∙ h.within;
      planes = subst (λ (p : PlanesView). All (IsPlaneIn v.shape scene) p.planes) (sym same_planes) h.planes;
      sprites = stays_seen.sprites;
      columns = stays_seen.columns;
      lumps = stays_seen.lumps;
      entered = stays_seen.entered;
      sector = stays_seen.sector;
    }

-- the facts of a seg from the sector of the bench make the next wall
pub next_wall-facts : (v : ViewValue) (bytes : ℕ → List ℕ) (scene : SceneValue) (events : List Event) (seg first last sector : ℕ) (facts : WallFacts) → sector ≡ leaf_sector (scene_of bytes scene) (last_leaf 0 events) →
    facts ≡ facts_of (scene_of bytes scene) (surface_at (lists_of scene) sector) seg (seg_at (lists_of scene) seg) →
    wall_of v facts first last ≡ next_wall v (scene_of bytes scene) events seg first last
unfolding next_wall leaf_surface scene_of
next_wall-facts v bytes scene events seg first last sector facts e f =
    ap (λ (g : WallFacts). wall_of v g first last) f
    ∙ ap (λ (k : ℕ). wall_of v (facts_of (scene_of bytes scene) (surface_at (lists_of scene) k) seg (seg_at (lists_of scene) seg)) first last) e

next_first : (v : ViewValue) (scene : Scene) (events : List Event) (seg first last : ℕ) → first ≡ (next_wall v scene events seg first last).first
unfolding next_wall wall_of
next_first v scene events seg first last = refl

next_last : (v : ViewValue) (scene : Scene) (events : List Event) (seg first last : ℕ) → last ≡ (next_wall v scene events seg first last).last
unfolding next_wall wall_of
next_last v scene events seg first last = refl

openings_more : (v : ViewValue) (walls : List Wall) (w : Wall) → length (openings_list v (with_wall walls w)) ≡ length (openings_list v walls) + openings_of w
openings_more v walls w =
    ap length (openings_list-more v walls w) ∙ length-append (openings_list v walls) (saved_by v (with_wall walls w) (length walls) w)
    ∙ ap (λ (n : ℕ). length (openings_list v walls) + n) (length-saved_openings v (with_wall walls w) (length walls) w)

notes_counted : (v : ViewValue) (walls : List Wall) (place : ℕ) → length (notes_from v place walls) ≡ length walls
unfolding notes_from
notes_counted v [] place = refl
notes_counted v (w ∷ ws) place = ap suc (notes_counted v ws _)

-- what the calls of a fragment give
pub record TakesFragment (v : ViewValue) (scene : SceneValue) (seg first last : ℕ) (facts : WallFacts) (old : Bench) (planes : PlanesView) (walls : WallsView) (answer : Option OverLimit) : Type 0 where
  pub there : IsEventIn v scene (FragmentEvent seg first last)
  pub facts_are : (bytes : ℕ → List ℕ) → facts ≡ facts_of (scene_of bytes scene) (surface_at (lists_of scene) old.sector) seg (seg_at (lists_of scene) seg)
  pub limit : (ws : List Wall) (s : PlanesNow) → IsBuilt v ws s old.walls old.planes.planes → length ws < MAX_DRAWSEGS →
      answer ≡ step_over (limits_of old.walls old.planes) s (length old.walls.openings) (step_of_wall v ws (wall_of v facts first last))
  pub limits : limits_of walls planes ≡ limits_of old.walls old.planes
  pub full : length old.walls.notes ≡ MAX_DRAWSEGS → (answer ≡ None) × ((planes ≡ old.planes) × (walls ≡ old.walls))

walls_within : (v : ViewValue) (scene : Scene) (es : List Event) → length (walls_of v scene es) ≤ MAX_DRAWSEGS
unfolding walls_of
walls_within v scene es = let walls_count = length-map (drawsegs es) (fragment_wall v scene) in let drawn_within_most = drawsegs-within es in omega arith

-- where no fragment more is drawn the notes are as many as a view keeps
pub notes_full : (v : ViewValue) (scene : Scene) (es : List Event) (s : PlanesNow) (walls : WallsView) (planes : List Plane) → IsBuilt v (walls_of v scene es) s walls planes → MAX_DRAWSEGS ≤ length (walls_of v scene es) →
    length walls.notes ≡ MAX_DRAWSEGS
unfolding view_notes
notes_full v scene es s walls planes built full =
    let walls_within_most = walls_within v scene es in
    let notes_count : length walls.notes ≡ length (walls_of v scene es) = ap length built.notes ∙ notes_counted v (walls_of v scene es) 0 in
    omega arith

-- the first limit that a fragment passes
pub over-fragment : (v : ViewValue) (bytes : ℕ → List ℕ) (scene : SceneValue) (most : Limits) (events : List Event) (seg first last : ℕ) (facts : WallFacts) (old : Bench) (planes : PlanesView) (walls : WallsView) (answer : Option OverLimit) →
    TakesFragment v scene seg first last facts old planes walls answer → HasWalked v bytes scene most events old →
    answer ≡ steps_over most (view_steps v (scene_of bytes scene) (events ++ FragmentEvent seg first last ∷ []))
over-fragment v bytes scene most events seg first last facts old planes walls answer takes h =
    let whole_scene = scene_of bytes scene in
    let walls_before = walls_of v whole_scene events in
    let planes_before = planes_after v whole_scene events in
    let events_now = events ++ FragmentEvent seg first last ∷ [] in
    elim (cases_lt (length walls_before) MAX_DRAWSEGS) [
      | inl room ↦
          takes.limit walls_before planes_before h.built room
          ∙ ap (λ (w : Wall). step_over (limits_of old.walls old.planes) planes_before (length old.walls.openings) (step_of_wall v walls_before w)) (next_wall-facts v bytes scene events seg first last old.sector facts h.sector (takes.facts_are bytes))
          ∙ over-step v bytes scene most events events_now (step_of_wall v walls_before (next_wall v whole_scene events seg first last)) old h (one_more-room v whole_scene events seg first last room)
      | inr full ↦
          (takes.full (notes_full v whole_scene events planes_before old.walls old.planes.planes h.built full)).0 ∙ sym h.within ∙ ap (steps_over most) (sym (steps-full v whole_scene events seg first last full))
    ]

-- what is built where the fragment is drawn
abbrev pub BuildsFragment : ViewValue → Wall → Bench → PlanesView → WallsView → Type 0
BuildsFragment v w old planes walls = (ws : List Wall) (s : PlanesNow) → IsBuilt v ws s old.walls old.planes.planes → length ws < MAX_DRAWSEGS →
    IsBuilt v (with_wall ws w) (after_event s (step_of_wall v ws w).event) walls planes.planes

walked_room : (v : ViewValue) (bytes : ℕ → List ℕ) (scene : SceneValue) (most : Limits) (events : List Event) (seg first last : ℕ) (facts : WallFacts) (old : Bench) (planes : PlanesView) (walls : WallsView) →
    v.shape.height ≤ FRAME_HEIGHT → TakesFragment v scene seg first last facts old planes walls None → BuildsFragment v (wall_of v facts first last) old planes walls → HasWalked v bytes scene most events old →
    length (walls_of v (scene_of bytes scene) events) < MAX_DRAWSEGS → HasWalked v bytes scene most (events ++ FragmentEvent seg first last ∷ []) (bench_of planes walls old.sprites old.entered old.sector)
unfolding openings_past wall_step
walked_room v bytes scene most events seg first last facts old planes walls tall takes builds h room =
    let whole_scene = scene_of bytes scene in let ws = walls_of v whole_scene events in
    let planes_before = planes_after v whole_scene events in
    let wall = next_wall v whole_scene events seg first last in
    let new_step : Step = step_of_wall v ws wall in
    let new = bench_of planes walls old.sprites old.entered old.sector in
    let next_wall_is = next_wall-facts v bytes scene events seg first last old.sector facts h.sector (takes.facts_are bytes) in
    let built_with : Wall → Type 0 = λ u. IsBuilt v (with_wall ws u) (after_event planes_before (step_of_wall v ws u).event) walls planes.planes in
    let new_lists_built : IsBuilt v (with_wall ws wall) (after_event planes_before new_step.event) walls planes.planes =
    subst built_with next_wall_is (builds ws planes_before h.built room) in let first_same = next_first v whole_scene events seg first last in
    let last_same = next_last v whole_scene events seg first last in
    let columns = takes.there.1 in
    let columns_ordered = columns.0 in
    let columns_within = columns.1 in
    let planes_inside : All (IsPlaneIn v.shape scene) (after_event planes_before new_step.event).planes =
    planes-wall v scene (with_wall ws wall) (length ws) wall planes_before tall (omega arith) (omega arith) (planes_so_far v bytes scene most events old h) in
    walked_step v bytes scene most events (FragmentEvent seg first last) new_step old new h
    (record {
      more = one_more-room v whole_scene events seg first last room;
      there = takes.there;
      built = subst (λ (us : List Wall). IsBuilt v us (after_event planes_before new_step.event) walls planes.planes)
          (sym (walls-room v whole_scene events seg first last room)) new_lists_built;
      openings = ap length new_lists_built.openings ∙ openings_more v ws wall ∙ ap (λ (n : ℕ). n + openings_of wall) (sym (ap length h.built.openings));
      limits = takes.limits;
      within = takes.limit ws planes_before h.built room
          ∙ ap (λ (u : Wall). step_over (limits_of old.walls old.planes) planes_before (length old.walls.openings) (step_of_wall v ws u)) next_wall_is;
      planes = planes_inside;
    })
    (seen-fragment v bytes scene most events seg first last old planes walls h)

-- a fragment more
pub walked-fragment : (v : ViewValue) (bytes : ℕ → List ℕ) (scene : SceneValue) (most : Limits) (events : List Event) (seg first last : ℕ) (facts : WallFacts) (old : Bench) (planes : PlanesView) (walls : WallsView) →
    v.shape.height ≤ FRAME_HEIGHT → TakesFragment v scene seg first last facts old planes walls None → BuildsFragment v (wall_of v facts first last) old planes walls → HasWalked v bytes scene most events old →
    HasWalked v bytes scene most (events ++ FragmentEvent seg first last ∷ []) (bench_of planes walls old.sprites old.entered old.sector)
walked-fragment v bytes scene most events seg first last facts old planes walls tall takes builds h =
    let whole_scene = scene_of bytes scene in
    elim (cases_lt (length (walls_of v whole_scene events)) MAX_DRAWSEGS) [
      | inl room ↦ walked_room v bytes scene most events seg first last facts old planes walls tall takes builds h room
      | inr full ↦
          let nothing_changed = (takes.full (notes_full v whole_scene events (planes_after v whole_scene events) old.walls old.planes.planes h.built full)).1 in
          walked_full v bytes scene most events seg first last old planes walls takes.there full nothing_changed.0 nothing_changed.1 h
    ]

-- by the answer of the call
pub walked-range : {E : Type 0} (v : ViewValue) (bytes : ℕ → List ℕ) (scene : SceneValue) (most : Limits) (events : List Event) (seg first last : ℕ) (facts : WallFacts) (old : Bench) (planes : PlanesView) (walls : WallsView) (result : Result (Unit {0}) (WallStop E)) →
    v.shape.height ≤ FRAME_HEIGHT → TakesFragment v scene seg first last facts old planes walls (over_of_stop result) →
    ((ws : List Wall) (s : PlanesNow) → IsBuilt v ws s old.walls old.planes.planes → length ws < MAX_DRAWSEGS →
    OnOk result (IsBuilt v (with_wall ws (wall_of v facts first last)) (after_event s (step_of_wall v ws (wall_of v facts first last)).event) walls planes.planes)) →
    HasWalked v bytes scene most events old → OnOk result (HasWalked v bytes scene most (events ++ FragmentEvent seg first last ∷ []) (bench_of planes walls old.sprites old.entered old.sector))
walked-range v bytes scene most events seg first last facts old planes walls (Ok value) tall takes builds h =
    walked-fragment v bytes scene most events seg first last facts old planes walls tall takes builds h
walked-range v bytes scene most events seg first last facts old planes walls (Err fault) tall takes builds h = tt
