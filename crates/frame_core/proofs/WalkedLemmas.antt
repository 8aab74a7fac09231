-- Laws of a bench as a list of events makes it: no event, and a leaf more.
use Rattle.picture_rules.proofs.Common.{[], All, All-nil, All-push, AllPass, ap, Bool, eqb-true, Err, false, IsErrAnd, length, List, list_any, list_any-append, map, map-append, None, Ok, Option, or-false, refl, Result, Some, subst, sym, true, ℕ, ◌++◌, ◌<◌, ◌==◌, ◌||◌, ◌∙◌, ◌∷◌, ◌≡◌}
use Rattle.frame_core.specs.Rules.{Event, LeafEvent, Limits, OverLimit, Plane, PlaneKey, PlanesNow, Scene, SceneValue, SpriteEntry, Step, ViewValue, Wall, after_event, book_lumps, ceiling_key, first_mentions, floor_key, is_entered, last_leaf, leaf_at, leaf_sector, leaf_step, leaf_surface, leaves_entered, no_planes, openings_list, openings_past, saved_from, sectors_entered, steps_over, surface_at, view_entries, view_steps, walls_of, with_sectors}
use Rattle.picture_rules.proofs.Laws.{last_leaf-append, leaves_entered-append}
use Rattle.picture_rules.proofs.ThingLemmas.{view_entries-again, view_entries-new}
use Rattle.visplanes.specs.Planes.{PlanesView}
use Rattle.vissprites.specs.Bounds.{has_lump_below, lies_within}
use Rattle.wall_columns.specs.Built.{IsBuilt, limits_of, step_of_leaf, step_over}
use Rattle.wall_columns.specs.{Faults.over_of, Walls.WallsView}
use Rattle.frame_core.specs.{declared.bench.Bench.Bench, Entered.has_entered}
use Rattle.sound_scene.specs.Pictures.{lists_of, scene_of}
use Rattle.frame_core.specs.Walked.{HasWalked, IsEventIn, IsPlaneIn, planes_after, with_sector}
use Rattle.frame_core.proofs.PlaneStepLemmas.{planes-leaf}
use Rattle.frame_core.proofs.StepLemmas.{OneMore, one_more-leaf, openings-none, over-none, planes_after-none, walls-leaf, walls-none}

-- a bench of these parts
abbrev pub bench_of : PlanesView → WallsView → List SpriteEntry → List Bool → ℕ → Bench
bench_of planes walls sprites entered sector =
    record { planes = planes; walls = walls; sprites = sprites; entered = entered; sector = sector }

pub built_as : (v : ViewValue) (ws us : List Wall) (s t : PlanesNow) (walls : WallsView) (ps qs : List Plane) → us ≡ ws → t ≡ s → qs ≡ ps → IsBuilt v ws s walls ps → IsBuilt v us t walls qs
built_as v ws us s t walls ps qs e f g h =
    subst (λ (xs : List Wall). IsBuilt v xs t walls qs) (sym e)
    (subst (λ (now : PlanesNow). IsBuilt v ws now walls qs) (sym f) (subst (IsBuilt v ws s walls) (sym g) h))

no_openings : (v : ViewValue) → length (openings_list v []) ≡ 0
unfolding openings_list saved_from
no_openings v = refl

no_entries : (v : ViewValue) (scene : Scene) → [] ≡ view_entries v scene []
unfolding view_entries with_sectors sectors_entered first_mentions leaves_entered
no_entries v scene = refl

none_entered : (scene : Scene) (sector : ℕ) → false ≡ is_entered scene [] sector
unfolding is_entered leaves_entered
none_entered scene sector = refl

sector_of_leaf : (bytes : ℕ → List ℕ) (scene : SceneValue) (n : ℕ) → (leaf_at (lists_of scene) n).sector ≡ leaf_sector (scene_of bytes scene) n
unfolding leaf_sector scene_of
sector_of_leaf bytes scene n = refl

surface_of_leaf : (bytes : ℕ → List ℕ) (scene : SceneValue) (n : ℕ) → leaf_surface (scene_of bytes scene) n ≡ surface_at (lists_of scene) (leaf_sector (scene_of bytes scene) n)
unfolding leaf_surface scene_of
surface_of_leaf bytes scene n = refl

first_leaf : (scene : Scene) → leaf_sector scene 0 ≡ leaf_sector scene (last_leaf 0 [])
unfolding last_leaf
first_leaf scene = refl

-- a view that is started
pub walked-none : (v : ViewValue) (bytes : ℕ → List ℕ) (scene : SceneValue) (planes : PlanesView) (walls : WallsView) (sprites : List SpriteEntry) (entered : List Bool) (sector : ℕ) →
    IsBuilt v [] no_planes walls [] → planes.planes ≡ [] → sprites ≡ [] →
    ((s : ℕ) → s < length scene.base.level.sectors → has_entered entered s ≡ false) → sector ≡ (leaf_at (lists_of scene) 0).sector →
    HasWalked v bytes scene (limits_of walls planes) [] (bench_of planes walls sprites entered sector)
walked-none v bytes scene planes walls sprites entered sector built none no_sprites unset first =
    let whole_scene = scene_of bytes scene in record {
      there = All-nil (IsEventIn v scene);
      built = built_as v [] (walls_of v whole_scene []) no_planes (planes_after v whole_scene []) walls [] planes.planes
          (walls-none v whole_scene) (planes_after-none v whole_scene) none built;
      openings = ap length built.openings ∙ no_openings v ∙ sym (openings-none v whole_scene);
      limits = refl;
      within = over-none (limits_of walls planes) v whole_scene;
      planes = subst (All (IsPlaneIn v.shape scene)) (sym none) (All-nil (IsPlaneIn v.shape scene));
      sprites = no_sprites ∙ no_entries v whole_scene;
      columns = subst (AllPass (lies_within v.shape.width)) (sym no_sprites) (All-nil (λ (e : SpriteEntry). lies_within v.shape.width e ≡ true));
      lumps = λ n below. subst (AllPass (has_lump_below n)) (sym no_sprites) (All-nil (λ (e : SpriteEntry). has_lump_below n e ≡ true));
      entered = λ s l. unset s l ∙ none_entered whole_scene s;
      sector = first ∙ sector_of_leaf bytes scene 0 ∙ first_leaf whole_scene;
    }

-- the sprites, the sectors that are entered and the sector of the leaf, as the events make them
pub record IsSeen (v : ViewValue) (bytes : ℕ → List ℕ) (scene : SceneValue) (events : List Event) (b : Bench) : Type 0 where
  pub sprites : b.sprites ≡ view_entries v (scene_of bytes scene) events
  pub columns : AllPass (lies_within v.shape.width) b.sprites
  pub lumps : (n : ℕ) → All (λ lump. lump < n) (book_lumps scene.book) → AllPass (has_lump_below n) b.sprites
  pub entered : (sector : ℕ) → sector < length scene.base.level.sectors → has_entered b.entered sector ≡ is_entered (scene_of bytes scene) events sector
  pub sector : b.sector ≡ leaf_sector (scene_of bytes scene) (last_leaf 0 events)

-- the walls and planes of one step more
pub record IsBuiltOn (v : ViewValue) (bytes : ℕ → List ℕ) (scene : SceneValue) (events : List Event) (event : Event) (e : Step) (old new : Bench) : Type 0 where
  pub more : OneMore v (scene_of bytes scene) events (events ++ event ∷ []) e
  pub there : IsEventIn v scene event
  pub built : IsBuilt v (walls_of v (scene_of bytes scene) (events ++ event ∷ [])) (after_event (planes_after v (scene_of bytes scene) events) e.event) new.walls new.planes.planes
  pub openings : length new.walls.openings ≡ openings_past (length old.walls.openings) e.openings
  pub limits : limits_of new.walls new.planes ≡ limits_of old.walls old.planes
  pub within : None ≡ step_over (limits_of old.walls old.planes) (planes_after v (scene_of bytes scene) events) (length old.walls.openings) e
  pub planes : All (IsPlaneIn v.shape scene) (after_event (planes_after v (scene_of bytes scene) events) e.event).planes

-- the first limit that a step more passes, by the bench before it
pub over-step : (v : ViewValue) (bytes : ℕ → List ℕ) (scene : SceneValue) (most : Limits) (events more : List Event) (e : Step) (old : Bench) → HasWalked v bytes scene most events old →
    OneMore v (scene_of bytes scene) events more e →
    step_over (limits_of old.walls old.planes) (planes_after v (scene_of bytes scene) events) (length old.walls.openings) e ≡ steps_over most (view_steps v (scene_of bytes scene) more)
over-step v bytes scene most events more e old h one =
    let whole_scene = scene_of bytes scene in
    ap (λ (l : Limits). step_over l (planes_after v whole_scene events) (length old.walls.openings) e) h.limits
    ∙ ap (λ (n : ℕ). step_over most (planes_after v whole_scene events) n e) h.openings
    ∙ sym (one.over most h.within)

pub walked_step : (v : ViewValue) (bytes : ℕ → List ℕ) (scene : SceneValue) (most : Limits) (events : List Event) (event : Event) (e : Step) (old new : Bench) → HasWalked v bytes scene most events old →
    IsBuiltOn v bytes scene events event e old new → IsSeen v bytes scene (events ++ event ∷ []) new → HasWalked v bytes scene most (events ++ event ∷ []) new
walked_step v bytes scene most events event e old new h on seen =
    let whole_scene = scene_of bytes scene in let now = after_event (planes_after v whole_scene events) e.event in
    record {
      there = All-push (IsEventIn v scene) events event h.there on.there;
      built = subst (λ (s : PlanesNow). IsBuilt v (walls_of v whole_scene (events ++ event ∷ [])) s new.walls new.planes.planes) (sym on.more.planes) on.built;
      openings = on.openings ∙ ap (λ (n : ℕ). openings_past n e.openings) h.openings ∙ sym on.more.openings;
      limits = on.limits ∙ h.limits;
      within = sym (on.within ∙ over-step v bytes scene most events (events ++ event ∷ []) e old h on.more);
      planes = subst (All (IsPlaneIn v.shape scene)) (sym on.built.planes) on.planes;
      sprites = seen.sprites;
      columns = seen.columns;
      lumps = seen.lumps;
      entered = seen.entered;
      sector = seen.sector;
    }

-- the planes so far lie in the view
pub planes_so_far : (v : ViewValue) (bytes : ℕ → List ℕ) (scene : SceneValue) (most : Limits) (events : List Event) (b : Bench) → HasWalked v bytes scene most events b →
    All (IsPlaneIn v.shape scene) (planes_after v (scene_of bytes scene) events).planes
planes_so_far v bytes scene most events b h = subst (All (IsPlaneIn v.shape scene)) h.built.planes h.planes

or_true : (b : Bool) → (b || true) ≡ true
or_true true = refl
or_true false = refl

entered_leaf : (scene : Scene) (es : List Event) (n sector : ℕ) → is_entered scene (es ++ LeafEvent n ∷ []) sector ≡ (is_entered scene es sector || (leaf_sector scene n == sector))
unfolding is_entered leaves_entered
entered_leaf scene es n sector =
    ap (λ (ls : List ℕ). list_any (λ m. m == sector) (map (leaf_sector scene) ls)) (leaves_entered-append es (LeafEvent n ∷ []))
    ∙ ap (list_any (λ m. m == sector)) (map-append (leaf_sector scene) (leaves_entered es) (n ∷ []))
    ∙ list_any-append (λ m. m == sector) (map (leaf_sector scene) (leaves_entered es)) (leaf_sector scene n ∷ [])
    ∙ ap (λ (b : Bool). list_any (λ m. m == sector) (map (leaf_sector scene) (leaves_entered es)) || b) (or-false (leaf_sector scene n == sector))

entered_by : (scene : Scene) (es : List Event) (n s : ℕ) (now : Bool) (own : ℕ) (t : Bool) → own ≡ leaf_sector scene n → (own == s) ≡ t →
    ((own == s) ≡ true → now ≡ true) → ((own == s) ≡ false → now ≡ is_entered scene es s) → now ≡ is_entered scene (es ++ LeafEvent n ∷ []) s
entered_by scene es n s now own true e t same other =
    same t ∙ sym (or_true (is_entered scene es s)) ∙ ap (λ (b : Bool). is_entered scene es s || b) (sym t ∙ ap (λ (k : ℕ). k == s) e) ∙ sym (entered_leaf scene es n s)
entered_by scene es n s now own false e t same other =
    other t ∙ sym (or-false (is_entered scene es s)) ∙ ap (λ (b : Bool). is_entered scene es s || b) (sym t ∙ ap (λ (k : ℕ). k == s) e) ∙ sym (entered_leaf scene es n s)

last_of_leaf : (es : List Event) (n : ℕ) → n ≡ last_leaf 0 (es ++ LeafEvent n ∷ [])
unfolding last_leaf
last_of_leaf es n = sym (last_leaf-append 0 es (LeafEvent n ∷ []))

-- the sprites after a leaf
sprites_leaf : (v : ViewValue) (scene : Scene) (es : List Event) (n : ℕ) (b : Bool) → is_entered scene es (leaf_sector scene n) ≡ b →
    with_sector v scene b (leaf_sector scene n) (view_entries v scene es) ≡ view_entries v scene (es ++ LeafEvent n ∷ [])
unfolding with_sector
sprites_leaf v scene es n true e = sym (view_entries-again v scene es n e)
sprites_leaf v scene es n false e = sym (view_entries-new v scene es n e)

-- what the calls of a leaf give
pub record EntersLeaf (v : ViewValue) (scene : SceneValue) (n sector : ℕ) (floor ceiling : Option PlaneKey) (old new : Bench) : Type 0 where
  pub there : n < length scene.base.level.leaves
  pub own : sector ≡ (leaf_at (lists_of scene) n).sector
  pub inside : sector < length scene.base.level.sectors
  pub floor_is : floor ≡ floor_key v.eye.z (surface_at (lists_of scene) sector)
  pub ceiling_is : ceiling ≡ ceiling_key v.eye.z (surface_at (lists_of scene) sector)
  pub built : (walls : List Wall) (s : PlanesNow) → IsBuilt v walls s old.walls old.planes.planes →
      IsBuilt v walls (after_event s (step_of_leaf floor ceiling).event) new.walls new.planes.planes
  pub limit : (walls : List Wall) (s : PlanesNow) → IsBuilt v walls s old.walls old.planes.planes →
      None ≡ step_over (limits_of old.walls old.planes) s (length old.walls.openings) (step_of_leaf floor ceiling)
  pub openings : new.walls.openings ≡ old.walls.openings
  pub limits : limits_of new.walls new.planes ≡ limits_of old.walls old.planes
  pub sprites : (bytes : ℕ → List ℕ) → new.sprites ≡ with_sector v (scene_of bytes scene) (has_entered old.entered sector) sector old.sprites
  pub columns : AllPass (lies_within v.shape.width) old.sprites → AllPass (lies_within v.shape.width) new.sprites
  pub lumps : (n : ℕ) → All (λ lump. lump < n) (book_lumps scene.book) → AllPass (has_lump_below n) old.sprites → AllPass (has_lump_below n) new.sprites
  pub entered : has_entered new.entered sector ≡ true
  pub others : (other : ℕ) → (sector == other) ≡ false → has_entered new.entered other ≡ has_entered old.entered other
  pub now : new.sector ≡ sector

step_is : (v : ViewValue) (bytes : ℕ → List ℕ) (scene : SceneValue) (n sector : ℕ) (floor ceiling : Option PlaneKey) → sector ≡ leaf_sector (scene_of bytes scene) n →
    floor ≡ floor_key v.eye.z (surface_at (lists_of scene) sector) → ceiling ≡ ceiling_key v.eye.z (surface_at (lists_of scene) sector) →
    step_of_leaf floor ceiling ≡ leaf_step v (leaf_surface (scene_of bytes scene) n)
unfolding leaf_step
step_is v bytes scene n sector floor ceiling own f c =
    ap (λ (o : Option PlaneKey). step_of_leaf o ceiling) f
    ∙ ap (step_of_leaf (floor_key v.eye.z (surface_at (lists_of scene) sector))) c
    ∙ ap (λ (k : ℕ). step_of_leaf (floor_key v.eye.z (surface_at (lists_of scene) k)) (ceiling_key v.eye.z (surface_at (lists_of scene) k))) own
    ∙ ap (leaf_step v) (sym (surface_of_leaf bytes scene n))

-- the first limit that a leaf passes
pub over-leaf : (v : ViewValue) (bytes : ℕ → List ℕ) (scene : SceneValue) (most : Limits) (events : List Event) (n sector : ℕ) (floor ceiling : Option PlaneKey) (old : Bench) → HasWalked v bytes scene most events old →
    sector ≡ (leaf_at (lists_of scene) n).sector → floor ≡ floor_key v.eye.z (surface_at (lists_of scene) sector) → ceiling ≡ ceiling_key v.eye.z (surface_at (lists_of scene) sector) →
    step_over (limits_of old.walls old.planes) (planes_after v (scene_of bytes scene) events) (length old.walls.openings) (step_of_leaf floor ceiling)
    ≡ steps_over most (view_steps v (scene_of bytes scene) (events ++ LeafEvent n ∷ []))
over-leaf v bytes scene most events n sector floor ceiling old h own f c =
    let whole_scene = scene_of bytes scene in
    ap (step_over (limits_of old.walls old.planes) (planes_after v whole_scene events) (length old.walls.openings)) (step_is v bytes scene n sector floor ceiling (own ∙ sector_of_leaf bytes scene n) f c)
    ∙ over-step v bytes scene most events (events ++ LeafEvent n ∷ []) (leaf_step v (leaf_surface whole_scene n)) old h (one_more-leaf v whole_scene events n)

-- one leaf more
pub walked-leaf : (v : ViewValue) (bytes : ℕ → List ℕ) (scene : SceneValue) (most : Limits) (events : List Event) (n sector : ℕ) (floor ceiling : Option PlaneKey) (old new : Bench) →
    EntersLeaf v scene n sector floor ceiling old new → HasWalked v bytes scene most events old → HasWalked v bytes scene most (events ++ LeafEvent n ∷ []) new
unfolding openings_past leaf_step
walked-leaf v bytes scene most events n sector floor ceiling old new enters h =
    let whole_scene = scene_of bytes scene in let walls = walls_of v whole_scene events in
    let planes_before = planes_after v whole_scene events in
    let leaf_sector_is : sector ≡ leaf_sector whole_scene n = enters.own ∙ sector_of_leaf bytes scene n in
    let new_step : Step = leaf_step v (leaf_surface whole_scene n) in
    let leaf_step_is : step_of_leaf floor ceiling ≡ new_step = step_is v bytes scene n sector floor ceiling leaf_sector_is enters.floor_is enters.ceiling_is in
    let surface : leaf_surface whole_scene n ≡ surface_at (lists_of scene) sector = surface_of_leaf bytes scene n ∙ ap
    (surface_at (lists_of scene)) (sym leaf_sector_is) in let planes_inside : All (IsPlaneIn v.shape scene) (after_event planes_before new_step.event).planes =
    subst (λ (t : _). All (IsPlaneIn v.shape scene) (after_event planes_before (leaf_step v t).event).planes) (sym surface)
    (planes-leaf v scene sector planes_before enters.inside (planes_so_far v bytes scene most events old h)) in
    let built_after : Step → Type 0 = λ t. IsBuilt v walls (after_event planes_before t.event) new.walls new.planes.planes in
    let new_lists_built : IsBuilt v walls (after_event planes_before new_step.event) new.walls new.planes.planes =
    subst built_after leaf_step_is (enters.built walls planes_before h.built) in walked_step v bytes scene most events (LeafEvent n) new_step old new h
    (record {
      more = one_more-leaf v whole_scene events n;
      there = enters.there;
      built = subst (λ (ws : List Wall). IsBuilt v ws (after_event planes_before new_step.event) new.walls new.planes.planes)
          (sym (walls-leaf v whole_scene events n)) new_lists_built;
      openings = ap length enters.openings;
      limits = enters.limits;
      within = enters.limit walls planes_before h.built
          ∙ ap (step_over (limits_of old.walls old.planes) planes_before (length old.walls.openings)) leaf_step_is;
      planes = planes_inside;
    })
    (record {
      sprites =
          enters.sprites bytes
          ∙ ap (with_sector v whole_scene (has_entered old.entered sector) sector) h.sprites
          ∙ ap (λ (b : Bool). with_sector v whole_scene b sector (view_entries v whole_scene events)) (h.entered sector enters.inside)
          ∙ ap (λ (k : ℕ). with_sector v whole_scene (is_entered whole_scene events k) k (view_entries v whole_scene events)) leaf_sector_is
          ∙ sprites_leaf v whole_scene events n (is_entered whole_scene events (leaf_sector whole_scene n)) refl;
      columns = enters.columns h.columns;
      lumps = λ m below. enters.lumps m below (h.lumps m below);
      entered = λ k l. entered_by whole_scene events n k (has_entered new.entered k) sector (sector == k) leaf_sector_is refl
          (λ t. ap (has_entered new.entered) (sym (eqb-true sector k t)) ∙ enters.entered)
          (λ t. enters.others k t ∙ h.entered k l);
      sector = enters.now ∙ leaf_sector_is ∙ ap (leaf_sector whole_scene) (last_of_leaf events n);
    })

-- there is as much room as before
pub same_limits : (a b : WallsView) (p q : PlanesView) → b.room ≡ a.room → q.room ≡ p.room → limits_of b q ≡ limits_of a p
same_limits a b p q e f =
    ap (λ (n : ℕ). let limits_now : Limits = record { planes = q.room; openings = n } in limits_now) e ∙ ap (λ (n : ℕ). let limits_now : Limits = record { planes = n; openings = a.room } in limits_now) f

-- an error that is passed on tells the same limit
pub over-passed : {A B : Type 0} (part : Result A OverLimit) (over : OverLimit) (whole : Result B OverLimit) → part ≡ Err over → IsErrAnd whole (λ e. e ≡ over) → over_of whole ≡ over_of part
over-passed part over (Ok value) was is = absurd is
over-passed part over (Err e) was is = ap (λ (o : OverLimit). Some o) is ∙ sym (ap over_of was)

-- what the two calls of a leaf give, where the second leaves walls and planes as they are
pub enters-leaf : (v : ViewValue) (scene : SceneValue) (n sector : ℕ) (floor ceiling : Option PlaneKey) (old between new : Bench) → new.walls ≡ between.walls → new.planes ≡ between.planes → new.sector ≡ between.sector →
    between.sprites ≡ old.sprites → between.entered ≡ old.entered → between.sector ≡ sector →
    n < length scene.base.level.leaves → sector ≡ (leaf_at (lists_of scene) n).sector → sector < length scene.base.level.sectors →
    floor ≡ floor_key v.eye.z (surface_at (lists_of scene) sector) → ceiling ≡ ceiling_key v.eye.z (surface_at (lists_of scene) sector) →
    ((walls : List Wall) (s : PlanesNow) → IsBuilt v walls s old.walls old.planes.planes → IsBuilt v walls (after_event s (step_of_leaf floor ceiling).event) between.walls between.planes.planes) →
    ((walls : List Wall) (s : PlanesNow) → IsBuilt v walls s old.walls old.planes.planes →
    None ≡ step_over (limits_of old.walls old.planes) s (length old.walls.openings) (step_of_leaf floor ceiling)) →
    between.walls.openings ≡ old.walls.openings → limits_of between.walls between.planes ≡ limits_of old.walls old.planes →
    ((bytes : ℕ → List ℕ) → new.sprites ≡ with_sector v (scene_of bytes scene) (has_entered between.entered sector) sector between.sprites) →
    (AllPass (lies_within v.shape.width) between.sprites → AllPass (lies_within v.shape.width) new.sprites) →
    ((m : ℕ) → All (λ lump. lump < m) (book_lumps scene.book) → AllPass (has_lump_below m) between.sprites → AllPass (has_lump_below m) new.sprites) →
    has_entered new.entered sector ≡ true → ((other : ℕ) → (sector == other) ≡ false → has_entered new.entered other ≡ has_entered between.entered other) →
    EntersLeaf v scene n sector floor ceiling old new
enters-leaf v scene n sector floor ceiling old between new walls planes same sprites_same entered_same at there own inside f c built limit openings limits sprites columns lumps entered others = record {
  there = there;
  own = own;
  inside = inside;
  floor_is = f;
  ceiling_is = c;
  built = λ ws s b.
      subst (λ (w : WallsView). IsBuilt v ws (after_event s (step_of_leaf floor ceiling).event) w new.planes.planes) (sym walls)
      (subst (λ (p : PlanesView). IsBuilt v ws (after_event s (step_of_leaf floor ceiling).event) between.walls p.planes) (sym planes) (built ws s b));
  limit = limit;
  openings = ap (λ (w : WallsView). w.openings) walls ∙ openings;
  limits = ap (λ (w : WallsView). limits_of w new.planes) walls ∙ ap (limits_of between.walls) planes ∙ limits;
  sprites = λ bytes.
      sprites bytes ∙ ap (λ (marks : List Bool). with_sector v (scene_of bytes scene) (has_entered marks sector) sector between.sprites) entered_same
      ∙ ap (with_sector v (scene_of bytes scene) (has_entered old.entered sector) sector) sprites_same;
  columns = λ all. columns (subst (AllPass (lies_within v.shape.width)) (sym sprites_same) all);
  lumps = λ m below all. lumps m below (subst (AllPass (has_lump_below m)) (sym sprites_same) all);
  entered = entered;
  others = λ other no_same. others other no_same ∙ ap (λ (marks : List Bool). has_entered marks other) entered_same;
  now = same ∙ at;
}
