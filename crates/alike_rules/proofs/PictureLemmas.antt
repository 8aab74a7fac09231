-- The picture of a view does not depend on the numbers of lumps: its dots are the same but for the source that their
-- painters name, and its cells and the first count that passes a limit are the same.
use Rattle.picture_rules.proofs.Common.{[], AllByRecursion, ap, Bool, cond, false, List, map, map-append, None, Option, option_map, refl, sym, true, ℕ, ◌%◌, ◌++◌, ◌+◌, ◌-◌, ◌/◌, ◌∙◌, ◌∷◌, ◌≡◌}
use Rattle.alike_rules.specs.Rules.{Dot, Event, FRAME_CELLS, FRAME_WIDTH, Limits, Plane, PlanesNow, Scene, Step, ViewShape, ViewValue, Wall, WeaponLayer, after_event, colour_of, counts_from, draw_order, frame_dot, frame_dots, frame_of, is_in_window, joined_lists, last_dot, listed, masked_dots, no_planes, openings_past, overlaid_paints, overlaid_picture, overlaid_trace, paints_by, paints_of, picture, plane_dots, planes_dots, planes_from, sky_flat, steps_of, steps_over, view_drawsegs, view_entries, view_events, view_over, view_paints, view_planes, view_steps, wall_dots, walls_dots, walls_from, walls_of, weapon_dots}
use Rattle.alike_rules.proofs.BuiltLemmas.{AreOf, IsEventOf, counts-moved, event-moved, event-of, moved_now}
use Rattle.alike_rules.proofs.DotLemmas.{colour-moved, joined-along, last-moved, moved_dot}
use Rattle.alike_rules.proofs.EntryLemmas.{moved_layer, order-moved, weapon_dots-moved}
use Rattle.alike_rules.proofs.{FloorLemmas.plane_dots-moved, MiddleLemmas.masked_dots-moved}
use Rattle.alike_rules.proofs.PlaneLemmas.{IsOneToOne, moved_plane}
use Rattle.alike_rules.proofs.SceneLemmas.{IsMovedScene, drawsegs-same, entries-moved, moved_step, planes_built-moved, steps-moved, steps-of, walk-same, walls-moved}
use Rattle.alike_rules.proofs.StripLemmas.{moved_wall, wall_dots-moved}

-- the cells of dots that are the same but for their sources
module _ (σ : ℕ → ℕ) where
  window_step : (b : Bool) (o : Option Dot) → cond b (option_map (moved_dot σ) o) None ≡ option_map (moved_dot σ) (cond b o None)
  window_step true o = refl
  window_step false o = refl

  frame_dot-moved : (shape : ViewShape) (dots : List Dot) (x y : ℕ) → frame_dot shape (map (moved_dot σ) dots) x y ≡ option_map (moved_dot σ) (frame_dot shape dots x y)
  unfolding frame_dot
  frame_dot-moved shape dots x y =
      rw (last-moved σ (x - shape.left) (y - shape.top) dots) (window_step (is_in_window shape x y) (last_dot (x - shape.left) (y - shape.top) dots))

  cells_step : (f g : ℕ → Option Dot) → ((n : ℕ) → g n ≡ option_map (moved_dot σ) (f n)) → (ns : List ℕ) → map g ns ≡ map (option_map (moved_dot σ)) (map f ns)
  cells_step f g same [] = refl
  cells_step f g same (n ∷ ns) = rw (same n, cells_step f g same ns) refl

  listed-moved : (f g : ℕ → Option Dot) → ((n : ℕ) → g n ≡ option_map (moved_dot σ) (f n)) → (n : ℕ) → listed g n ≡ map (option_map (moved_dot σ)) (listed f n)
  unfolding listed
  listed-moved f g same n = cells_step f g same _

  pub frame_dots-moved : (shape : ViewShape) (dots : List Dot) → frame_dots shape (map (moved_dot σ) dots) ≡ map (option_map (moved_dot σ)) (frame_dots shape dots)
  unfolding frame_dots
  frame_dots-moved shape dots =
      listed-moved (λ cell. frame_dot shape dots (cell % FRAME_WIDTH) (cell / FRAME_WIDTH)) (λ cell. frame_dot shape (map (moved_dot σ) dots) (cell % FRAME_WIDTH) (cell / FRAME_WIDTH))
      (λ cell. frame_dot-moved shape dots (cell % FRAME_WIDTH) (cell / FRAME_WIDTH)) FRAME_CELLS

  colours_same : (cells : List (Option Dot)) → map colour_of (map (option_map (moved_dot σ)) cells) ≡ map colour_of cells
  colours_same [] = refl
  colours_same (o ∷ os) = rw (colour-moved σ o, colours_same os) refl

  pub frame-same : (shape : ViewShape) (dots : List Dot) → frame_of shape (map (moved_dot σ) dots) ≡ frame_of shape dots
  unfolding frame_of
  frame-same shape dots = rw (frame_dots-moved shape dots) (colours_same (frame_dots shape dots))

module _ (P : ℕ → Type 0) (σ : ℕ → ℕ) (one : IsOneToOne P σ) (sky : P sky_flat) (keeps : σ sky_flat ≡ sky_flat)
    (scene other : Scene) (moved : IsMovedScene P σ scene other) (v : ViewValue) where
  -- the dots of the walls
  walls_from-moved : (walls : List Wall) (k : ℕ) (ws : List Wall) → walls_from v other (map (moved_wall σ) walls) k (map (moved_wall σ) ws) ≡ map (moved_dot σ) (walls_from v scene walls k ws)
  unfolding walls_from
  walls_from-moved walls k [] = refl
  walls_from-moved walls k (w ∷ ws) =
      rw (wall_dots-moved σ scene.art other.art moved.art v walls k w, walls_from-moved walls (k + 1) ws)
      (sym (map-append (moved_dot σ) (wall_dots v scene.art walls k w) (walls_from v scene walls (k + 1) ws)))

  pub walls_dots-moved : (walls : List Wall) → walls_dots v other (map (moved_wall σ) walls) ≡ map (moved_dot σ) (walls_dots v scene walls)
  unfolding walls_dots
  walls_dots-moved walls = walls_from-moved walls 0 walls

  -- and of the planes
  planes_from-moved : (n : ℕ) (ps : List Plane) → planes_from v other n (map (moved_plane σ) ps) ≡ map (moved_dot σ) (planes_from v scene n ps)
  unfolding planes_from
  planes_from-moved n [] = refl
  planes_from-moved n (p ∷ ps) =
      rw (moved.sky, plane_dots-moved σ scene.art other.art moved.art v scene.sky n p, planes_from-moved (n + 1) ps)
      (sym (map-append (moved_dot σ) (plane_dots v scene.art scene.sky n p) (planes_from v scene (n + 1) ps)))

  pub planes_dots-moved : (ps : List Plane) → planes_dots v other (map (moved_plane σ) ps) ≡ map (moved_dot σ) (planes_dots v scene ps)
  unfolding planes_dots
  planes_dots-moved ps = planes_from-moved 0 ps

  view_planes-moved : (walls : List Wall) (events : List Event)
      → view_planes (steps_of v other (map (moved_wall σ) walls) events) ≡ map (moved_plane σ) (view_planes (steps_of v scene walls events))
  view_planes-moved walls events =
      ap view_planes (steps-moved P σ one sky keeps scene other moved v walls events)
      ∙ planes_built-moved P σ one sky keeps scene other moved v (steps_of v scene walls events) (steps-of P σ one sky keeps scene other moved v walls events)

  -- the paint list of a view
  by-moved : (events : List Event) (walls : List Wall) → paints_by v other events (map (moved_wall σ) walls) ≡ map (moved_dot σ) (paints_by v scene events walls)
  unfolding paints_by
  by-moved events walls =
      let drawsegs = view_drawsegs v scene walls in
      let drawn_entries = draw_order (view_entries v scene events) in
      let planes = view_planes (steps_of v scene walls events) in
      rw (
        walls_dots-moved walls,
        view_planes-moved walls events,
        planes_dots-moved planes,
        drawsegs-same P σ one sky keeps scene other moved v walls,
        entries-moved P σ one sky keeps scene other moved v events,
        order-moved σ (view_entries v scene events),
        masked_dots-moved σ scene.art other.art moved.art v drawsegs drawn_entries,
        map-append (moved_dot σ) (walls_dots v scene walls) (planes_dots v scene planes ++ masked_dots v scene.art drawsegs drawn_entries),
        map-append (moved_dot σ) (planes_dots v scene planes) (masked_dots v scene.art drawsegs drawn_entries),
      ) refl

  of-moved : (events : List Event) → paints_of v other events ≡ map (moved_dot σ) (paints_of v scene events)
  unfolding paints_of
  of-moved events = rw (walls-moved P σ one sky keeps scene other moved v events) (by-moved events (walls_of v scene events))

  pub paints-moved : view_paints v other ≡ map (moved_dot σ) (view_paints v scene)
  unfolding view_paints
  paints-moved = rw (walk-same P σ one sky keeps scene other moved v) (of-moved (view_events v scene.level))

  -- and with weapons over it
  pub overlaid-moved : (layers : List WeaponLayer) → overlaid_paints v other (map (moved_layer σ) layers) ≡ map (moved_dot σ) (overlaid_paints v scene layers)
  unfolding overlaid_paints
  overlaid-moved layers =
      rw (paints-moved, joined-along (moved_dot σ) (moved_layer σ) (weapon_dots v scene.art) (weapon_dots v other.art) (λ l. weapon_dots-moved σ scene.art other.art moved.art v l) layers)
      (sym (map-append (moved_dot σ) (view_paints v scene) (joined_lists (weapon_dots v scene.art) layers)))

  -- The picture is the same.
  pub picture-same : picture v other ≡ picture v scene
  unfolding picture
  picture-same = rw paints-moved (frame-same σ v.shape (view_paints v scene))

  pub overlaid_picture-same : (layers : List WeaponLayer) → overlaid_picture v other (map (moved_layer σ) layers) ≡ overlaid_picture v scene layers
  unfolding overlaid_picture
  overlaid_picture-same layers = rw (overlaid-moved layers) (frame-same σ v.shape (overlaid_paints v scene layers))

  -- Its trace names the other numbers.
  pub trace-moved : (layers : List WeaponLayer) → overlaid_trace v other (map (moved_layer σ) layers) ≡ map (option_map (moved_dot σ)) (overlaid_trace v scene layers)
  unfolding overlaid_trace
  trace-moved layers = rw (overlaid-moved layers) (frame_dots-moved σ v.shape (overlaid_paints v scene layers))

  counts_from-same : (s : PlanesNow) (openings : ℕ) (steps : List Step) → AreOf P s.planes → AllByRecursion (λ e. IsEventOf P e.event) steps
      → counts_from (moved_now σ s) openings (map (moved_step σ) steps) ≡ counts_from s openings steps
  unfolding counts_from
  counts_from-same s openings [] all each = refl
  counts_from-same s openings (e ∷ es) all each =
      rw (
        counts-moved P σ one s e.event all each.0,
        event-moved P σ one s e.event all each.0,
        counts_from-same (after_event s e.event) (openings_past openings e.openings) es (event-of P s e.event all each.0) each.1,
      ) refl

  over-same : (limits : Limits) (steps : List Step) → AllByRecursion (λ e. IsEventOf P e.event) steps → steps_over limits (map (moved_step σ) steps) ≡ steps_over limits steps
  unfolding steps_over
  over-same limits steps each = rw (counts_from-same no_planes 0 steps tt each) refl

  steps-same : (events : List Event) → view_steps v other events ≡ map (moved_step σ) (view_steps v scene events)
  unfolding view_steps
  steps-same events =
      rw (walls-moved P σ one sky keeps scene other moved v events) (steps-moved P σ one sky keeps scene other moved v (walls_of v scene events) events)

  steps_of-each : (events : List Event) → AllByRecursion (λ e. IsEventOf P e.event) (view_steps v scene events)
  unfolding view_steps
  steps_of-each events = steps-of P σ one sky keeps scene other moved v (walls_of v scene events) events

  -- The first count that passes its limit is the same.
  pub view_over-same : (limits : Limits) → view_over v other limits ≡ view_over v scene limits
  unfolding view_over
  view_over-same limits =
      rw (walk-same P σ one sky keeps scene other moved v, steps-same (view_events v scene.level))
      (over-same limits (view_steps v scene (view_events v scene.level)) (steps_of-each (view_events v scene.level)))
