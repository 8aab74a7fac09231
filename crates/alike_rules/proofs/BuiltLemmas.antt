-- The planes of a view whose flats have other numbers are built alike, and counted alike.
use Rattle.picture_rules.proofs.Common.{[], AllByRecursion, ap, Bool, cond, false, length-map, List, map, None, Option, option_map, refl, slice_get, slice_set, Some, suc, true, zero, ℕ, ⊤, ◌++◌, ◌+◌, ◌-◌, ◌∙◌, ◌∷◌, ◌≡◌}
use Rattle.alike_rules.specs.Rules.{Draws, Finds, Plane, PlaneChoice, PlaneEvent, PlaneKey, PlaneWall, PlanesNow, add, after_event, after_events, ceiling_checked, ceiling_found, check, check_plane, check_some, checked_plane, column_marked, columns_marked, empty_plane, find, floor_checked, floor_found, is_free, mark, mark_some, no_planes, number_of, number_or_add, plane_counts, planes_of, set_run, wall_marked, with_ceiling, with_floor, with_run}
use Rattle.alike_rules.proofs.PlaneLemmas.{IsFlatOf, IsOneToOne, IsPlaneOf, check-moved, find-moved, mark-moved, moved_choice, moved_key, moved_plane}

abbrev pub moved_now : (ℕ → ℕ) → PlanesNow → PlanesNow
moved_now σ s = record { planes = map (moved_plane σ) s.planes; floor = s.floor; ceiling = s.ceiling }

abbrev pub moved_event : (ℕ → ℕ) → PlaneEvent → PlaneEvent
moved_event σ (Finds floor ceiling) = Finds (option_map (moved_key σ) floor) (option_map (moved_key σ) ceiling)
moved_event σ (Draws w) = Draws w

-- a key that is found is of the flats that pass
abbrev pub IsKeyOf : (ℕ → Type 0) → Option PlaneKey → Type 0
IsKeyOf P None = ⊤
IsKeyOf P (Some key) = IsFlatOf P key.flat

abbrev pub IsEventOf : (ℕ → Type 0) → PlaneEvent → Type 0
IsEventOf P (Finds floor ceiling) = IsKeyOf P floor × IsKeyOf P ceiling
IsEventOf P (Draws w) = ⊤

-- planes of these flats
abbrev pub AreOf : (ℕ → Type 0) → List Plane → Type 0
AreOf P planes = AllByRecursion (IsPlaneOf P) planes

module _ (P : ℕ → Type 0) where
  more_of : (xs ys : List Plane) → AreOf P xs → AreOf P ys → AreOf P (xs ++ ys)
  more_of [] ys a b = b
  more_of (x ∷ xs) ys a b = (a.0, more_of xs ys a.1 b)

  add-of : (planes : List Plane) (key : PlaneKey) → AreOf P planes → IsFlatOf P key.flat → AreOf P (add planes key).planes
  unfolding add empty_plane
  add-of planes key all k = more_of planes (empty_plane key ∷ []) all (k, tt)

  number-of : (planes : List Plane) (key : PlaneKey) (o : Option ℕ) → AreOf P planes → IsFlatOf P key.flat → AreOf P (number_or_add planes key o).planes
  unfolding number_or_add
  number-of planes key None all k = add-of planes key all k
  number-of planes key (Some i) all k = all

  find-of : (planes : List Plane) (key : PlaneKey) → AreOf P planes → IsFlatOf P key.flat → AreOf P (find planes key).planes
  unfolding find
  find-of planes key all k = number-of planes key (number_of planes key) all k

  -- a plane that is there is of them
  IsSomeOf : Option Plane → Type 0
  IsSomeOf None = ⊤
  IsSomeOf (Some p) = IsPlaneOf P p

  got-of : (planes : List Plane) (i : ℕ) → AreOf P planes → IsSomeOf (slice_get planes i)
  unfolding IsSomeOf
  got-of [] i all = tt
  got-of (p ∷ ps) zero all = all.0
  got-of (p ∷ ps) (suc i) all = got-of ps i all.1

  check_step : (planes : List Plane) (i : ℕ) (p : Plane) (b : Bool) → AreOf P planes → IsPlaneOf P p → AreOf P (cond b (record { number = i; planes = planes }) (add planes p.key)).planes
  check_step planes i p true all k = all
  check_step planes i p false all k = add-of planes p.key all k

  check_found : (planes : List Plane) (i : ℕ) (o : Option Plane) (first last : ℕ) → AreOf P planes → IsSomeOf o → AreOf P (check_some planes i o first last).planes
  unfolding check_some check_plane IsSomeOf
  check_found planes i None first last all k = all
  check_found planes i (Some p) first last all k = check_step planes i p (is_free p.runs first last) all k

  check-of : (planes : List Plane) (i first last : ℕ) → AreOf P planes → AreOf P (check planes i first last).planes
  unfolding check
  check-of planes i first last all = check_found planes i (slice_get planes i) first last all (got-of planes i all)

  set-of : (planes : List Plane) (i : ℕ) (p : Plane) → AreOf P planes → IsPlaneOf P p → AreOf P (slice_set planes i p)
  set-of [] i p all k = tt
  set-of (q ∷ qs) zero p all k = (k, all.1)
  set-of (q ∷ qs) (suc i) p all k = (all.0, set-of qs i p all.1 k)

  mark_found : (planes : List Plane) (i : ℕ) (o : Option Plane) (x : ℕ) (rows : ℕ × ℕ) → AreOf P planes → IsSomeOf o → AreOf P (mark_some planes i o x rows)
  unfolding mark_some with_run IsSomeOf
  mark_found planes i None x rows all k = all
  mark_found planes i (Some p) x rows all k = set-of planes i (with_run p x rows) all k

  mark-of : (planes : List Plane) (i x : ℕ) (rows : ℕ × ℕ) → AreOf P planes → AreOf P (mark planes i x rows)
  unfolding mark
  mark-of planes i x rows all = mark_found planes i (slice_get planes i) x rows all (got-of planes i all)

  run-of : (planes : List Plane) (o : Option ℕ) (x : ℕ) (rows : Option (ℕ × ℕ)) → AreOf P planes → AreOf P (set_run planes o x rows)
  unfolding set_run
  run-of planes None x rows all = all
  run-of planes (Some i) x None all = all
  run-of planes (Some i) x (Some rows) all = mark-of planes i x rows all

  columns-of : (w : PlaneWall) (ceiling floor : Option ℕ) (n : ℕ) (planes : List Plane) → AreOf P planes → AreOf P (columns_marked w ceiling floor n planes)
  unfolding columns_marked column_marked
  columns-of w ceiling floor zero planes all = all
  columns-of w ceiling floor (suc n) planes all =
      run-of _ floor (w.first + n) (w.floor_rows (w.first + n)) (run-of _ ceiling (w.first + n) (w.ceiling_rows (w.first + n)) (columns-of w ceiling floor n planes all))

  floor_found-of : (key : Option PlaneKey) (s : PlanesNow) → AreOf P s.planes → IsKeyOf P key → AreOf P (floor_found key s).planes
  unfolding floor_found
  floor_found-of None s all k = all
  floor_found-of (Some key) s all k = find-of s.planes key all k

  ceiling_found-of : (key : Option PlaneKey) (s : PlanesNow) → AreOf P s.planes → IsKeyOf P key → AreOf P (ceiling_found key s).planes
  unfolding ceiling_found
  ceiling_found-of None s all k = all
  ceiling_found-of (Some key) s all k = find-of s.planes key all k

  -- a plane is checked, and put as the leaf's ceiling or floor
  checked-by : (put : Option PlaneChoice → PlanesNow → PlanesNow) → ((s : PlanesNow) → AreOf P s.planes → AreOf P (put None s).planes)
      → ((c : PlaneChoice) (s : PlanesNow) → AreOf P c.planes → AreOf P (put (Some c) s).planes)
      → (b : Bool) (o : Option ℕ) (w : PlaneWall) (s : PlanesNow) → AreOf P s.planes → AreOf P (put (checked_plane b s.planes o w.first w.last) s).planes
  unfolding checked_plane
  checked-by put none some false o w s all = none s all
  checked-by put none some true None w s all = none s all
  checked-by put none some true (Some i) w s all = some (check s.planes i w.first w.last) s (check-of s.planes i w.first w.last all)

  pub event-of : (s : PlanesNow) (e : PlaneEvent) → AreOf P s.planes → IsEventOf P e → AreOf P (after_event s e).planes
  unfolding after_event wall_marked ceiling_checked floor_checked with_ceiling with_floor
  event-of s (Finds floor ceiling) all k = ceiling_found-of ceiling (floor_found floor s) (floor_found-of floor s all k.0) k.1
  event-of s (Draws w) all k =
      let after_ceiling = with_ceiling (checked_plane w.ceiling_mark s.planes s.ceiling w.first w.last) s in
      let after_floor = with_floor (checked_plane w.floor_mark after_ceiling.planes after_ceiling.floor w.first w.last) after_ceiling in
      columns-of w after_floor.ceiling after_floor.floor (w.last + 1 - w.first) after_floor.planes
      (checked-by with_floor (λ t all. all) (λ c t all. all) w.floor_mark after_ceiling.floor w after_ceiling
      (checked-by with_ceiling (λ t all. all) (λ c t all. all) w.ceiling_mark s.ceiling w s all))

  module _ (σ : ℕ → ℕ) (one : IsOneToOne P σ) where
    floor_found-moved : (key : Option PlaneKey) (s : PlanesNow) → AreOf P s.planes → IsKeyOf P key → floor_found (option_map (moved_key σ) key) (moved_now σ s) ≡ moved_now σ (floor_found key s)
    unfolding floor_found
    floor_found-moved None s all k = refl
    floor_found-moved (Some key) s all k = rw (find-moved P σ one s.planes key all k) refl

    ceiling_found-moved : (key : Option PlaneKey) (s : PlanesNow) → AreOf P s.planes → IsKeyOf P key → ceiling_found (option_map (moved_key σ) key) (moved_now σ s) ≡ moved_now σ (ceiling_found key s)
    unfolding ceiling_found
    ceiling_found-moved None s all k = refl
    ceiling_found-moved (Some key) s all k = rw (find-moved P σ one s.planes key all k) refl

    checked-moved : (put : Option PlaneChoice → PlanesNow → PlanesNow) → ((s : PlanesNow) → put None (moved_now σ s) ≡ moved_now σ (put None s))
        → ((c : PlaneChoice) (s : PlanesNow) → put (Some (moved_choice σ c)) (moved_now σ s) ≡ moved_now σ (put (Some c) s))
        → (b : Bool) (o : Option ℕ) (w : PlaneWall) (s : PlanesNow)
        → put (checked_plane b (map (moved_plane σ) s.planes) o w.first w.last) (moved_now σ s) ≡ moved_now σ (put (checked_plane b s.planes o w.first w.last) s)
    unfolding checked_plane
    checked-moved put none some false o w s = none s
    checked-moved put none some true None w s = none s
    checked-moved put none some true (Some i) w s =
        ap (λ c. put (Some c) (moved_now σ s)) (check-moved P σ one s.planes i w.first w.last) ∙ some (check s.planes i w.first w.last) s

    ceiling_checked-moved : (w : PlaneWall) (s : PlanesNow) → ceiling_checked w (moved_now σ s) ≡ moved_now σ (ceiling_checked w s)
    unfolding ceiling_checked with_ceiling
    ceiling_checked-moved w s = checked-moved with_ceiling (λ t. refl) (λ c t. refl) w.ceiling_mark s.ceiling w s

    floor_checked-moved : (w : PlaneWall) (s : PlanesNow) → floor_checked w (moved_now σ s) ≡ moved_now σ (floor_checked w s)
    unfolding floor_checked with_floor
    floor_checked-moved w s = checked-moved with_floor (λ t. refl) (λ c t. refl) w.floor_mark s.floor w s

    run-moved : (planes : List Plane) (o : Option ℕ) (x : ℕ) (rows : Option (ℕ × ℕ)) → set_run (map (moved_plane σ) planes) o x rows ≡ map (moved_plane σ) (set_run planes o x rows)
    unfolding set_run
    run-moved planes None x rows = refl
    run-moved planes (Some i) x None = refl
    run-moved planes (Some i) x (Some rows) = mark-moved P σ one planes i x rows

    columns-moved : (w : PlaneWall) (ceiling floor : Option ℕ) (n : ℕ) (planes : List Plane) → columns_marked w ceiling floor n (map (moved_plane σ) planes) ≡ map (moved_plane σ) (columns_marked w ceiling floor n planes)
    unfolding columns_marked column_marked
    columns-moved w ceiling floor zero planes = refl
    columns-moved w ceiling floor (suc n) planes =
        rw (
          columns-moved w ceiling floor n planes,
          run-moved (columns_marked w ceiling floor n planes) ceiling (w.first + n) (w.ceiling_rows (w.first + n)),
        )
        (run-moved (set_run (columns_marked w ceiling floor n planes) ceiling (w.first + n) (w.ceiling_rows (w.first + n))) floor (w.first + n) (w.floor_rows (w.first + n)))

    -- an event does the same to planes under other numbers
    pub event-moved : (s : PlanesNow) (e : PlaneEvent) → AreOf P s.planes → IsEventOf P e → after_event (moved_now σ s) (moved_event σ e) ≡ moved_now σ (after_event s e)
    unfolding after_event wall_marked
    event-moved s (Finds floor ceiling) all k =
        ap (ceiling_found (option_map (moved_key σ) ceiling)) (floor_found-moved floor s all k.0)
        ∙ ceiling_found-moved ceiling (floor_found floor s) (floor_found-of floor s all k.0) k.1
    event-moved s (Draws w) all k =
        let one_step = ceiling_checked w s in
        let two_step = floor_checked w one_step in
        rw (
          ceiling_checked-moved w s,
          floor_checked-moved w one_step,
          columns-moved w two_step.ceiling two_step.floor (w.last + 1 - w.first) two_step.planes,
        ) refl

    pub events-moved : (s : PlanesNow) (es : List PlaneEvent) → AreOf P s.planes → AllByRecursion (IsEventOf P) es
        → after_events (moved_now σ s) (map (moved_event σ) es) ≡ moved_now σ (after_events s es)
    unfolding after_events
    events-moved s [] all each = refl
    events-moved s (e ∷ es) all each =
        ap (λ t. after_events t (map (moved_event σ) es)) (event-moved s e all each.0)
        ∙ events-moved (after_event s e) es (event-of s e all each.0) each.1

    -- The planes that events build, under other numbers.
    pub planes-moved : (es : List PlaneEvent) → AllByRecursion (IsEventOf P) es → planes_of (map (moved_event σ) es) ≡ map (moved_plane σ) (planes_of es)
    unfolding planes_of
    planes-moved es each = ap (λ (s : PlanesNow). s.planes) (events-moved no_planes es tt each)

    -- and the counts of an event
    pub counts-moved : (s : PlanesNow) (e : PlaneEvent) → AreOf P s.planes → IsEventOf P e → plane_counts (moved_now σ s) (moved_event σ e) ≡ plane_counts s e
    unfolding plane_counts
    counts-moved s (Finds floor ceiling) all k =
        rw (
          floor_found-moved floor s all k.0,
          ceiling_found-moved ceiling (floor_found floor s) (floor_found-of floor s all k.0) k.1,
          length-map (floor_found floor s).planes (moved_plane σ),
          length-map (ceiling_found ceiling (floor_found floor s)).planes (moved_plane σ),
        ) refl
    counts-moved s (Draws w) all k =
        rw (
          ceiling_checked-moved w s,
          floor_checked-moved w (ceiling_checked w s),
          length-map (ceiling_checked w s).planes (moved_plane σ),
          length-map (floor_checked w (ceiling_checked w s)).planes (moved_plane σ),
        ) refl
