-- Laws of what is built: nothing, a leaf more, a fragment more.
use Rattle.picture_rules.proofs.Common.{[], All-nil, All-push, ap, ap₂, arith, Bool, cond, length, length-append, List, nat_le, nat_lt, nat_tests, None, Option, pos, refl, subst, suc, sym, take, ℕ, ℤ, ◌&&◌, ◌++◌, ◌+◌, ◌-◌, ◌<◌, ◌∙◌, ◌∷◌, ◌≡◌, ◌≤◌}
use Rattle.wall_columns.specs.Rules.{ColumnClip, Draws, FRAME_WIDTH, Finds, FragmentNote, FragmentNumbers, MarkAlike, Plane, PlaneKey, PlaneWall, PlanesNow, ViewShape, ViewValue, Wall, WallFacts, after_event, bottom_clips, ceiling_checked, ceiling_found, ceiling_marks, ceiling_rows, clip_after, clip_before, clip_past, columns_marked, edges_at, floor_checked, floor_found, floor_marks, floor_rows, fragment_numbers, has_column, listed_from, marked_rows, middle_columns, no_planes, note_at, notes_from, open_clip, openings_list, past_wall, plane_wall, room_if, saved_by, saved_from, saves_bottom, saves_top, texture_column, top_clips, view_notes, wall_edges, wall_marked, wall_of, wall_step}
use Rattle.picture_rules.proofs.Laws.{get_or-listed_from, length-listed_from}
use Rattle.picture_rules.proofs.wall.NoteLemmas.{openings_list-more, view_notes-more}
use Rattle.picture_rules.proofs.wall.WallLemmas.{clip_past-next, clip_before-front}
use Rattle.picture_rules.proofs.plane.BuiltLemmas.{after_event-alike, sound-after_event}
use Rattle.visplanes.specs.Planes.{PlanesView}
use Rattle.wall_edges.specs.Fragments.{FragmentValue, fragment_of}
use Rattle.wall_columns.specs.declared.notes.SavePlaces.{SavePlaces}
use Rattle.wall_columns.specs.declared.column_state.ColumnState.{ColumnState}
use Rattle.wall_columns.specs.Walls.{WallsView, clip_at}
use Rattle.wall_columns.specs.Windows.{WindowsView, ceilings_in, floors_in, window_at}
use Rattle.wall_columns.specs.{Saved.OpeningsView, Saved.lists_saved, Places.places_of}
use Rattle.wall_columns.specs.Columns.{plane_number, columns_of, column_edges, column_after, clip_along, marks_along, HasMarked, HasSaved, HasTaken}
use Rattle.wall_columns.specs.Leaves.{now_of, both_checks, ceiling_check, floor_check}
use Rattle.wall_columns.specs.States.{walls_view}
use Rattle.wall_columns.specs.Built.{IsDrawn, IsBuilt, with_wall, step_of_wall}
use Rattle.wall_columns.proofs.{MarkLemmas.marked-saved, PartLemmas.listed_from-all}
use Rattle.wall_columns.proofs.SavedLemmas.{lists_saved-behind}

-- what is open of a column, of the state and of its windows
pub clip_at-window : (notes : List FragmentNote) (state : ColumnState) (x : ℕ) → clip_at (walls_view notes state) x ≡ window_at state.windows x
unfolding clip_at window_at
clip_at-window notes state x = refl

none_noted : (v : ViewValue) → [] ≡ view_notes v []
unfolding view_notes notes_from
none_noted v = refl

none_saved : (v : ViewValue) → [] ≡ openings_list v []
unfolding openings_list saved_from
none_saved v = refl

none_clipped : (shape : ViewShape) (x : ℕ) → open_clip shape.height ≡ clip_before shape [] (length (let walls : List Wall = [] in walls)) x
unfolding clip_before
none_clipped shape x = refl

-- a view is started
pub built-start : (v : ViewValue) (notes : List FragmentNote) (state : ColumnState) (height : ℕ) → notes ≡ [] → state.openings.saved ≡ [] →
    ((x : ℕ) → x < FRAME_WIDTH → window_at state.windows x ≡ open_clip height) → state.windows.height ≡ height → state.floor ≡ None → state.ceiling ≡ None →
    v.shape.height ≡ height → v.shape.width ≤ FRAME_WIDTH → IsBuilt v [] no_planes (walls_view notes state) []
built-start v notes state height no_notes no_openings windows rows floor ceiling e l = record {
  drawn = All-nil (IsDrawn v);
  notes = no_notes ∙ none_noted v;
  openings = no_openings ∙ none_saved v;
  clips = λ x i. clip_at-window notes state x ∙ windows x (omega arith) ∙ ap open_clip (sym e) ∙ none_clipped v.shape x;
  height = rows ∙ sym e;
  floor = ap plane_number floor;
  ceiling = ap plane_number ceiling;
  planes = refl;
  sound = record { wide = All-nil (λ (p : Plane). length p.runs ≡ FRAME_WIDTH); floor = tt; ceiling = tt };
}

clips_same : (notes : List FragmentNote) (old new : ColumnState) (x : ℕ) → new.windows ≡ old.windows → clip_at (walls_view notes new) x ≡ clip_at (walls_view notes old) x
clips_same notes old new x e = clip_at-window notes new x ∙ ap (λ (w : WindowsView). window_at w x) e ∙ sym (clip_at-window notes old x)

now_is : (v : ViewValue) (walls : List Wall) (s : PlanesNow) (notes : List FragmentNote) (state : ColumnState) (planes : PlanesView) →
    IsBuilt v walls s (walls_view notes state) planes.planes → s ≡ now_of state planes
now_is v walls s notes state planes h = ap (λ (ps : List Plane).
    let planes_now : PlanesNow = record { planes = ps; floor = s.floor; ceiling = s.ceiling } in planes_now) (sym h.planes) ∙ ap (λ (o : Option ℕ).
    let planes_now : PlanesNow = record { planes = planes.planes; floor = o; ceiling = s.ceiling } in planes_now) (sym h.floor) ∙ ap (λ (o : Option ℕ).
    let planes_now : PlanesNow = record { planes = planes.planes; floor = plane_number state.floor; ceiling = o } in planes_now) (sym h.ceiling)

-- the planes and the current ones are those of a state that is built
pub built-now : (v : ViewValue) (walls : List Wall) (s : PlanesNow) (notes : List FragmentNote) (state : ColumnState) (planes : PlanesView) →
    IsBuilt v walls s (walls_view notes state) planes.planes → s ≡ now_of state planes
built-now v walls s notes state planes h = now_is v walls s notes state planes h

pub built-inside : (v : ViewValue) (walls : List Wall) (s : PlanesNow) (notes : List FragmentNote) (columns : ColumnState) {state : WallsView} (planes : PlanesView) → walls_view notes columns ≡ state →
    IsBuilt v walls s state planes.planes → IsBuilt v walls s (walls_view notes columns) planes.planes
built-inside v walls s notes columns planes view h =
    let IsBuiltAs : WallsView → Type 0 = λ w. IsBuilt v walls s w planes.planes in
    subst IsBuiltAs (sym view) h

leaf_after : (s : PlanesNow) (floor ceiling : Option PlaneKey) → ceiling_found ceiling (floor_found floor s) ≡ after_event s (Finds floor ceiling)
unfolding after_event
leaf_after s floor ceiling = refl

-- a leaf is entered
pub built-leaf : (v : ViewValue) (walls : List Wall) (s : PlanesNow) (notes : List FragmentNote) (old new : ColumnState) (before later : PlanesView) (floor ceiling : Option PlaneKey) →
    IsBuilt v walls s (walls_view notes old) before.planes → now_of new later ≡ ceiling_found ceiling (floor_found floor s) → new.windows ≡ old.windows → new.openings ≡ old.openings →
    IsBuilt v walls (after_event s (Finds floor ceiling)) (walls_view notes new) later.planes
built-leaf v walls s notes old new before later floor ceiling h found windows openings =
    let now : now_of new later ≡ after_event s (Finds floor ceiling) = found ∙ leaf_after s floor ceiling in
    record {
      drawn = h.drawn;
      notes = h.notes;
      openings = ap (λ (o : OpeningsView). o.saved) openings ∙ h.openings;
      clips = λ x l. clips_same notes old new x windows ∙ h.clips x l;
      height = ap (λ (w : WindowsView). w.height) windows ∙ h.height;
      floor = ap (λ (t : PlanesNow). t.floor) now;
      ceiling = ap (λ (t : PlanesNow). t.ceiling) now;
      planes = ap (λ (t : PlanesNow). t.planes) now;
      sound = sound-after_event s (Finds floor ceiling) h.sound;
    }

-- the columns of a fragment
columns_test : (first last x : ℕ) → first ≤ last → (nat_le first x && nat_lt x (first + (last + 1 - first))) ≡ (nat_le first x && nat_le x last)
columns_test first last x o = grind (arith, nat_tests)

-- the clip past a new fragment
past_new : (shape : ViewShape) (walls : List Wall) (w : Wall) (x : ℕ) → clip_past shape (with_wall walls w) (length walls) x ≡ past_wall shape x w (clip_before shape walls (length walls) x)
past_new shape walls w x = clip_past-next shape walls w (length walls) x refl

before_more : (shape : ViewShape) (walls : List Wall) (w : Wall) (x : ℕ) → clip_past shape (with_wall walls w) (length walls) x ≡ clip_before shape (with_wall walls w) (length (with_wall walls w)) x
unfolding clip_past
before_more shape walls w x =
    let count_next : suc (length walls) ≡ length (with_wall walls w) = omega (arith, length-append walls (w ∷ [])) in
    ap (λ (k : ℕ). clip_before shape (with_wall walls w) k x) count_next

along_is : (v : ViewValue) (facts : WallFacts) (first last x height : ℕ) (before : ℕ → ColumnClip) (clip : ColumnClip) → first ≤ last → height ≡ v.shape.height → before x ≡ clip →
    clip_along height (fragment_of v facts first last) before (last + 1 - first) x ≡ past_wall v.shape x (wall_of v facts first last) clip
unfolding clip_along column_after past_wall has_column column_edges wall_edges wall_of
along_is v facts first last x height before clip o e b =
    ap (λ (t : Bool). cond t (clip_after height (fragment_numbers v facts first last) (before x) (edges_at v.shape (fragment_numbers v facts first last) (x - first))) (before x)) (columns_test first last x o)
    ∙ ap (λ (m : ℕ). cond (nat_le first x && nat_le x last) (clip_after m (fragment_numbers v facts first last) (before x) (edges_at v.shape (fragment_numbers v facts first last) (x - first))) (before x)) e
    ∙ ap (λ (c : ColumnClip). cond (nat_le first x && nat_le x last) (clip_after v.shape.height (fragment_numbers v facts first last) c (edges_at v.shape (fragment_numbers v facts first last) (x - first))) c) b

-- what is known when the fragment's columns are drawn
pub record WallDrawn (v : ViewValue) (walls : List Wall) (s : PlanesNow) (facts : WallFacts) (first last : ℕ) (notes : List FragmentNote) (old checked new : ColumnState)
    (before between later : PlanesView) (lists : SavePlaces) (entry : FragmentNote) : Type 0 where
  pub built : IsBuilt v walls s (walls_view notes old) before.planes
  pub ordered : first ≤ last
  pub within : last < v.shape.width
  pub frame : v.shape.width ≤ FRAME_WIDTH
  pub windows : checked.windows ≡ old.windows
  pub planes : now_of checked between ≡ both_checks (fragment_numbers v facts first last) first last s
  pub taken : HasTaken (fragment_numbers v facts first last) (last + 1 - first) old.openings checked.openings lists
  pub marked : HasMarked (fragment_of v facts first last) (last + 1 - first) checked new between later
  pub saved : new.openings.saved ≡ lists_saved lists (listed_from (texture_column v facts) first last)
      (ceilings_in new.windows first last) (floors_in new.windows first last) checked.openings.saved
  pub note : entry ≡ note_at v (wall_of v facts first last) (length old.openings.saved)

-- the fragment as a wall of the view
drawn_wall : (v : ViewValue) (facts : WallFacts) (first last : ℕ) → first ≤ last → last < v.shape.width → IsDrawn v (wall_of v facts first last)
unfolding wall_of
drawn_wall v facts first last o w = record { is = refl; ordered = o; within = w }

-- the window of a column before the fragment
window_before : {v : ViewValue} {walls : List Wall} {s : PlanesNow} {facts : WallFacts} {first last : ℕ} {notes : List FragmentNote}
    {old checked new : ColumnState} {before between later : PlanesView} {places : SavePlaces} {note : FragmentNote} →
    WallDrawn v walls s facts first last notes old checked new before between later places note → (x : ℕ) → x < v.shape.width →
    window_at checked.windows x ≡ clip_before v.shape walls (length walls) x
window_before {notes = notes} {old = old} d x l =
    ap (λ (w : WindowsView). window_at w x) d.windows ∙ sym (clip_at-window notes old x) ∙ d.built.clips x l

height_before : {v : ViewValue} {walls : List Wall} {s : PlanesNow} {facts : WallFacts} {first last : ℕ} {notes : List FragmentNote}
    {old checked new : ColumnState} {before between later : PlanesView} {places : SavePlaces} {note : FragmentNote} →
    WallDrawn v walls s facts first last notes old checked new before between later places note → checked.windows.height ≡ v.shape.height
height_before d = ap (λ (w : WindowsView). w.height) d.windows ∙ d.built.height

clips_after : {v : ViewValue} {walls : List Wall} {s : PlanesNow} {facts : WallFacts} {first last : ℕ} {notes : List FragmentNote}
    {old checked new : ColumnState} {before between later : PlanesView} {places : SavePlaces} {note : FragmentNote} →
    WallDrawn v walls s facts first last notes old checked new before between later places note → (more : List FragmentNote) (x : ℕ) → x < v.shape.width →
    clip_at (walls_view more new) x ≡ clip_before v.shape (with_wall walls (wall_of v facts first last)) (length (with_wall walls (wall_of v facts first last))) x
clips_after {v} {walls} {s} {facts} {first} {last} {notes} {old} {checked} {new} d more x l =
    let wall : Wall = wall_of v facts first last in
    let frame = d.frame in
    clip_at-window more new x
    ∙ d.marked.windows x (omega arith)
    ∙ along_is v facts first last x checked.windows.height (window_at checked.windows) (clip_before v.shape walls (length walls) x) d.ordered (height_before d) (window_before d x l)
    ∙ sym (past_new v.shape walls wall x)
    ∙ before_more v.shape walls wall x

-- what the fragment leaves open of one of its columns
left_open : {v : ViewValue} {walls : List Wall} {s : PlanesNow} {facts : WallFacts} {first last : ℕ} {notes : List FragmentNote}
    {old checked new : ColumnState} {before between later : PlanesView} {places : SavePlaces} {note : FragmentNote} →
    WallDrawn v walls s facts first last notes old checked new before between later places note → (x : ℕ) → first ≤ x → x ≤ last →
    window_at new.windows x ≡ clip_past v.shape (with_wall walls (wall_of v facts first last)) (length walls) x
left_open {v} {walls} {s} {facts} {first} {last} {notes} {old} {checked} {new} d x from to =
    let last_within = d.within in
    sym (clip_at-window notes new x) ∙ clips_after d notes x (omega arith) ∙ sym (before_more v.shape walls (wall_of v facts first last) x)

-- equal entries make equal lists
listed_from-same : (f g : ℕ → ℤ) (first last : ℕ) → ((x : ℕ) → first ≤ x → x ≤ last → f x ≡ g x) → listed_from f first last ≡ listed_from g first last
listed_from-same f g first last same =
    listed_from-all g (listed_from f first last) first last (length-listed_from f first last)
    (λ k l. get_or-listed_from f first last k (pos 0) l ∙ same (first + k) (omega arith) l)

saved_lists : (v : ViewValue) (ws : List Wall) (n : ℕ) (facts : WallFacts) (first last : ℕ) (front xs : List ℤ) (windows : WindowsView) (places : SavePlaces) →
    places ≡ places_of (fragment_numbers v facts first last) (length front) (last + 1 - first) → take (length front) xs ≡ front → length xs ≡ places.end →
    ((x : ℕ) → first ≤ x → x ≤ last → window_at windows x ≡ clip_past v.shape ws n x) →
    lists_saved places (listed_from (texture_column v facts) first last) (ceilings_in windows first last) (floors_in windows first last) xs
    ≡ front ++ saved_by v ws n (wall_of v facts first last)
unfolding saved_by middle_columns top_clips bottom_clips wall_of
saved_lists v ws n facts first last front xs windows places are there long open_at =
    let columns : List ℤ = listed_from (texture_column v facts) first last in
    let top : ℕ → ℤ = λ x. (clip_past v.shape ws n x).ceiling_clip in
    let bottom : ℕ → ℤ = λ x. (clip_past v.shape ws n x).floor_clip in
    ap₂ (λ (ceilings floors : List ℤ). lists_saved places columns ceilings floors xs)
    (listed_from-same (λ x. (window_at windows x).ceiling_clip) top first last (λ x from to. ap (λ (c : ColumnClip). c.ceiling_clip) (open_at x from to)))
    (listed_from-same (λ x. (window_at windows x).floor_clip) bottom first last (λ x from to. ap (λ (c : ColumnClip). c.floor_clip) (open_at x from to)))
    ∙ ap (λ (p : SavePlaces). lists_saved p columns (listed_from top first last) (listed_from bottom first last) xs) are
    ∙ lists_saved-behind (fragment_numbers v facts first last) (last + 1 - first) front xs columns (listed_from top first last) (listed_from bottom first last)
    (length-listed_from (texture_column v facts) first last) (length-listed_from top first last) (length-listed_from bottom first last)
    there (long ∙ ap (λ (p : SavePlaces). p.end) are)

openings_after : {v : ViewValue} {walls : List Wall} {s : PlanesNow} {facts : WallFacts} {first last : ℕ} {notes : List FragmentNote}
    {old checked new : ColumnState} {before between later : PlanesView} {places : SavePlaces} {note : FragmentNote} →
    WallDrawn v walls s facts first last notes old checked new before between later places note →
    new.openings.saved ≡ openings_list v (with_wall walls (wall_of v facts first last))
openings_after {v} {walls} {s} {facts} {first} {last} {notes} {old} {checked} {new} {places = places} d =
    let wall : Wall = wall_of v facts first last in
    d.saved
    ∙ saved_lists v (with_wall walls wall) (length walls) facts first last old.openings.saved checked.openings.saved new.windows places
    d.taken.are d.taken.front d.taken.count (λ x from to. left_open d x from to)
    ∙ ap (λ (xs : List ℤ). xs ++ saved_by v (with_wall walls wall) (length walls) wall) d.built.openings
    ∙ sym (openings_list-more v walls wall)

notes_after : {v : ViewValue} {walls : List Wall} {s : PlanesNow} {facts : WallFacts} {first last : ℕ} {notes : List FragmentNote}
    {old checked new : ColumnState} {before between later : PlanesView} {places : SavePlaces} {note : FragmentNote} →
    WallDrawn v walls s facts first last notes old checked new before between later places note →
    notes ++ note ∷ [] ≡ view_notes v (with_wall walls (wall_of v facts first last))
notes_after {v} {walls} {s} {facts} {first} {last} {notes} {old} {note = note} d =
    let wall : Wall = wall_of v facts first last in
    ap (λ (xs : List FragmentNote). xs ++ note ∷ []) d.built.notes
    ∙ ap (λ (d : FragmentNote). view_notes v walls ++ d ∷ []) d.note
    ∙ ap (λ (xs : List ℤ). view_notes v walls ++ note_at v wall (length xs) ∷ []) d.built.openings
    ∙ sym (view_notes-more v walls wall)

-- the fragment's marks by the windows are those of the rules
rows_same : (v : ViewValue) (ws : List Wall) (n : ℕ) (facts : WallFacts) (first last : ℕ) (before : ℕ → ColumnClip) →
    ((x : ℕ) → first ≤ x → x ≤ last → before x ≡ clip_before v.shape ws n x) →
    MarkAlike (marks_along (fragment_of v facts first last) before) (plane_wall v ws n (wall_of v facts first last))
unfolding marks_along plane_wall wall_of ceiling_marks floor_marks column_edges wall_edges
rows_same v ws n facts first last before h = record {
  first = refl;
  last = refl;
  ceiling_mark = refl;
  floor_mark = refl;
  ceiling_rows = λ x l m. ap (λ (c : ColumnClip). marked_rows (fragment_numbers v facts first last).ceiling_mark (ceiling_rows c (edges_at v.shape (fragment_numbers v facts first last) (x - first)))) (h x l m);
  floor_rows = λ x l m. ap (λ (c : ColumnClip). marked_rows (fragment_numbers v facts first last).floor_mark (floor_rows c (edges_at v.shape (fragment_numbers v facts first last) (x - first)))) (h x l m);
}

-- what a fragment that is drawn does with planes, by its own marks
drawn_event : (f : FragmentValue) (before : ℕ → ColumnClip) (s : PlanesNow) →
    after_event s (Draws (marks_along f before))
    ≡ wall_marked (marks_along f before) (both_checks f.numbers f.first f.last s)
unfolding after_event floor_checked ceiling_checked floor_check ceiling_check marks_along
drawn_event f before s = refl

marked_event : (f : FragmentValue) (before : ℕ → ColumnClip) (t : PlanesNow) →
    wall_marked (marks_along f before) t ≡ (let u : PlanesNow = record { planes = columns_marked (marks_along f before) t.ceiling t.floor (f.last + 1 - f.first) t.planes; floor = t.floor; ceiling = t.ceiling } in u)
unfolding wall_marked marks_along
marked_event f before t = refl

-- equal marks do the same with planes
event_alike : (s : PlanesNow) (a b : PlaneWall) → MarkAlike a b → (first last : ℕ) → first ≡ a.first → last ≡ a.last → first ≤ last → after_event s (Draws a) ≡ after_event s (Draws b)
event_alike s a b h first last e f o = after_event-alike s a b h (omega arith)

now_after : {v : ViewValue} {walls : List Wall} {s : PlanesNow} {facts : WallFacts} {first last : ℕ} {notes : List FragmentNote}
    {old checked new : ColumnState} {before between later : PlanesView} {places : SavePlaces} {note : FragmentNote} →
    WallDrawn v walls s facts first last notes old checked new before between later places note →
    now_of new later ≡ after_event s (step_of_wall v walls (wall_of v facts first last)).event
unfolding wall_step marks_along
now_after {v} {walls} {s} {facts} {first} {last} {notes} {old} {checked} {new} {before} {between} {later} d =
    let wall : Wall = wall_of v facts first last in
    let fragment : FragmentValue = fragment_of v facts first last in
    let open_at : ℕ → ColumnClip = window_at checked.windows in
    let checked_now : PlanesNow = now_of checked between in
    let marked_now : PlanesNow = record {
      planes = columns_marked (marks_along fragment open_at) checked_now.ceiling checked_now.floor (last + 1 - first) checked_now.planes;
      floor = checked_now.floor;
      ceiling = checked_now.ceiling;
    } in
    let first_to_last = d.ordered in
    let last_within = d.within in
    let new_planes : now_of new later ≡ marked_now = ap (λ (ps : List Plane).
    let planes_now : PlanesNow = record { planes = ps; floor = plane_number new.floor; ceiling = plane_number new.ceiling } in planes_now)
    (ap (λ (p : PlanesView). p.planes) d.marked.planes)
    ∙ ap (λ (o : Option _). let planes_now : PlanesNow = record { planes = marked_now.planes; floor = plane_number o; ceiling = plane_number new.ceiling } in planes_now) d.marked.floor
    ∙ ap (λ (o : Option _). let planes_now : PlanesNow = record { planes = marked_now.planes; floor = plane_number checked.floor; ceiling = plane_number o } in planes_now) d.marked.ceiling in
    let marks_alike : MarkAlike (marks_along fragment open_at) (plane_wall v (with_wall walls wall) (length walls) wall) =
    rows_same v (with_wall walls wall) (length walls) facts first last open_at
    (λ x l h. window_before d x (omega arith) ∙ sym (clip_before-front v.shape walls (wall ∷ []) (length walls) x (omega arith))) in
    new_planes
    ∙ sym (marked_event fragment open_at checked_now)
    ∙ ap (wall_marked (marks_along fragment open_at)) d.planes
    ∙ sym (drawn_event fragment open_at s)
    ∙ event_alike s (marks_along fragment open_at) (plane_wall v (with_wall walls wall) (length walls) wall) marks_alike first last refl refl first_to_last

-- a fragment is drawn
built_wall : {v : ViewValue} {walls : List Wall} {s : PlanesNow} {facts : WallFacts} {first last : ℕ} {notes : List FragmentNote}
    {old checked new : ColumnState} {before between later : PlanesView} {places : SavePlaces} {note : FragmentNote} →
    WallDrawn v walls s facts first last notes old checked new before between later places note →
    IsBuilt v (with_wall walls (wall_of v facts first last)) (after_event s (step_of_wall v walls (wall_of v facts first last)).event) (walls_view (notes ++ note ∷ []) new) later.planes
built_wall {v} {walls} {s} {facts} {first} {last} {notes} {note = note} d =
    let wall : Wall = wall_of v facts first last in
    let now = now_after d in
    record {
      drawn = All-push (IsDrawn v) walls wall d.built.drawn (drawn_wall v facts first last d.ordered d.within);
      notes = notes_after d;
      openings = openings_after d;
      clips = λ x l. clips_after d (notes ++ note ∷ []) x l;
      height = d.marked.height ∙ height_before d;
      floor = ap (λ (t : PlanesNow). t.floor) now;
      ceiling = ap (λ (t : PlanesNow). t.ceiling) now;
      planes = ap (λ (t : PlanesNow). t.planes) now;
      sound = sound-after_event s (step_of_wall v walls wall).event d.built.sound;
    }

-- what is built where the columns of the fragment of a seg were drawn and its lists saved, by its value and its numbers
pub built-range : (v : ViewValue) (facts : WallFacts) (first last : ℕ) (n : FragmentNumbers) (f : FragmentValue) (notes : List FragmentNote)
    (old checked drawn new : ColumnState) {state : WallsView} (before between later : PlanesView) (places : SavePlaces) (note : FragmentNote)
    {items : List FragmentNote} → f ≡ fragment_of v facts first last → n ≡ f.numbers → first ≤ last → last < v.shape.width → v.shape.width ≤ FRAME_WIDTH →
    walls_view notes old ≡ state → checked.windows ≡ old.windows →
    ((s : PlanesNow) → s ≡ now_of old before → now_of checked between ≡ both_checks n first last s) → HasTaken n (last + 1 - first) old.openings checked.openings places →
    HasMarked f (columns_of f) checked drawn between later → drawn.openings ≡ checked.openings → HasSaved v f first last places drawn new →
    ((place : ℕ) → places ≡ places_of f.numbers place (last + 1 - first) → note ≡ note_at v (wall_of v facts first last) place) → items ≡ notes ++ note ∷ [] →
    (walls : List Wall) (s : PlanesNow) → IsBuilt v walls s state before.planes →
    IsBuilt v (with_wall walls (wall_of v facts first last)) (after_event s (step_of_wall v walls (wall_of v facts first last)).event) (walls_view items new) later.planes
built-range v facts first last n f notes old checked drawn new before between later places note is own ordered within frame view windows planes
    taken marked openings saved noted pushed walls s h =
    let wall : Wall = wall_of v facts first last in
    let numbers : n ≡ fragment_numbers v facts first last = own ∙ ap (λ (f : FragmentValue). f.numbers) is in
    let built_before = built-inside v walls s notes old before view h in
    let ChecksBoth : FragmentNumbers → Type 0 = λ n. now_of checked between ≡ both_checks n first last s in
    let HasTakenBy : FragmentNumbers → Type 0 = λ n. HasTaken n (last + 1 - first) old.openings checked.openings places in
    let HasMarkedBy : FragmentValue → Type 0 = λ f. HasMarked f (columns_of f) checked new between later in
    let columns : List ℤ = listed_from (texture_column v facts) first last in
    let wall_drawn : WallDrawn v walls s facts first last notes old checked new before between later places note = record {
      built = built_before;
      ordered = ordered;
      within = within;
      frame = frame;
      windows = windows;
      planes = subst ChecksBoth numbers (planes s (built-now v walls s notes old before built_before));
      taken = subst HasTakenBy numbers taken;
      marked = subst HasMarkedBy is (marked-saved saved marked);
      saved = saved.saved facts is
          ∙ ap (λ (o : OpeningsView). lists_saved places columns (ceilings_in new.windows first last) (floors_in new.windows first last) o.saved) openings;
      note = noted (length old.openings.saved) (taken.are ∙ ap (λ (m : FragmentNumbers). places_of m (length old.openings.saved) (last + 1 - first)) own);
    } in
    let IsBuiltWith : List FragmentNote → Type 0 = λ items.
    IsBuilt v (with_wall walls wall) (after_event s (step_of_wall v walls wall).event) (walls_view items new) later.planes in
    subst IsBuiltWith (sym pushed) (built_wall wall_drawn)

length_notes : (v : ViewValue) (walls : List Wall) (place : ℕ) → length (notes_from v place walls) ≡ length walls
unfolding notes_from
length_notes v [] place = refl
length_notes v (w ∷ ws) place =
    ap suc (length_notes v ws (place + room_if w.numbers.masked w + room_if (saves_top w.numbers) w + room_if (saves_bottom w.numbers) w))

length_view : (v : ViewValue) (walls : List Wall) → length (view_notes v walls) ≡ length walls
unfolding view_notes
length_view v walls = length_notes v walls 0

-- there is a note for each fragment
pub built-count : (v : ViewValue) (walls : List Wall) (s : PlanesNow) (state : WallsView) (planes : List Plane) → IsBuilt v walls s state planes → length state.notes ≡ length walls
built-count v walls s state planes h = ap (λ (ds : List FragmentNote). length ds) h.notes ∙ length_view v walls

-- what is open of a column before the next fragment, when the windows are as they were
pub built-window : (v : ViewValue) (walls : List Wall) (s : PlanesNow) (notes : List FragmentNote) (old : ColumnState) (checked : WindowsView) (planes : List Plane) (w : Wall) (x : ℕ) →
    IsBuilt v walls s (walls_view notes old) planes → checked ≡ old.windows → x < v.shape.width → window_at checked x ≡ clip_before v.shape (with_wall walls w) (length walls) x
built-window v walls s notes old checked planes w x h e l =
    ap (λ (w : WindowsView). window_at w x) e ∙ sym (clip_at-window notes old x) ∙ h.clips x l ∙ sym (clip_before-front v.shape walls (w ∷ []) (length walls) x (omega arith))
