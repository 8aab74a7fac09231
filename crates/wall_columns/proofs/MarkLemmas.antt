-- Laws of the columns of a fragment as they are passed one by one: none, one more, and all.
use Rattle.picture_rules.proofs.Common.{ap, arith, Bool, cond, false, length, List, nat_le, nat_lt, nat_tests, None, Option, refl, Some, subst, sym, true, within-row, ℕ, ◌&&◌, ◌+◌, ◌-◌, ◌<◌, ◌==◌, ◌∙◌, ◌≡◌, ◌≢◌}
use Rattle.wall_columns.specs.Rules.{ColumnClip, Edges, FRAME_WIDTH, FragmentNumbers, Plane, RowRange, ViewValue, ceiling_rows, clip_after, column_marked, columns_marked, edges_at, floor_rows, marked_rows, set_run}
use Rattle.picture_rules.proofs.plane.BuiltLemmas.{columns_marked-none, columns_marked-more}
use Rattle.visplanes.specs.{Planes.PlanesView, Planes.with_planes, declared.planes.PlaneNo.PlaneNo}
use Rattle.wall_edges.specs.{Fragments.FragmentValue, Steppers.IsAt}
use Rattle.wall_edges.specs.declared.stepper.Stepper.{Stepper}
use Rattle.wall_columns.specs.declared.clips.ColumnPlan.{ColumnPlan}
use Rattle.wall_columns.specs.declared.columns.MarkedPlanes.{MarkedPlanes}
use Rattle.wall_columns.specs.declared.notes.SavePlaces.{SavePlaces}
use Rattle.wall_columns.specs.declared.column_state.ColumnState.{ColumnState}
use Rattle.wall_columns.specs.Windows.{WindowsView, window_at, with_window}
use Rattle.wall_columns.specs.Plans.{plan_of}
use Rattle.wall_columns.specs.Columns.{plane_number, marked_plane, marked_planes, column_edges, column_after, columns_of, clip_along, marks_along, HasMarked, HasSaved}

-- a plane that is taken only where the fragment marks it gets the rows that are marked
marked_as : (marks : Bool) (leaf plane : Option PlaneNo) (planes : List Plane) (x : ℕ) (rows : RowRange) → plane ≡ marked_plane marks leaf →
    set_run planes (plane_number plane) x (marked_rows true rows) ≡ set_run planes (plane_number leaf) x (marked_rows marks rows)
unfolding set_run marked_rows
marked_as marks leaf plane planes x rows is =
    ap (λ (p : Option PlaneNo). set_run planes (plane_number p) x (marked_rows true rows)) is ∙ by marks leaf where
      by : (marks : Bool) (leaf : Option PlaneNo) → set_run planes (plane_number (marked_plane marks leaf)) x (marked_rows true rows)
          ≡ set_run planes (plane_number leaf) x (marked_rows marks rows)
      by true leaf = refl
      by false None = refl
      by false (Some p) = refl

-- the ceiling's plane, and then the floor's
pub marked-planes : (n : FragmentNumbers) (ceiling floor : Option PlaneNo) (marked : MarkedPlanes) (x : ℕ) (above below ceilings floors : RowRange) (old middle new : PlanesView) →
    marked ≡ marked_planes n ceiling floor → above ≡ ceilings → below ≡ floors →
    middle ≡ with_planes (set_run old.planes (plane_number marked.ceiling) x (marked_rows true above)) old →
    new ≡ with_planes (set_run middle.planes (plane_number marked.floor) x (marked_rows true below)) middle →
    new ≡ with_planes (set_run (set_run old.planes (plane_number ceiling) x (marked_rows n.ceiling_mark ceilings)) (plane_number floor) x (marked_rows n.floor_mark floors)) old
marked-planes n ceiling floor marked x above below ceilings floors old middle new is is_above is_below first second =
    let above_marked : set_run old.planes (plane_number marked.ceiling) x (marked_rows true above) ≡ set_run old.planes (plane_number ceiling) x (marked_rows n.ceiling_mark ceilings) =
    marked_as n.ceiling_mark ceiling marked.ceiling old.planes x above (ap (λ (m : MarkedPlanes). m.ceiling) is)
    ∙ ap (λ (rows : RowRange). set_run old.planes (plane_number ceiling) x (marked_rows n.ceiling_mark rows)) is_above in
    second
    ∙ ap (λ (v : PlanesView). with_planes (set_run v.planes (plane_number marked.floor) x (marked_rows true below)) v) first
    ∙ ap (λ (ps : List Plane). with_planes (set_run ps (plane_number marked.floor) x (marked_rows true below)) old) above_marked
    ∙ ap (λ (ps : List Plane). with_planes ps old)
    (marked_as n.floor_mark floor marked.floor _ x below (ap (λ (m : MarkedPlanes). m.floor) is)
    ∙ ap (λ (rows : RowRange). set_run (set_run old.planes (plane_number ceiling) x (marked_rows n.ceiling_mark ceilings)) (plane_number floor) x (marked_rows n.floor_mark rows)) is_below)

-- no column of a fragment stands before its first
none_before : (first x : ℕ) → (nat_le first x && nat_lt x (first + 0)) ≡ false
none_before first x = grind (arith, nat_tests)

-- column number k is not among the first k
not_among : (first k x : ℕ) → x ≡ first + k → (nat_le first x && nat_lt x (first + k)) ≡ false
not_among first k x e = grind (arith, nat_tests)

others_among : (first k x y : ℕ) → x ≡ first + k → y ≢ x → (nat_le first y && nat_lt y (first + k)) ≡ (nat_le first y && nat_lt y (first + (k + 1)))
others_among first k x y e h = grind (arith, nat_tests)

clip_along-none : (height : ℕ) (f : FragmentValue) (before : ℕ → ColumnClip) (x : ℕ) → before x ≡ clip_along height f before 0 x
unfolding clip_along
clip_along-none height f before x = sym (ap (λ (b : Bool). cond b (column_after height f before x) (before x)) (none_before f.first x))

clip_along-at : (height : ℕ) (f : FragmentValue) (before : ℕ → ColumnClip) (k x : ℕ) → x ≡ f.first + k → clip_along height f before k x ≡ before x
unfolding clip_along
clip_along-at height f before k x e = ap (λ (b : Bool). cond b (column_after height f before x) (before x)) (not_among f.first k x e)

clip_along-last : (height : ℕ) (f : FragmentValue) (before : ℕ → ColumnClip) (k x : ℕ) → x ≡ f.first + k → clip_along height f before (k + 1) x ≡ column_after height f before x
unfolding clip_along
clip_along-last height f before k x e = ap (λ (b : Bool). cond b (column_after height f before x) (before x)) (within-row f.first k x e)

clip_along-other : (height : ℕ) (f : FragmentValue) (before : ℕ → ColumnClip) (k x y : ℕ) → x ≡ f.first + k → y ≢ x → clip_along height f before k y ≡ clip_along height f before (k + 1) y
unfolding clip_along
clip_along-other height f before k x y e h = ap (λ (b : Bool). cond b (column_after height f before y) (before y)) (others_among f.first k x y e h)

-- no column yet
has_marked-none : (f : FragmentValue) (start : ColumnState) (planes : PlanesView) → HasMarked f 0 start start planes planes
has_marked-none f start planes = record {
  windows = λ x l. clip_along-none start.windows.height f (window_at start.windows) x;
  height = refl;
  planes = ap (λ (ps : List Plane). with_planes ps planes) (columns_marked-none (marks_along f (window_at start.windows)) (plane_number start.ceiling) (plane_number start.floor) 0 planes.planes refl);
  count = refl;
  floor = refl;
  ceiling = refl;
}

-- what is told of a column that is passed
pub record PassesColumn (n : FragmentNumbers) (x : ℕ) (e : Edges) (now next : ColumnState) (before later : PlanesView) (after : ColumnClip) : Type 0 where
  pub left_open : after ≡ clip_after now.windows.height n (window_at now.windows x) e
  pub own : window_at next.windows x ≡ after
  pub other : (y : ℕ) → y ≢ x → window_at next.windows y ≡ window_at now.windows y
  pub height : next.windows.height ≡ now.windows.height
  pub planes : later ≡ with_planes (set_run (set_run before.planes (plane_number now.ceiling) x (marked_rows n.ceiling_mark (ceiling_rows (window_at now.windows x) e)))
      (plane_number now.floor) x (marked_rows n.floor_mark (floor_rows (window_at now.windows x) e))) before
  pub count : length later.planes ≡ length before.planes
  pub floor : next.floor ≡ now.floor
  pub ceiling : next.ceiling ≡ now.ceiling

pub height_of : (w next : WindowsView) (x : ℕ) (clip : ColumnClip) → next ≡ with_window w x clip → next.height ≡ w.height
unfolding with_window
height_of w next x clip e = ap (λ (v : WindowsView). v.height) e

plan_after : (height : ℕ) (n : FragmentNumbers) (clip : ColumnClip) (e : Edges) (plan : ColumnPlan) → plan ≡ plan_of height n clip e → plan.after ≡ clip_after height n clip e
unfolding plan_of
plan_after height n clip e plan p = ap (λ (q : ColumnPlan). q.after) p

-- by the clauses of the call
pub passes-column : (n : FragmentNumbers) (x : ℕ) (e : Edges) (now next : ColumnState) (before later : PlanesView) (plan : ColumnPlan) →
    plan ≡ plan_of now.windows.height n (window_at now.windows x) e → next.windows ≡ with_window now.windows x plan.after → window_at next.windows x ≡ plan.after →
    ((y : ℕ) → y ≢ x → window_at next.windows y ≡ window_at now.windows y) →
    later ≡ with_planes (set_run (set_run before.planes (plane_number now.ceiling) x (marked_rows n.ceiling_mark (ceiling_rows (window_at now.windows x) e)))
    (plane_number now.floor) x (marked_rows n.floor_mark (floor_rows (window_at now.windows x) e))) before →
    length later.planes ≡ length before.planes → next.floor ≡ now.floor → next.ceiling ≡ now.ceiling → PassesColumn n x e now next before later plan.after
passes-column n x e now next before later plan p w own other planes count floor ceiling = record {
  left_open = plan_after now.windows.height n (window_at now.windows x) e plan p;
  own = own;
  other = other;
  height = height_of now.windows next.windows x plan.after w;
  planes = planes;
  count = count;
  floor = floor;
  ceiling = ceiling;
}

-- what was open of the column before, by the windows at the start
pub window_is : (f : FragmentValue) (k x : ℕ) (start now : ColumnState) (before later : PlanesView) → HasMarked f k start now before later → x ≡ f.first + k → x < FRAME_WIDTH →
    window_at now.windows x ≡ window_at start.windows x
window_is f k x start now before later h e l = h.windows x l ∙ clip_along-at start.windows.height f (window_at start.windows) k x e

pub edges_are : (f : FragmentValue) (k x : ℕ) → x ≡ f.first + k → edges_at f.shape f.numbers k ≡ column_edges f x
unfolding column_edges
edges_are f k x e = let number : k ≡ x - f.first = omega arith in ap (edges_at f.shape f.numbers) number

after_is : (f : FragmentValue) (k x : ℕ) (height : ℕ) (start now : WindowsView) (clip : ColumnClip) → x ≡ f.first + k → height ≡ start.height → window_at now x ≡ window_at start x →
    clip ≡ clip_after height f.numbers (window_at now x) (edges_at f.shape f.numbers k) → clip ≡ column_after start.height f (window_at start) x
unfolding column_after
after_is f k x height start now clip e h w c =
    c ∙ ap (λ (m : ℕ). clip_after m f.numbers (window_at now x) (edges_at f.shape f.numbers k)) h
    ∙ ap (λ (o : ColumnClip). clip_after start.height f.numbers o (edges_at f.shape f.numbers k)) w
    ∙ ap (clip_after start.height f.numbers (window_at start x)) (edges_are f k x e)

-- the clip that a column leaves, by the windows at the start
column-after : (f : FragmentValue) (k x : ℕ) (start now next : ColumnState) (before between later : PlanesView) (after : ColumnClip) →
    HasMarked f k start now before between → x ≡ f.first + k → x < FRAME_WIDTH →
    PassesColumn f.numbers x (edges_at f.shape f.numbers k) now next between later after → after ≡ column_after start.windows.height f (window_at start.windows) x
column-after f k x start now next before between later after h e l p =
    after_is f k x now.windows.height start.windows now.windows after e h.height (window_is f k x start now before between h e l) p.left_open

by_test : (f : FragmentValue) (k x y : ℕ) (start now next : ColumnState) (before between later : PlanesView) (after : ColumnClip) (t : Bool) → (y == x) ≡ t → HasMarked f k start now before between →
    x ≡ f.first + k → x < FRAME_WIDTH → y < FRAME_WIDTH → PassesColumn f.numbers x (edges_at f.shape f.numbers k) now next between later after →
    window_at next.windows y ≡ clip_along start.windows.height f (window_at start.windows) (k + 1) y
by_test f k x y start now next before between later after true t h e l m p =
    let column_same : y ≡ x = grind (arith, nat_tests) in
    ap (λ (z : ℕ). window_at next.windows z) column_same ∙ p.own ∙ column-after f k x start now next before between later after h e l p
    ∙ sym (clip_along-last start.windows.height f (window_at start.windows) k x e)
    ∙ ap (clip_along start.windows.height f (window_at start.windows) (k + 1)) (sym column_same)
by_test f k x y start now next before between later after false t h e l m p =
    let columns_differ : y ≢ x = grind (arith, nat_tests) in
    p.other y columns_differ ∙ h.windows y m ∙ clip_along-other start.windows.height f (window_at start.windows) k x y e columns_differ

marked_column : (f : FragmentValue) (k x : ℕ) (start : ColumnState) (w : ColumnClip) (e : Edges) (ceiling floor : Option ℕ) (planes : List Plane) → x ≡ f.first + k →
    w ≡ window_at start.windows x → e ≡ column_edges f x →
    set_run (set_run planes ceiling x (marked_rows f.numbers.ceiling_mark (ceiling_rows w e))) floor x (marked_rows f.numbers.floor_mark (floor_rows w e))
    ≡ column_marked (marks_along f (window_at start.windows)) ceiling floor (f.first + k) planes
unfolding column_marked marks_along
marked_column f k x start w e ceiling floor planes p q r =
    let planes_with_runs : ColumnClip → Edges → ℕ → List Plane = λ w e y. set_run (set_run planes ceiling y (marked_rows f.numbers.ceiling_mark (ceiling_rows w e))) floor y (marked_rows f.numbers.floor_mark (floor_rows w e)) in
    ap (λ (w : ColumnClip). planes_with_runs w e x) q ∙ ap (λ (e : Edges). planes_with_runs (window_at start.windows x) e x) r ∙ ap (λ (y : ℕ). planes_with_runs (window_at start.windows y) (column_edges f y) y) p

-- one column more
has_marked-more : (f : FragmentValue) (k x : ℕ) (start now next : ColumnState) (before between later : PlanesView) (after : ColumnClip) → HasMarked f k start now before between →
    x ≡ f.first + k → x < FRAME_WIDTH → PassesColumn f.numbers x (edges_at f.shape f.numbers k) now next between later after →
    HasMarked f (k + 1) start next before later
unfolding marks_along
has_marked-more f k x start now next before between later after h e l p =
    let wall_marks = marks_along f (window_at start.windows) in
    let ceiling : Option ℕ = plane_number start.ceiling in
    let floor : Option ℕ = plane_number start.floor in
    let so_far : List Plane = columns_marked wall_marks ceiling floor k before.planes in
    let marks : ColumnClip → Option ℕ → Option ℕ → List Plane → List Plane = λ o c d planes. set_run (set_run planes c x (marked_rows f.numbers.ceiling_mark (ceiling_rows o (edges_at f.shape f.numbers k)))) d x (marked_rows f.numbers.floor_mark (floor_rows o (edges_at f.shape f.numbers k))) in
    let planes : later ≡ with_planes (columns_marked wall_marks ceiling floor (k + 1) before.planes) before =
    p.planes
    ∙ ap (λ (o : Option _). with_planes (marks (window_at now.windows x) (plane_number o) (plane_number now.floor) between.planes) between) h.ceiling
    ∙ ap (λ (o : Option _). with_planes (marks (window_at now.windows x) ceiling (plane_number o) between.planes) between) h.floor
    ∙ ap (λ (b : PlanesView). with_planes (marks (window_at now.windows x) ceiling floor b.planes) b) h.planes
    ∙ ap (λ (ps : List Plane). with_planes ps before)
    (marked_column f k x start (window_at now.windows x) (edges_at f.shape f.numbers k) ceiling floor so_far e (window_is f k x start now before between h e l) (edges_are f k x e)
    ∙ columns_marked-more wall_marks ceiling floor k (k + 1) before.planes refl) in
    record {
      windows = λ y m. by_test f k x y start now next before between later after (y == x) refl h e l m p;
      height = p.height ∙ h.height;
      planes = planes;
      count = p.count ∙ h.count;
      floor = p.floor ∙ h.floor;
      ceiling = p.ceiling ∙ h.ceiling;
    }

-- the same by equal numbers and edges
passes-as : (n m : FragmentNumbers) (x : ℕ) (e g : Edges) (now next : ColumnState) (before later : PlanesView) (after : ColumnClip) → n ≡ m → e ≡ g →
    PassesColumn n x e now next before later after → PassesColumn m x g now next before later after
passes-as n m x e g now next before later after p q h =
    let PassesNumbers : FragmentNumbers → Type 0 = λ n. PassesColumn n x e now next before later after in
    let PassesEdges : Edges → Type 0 = λ e. PassesColumn m x e now next before later after in
    subst PassesEdges q (subst PassesNumbers p h)

-- how many columns of a fragment a stepper has passed
abbrev pub passed_columns : FragmentValue → Stepper → ℕ
passed_columns f s = s.x - f.first

-- what holds when they are marked
pub record HasPassed (f : FragmentValue) (s : Stepper) (start now : ColumnState) (before later : PlanesView) : Type 0 where
  pub at : IsAt f (passed_columns f s) s
  pub marked : HasMarked f (passed_columns f s) start now before later

pub passed-none : (f : FragmentValue) (s : Stepper) (start : ColumnState) (planes : PlanesView) → IsAt f 0 s → HasPassed f s start start planes planes
passed-none f s start planes at =
    let column_is = at.x in
    let none_passed : 0 ≡ passed_columns f s = omega arith in
    record {
      at = subst (λ (k : ℕ). IsAt f k s) none_passed at;
      marked = subst (λ (k : ℕ). HasMarked f k start start planes planes) none_passed (has_marked-none f start planes);
    }

-- one column more, by the clauses of the calls
pub passed-more : (f : FragmentValue) (n : FragmentNumbers) (s t : Stepper) (e : Edges) (start now next : ColumnState)
    (before between later : PlanesView) (after : ColumnClip) →
    HasPassed f s start now before between → n ≡ f.numbers → (e ≡ edges_at f.shape f.numbers (passed_columns f s)) × IsAt f (passed_columns f s + 1) t →
    PassesColumn n (t.x - 1) e now next between later after → HasPassed f t start next before later
passed-more f n s t e start now next before between later after passed numbers step column =
    let passed_count : ℕ = passed_columns f s in
    let column_is = passed.at.x in
    let next_column_is = step.1.x in
    let columns_left = step.1.left in
    let last_in_frame = step.1.within in
    let passed_column_is : t.x - 1 ≡ f.first + passed_count = omega arith in
    let column_in_frame : t.x - 1 < FRAME_WIDTH = omega arith in
    let one_more_passed : passed_count + 1 ≡ passed_columns f t = omega arith in
    record {
      at = subst (λ (m : ℕ). IsAt f m t) one_more_passed step.1;
      marked = subst (λ (m : ℕ). HasMarked f m start next before later) one_more_passed
          (has_marked-more f passed_count (t.x - 1) start now next before between later after passed.marked passed_column_is column_in_frame
          (passes-as n f.numbers (t.x - 1) e (edges_at f.shape f.numbers passed_count) now next between later after numbers step.0 column));
    }

-- and all of them
pub passed-all : {f : FragmentValue} (s : Stepper) {start now : ColumnState} {before later : PlanesView} → f.first + passed_columns f s ≡ f.last + 1 →
    HasMarked f (passed_columns f s) start now before later → HasMarked f (columns_of f) start now before later
passed-all {f} s {start} {now} {before} {later} end marked =
    let all_passed : passed_columns f s ≡ columns_of f = omega arith in
    subst (λ (k : ℕ). HasMarked f k start now before later) all_passed marked

-- they are still marked when their lists are saved
pub marked-saved : {v : ViewValue} {f g : FragmentValue} {k first last : ℕ} {places : SavePlaces} {start passed now : ColumnState} {before later : PlanesView} →
    HasSaved v g first last places passed now → HasMarked f k start passed before later → HasMarked f k start now before later
marked-saved saved marked = record {
  windows = λ x l. ap (λ (w : WindowsView). window_at w x) saved.windows ∙ marked.windows x l;
  height = ap (λ (w : WindowsView). w.height) saved.windows ∙ marked.height;
  planes = marked.planes;
  count = marked.count;
  floor = saved.floor ∙ marked.floor;
  ceiling = saved.ceiling ∙ marked.ceiling;
}
