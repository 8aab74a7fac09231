-- Laws of where the dots of walls and planes are: in the view.
use Rattle.picture_rules.proofs.Common.{[], All, AllByRecursion, and_from, arith, Bool, cond, false, le-leb, List, nat_le, None, Option, recursion_from_All, Some, true, ℕ, ℤ, ◌++◌, ◌+◌, ◌-◌, ◌<◌, ◌∷◌, ◌≡◌, ◌≤◌}
use Rattle.frame_core.specs.Rules.{AreInView, Art, ColumnClip, Edges, Event, FRAME_HEIGHT, Flat4, FragmentNumbers, Painter, Part, Plane, RowRange, Scene, ViewShape, ViewValue, Wall, WallStrip, bottom_rows, clip_before, column, column_dots, floor_dots, has_texture, holds, holds_row, listed, listed_from, middle_rows, plane_dots, plane_dots_by, planes_dots, planes_from, rows_between, run_dots, sky_dots, strip_dots, strip_of, top_rows, wall_column, wall_column_by, wall_dots, wall_edges, wall_strips, walls_dots, walls_from, walls_of}
use Rattle.picture_rules.specs.declared.plane.Flat4.TheVariants.{Sky, Lump}
use Rattle.picture_rules.proofs.FrameLemmas.{in_view-append}
use Rattle.picture_rules.proofs.InViewLemmas.{in_view-column, in_view-joined, numbers_below, numbers_between, rows_between-in}
use Rattle.wall_columns.specs.{Built.IsDrawn, Plans.AreEdgeWords, Plans.AreRowsIn, Windows.IsClipIn}
use Rattle.wall_columns.proofs.ClipLemmas.{clip_before-in, middle_rows-in, top_rows-in, bottom_rows-in, edges_at-words}

-- a plane with no row and no column outside the view
abbrev pub LiesInView : ViewShape → Plane → Type 0
LiesInView shape p = (x y : ℕ) → holds p y x ≡ true → (x < shape.width) × (y < shape.height)

-- the strips of a fragment have rows of the view
abbrev IsStripIn : ℕ → WallStrip → Type 0
IsStripIn height s = AreRowsIn height s.rows

strip_if : (height : ℕ) (t : Bool) (part : Part) (rows : RowRange) → AreRowsIn height rows → AllByRecursion (IsStripIn height) (cond t (record { part = part; rows = rows } ∷ []) [])
strip_if height true part rows h = (h, tt)
strip_if height false part rows h = tt

strip_of-in : (height : ℕ) (part : Part) (rows : RowRange) → AreRowsIn height rows → AllByRecursion (IsStripIn height) (strip_of part rows)
unfolding strip_of
strip_of-in height part rows h = strip_if height (has_texture part) part rows h

all-append : {X : Type 0} (P : X → Type 0) (xs ys : List X) → AllByRecursion P xs → AllByRecursion P ys → AllByRecursion P (xs ++ ys)
all-append P [] ys a b = b
all-append P (x ∷ xs) ys a b = (a.0, all-append P xs ys a.1 b)

strips_by : (height : ℕ) (t : Bool) (xs ys : List WallStrip) → AllByRecursion (IsStripIn height) xs → AllByRecursion (IsStripIn height) ys → AllByRecursion (IsStripIn height) (cond t xs ys)
strips_by height true xs ys a b = a
strips_by height false xs ys a b = b

wall_strips-in : (height : ℕ) (n : FragmentNumbers) (clip : ColumnClip) (e : Edges) → height ≤ FRAME_HEIGHT → IsClipIn height clip → AreEdgeWords e → AllByRecursion (IsStripIn height) (wall_strips n clip e)
unfolding wall_strips
wall_strips-in height n clip e s i w =
    strips_by height (has_texture n.middle_part) (strip_of n.middle_part (middle_rows clip e)) (strip_of n.top_part (top_rows clip e) ++ strip_of n.bottom_part (bottom_rows n clip e))
    (strip_of-in height n.middle_part (middle_rows clip e) (middle_rows-in height clip e s i w))
    (all-append (IsStripIn height) (strip_of n.top_part (top_rows clip e)) (strip_of n.bottom_part (bottom_rows n clip e))
    (strip_of-in height n.top_part (top_rows clip e) (top_rows-in height clip e s i w)) (strip_of-in height n.bottom_part (bottom_rows n clip e) (bottom_rows-in height n clip e s i w)))

strip_dots-in : (v : ViewValue) (art : Art) (k x light : ℕ) (column scale : ℤ) (s : WallStrip) → x < v.shape.width → IsStripIn v.shape.height s → AreInView v.shape (strip_dots v art k x light column scale s)
unfolding strip_dots
strip_dots-in v art k x light column scale s l h = in_view-column v.shape _ x _ (rows_between s.rows.first s.rows.last) l (rows_between-in v.shape.height s.rows.first s.rows.last h)

edges_words : (shape : ViewShape) (w : Wall) (x : ℕ) → AreEdgeWords (wall_edges shape w x)
unfolding wall_edges
edges_words shape w x = edges_at-words shape w.numbers (x - w.first)

wall_column-in : (v : ViewValue) (art : Art) (walls : List Wall) (k : ℕ) (w : Wall) (x : ℕ) → v.shape.height ≤ FRAME_HEIGHT → x < v.shape.width → AreInView v.shape (wall_column v art walls k w x)
unfolding wall_column wall_column_by
wall_column-in v art walls k w x s l =
    in_view-joined v.shape _ (IsStripIn v.shape.height) (wall_strips w.numbers (clip_before v.shape walls k x) (wall_edges v.shape w x))
    (λ strip h. strip_dots-in v art k x _ _ _ strip l h)
    (wall_strips-in v.shape.height w.numbers (clip_before v.shape walls k x) (wall_edges v.shape w x) s (clip_before-in v.shape walls k x s) (edges_words v.shape w x))

wall_dots-in : (v : ViewValue) (art : Art) (walls : List Wall) (k : ℕ) (w : Wall) → v.shape.height ≤ FRAME_HEIGHT → w.last < v.shape.width → AreInView v.shape (wall_dots v art walls k w)
unfolding wall_dots
wall_dots-in v art walls k w s l =
    in_view-joined v.shape (wall_column v art walls k w) (λ x. x < v.shape.width) (listed_from (λ x. x) w.first w.last)
    (λ x h. wall_column-in v art walls k w x s h)
    (numbers_between (λ x. x < v.shape.width) w.first w.last (λ x m n. omega (arith, n, l)))

walls_from-in : (v : ViewValue) (scene : Scene) (walls : List Wall) (k : ℕ) (ws : List Wall) → v.shape.height ≤ FRAME_HEIGHT → AllByRecursion (IsDrawn v) ws → AreInView v.shape (walls_from v scene walls k ws)
unfolding walls_from
walls_from-in v scene walls k [] s a = tt
walls_from-in v scene walls k (w ∷ ws) s a =
    in_view-append v.shape (wall_dots v scene.art walls k w) (walls_from v scene walls (k + 1) ws) (wall_dots-in v scene.art walls k w s a.0.within) (walls_from-in v scene walls (k + 1) ws s a.1)

-- the dots of walls that are drawn lie in the view
pub drawn_walls-in_view : (v : ViewValue) (scene : Scene) (walls : List Wall) → v.shape.height ≤ FRAME_HEIGHT → All (IsDrawn v) walls → AreInView v.shape (walls_dots v scene walls)
unfolding walls_dots
drawn_walls-in_view v scene walls s d = walls_from-in v scene walls 0 walls s (recursion_from_All (IsDrawn v) walls d)

-- so do those of the walls of a list of events
pub walls-in_view : (v : ViewValue) (scene : Scene) (events : List Event) → v.shape.height ≤ FRAME_HEIGHT → All (IsDrawn v) (walls_of v scene events) → AreInView v.shape (walls_dots v scene (walls_of v scene events))
walls-in_view v scene events s d = drawn_walls-in_view v scene (walls_of v scene events) s d

-- dots of one column, row by row
run_by : (shape : ViewShape) (painter : Painter) (x : ℕ) (colour : ℕ → ℕ) (rows : List ℕ) → AllByRecursion (λ y. (x < shape.width) × (y < shape.height)) rows → AreInView shape (column_dots painter x colour rows)
unfolding column_dots
run_by shape painter x colour [] a = tt
run_by shape painter x colour (y ∷ ys) a = (a.0, run_by shape painter x colour ys a.1)

-- the rows of a plane at a column
run-in : (shape : ViewShape) (painter : Painter) (x : ℕ) (colour : ℕ → ℕ) (run : Option (ℕ × ℕ)) → ((y : ℕ) → holds_row run y ≡ true → (x < shape.width) × (y < shape.height)) → AreInView shape (run_dots painter x colour run)
unfolding run_dots holds_row
run-in shape painter x colour None h = tt
run-in shape painter x colour (Some r) h =
    run_by shape painter x colour (listed_from (λ y. y) r.0 r.1)
    (numbers_between (λ y. (x < shape.width) × (y < shape.height)) r.0 r.1 (λ y l m. h y (and_from (nat_le r.0 y) (nat_le y r.1) (le-leb r.0 y l) (le-leb y r.1 m))))

plane_column-in : (shape : ViewShape) (painter : Painter) (x : ℕ) (colour : ℕ → ℕ) (p : Plane) → LiesInView shape p → AreInView shape (run_dots painter x colour (column p x))
unfolding holds
plane_column-in shape painter x colour p h = run-in shape painter x colour (column p x) (λ y t. h x y t)

abbrev any_number : ℕ → Type 0
any_number k = Unit {0}

floor_dots-in : (v : ViewValue) (art : Art) (n lump : ℕ) (p : Plane) → LiesInView v.shape p → AreInView v.shape (floor_dots v art n lump p)
unfolding floor_dots
floor_dots-in v art n lump p h =
    in_view-joined v.shape _ any_number (listed (λ x. x) v.shape.width) (λ x l. plane_column-in v.shape _ x _ p h) (numbers_below any_number v.shape.width (λ k l. tt))

sky_dots-in : (v : ViewValue) (art : Art) (n sky : ℕ) (p : Plane) → LiesInView v.shape p → AreInView v.shape (sky_dots v art n sky p)
unfolding sky_dots
sky_dots-in v art n sky p h =
    in_view-joined v.shape _ any_number (listed (λ x. x) v.shape.width) (λ x l. plane_column-in v.shape _ x _ p h) (numbers_below any_number v.shape.width (λ k l. tt))

plane_by-in : (v : ViewValue) (art : Art) (sky n : ℕ) (p : Plane) (flat : Flat4) → LiesInView v.shape p → AreInView v.shape (plane_dots_by v art sky n p flat)
unfolding plane_dots_by
plane_by-in v art sky n p Sky h = sky_dots-in v art n sky p h
plane_by-in v art sky n p (Lump lump) h = floor_dots-in v art n lump p h

plane_dots-in : (v : ViewValue) (art : Art) (sky n : ℕ) (p : Plane) → LiesInView v.shape p → AreInView v.shape (plane_dots v art sky n p)
unfolding plane_dots
plane_dots-in v art sky n p h = plane_by-in v art sky n p p.key.flat h

planes_from-in : (v : ViewValue) (scene : Scene) (n : ℕ) (planes : List Plane) → AllByRecursion (LiesInView v.shape) planes → AreInView v.shape (planes_from v scene n planes)
unfolding planes_from
planes_from-in v scene n [] a = tt
planes_from-in v scene n (p ∷ ps) a =
    in_view-append v.shape (plane_dots v scene.art scene.sky n p) (planes_from v scene (n + 1) ps) (plane_dots-in v scene.art scene.sky n p a.0) (planes_from-in v scene (n + 1) ps a.1)

-- the dots of planes that lie in the view lie in it
pub planes-in_view : (v : ViewValue) (scene : Scene) (planes : List Plane) → All (LiesInView v.shape) planes → AreInView v.shape (planes_dots v scene planes)
unfolding planes_dots
planes-in_view v scene planes h = planes_from-in v scene 0 planes (recursion_from_All (LiesInView v.shape) planes h)
