-- Laws of a whole view: its three parts in order, where its dots lie, what ends it, and the frame that it leaves.
use Rattle.picture_rules.proofs.Common.{All, AllPass, ap, arith, Err, get_or, IfErr, IfSome, IsErrAnd, length, length-replicate, List, None, Ok, OnOk, Option, refl, replicate, Result, Some, subst, suc, sym, zero, ℕ, ◌++◌, ◌∙◌, ◌≡◌, ◌≤◌, ℤ}
use Rattle.frame_core.specs.Rules.{AreInView, Dot, FRAME_CELLS, FRAME_HEIGHT, Fault, FitsFrame, Heap, IsWithinFrame, Limits, OverLimit, Painter, Plane, Scene, SceneValue, ShelfView, SpriteEntry, ViewShape, ViewValue, draw_order, masked_dots, paints_by, paints_of, picture, planes_dots, planes_of, view_drawsegs, view_entries, view_events, view_over, view_paints, view_planes, view_steps, walls_dots, walls_of}
use Rattle.pixel_strips.specs.Canvases.{CanvasView, marked_by_colour, placed_at}
use Rattle.pixel_strips.specs.Dotted.{HasDots}
use Rattle.texture_build.specs.{DirectoryView.DirectoryView, Draws.HoldsArt, Views.TexturesView}
use Rattle.vissprites.specs.Bounds.{lies_within}
use Rattle.vissprites.proofs.BoundLemmas.{draw_order-all}
use Rattle.texture_build.specs.Paints.{PaintState, PaintTools, Paints, paint_state}
use Rattle.sound_scene.specs.{Pictures.lists_of, Pictures.scene_of}
use Rattle.picture_rules.proofs.FrameLemmas.{frame_of-put_dots, in_view-append}
use Rattle.frame_core.specs.{declared.bench.Bench.Bench, declared.fault.ViewFault.ViewFault}
use Rattle.frame_core.specs.{Faults.limit_of_view}
use Rattle.frame_core.specs.Views.{PaintsView, view_scene}
use Rattle.frame_core.specs.Walked.{planes_after}
use Rattle.frame_core.specs.Painters.{HasWalkedView, IsPlacedIn, drawn_walls}
use Rattle.frame_core.proofs.{FloorLemmas.floors_of, MaskLemmas.masks_dots}
use Rattle.frame_core.proofs.PartDotLemmas.{LiesInView, planes-in_view, walls-in_view}
use Rattle.frame_core.proofs.ViewDotLemmas.{drawsegs-in_view, masked-in_view}

-- the place of a view of that shape
pub placed-as : (v : ViewValue) (shape : ViewShape) (old now : CanvasView) → shape ≡ v.shape → now ≡ placed_at shape.left shape.top old → now ≡ placed_at v.shape.left v.shape.top old
placed-as v shape old now same place = place ∙ ap (λ (sh : ViewShape). placed_at sh.left sh.top old) same

-- a canvas on which the view was placed has it in the frame
pub placed-frame : (v : ViewValue) (shape : ViewShape) (old now : CanvasView) → shape ≡ v.shape → IsWithinFrame shape → now ≡ placed_at shape.left shape.top old → IsPlacedIn v now
placed-frame v shape old now same frame place =
    let shape_in_frame : IsWithinFrame v.shape = subst IsWithinFrame same frame in
    subst (IsPlacedIn v) (sym (placed-as v shape old now same place)) (record { columns = shape_in_frame.width; rows = shape_in_frame.height })

-- the three parts of a view are its paints
pub view-parts : (v : ViewValue) (bytes : ℕ → List ℕ) (s : SceneValue) →
    drawn_walls v (view_events v (lists_of s)) (scene_of bytes s) ++ (floors_of v s (scene_of bytes s) ++ masks_dots v s (scene_of bytes s)) ≡ view_paints v (scene_of bytes s)
unfolding view_paints paints_of paints_by view_steps scene_of
view-parts v bytes s = refl

-- what was painted from where the view was placed
pub paints-placed : {A R E Q : Type 0} {fault_of : E → Fault R} {mark : Painter → ℕ → ℕ} {t : PaintTools} {among : ℕ → ℤ → Type 0} {pictures : ℕ → Type 0} {asked : Q → Type 0} {dots : List (List ℕ) → Q → List Dot} {shelf : ShelfView} {z : Heap} {b : PaintState} {result : Result A E}
    (v : ViewValue) (shape : ViewShape) (old now : CanvasView) → shape ≡ v.shape → now ≡ placed_at shape.left shape.top old → Paints fault_of mark t among pictures asked dots (paint_state shelf z now) b result →
    Paints fault_of mark t among pictures asked dots (paint_state shelf z (placed_at v.shape.left v.shape.top old)) b result
paints-placed {fault_of = fault_of} {mark} {t} {among} {pictures} {asked} {dots} {shelf} {z} {b} {result} v shape old now same place paint =
    subst (λ (canvas : CanvasView). Paints fault_of mark t among pictures asked dots (paint_state shelf z canvas) b result) (placed-as v shape old now same place) paint

planes_in : (v : ViewValue) (bytes : ℕ → List ℕ) (s : SceneValue) (b : Bench) → HasWalkedView v s b → All (LiesInView v.shape) (view_planes (view_steps v (scene_of bytes s) (view_events v (lists_of s))))
unfolding view_planes planes_of planes_after
planes_in v bytes s b walked =
    let bench_walked = walked bytes in
    subst (λ (ps : List Plane). All (LiesInView v.shape) ps) bench_walked.built.planes
    (λ i d l x y held. ((bench_walked.planes i d l).column x y held, (bench_walked.planes i d l).row x y held))

-- the dots of a view that was walked lie in it
pub in_view-walked : (v : ViewValue) (bytes : ℕ → List ℕ) (s : SceneValue) (b : Bench) → IsWithinFrame v.shape → HasWalkedView v s b → AreInView v.shape (view_paints v (scene_of bytes s))
in_view-walked v bytes s b frame walked =
    let bench_walked = walked bytes in
    let scene = scene_of bytes s in
    let events = view_events v (lists_of s) in
    let low : v.shape.height ≤ FRAME_HEIGHT = omega (arith, frame.height) in
    let entries = view_entries v scene events in
    let all_within_view : AllPass (lies_within v.shape.width) entries = subst (λ (es : List SpriteEntry). AllPass (lies_within v.shape.width) es) bench_walked.sprites bench_walked.columns in
    let drawsegs = view_drawsegs v scene (walls_of v scene events) in
    let planes = view_planes (view_steps v scene events) in
    subst (AreInView v.shape) (view-parts v bytes s)
    (in_view-append v.shape (walls_dots v scene (walls_of v scene events)) (planes_dots v scene planes ++ masked_dots v scene.art drawsegs (draw_order entries))
    (walls-in_view v scene events low bench_walked.built.drawn)
    (in_view-append v.shape (planes_dots v scene planes) (masked_dots v scene.art drawsegs (draw_order entries))
    (planes-in_view v scene planes (planes_in v bytes s b walked))
    (masked-in_view v scene.art drawsegs (draw_order entries) low (drawsegs-in_view v scene (walls_of v scene events) low bench_walked.built.drawn) (draw_order-all (lies_within v.shape.width) entries all_within_view))))

-- what is told of a part's fault is told of the whole's
pub if_err-stop : {A B : Type 0} (P : ViewFault → Type 0) (part : Result B ViewFault) (fault : ViewFault) (whole : Result A ViewFault) → part ≡ Err fault → IsErrAnd whole (λ e. e ≡ fault) → IfErr part P → IfErr whole P
if_err-stop P part fault (Ok x) was is h = absurd is
if_err-stop P part fault (Err e) was is h = subst P (sym is) (subst (λ r. IfErr r P) was h)

-- a fault that tells no limit
pub if_err-no_limit : {A : Type 0} (P : OverLimit → Type 0) (result : Result A ViewFault) → IfErr result (λ fault. limit_of_view fault ≡ None) → IfErr result (λ fault. IfSome (limit_of_view fault) P)
if_err-no_limit P (Ok x) h = tt
if_err-no_limit P (Err e) h = subst (λ (o : Option OverLimit). IfSome o P) (sym h) tt

-- no limit is passed, of the same view and the same limits by other words
pub within-at : {A E : Type 0} (result : Result A E) (v w : ViewValue) (scene : Scene) (l m : Limits) → v ≡ w → l ≡ m →
    OnOk result (view_over v scene l ≡ None) → OnOk result (view_over w scene m ≡ None)
within-at result v w scene l m p q within =
    subst (λ (x : ViewValue). OnOk result (view_over x scene m ≡ None)) p (subst (λ (n : Limits). OnOk result (view_over v scene n ≡ None)) q within)

-- a limit that is told, of the same view and the same limits by other words
pub over-at : {A : Type 0} (result : Result A ViewFault) (v w : ViewValue) (scene : Scene) (l m : Limits) → v ≡ w → l ≡ m →
    IfErr result (λ fault. IfSome (limit_of_view fault) (λ over. view_over v scene l ≡ Some over)) → IfErr result (λ fault. IfSome (limit_of_view fault) (λ over. view_over w scene m ≡ Some over))
over-at result v w scene l m p q told =
    subst (λ (x : ViewValue). IfErr result (λ fault. IfSome (limit_of_view fault) (λ over. view_over x scene m ≡ Some over))) p
    (subst (λ (n : Limits). IfErr result (λ fault. IfSome (limit_of_view fault) (λ over. view_over v scene n ≡ Some over))) q told)

fits_frame : (shape : ViewShape) → IsWithinFrame shape → FitsFrame shape
fits_frame shape frame = record { columns = frame.width; rows = frame.height }

zeros : (n cell : ℕ) → get_or (replicate {A = ℕ} n 0) cell 0 ≡ 0
zeros zero cell = refl
zeros (suc n) zero = refl
zeros (suc n) (suc cell) = zeros n cell

zero_cell : (n : ℕ) (cells : List ℕ) (cell : ℕ) → cells ≡ replicate n 0 → get_or cells cell 0 ≡ 0
zero_cell n cells cell same = ap (λ (cs : List ℕ). get_or cs cell 0) same ∙ zeros n cell

as_long : (n : ℕ) (cells : List ℕ) → cells ≡ replicate n 0 → length cells ≡ n
as_long n cells same = ap length same ∙ length-replicate n 0

-- a cleared frame that was given the dots of a view is its picture
pub pictured : {A : Type 0} (v : ViewValue) (scene : Scene) (old now : CanvasView) (result : Result A ViewFault) → IsWithinFrame v.shape → old.cells ≡ replicate FRAME_CELLS 0 → OnOk result (AreInView v.shape (view_paints v scene)) →
    OnOk result (HasDots marked_by_colour (view_paints v scene) (placed_at v.shape.left v.shape.top old) now) → OnOk result (now.cells ≡ picture v scene)
unfolding picture
pictured v scene old now (Ok x) frame cleared inside dots =
    dots.cells ∙ frame_of-put_dots v.shape (view_paints v scene) old.cells (fits_frame v.shape frame) inside (as_long FRAME_CELLS old.cells cleared) (λ cell. zero_cell FRAME_CELLS old.cells cell cleared)
pictured v scene old now (Err e) frame cleared inside dots = tt

-- what is told of a shelf and a cache that were lent is told of what came back
pub holds-back : {S : Type 0} {t : TexturesView} {dir : DirectoryView} {contents : List (List ℕ)} {colormap count : ℕ} (view : S → ShelfView) (back shelf : S) (z cache : Heap) → back ≡ shelf → z ≡ cache → HoldsArt (view shelf) dir t contents colormap count cache → HoldsArt (view back) dir t contents colormap count z
holds-back {t = t} {dir} {contents} {colormap} {count} view back shelf z cache e f h =
    subst (λ (x : Heap). HoldsArt (view back) dir t contents colormap count x) (sym f) (subst (λ s. HoldsArt (view s) dir t contents colormap count cache) (sym e) h)

-- and of a canvas, of the same view by another word
pub paints-back : {S C A : Type 0} {mark : Painter → ℕ → ℕ} {first : ShelfView} {heap : Heap} {result : Result A ViewFault} (shelf : S → ShelfView) (canvas : C → CanvasView) (old : CanvasView) (v w : ViewValue) (s : SceneValue) (dir : DirectoryView)
    (a b : S) (y z : Heap) (d e : C) → v ≡ w → a ≡ b → y ≡ z → d ≡ e → PaintsView mark (view_scene v s dir) (view_paints v) (paint_state first heap (placed_at v.shape.left v.shape.top old)) (paint_state (shelf b) z (canvas e)) result →
    PaintsView mark (view_scene w s dir) (view_paints w) (paint_state first heap (placed_at w.shape.left w.shape.top old)) (paint_state (shelf a) y (canvas d)) result
paints-back {mark = mark} {first} {heap} {result} shelf canvas old v w s dir a b y z d e same p q r paints =
    let state : paint_state (shelf b) z (canvas e) ≡ paint_state (shelf a) y (canvas d) = λ i. paint_state (shelf (sym p i)) (sym q i) (canvas (sym r i)) in
    subst (λ (x : ViewValue). PaintsView mark (view_scene x s dir) (view_paints x) (paint_state first heap (placed_at x.shape.left x.shape.top old)) (paint_state (shelf a) y (canvas d)) result) same
    (subst (λ (t : PaintState). PaintsView mark (view_scene v s dir) (view_paints v) (paint_state first heap (placed_at v.shape.left v.shape.top old)) t result) state paints)
