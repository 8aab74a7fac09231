use Rattle.std.proofs.Common.{◌≡◌, ap, ◌∙◌, refl, subst}
use Rattle.visplanes.specs.Rules.{FRAME_WIDTH, PLANE, Painter, Plane, PlaneKey, lump_source, painter_of}
use Rattle.pixel_strips.specs.Canvases.{CanvasView, with_painter}
use Rattle.visplanes.specs.{Planes.plane_at, Planes.flat_lump, Spans.FloorView, Spans.HasSpans}
use Rattle.visplanes.proofs.FlatLemmas.{spans-plane}
use Rattle.visplanes.proofs.draw.draw_plane.Goals as goal

pub returns : goal.returns
returns g c = λ art sky gives.
    let number = c.args.plane.0 in
    let plane : Plane = plane_at c.args.planes.now.planes number in
    let old = g.C.Canvas.view c.args.canvas.now in
    let mark = g.C.Canvas.mark in
    let canvas_after = g.C.Canvas.view c.draw_columns.new.canvas in
    let floor_of : PlaneKey → FloorView = λ key. record { view = c.args.view.now; key = key; flat = c.args.flat.now; colormap = c.args.colormap.now } in
    let painter : PlaneKey → Painter = λ key. painter_of PLANE number (lump_source (flat_lump key.flat)) in
    let key : c.key-key.result ≡ plane.key = c.key-key.ensures.value ∙ ap (λ (q : Plane). q.key) c.visplane-visplane.ensures in
    let canvas_begun = c.begin.ensures ∙ ap (λ (q : Painter). with_painter q old) (c.painter_of.ensures ∙ ap painter key) in
    let seen_by : HasSpans mark (floor_of plane.key) c.visplane-visplane.result.now (λ y. FRAME_WIDTH) (g.C.Canvas.view c.begin.new.self) canvas_after =
    subst (λ (f : FloorView). HasSpans mark f c.visplane-visplane.result.now (λ y. FRAME_WIDTH) (g.C.Canvas.view c.begin.new.self) canvas_after) (c.new-floor.ensures ∙ ap floor_of key) c.draw_columns.ensures in
    let of_plane : HasSpans mark (floor_of plane.key) plane (λ y. FRAME_WIDTH) (g.C.Canvas.view c.begin.new.self) canvas_after =
    subst (λ q. HasSpans mark (floor_of plane.key) q (λ y. FRAME_WIDTH) (g.C.Canvas.view c.begin.new.self) canvas_after) c.visplane-visplane.ensures seen_by in
    let by_painter : HasSpans mark (floor_of plane.key) plane (λ y. FRAME_WIDTH) (with_painter (painter plane.key) old) canvas_after =
    subst (λ (v : CanvasView). HasSpans mark (floor_of plane.key) plane (λ y. FRAME_WIDTH) v canvas_after) canvas_begun of_plane in
    spans-plane mark c.args.view.now art sky number plane c.args.flat.now c.args.colormap.now (with_painter (painter plane.key) old) canvas_after gives c.requires.floor c.requires.seen refl by_painter
