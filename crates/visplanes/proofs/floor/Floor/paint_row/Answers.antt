use Rattle.picture_rules.proofs.Common.{ap, List, of_z, rules, to_z, w32, ℕ, ℤ, ◌∙◌, ◌≡◌, to_z-of_z}
use Rattle.picture_rules.specs.Words.{distance_map, Dot, mul, row_distance, span_x, span_y}
use Rattle.pixel_strips.specs.Canvases.{with_dots}
use Rattle.visplanes.specs.Spans.{FloorView, distance_at, light_at, row_dots}
use Rattle.visplanes.proofs.FloorLemmas.{span-row}
use Rattle.visplanes.proofs.floor.Floor.paint_row.Goals as goal

pub returns : goal.returns
unfolding distance_at light_at
returns g c =
    let fields = c.self.inside in
    let view = fields.view.now in
    let floor : FloorView = record { view = view; key = fields.key; flat = fields.flat.now; colormap = fields.colormap.now } in
    let old = g.C.Canvas.view c.args.canvas.now in
    let distance : ℤ = c.row_distance-distance.result in
    let read : to_z w32 (of_z w32 distance) ≡ distance = to_z-of_z w32 distance (search rules) in
    let origin = c.span_origin-x_fraction in
    c.paint_span_as.ensures
    ∙ ap (λ (dots : List Dot). with_dots g.C.Canvas.mark dots old)
    (span-row floor c.spans.result old.painter c.args.y c.args.first c.args.last c.distance_map.result distance
    (to_z w32 (of_z w32 origin.result.0)) (to_z w32 (of_z w32 origin.result.1)) (to_z w32 (of_z w32 c.mul.result)) (to_z w32 (of_z w32 c.mul-2.result))
    c.spans.ensures
    (c.row_distance-distance.ensures ∙ ap (λ (h : ℤ). row_distance view h c.args.y) (to_z-of_z w32 fields.key.height (search rules)))
    (c.distance_map.ensures ∙ ap (λ (z : ℤ). distance_map view fields.light z) read ∙ ap (λ (n : ℕ). distance_map view n distance) c.self.invariant.0)
    (to_z-of_z w32 origin.result.0 (search rules) ∙ origin.ensures.x ∙ ap (λ (z : ℤ). span_x view z c.args.first) read)
    (to_z-of_z w32 origin.result.1 (search rules) ∙ origin.ensures.y ∙ ap (λ (z : ℤ). span_y view z c.args.first) read)
    (to_z-of_z w32 c.mul.result (search rules) ∙ c.mul.ensures ∙ ap (λ (z : ℤ). mul z (to_z w32 (of_z w32 fields.gain_x))) read ∙ ap (mul distance) (to_z-of_z w32 fields.gain_x (search rules) ∙ c.self.invariant.2))
    (to_z-of_z w32 c.mul-2.result (search rules) ∙ c.mul-2.ensures ∙ ap (λ (z : ℤ). mul z (to_z w32 (of_z w32 fields.gain_y))) read ∙ ap (mul distance) (to_z-of_z w32 fields.gain_y (search rules) ∙ c.self.invariant.3)))
    ∙ ap (λ (h : FloorView). with_dots g.C.Canvas.mark (row_dots h old.painter c.args.y c.args.first c.args.last) old) c.self.view_is
