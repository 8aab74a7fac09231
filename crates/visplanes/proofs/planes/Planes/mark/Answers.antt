use Rattle.picture_rules.proofs.Common.{ap, arith, length, length-set, length-take, List, take, ℕ, ◌<◌, ◌∙◌, set}
use Rattle.picture_rules.specs.Words.{mark, Plane}
use Rattle.visplanes.specs.Planes.{PlanesView, with_planes, IsFirst}
use Rattle.visplanes.proofs.ListLemmas.{mark-taken, wide-put, wide-marked}
use Rattle.visplanes.proofs.RecentLemmas.{first-marked}
use Rattle.visplanes.proofs.planes.Planes.mark.Goals as goal

pub invariant_of-self : goal.invariant_of-self
invariant_of-self c =
    let fields = c.self.inside in
    let items = fields.planes.items in
    let inside : c.args.plane.0 < fields.count = omega (arith, ap (λ (s : PlanesView). length s.planes) c.self.view_is, length-take fields.count items) in
    let plane_in_items : c.args.plane.0 < length items = (let count_within = c.self.invariant.0 in omega arith) in
    let first_still : (n : ℕ) → IsFirst (take fields.count items) n → IsFirst (take fields.count (set items c.args.plane.0 c.mark.new.self)) n =
    (λ n f. first-marked items fields.count c.args.plane.0 n c.args.x (c.args.top, c.args.bottom) c.index_mut.result.now c.mark.new.self inside c.self.invariant.0 c.index_mut.ensures.value c.mark.ensures f) in (
      omega (arith, length-set {A = Plane}),
      omega (arith, length-set {A = Plane}),
      wide-put items c.args.plane.0 c.mark.new.self
          (wide-marked items c.args.plane.0 c.args.x (c.args.top, c.args.bottom) c.index_mut.result.now c.mark.new.self plane_in_items c.index_mut.ensures.value c.mark.ensures c.self.invariant.2)
          c.self.invariant.2,
      first_still fields.recent c.self.invariant.3,
      first_still fields.older c.self.invariant.4,
    )

pub returns-clause-run : goal.returns-clause-run
returns-clause-run c =
    let fields = c.self.inside in
    let items = fields.planes.items in
    let plane_in_count : c.args.plane.0 < fields.count = omega (
      arith,
      ap (λ (s : PlanesView). length s.planes) c.self.view_is,
      length-take fields.count items,
    ) in let with_room : ℕ → List Plane → PlanesView = λ room planes. record { planes = planes; room = room } in
    ap (λ (n : ℕ). with_room n (take fields.count (set items c.args.plane.0 c.mark.new.self))) (length-set items c.args.plane.0 c.mark.new.self)
    ∙ ap (with_room (length items)) (mark-taken items fields.count c.args.plane.0 c.args.x (c.args.top, c.args.bottom) c.index_mut.result.now c.mark.new.self plane_in_count c.self.invariant.0 c.index_mut.ensures.value c.mark.ensures)
    ∙ ap (λ (s : PlanesView). with_planes (mark s.planes c.args.plane.0 c.args.x (c.args.top, c.args.bottom)) s) c.self.view_is
