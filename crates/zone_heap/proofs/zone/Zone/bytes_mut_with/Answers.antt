use Rattle.std.proofs.Common.{refl}
use Rattle.zone_heap.proofs.ZoneLemmas.{IsSpan, span_is, span_bound, part_zone, part_rewritten}
use Rattle.zone_heap.proofs.zone.Zone.bytes_mut_with.Given.{Over}
use Rattle.zone_heap.proofs.zone.Zone.bytes_mut_with.Goals.{After-live_span-span}
use Rattle.zone_heap.proofs.zone.Zone.bytes_mut_with.Goals as goal

span : (g : Over) (c : After-live_span-span g) → IsSpan c.self.inside c.args.self.now g.K.SlotKind.CODE c.args.slot.number c.live_span-span.result
span g c = span_is c.self.inside _ c.self.view_is _ _ g.K.SlotKind.is_known c.requires.in_range c.requires.live _ c.deref.ensures.value _ _ c.CODE.ensures refl _ c.live_span-span.ensures.from c.live_span-span.ensures.to

pub with_part_and-requires-clause-bound : goal.with_part_and-requires-clause-bound
with_part_and-requires-clause-bound g c =
    span_bound _ c.self.invariant _ _ _ _ (span g (goal.at.with_part_and-requires-clause-bound g c).After-live_span-span)

pub invariant_of-self : goal.invariant_of-self
invariant_of-self g c = part_zone _ c.self.invariant _ _ _ _ (span g (goal.at.invariant_of-self g c).After-live_span-span) _ c.with_part_and.new.region c.with_part_and.ensures.part c.with_part_and.ensures.len

pub returns : goal.returns
returns g c =
    let part = c.with_part_and.ensures.part in
    let part_written = part_rewritten _ c.self.invariant _ _ _ _ (span g (goal.at.returns g c).After-live_span-span) _ c.with_part_and.new.region part c.with_part_and.ensures.len in
    record { called = record { x = _; w = part.0; x_is = part_written.x_is; len = part_written.len; called = part.2; zone = part_written.zone } }
