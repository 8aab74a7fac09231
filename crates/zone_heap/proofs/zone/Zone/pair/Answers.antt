use Rattle.std.proofs.Common.{refl, lit≤}
use Rattle.zone_heap.proofs.ZoneLemmas.{IsSpan, span_is, span_bound, span_bytes, spans_apart, part_zone, part_rewritten}
use Rattle.zone_heap.proofs.{zone.Zone.pair.Given.Over, zone.Zone.pair.Goals.After-live_span-to}
use Rattle.zone_heap.proofs.zone.Zone.pair.Goals as goal

read : (g : Over) (c : After-live_span-to g) → IsSpan c.self.inside c.args.self.now 0 c.args.read.number c.live_span-from.result
read g c = span_is c.self.inside _ c.self.view_is _ _ (lit≤ tt) c.requires.read_in_range c.requires.read_live _ c.deref.ensures.value _ _ refl c.number.ensures _ c.live_span-from.ensures.from c.live_span-from.ensures.to

write : (g : Over) (c : After-live_span-to g) → IsSpan c.self.inside c.args.self.now 1 c.args.write.number c.live_span-to.result
write g c = span_is c.self.inside _ c.self.view_is _ _ (lit≤ tt) c.requires.write_in_range c.requires.write_live _ c.deref-2.ensures.value _ _ refl c.number-2.ensures _ c.live_span-to.ensures.from c.live_span-to.ensures.to

pub with_parts-requires-clause-read_bound : goal.with_parts-requires-clause-read_bound
with_parts-requires-clause-read_bound g c =
    span_bound _ c.self.invariant _ _ _ _ (read g (goal.at.with_parts-requires-clause-read_bound g c).After-live_span-to)

pub with_parts-requires-clause-write_bound : goal.with_parts-requires-clause-write_bound
with_parts-requires-clause-write_bound g c =
    span_bound _ c.self.invariant _ _ _ _ (write g (goal.at.with_parts-requires-clause-write_bound g c).After-live_span-to)

pub with_parts-requires-clause-apart : goal.with_parts-requires-clause-apart
with_parts-requires-clause-apart g c =
    let context = (goal.at.with_parts-requires-clause-apart g c).After-live_span-to in
    spans_apart _ c.self.invariant _ _ _ _ _ _ _ (read g context) (write g context) refl

pub invariant_of-self : goal.invariant_of-self
invariant_of-self g c = part_zone _ c.self.invariant _ _ _ _ (write g (goal.at.invariant_of-self g c).After-live_span-to) _ c.with_parts.new.region c.with_parts.ensures.parts c.with_parts.ensures.len

pub returns : goal.returns
returns g c =
    let context = (goal.at.returns g c).After-live_span-to in let parts_told = c.with_parts.ensures.parts in
    let parts_written = part_rewritten _ c.self.invariant _ _ _ _ (write g context) _ c.with_parts.new.region parts_told c.with_parts.ensures.len in
    record { called = record { x = _; y = _; w = parts_told.0; x_is = span_bytes _ c.self.invariant _ _ _ _ (read g context); y_is = parts_written.x_is; len = parts_written.len; called = parts_told.2; zone = parts_written.zone } }
