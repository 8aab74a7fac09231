use Rattle.std.proofs.Common.{◌∙◌, ap, arith}
use Rattle.zone_heap.specs.Rules.{Heap, free_size, purgeable_size, used_size}
use Rattle.zone_rules.proofs.FigureLemmas.{parts_are_size}
use Rattle.zone_heap.specs.Regions.{blocks_in}
use Rattle.zone_heap.proofs.zone.Zone.figures.Goals as goal

pub returns-clause-sum : goal.returns-clause-sum
returns-clause-sum c =
    let inside = c.self.inside in
    let sizes_add_up = parts_are_size inside.size (blocks_in inside.region.items) c.self.invariant.sound.tiles in
    let pinned_is = c.add_up-sums.ensures.pinned ∙ ap (λ xs. used_size (blocks_in xs)) c.deref.ensures.value in
    let purgeable_is = c.add_up-sums.ensures.purgeable ∙ ap (λ xs. purgeable_size (blocks_in xs)) c.deref.ensures.value in
    let free_is = c.add_up-sums.ensures.free ∙ ap (λ xs. free_size (blocks_in xs)) c.deref.ensures.value in
    let size_shown = ap (λ (z : Heap). z.size) c.self.view_is in omega arith
