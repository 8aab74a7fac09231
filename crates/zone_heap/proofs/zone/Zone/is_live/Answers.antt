use Rattle.zone_rules.proofs.Common.{◌≡◌, ◌<◌, ◌∙◌, ap, ap₂, sym, subst, is_some, not, ◌==◌, IsTrue}
use Rattle.zone_heap.specs.Rules.{Heap, holding_of, owner_at, slot_count}
use Rattle.zone_heap.specs.Homes.{NO_HOME, home_in}
use Rattle.zone_heap.proofs.ZoneLemmas.{live_told}
use Rattle.zone_heap.proofs.zone.Zone.is_live.Goals as goal

pub returns-clause-live : goal.returns-clause-live
returns-clause-live g c =
    let fields = c.self.inside in let owner = owner_at g.K.SlotKind.CODE c.args.slot.number in
    let inside = subst (λ (z : Heap). c.args.slot.number < slot_count z g.K.SlotKind.CODE) (sym c.self.view_is) c.requires in
    let home_is = c.of.ensures ∙ ap₂ (home_in fields.homes) c.CODE.ensures c.number.ensures in
    let live_by_home : not (c.of.result == NO_HOME) ≡ is_some (holding_of owner c.args.self.now.blocks) = live_told fields c.self.invariant g.K.SlotKind.CODE c.args.slot.number g.K.SlotKind.is_known inside c.of.result home_is ∙ ap (λ (z : Heap). is_some (holding_of owner z.blocks)) c.self.view_is in
    (λ t. subst IsTrue live_by_home t, λ t. subst IsTrue (sym live_by_home) t)
