use Rattle.zone_rules.proofs.Common.{◌≡◌, ◌∙◌, ap, ap₂, sym, subst, refl, map, option_map, List, ℕ, length, arith, with_items, with_items_is}
use Rattle.zone_heap.specs.Rules.{Heap, IsSound, Owner, owned_block, owner_at, retag_block}
use Rattle.zone_rules.proofs.ChangeLemmas.{with_tag_sound}
use Rattle.zone_rules.proofs.OwnerLemmas.{owned_block-map, owned_retagged_others, retag_held}
use Rattle.zone_heap.specs.{View.heap_of, Regions.blocks_in, Regions.IsRing, Homes.AreExact}
use Rattle.zone_heap.proofs.ZoneLemmas.{exact_tagged, zone_with}
use Rattle.zone_heap.proofs.zone.Zone.change_tag.Given.{Over}
use Rattle.zone_heap.proofs.zone.Zone.change_tag.Goals.{After-retag}
use Rattle.zone_heap.proofs.zone.Zone.change_tag.Goals as goal

items_are : (g : Over) (c : After-retag g) → (with_items c.self.inside.region c.retag.new.region).items ≡ c.retag.new.region
items_are g c = let length_kept = c.retag.ensures.len in let length_before = ap (λ (xs : List ℕ). length xs) c.deref_mut.ensures.value in
    let vec_length = c.self.inside.region.ok.0 in with_items_is c.self.inside.region c.retag.new.region (omega arith)

after : (g : Over) (c : After-retag g) → blocks_in (with_items c.self.inside.region c.retag.new.region).items ≡ map (retag_block (owner_at g.K.SlotKind.CODE c.args.slot.number) c.args.tag) (blocks_in c.self.inside.region.items)
after g c =
    ap blocks_in (items_are g c) ∙ c.retag.ensures.blocks
    ∙ ap (λ xs. map (retag_block (owner_at c.CODE.result c.number.result) c.args.tag) (blocks_in xs)) c.deref_mut.ensures.value
    ∙ ap (λ (q : Owner). map (retag_block q c.args.tag) (blocks_in c.self.inside.region.items)) (ap₂ owner_at c.CODE.ensures c.number.ensures)

sound_after : (g : Over) (c : After-retag g) → IsSound (record { size = c.self.inside.size; lumps = c.self.inside.homes.lumps; composites = c.self.inside.composites; blocks = blocks_in (with_items c.self.inside.region c.retag.new.region).items; rover = c.self.inside.rover; purges = c.self.inside.purges })
sound_after g c = rw (after g c) (with_tag_sound (owner_at g.K.SlotKind.CODE c.args.slot.number) c.args.tag (heap_of c.self.inside) c.self.invariant.sound)

pub invariant_of-self : goal.invariant_of-self
invariant_of-self g c =
    let context = (goal.at.invariant_of-self g c).After-retag in let inside = c.self.inside in
    zone_with _ c.self.invariant _ _ _ _ refl (refl, refl) (sound_after g context) (subst IsRing (sym (items_are g context)) c.retag.ensures.ring)
    (subst (AreExact inside.homes) (sym (after g context)) (exact_tagged inside.homes (blocks_in inside.region.items) (owner_at g.K.SlotKind.CODE c.args.slot.number) c.args.tag c.self.invariant.exact))

pub returns-clause-sound : goal.returns-clause-sound
returns-clause-sound g c = sound_after g (goal.at.returns-clause-sound g c).After-retag

pub returns-clause-block : goal.returns-clause-block
returns-clause-block g c =
    let owner = owner_at g.K.SlotKind.CODE c.args.slot.number in let tagged = retag_block owner c.args.tag in
    ap (owned_block owner) (after g (goal.at.returns-clause-block g c).After-retag) ∙ owned_block-map owner tagged (retag_held owner owner c.args.tag) (blocks_in c.self.inside.region.items) ∙ ap (λ (z : Heap). option_map tagged (owned_block owner z.blocks)) c.self.view_is

pub returns-clause-others : goal.returns-clause-others
returns-clause-others g c = λ o apart.
    let owner = owner_at g.K.SlotKind.CODE c.args.slot.number in
    ap (owned_block o) (after g (goal.at.returns-clause-others g c).After-retag)
    ∙ owned_retagged_others o owner c.args.tag apart (blocks_in c.self.inside.region.items) ∙ ap (λ (z : Heap). owned_block o z.blocks) c.self.view_is
