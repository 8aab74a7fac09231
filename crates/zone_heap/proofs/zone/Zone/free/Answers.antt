use Rattle.zone_rules.proofs.Common.{arith, ◌≡◌, ◌∙◌, ap, ap₂, sym, subst, refl, length, List, ℕ, with_items, with_items_is}
use Rattle.zone_heap.specs.{View.heap_of, Regions.blocks_in, Regions.IsRing, Homes.AreExact}
use Rattle.zone_heap.specs.Rules.{Heap, IsSound, Owner, free_owner, join_free, owned_block, owner_at, place_around, without_block}
use Rattle.zone_rules.proofs.SoundLemmas.{without_block_sound}
use Rattle.zone_rules.proofs.OwnerLemmas.{owned_freed, owned_freed_others}
use Rattle.zone_heap.proofs.{ZoneLemmas.zone_with, zone.Zone.free.Given.Over}
use Rattle.zone_heap.proofs.zone.Zone.free.Goals.{After-place_in}
use Rattle.zone_heap.proofs.zone.Zone.free.Goals as goal

items_are : (g : Over) (c : After-place_in g) → (with_items c.self.inside.region c.release.new.region).items ≡ c.release.new.region
items_are g c = let length_kept = c.release.ensures.len in let length_before = ap (λ (xs : List ℕ). length xs) c.deref_mut.ensures.value in
    let vec_length = c.self.inside.region.ok.0 in with_items_is c.self.inside.region c.release.new.region (omega arith)

after : (g : Over) (c : After-place_in g) → ◌≡◌ {A = Heap} (record { size = c.self.inside.size; lumps = c.release.new.homes.lumps; composites = c.self.inside.composites; blocks = blocks_in (with_items c.self.inside.region c.release.new.region).items; rover = c.place_in.result; purges = c.self.inside.purges })
    (without_block (owner_at g.K.SlotKind.CODE c.args.slot.number) (heap_of c.self.inside))
after g c =
    let inside = c.self.inside in let owner_same = ap₂ owner_at c.CODE.ensures c.number.ensures in
    let blocks_are = ap blocks_in (items_are g c) ∙ c.release.ensures.blocks ∙ ap (λ xs. join_free (free_owner (owner_at c.CODE.result c.number.result) (blocks_in xs))) c.deref_mut.ensures.value ∙ ap (λ (p : Owner). join_free (free_owner p (blocks_in inside.region.items))) owner_same in
    let rover_is = c.place_in.ensures.value ∙ ap (λ xs. place_around inside.rover 0 (blocks_in xs)) c.deref.ensures.value in
    rw (c.release.ensures.slots.0, rover_is, blocks_are) refl

sound_after : (g : Over) (c : After-place_in g) → IsSound (record { size = c.self.inside.size; lumps = c.release.new.homes.lumps; composites = c.self.inside.composites; blocks = blocks_in (with_items c.self.inside.region c.release.new.region).items; rover = c.place_in.result; purges = c.self.inside.purges })
sound_after g c = subst IsSound (sym (after g c)) (without_block_sound (owner_at g.K.SlotKind.CODE c.args.slot.number) (heap_of c.self.inside) c.self.invariant.sound c.self.invariant.least)

pub invariant_of-self : goal.invariant_of-self
invariant_of-self g c =
    let context = (goal.at.invariant_of-self g c).After-place_in in let inside = c.self.inside in
    zone_with _ c.self.invariant _ _ _ _ refl c.release.ensures.slots (sound_after g context) (subst IsRing (sym (items_are g context)) c.release.ensures.ring)
    (subst (λ xs. AreExact c.release.new.homes (blocks_in xs)) (sym (items_are g context)) c.release.ensures.home.exact)

pub returns-clause-sound : goal.returns-clause-sound
returns-clause-sound g c = sound_after g (goal.at.returns-clause-sound g c).After-place_in

pub returns-clause-empty : goal.returns-clause-empty
returns-clause-empty g c = ap (λ (z : Heap). owned_block (owner_at g.K.SlotKind.CODE c.args.slot.number) z.blocks) (after g (goal.at.returns-clause-empty g c).After-place_in) ∙ owned_freed (owner_at g.K.SlotKind.CODE c.args.slot.number) (blocks_in c.self.inside.region.items)

pub returns-clause-others : goal.returns-clause-others
returns-clause-others g c = λ o apart.
    let owner = owner_at g.K.SlotKind.CODE c.args.slot.number in
    ap (λ (z : Heap). owned_block o z.blocks) (after g (goal.at.returns-clause-others g c).After-place_in)
    ∙ owned_freed_others o owner apart (blocks_in c.self.inside.region.items) ∙ ap (λ (z : Heap). owned_block o z.blocks) c.self.view_is
