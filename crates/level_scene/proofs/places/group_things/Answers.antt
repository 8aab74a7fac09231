use Rattle.art_rules.proofs.Common.{All, arith, drop_all, length, length-reverse, length-set, length_push, List, subst, sym, YieldsList-from_rev_slice, YieldsList-turn, ℕ, ◌-◌, ◌∙◌}
use Rattle.scene_rules.specs.declared.Placed.{Placed}
use Rattle.level_scene.specs.Groups.{AreGroupsOf, IsIn}
use Rattle.level_scene.proofs.GroupLemmas.{groups-count, groups-more, groups-none}
use Rattle.level_scene.proofs.places.group_things.Goals as goal

pub loop-placed-init : goal.loop-placed-init
loop-placed-init c = record {
  count = groups-count c.in_ok-groups.groups.items c.args.count c.in_ok-groups.ensures;
  groups = subst (λ (things : List Placed). AreGroupsOf things c.in_ok-groups.groups.items) (sym (drop_all (length c.args.all.now - 0) c.args.all.now (omega arith))) (groups-none c.in_ok-groups.groups.items c.args.count c.in_ok-groups.ensures);
}

pub loop-placed-preserved : goal.loop-placed-preserved
loop-placed-preserved c =
    let all_things = c.args.all.now in
    let groups = c.loop-placed.groups.items in
    let count_so_far = length c.loop-placed.yielded in
    let thing_is_next = YieldsList-turn (YieldsList-from_rev_slice all_things cc) c.loop-placed.yielded _ c.loop-placed.yielded_by _ _ c.in-Some.placed c.in-Some.is c.next.ensures.steps in
    let all_in_groups : All (IsIn (length groups)) all_things = subst (λ (count : ℕ). All (IsIn count) all_things)
    (sym c.loop-placed.invariant.count) c.requires in rw (length_push c.loop-placed.yielded c.in-Some.placed) (record {
      count = length-set groups c.in-Some.placed.now.sector c.push.new.self ∙ c.loop-placed.invariant.count;
      groups = groups-more groups all_things count_so_far c.in-Some.placed.now c.index_mut.result.now c.push.new.self all_in_groups (omega (arith, thing_is_next.0, length-reverse all_things)) thing_is_next.1 c.index_mut.ensures.value c.in_ok-push.ensures.items c.loop-placed.invariant.groups;
    })
