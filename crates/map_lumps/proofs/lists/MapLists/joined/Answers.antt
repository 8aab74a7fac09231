use Rattle.map_lumps.proofs.ListLemmas.{inside-sound, joined_level-inside}
use Rattle.map_lumps.proofs.lists.MapLists.joined.Goals as goal

pub invariant_of-result : goal.invariant_of-result
invariant_of-result c =
    let level = joined_level-inside c.self.inside c.args.self c.in_ok-segs.segs.items c.in_ok-leaves.leaves.items c.root-root.result c.self.view_is c.in_ok-segs.ensures c.in_ok-leaves.ensures c.root-root.ensures in
    inside-sound c.self.inside c.args.self _ c.self.view_is c.self.invariant c.requires level

pub returns-clause-value : goal.returns-clause-value
returns-clause-value c =
    joined_level-inside c.self.inside c.args.self c.in_ok-segs.segs.items c.in_ok-leaves.leaves.items c.root-root.result c.self.view_is c.in_ok-segs.ensures c.in_ok-leaves.ensures c.root-root.ensures

pub returns-clause-sound : goal.returns-clause-sound
returns-clause-sound c =
    let level = joined_level-inside c.self.inside c.args.self c.in_ok-segs.segs.items c.in_ok-leaves.leaves.items c.root-root.result c.self.view_is c.in_ok-segs.ensures c.in_ok-leaves.ensures c.root-root.ensures in
    inside-sound c.self.inside c.args.self _ c.self.view_is c.self.invariant c.requires level
