use Rattle.std.proofs.Common.{◌≤◌, List, Bool, length, ap, ◌∙◌, arith}
use Rattle.node_walk.specs.Ranges.{are_apart, range_gaps}
use Rattle.level_rules.specs.walk.Covered.{fragments}
use Rattle.node_walk.proofs.RangeLemmas.{apart_parts, apart_test, apart_wider, column_within, length-columns_of}
use Rattle.node_walk.proofs.GapLemmas.{gaps-fragments}
use Rattle.node_walk.proofs.cover.Cover.fragments.Goals as goal

pub new-requires-clause-within : goal.new-requires-clause-within
new-requires-clause-within c =
    let width_bounded : c.self.inside.width ≤ 320 = c.self.invariant.0 in
    omega (arith, ap length c.self.view_is, length-columns_of c.self.inside.width c.self.inside.ranges.items)

pub new-requires-clause-apart : goal.new-requires-clause-apart
new-requires-clause-apart c =
    ap (are_apart 0 320) c.deref.ensures.0
    ∙ apart_test 0 320 c.self.inside.ranges.items (apart_wider 0 c.self.inside.width 320 c.self.inside.ranges.items c.self.invariant.0 (apart_parts 0 _ _ c.self.invariant.1))

pub returns : goal.returns
returns c =
    c.new.ensures ∙ ap (range_gaps c.args.first c.args.last) c.deref.ensures.0
    ∙ gaps-fragments c.self.inside.width c.args.first c.args.last c.self.inside.ranges.items (apart_parts 0 _ _ c.self.invariant.1) c.requires.ordered (column_within _ _ _ _ c.self.view_is c.requires.within)
    ∙ ap (λ (columns : List Bool). fragments columns c.args.first c.args.last) c.self.view_is
