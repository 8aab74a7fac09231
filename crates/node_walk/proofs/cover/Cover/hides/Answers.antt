use Rattle.std.proofs.Common.{List, Bool, ap, ◌∙◌}
use Rattle.node_walk.specs.Ranges.{hides_in}
use Rattle.level_rules.specs.walk.Covered.{hides}
use Rattle.node_walk.proofs.RangeLemmas.{apart_parts, column_within}
use Rattle.node_walk.proofs.GapLemmas.{hides_in-hides}
use Rattle.node_walk.proofs.cover.Cover.hides.Goals as goal

pub returns : goal.returns
returns c =
    c.hides_in.ensures ∙ ap (hides_in c.args.first c.args.last) c.deref.ensures.0
    ∙ hides_in-hides c.self.inside.width c.args.first c.args.last c.self.inside.ranges.items (apart_parts 0 _ _ c.self.invariant.1) c.requires.ordered (column_within _ _ _ _ c.self.view_is c.requires.within)
    ∙ ap (λ (columns : List Bool). hides columns c.args.first c.args.last) c.self.view_is
