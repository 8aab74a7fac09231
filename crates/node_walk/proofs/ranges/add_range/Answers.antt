use Rattle.std.proofs.Common.{ap, ◌∙◌}
use Rattle.node_walk.specs.Ranges.{ranges_before}
use Rattle.node_walk.proofs.RangeLemmas.{with_range-inserted}
use Rattle.node_walk.proofs.ranges.add_range.Goals as goal

pub returns : goal.returns
returns c =
    with_range-inserted c.args.range c.absorb-joined.result c.args.ranges.now.items c.absorb-joined.new.ranges.items _ c.ranges_before-index.result
    (c.ranges_before-index.ensures.count ∙ ap (ranges_before c.args.range.first) c.deref.ensures.0)
    c.absorb-joined.ensures.front c.absorb-joined.ensures.joined c.insert.ensures.items
