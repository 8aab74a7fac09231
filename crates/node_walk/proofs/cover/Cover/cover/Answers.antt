use Rattle.word_rules.proofs.Common.{ap, arith, Bool, length, List, sym, ◌<◌, ◌∙◌, ◌≤◌}
use Rattle.node_walk.specs.Ranges.{columns_of, are_apart, with_range}
use Rattle.level_rules.specs.walk.Covered.{cover}
use Rattle.node_walk.proofs.RangeLemmas.{apart_parts, apart_test, length-apart, length-columns_of, with_range-apart, with_range-cover}
use Rattle.node_walk.proofs.cover.Cover.cover.Goals as goal

pub add_range-requires : goal.add_range-requires
add_range-requires c =
    let width_bounded : c.self.inside.width ≤ 320 = c.self.invariant.0 in
    omega (arith, length-apart 0 c.self.inside.width c.self.inside.ranges.items (omega arith) (apart_parts 0 _ _ c.self.invariant.1))

pub invariant_of-self : goal.invariant_of-self
invariant_of-self c =
    let last_in_width : c.args.last < c.self.inside.width =
    omega (arith, ap length c.self.view_is, length-columns_of c.self.inside.width c.self.inside.ranges.items) in (
      c.self.invariant.0,
      ap (are_apart 0 c.self.inside.width) c.add_range.ensures
          ∙ apart_test 0 c.self.inside.width (with_range (record { first = c.args.first; last = c.args.last }) c.self.inside.ranges.items)
          (with_range-apart 0 c.self.inside.width (record { first = c.args.first; last = c.args.last }) c.self.inside.ranges.items (apart_parts 0 _ _ c.self.invariant.1) (omega arith) c.requires.ordered last_in_width),
    )

pub returns-clause-covered : goal.returns-clause-covered
returns-clause-covered c =
    let last_in_width : c.args.last < c.self.inside.width =
    omega (arith, ap length c.self.view_is, length-columns_of c.self.inside.width c.self.inside.ranges.items) in
    ap (columns_of c.self.inside.width) c.add_range.ensures
    ∙ with_range-cover c.self.inside.width c.args.first c.args.last c.self.inside.ranges.items (apart_parts 0 _ _ c.self.invariant.1) c.requires.ordered
    last_in_width ∙ ap (λ (columns : List Bool). cover columns c.args.first c.args.last) c.self.view_is

pub returns-clause-width : goal.returns-clause-width
returns-clause-width c =
    length-columns_of c.self.inside.width c.add_range.new.ranges.items ∙ sym (length-columns_of c.self.inside.width c.self.inside.ranges.items) ∙ ap length c.self.view_is
