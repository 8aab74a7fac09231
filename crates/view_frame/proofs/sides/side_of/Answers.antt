use Rattle.word_rules.proofs.Common.{rules, to_z-of_z}
use Rattle.view_rules.specs.Sides.{side_of}
use Rattle.view_frame.proofs.sides.side_of.Goals as goal

pub returns-then-y-line-clause-value : goal.returns-then-y-line-clause-value
unfolding side_of
returns-then-y-line-clause-value c = search (rules, to_z-of_z)

pub returns-clause-value : goal.returns-clause-value
unfolding side_of
returns-clause-value c = search (rules, to_z-of_z)
