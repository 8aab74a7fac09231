use Rattle.std.proofs.Common.{arith}
use Rattle.made_rules.specs.Nodes.{front_part, back_part}
use Rattle.level_maker.proofs.HalfLemmas.{halves_are}
use Rattle.level_maker.proofs.nodes.halves_of.Goals as goal

pub returns-then-divides_columns : goal.returns-then-divides_columns
unfolding front_part back_part
returns-then-divides_columns c =
    let are_halves = halves_are c.args.part _ _ c.requires.part c.requires.divisible (grind arith) (grind arith) in
    record { front = are_halves.front_is; back = are_halves.back_is; front_within = are_halves.front_within; back_within = are_halves.back_within; front_smaller = are_halves.front_smaller; back_smaller = are_halves.back_smaller }

pub returns-else-divides_columns : goal.returns-else-divides_columns
unfolding front_part back_part
returns-else-divides_columns c =
    let are_halves = halves_are c.args.part _ _ c.requires.part c.requires.divisible (grind arith) (grind arith) in
    record { front = are_halves.front_is; back = are_halves.back_is; front_within = are_halves.front_within; back_within = are_halves.back_within; front_smaller = are_halves.front_smaller; back_smaller = are_halves.back_smaller }
