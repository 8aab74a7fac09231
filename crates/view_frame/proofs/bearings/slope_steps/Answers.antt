use Rattle.word_rules.proofs.Common.{rules, unsigned_abs, ◌≡◌, to_z-of_z}
use Rattle.word_rules.specs.Words.{div, shr_word}
use Rattle.view_rules.specs.declared.TheConstants.{SLOPE_BITS}
use Rattle.view_frame.proofs.BearingLemmas.{slope_steps-bound}
use Rattle.view_frame.proofs.bearings.slope_steps.Goals as goal

pub returns-clause-bound : goal.returns-clause-bound
returns-clause-bound c =
    let steps : c.unsigned_abs.result ≡ unsigned_abs (shr_word (div c.args.dy c.args.dx) SLOPE_BITS) = search (rules, to_z-of_z) in
    rw steps (slope_steps-bound c.args.dx c.args.dy c.requires.positive c.requires.least c.requires.order)
