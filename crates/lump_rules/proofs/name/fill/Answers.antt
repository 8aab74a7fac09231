use Rattle.word_rules.proofs.Common.{arith, length, to_ascii_uppercase, ◌≡◌}
use Rattle.lump_rules.specs.Names.{filled}
use Rattle.lump_rules.proofs.NameLemmas.{fill_step, fill_end}
use Rattle.lump_rules.proofs.name.fill.Goals as goal

pub loop-i-preserved : goal.loop-i-preserved
loop-i-preserved c =
    let letter_filled = fill_step to_ascii_uppercase c.args.text.now c.loop-i.name c.loop-i.i c.loop-i.invariant (omega arith) (omega arith) in cc

pub returns : goal.returns
unfolding filled
returns c =
    let index_is_length : c.loop-i.i ≡ length c.args.text.now = omega arith in
    fill_end to_ascii_uppercase c.args.text.now c.loop-i.name c.loop-i.i c.loop-i.invariant index_is_length
