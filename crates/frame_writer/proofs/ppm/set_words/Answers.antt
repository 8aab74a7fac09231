use Rattle.std.proofs.Common.{arith}
use Rattle.frame_writer.proofs.WordLemmas.{words_more, words_all}
use Rattle.frame_writer.proofs.ppm.set_words.Goals as goal

pub loop-index-preserved : goal.loop-index-preserved
loop-index-preserved c = words_more c.loop-index.words c.args.playpal.now c.loop-index.index (omega arith) c.loop-index.invariant

pub returns-clause-colours : goal.returns-clause-colours
returns-clause-colours c =
    words_all c.loop-index.words c.args.playpal.now (omega arith) (omega arith) (λ i l. c.loop-index.invariant i (omega (arith, l)))
