use Rattle.art_rules.proofs.Common.{◌≡◌, ◌*◌, take, flat_map}
use Rattle.frame_writer.specs.Words.{word_colour}
use Rattle.frame_writer.proofs.ppm.fill.Given as goal

-- the colours of the indices so far; behind them stands one byte more
abbrev pub invariant-loop-i : goal.invariant-loop-i
invariant-loop-i l = take (3 * l.i) l.colours ≡ flat_map (word_colour l.words) (take l.i l.band)
