use Rattle.std.proofs.Common.{◌≡◌, ◌<◌, ℕ}
use Rattle.frame_writer.specs.{Ppm.colour, Words.word_colour}
use Rattle.frame_writer.proofs.ppm.set_words.Given as goal

-- the words below this one have the colours of the palette
abbrev pub invariant-loop-index : goal.invariant-loop-index
invariant-loop-index l = (i : ℕ) → i < l.index → word_colour l.words i ≡ colour l.playpal i
