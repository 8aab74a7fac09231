use Rattle.art_rules.proofs.Common.{◌*◌, take, Ok, flat_map}
use Rattle.art_rules.specs.Words.{Failed, Writes}
use Rattle.frame_writer.specs.{declared.ppm.TheConstants.BAND_BYTES, Words.word_colour}
use Rattle.frame_writer.proofs.ppm.put_bands.Given as goal

abbrev pub invariant-loop-band : goal.invariant-loop-band
invariant-loop-band g l =
    Writes {E = Failed} (g.K.Sink.written l.fn.sink) (g.K.Sink.written l.sink) (g.K.Sink.faults l.fn.sink) (g.K.Sink.faults l.sink)
    (flat_map (word_colour l.words) (take (BAND_BYTES * l.band) l.frame)) (Ok tt)
