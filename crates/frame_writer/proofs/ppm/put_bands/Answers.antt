use Rattle.std.proofs.Common.{◌*◌, ◌+◌, ◌-◌, refl, arith}
use Rattle.frame_writer.specs.{declared.ppm.TheConstants.BAND_BYTES, Words.word_colour}
use Rattle.frame_writer.proofs.BandLemmas.{pieces_more, pieces_left}
use Rattle.art_rules.proofs.Laws.{writes_more, writes_stopped}
use Rattle.frame_writer.proofs.ppm.put_bands.Goals as goal

pub returns-in_err-put_band : goal.returns-in_err-put_band
returns-in_err-put_band g c =
    writes_stopped c.from_residual.result _ _ c.loop-band.invariant tt refl c.put_band.ensures _ c.in_err-put_band.was c.from_residual.ensures.0
    (pieces_left (word_colour c.args.words.now) c.args.frame.now (BAND_BYTES * c.loop-band.band) (BAND_BYTES * c.loop-band.band + BAND_BYTES - BAND_BYTES * c.loop-band.band))

pub loop-band-preserved : goal.loop-band-preserved
loop-band-preserved g c =
    writes_more _ c.loop-band.invariant tt refl c.put_band.ensures _ c.in_ok-put_band.was
    (pieces_more (word_colour c.args.words.now) c.args.frame.now (BAND_BYTES * c.loop-band.band) (BAND_BYTES * c.loop-band.band + BAND_BYTES - BAND_BYTES * c.loop-band.band) (BAND_BYTES * (c.loop-band.band + 1)) (omega arith))
