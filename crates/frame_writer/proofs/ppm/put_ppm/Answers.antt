use Rattle.art_rules.proofs.Common.{List, ◌++◌, ℕ, ap, refl, flat_map}
use Rattle.frame_writer.specs.Ppm.{colour, ppm, ppm_header}
use Rattle.frame_writer.proofs.WordLemmas.{words_frame}
use Rattle.art_rules.proofs.Laws.{writes_stop, writes_then}
use Rattle.frame_writer.proofs.ppm.put_ppm.Goals as goal

pub returns-in_err-put : goal.returns-in_err-put
unfolding ppm ppm_header
returns-in_err-put g c =
    writes_stop c.from_residual.result (flat_map (colour c.args.playpal.now) c.args.frame.now) _ c.put.ensures _ c.in_err-put.was c.from_residual.ensures.0 refl

pub returns : goal.returns
unfolding ppm ppm_header
returns g c =
    writes_then _ c.put.ensures _ c.in_ok-put.was c.put_bands.ensures
    (ap (λ (xs : List ℕ). ppm_header ++ xs) (words_frame c.words_of-words.result c.args.playpal.now c.args.frame.now c.words_of-words.ensures.colours))
