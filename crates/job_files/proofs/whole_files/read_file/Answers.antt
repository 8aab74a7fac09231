use Rattle.picture_rules.proofs.Common.{arith, common_steps, length, sym, ◌≡◌}
use Rattle.art_rules.specs.Words.{IsPieceAt}
use Rattle.job_files.proofs.LengthLemmas.{bytes_refused, bytes_whole}
use Rattle.job_files.proofs.whole_files.read_file.Goals as goal

pub returns-in-Err-clause-answers : goal.returns-in-Err-clause-answers
returns-in-Err-clause-answers g c bytes stands =
    let size : c.in_ok-size.size ≡ length bytes = rw stands at c.in_ok-size.ensures.size in
    record { ok = tt; err = bytes_refused c.args.kind c.in_ok-size.size bytes c.in-Err.refusal size (sym c.in-Err.ensures.value) }

pub returns-clause-answers : goal.returns-clause-answers
returns-clause-answers g c bytes stands =
    let size : c.in_ok-size.size ≡ length bytes = rw stands at c.in_ok-size.ensures.size in
    let whole = bytes_whole c.args.kind c.in_ok-size.size c.in-Ok.count bytes size (sym c.in-Ok.ensures.value) in
    let file_stands_still = c.size_of.ensures.follows.file _ _ stands in
    let piece : IsPieceAt bytes 0 c.read_at.new.piece = rw file_stands_still at c.in_ok-read_at.ensures.bytes in
    rw (whole.0) (record { ok = grind (arith, common_steps); err = tt })
