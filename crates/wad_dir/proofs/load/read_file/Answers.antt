use Rattle.std.proofs.Common.{arith, ap, ◌≡◌, length, sym}
use Rattle.wad_dir.specs.Rules.{Header, header, header_in, header_refusal}
use Rattle.lump_rules.proofs.WadLemmas.{unless_refused_ok}
use Rattle.wad_dir.proofs.{AnswerLemmas.part_failed, FileLemmas.file_answers}
use Rattle.wad_dir.proofs.load.read_file.Goals as goal

pub returns-in_err-entries-clause-answers : goal.returns-in_err-entries-clause-answers
returns-in_err-entries-clause-answers g c bytes stands =
    let nothing_refused = unless_refused_ok (header_refusal c.args.number c.args.before bytes) (header_in (length bytes) (header bytes)) c.in_ok-head.head (c.in_ok-head.ensures.answers bytes stands).ok in
    let size : c.in_ok-head.head.size ≡ length bytes = sym (ap (λ (head : Header). head.size) nothing_refused.1) in
    part_failed (c.read_piece.ensures.answers bytes (c.read_header.ensures.follows.file _ _ stands) (omega (arith, c.in_ok-head.ensures.within)))
    c.in_err-entries.was c.read_header.ensures.follows.steady c.from_residual-in_err-entries.ensures.1

pub returns-clause-answers : goal.returns-clause-answers
returns-clause-answers g c bytes stands =
    let nothing_refused = unless_refused_ok (header_refusal c.args.number c.args.before bytes) (header_in (length bytes) (header bytes)) c.in_ok-head.head (c.in_ok-head.ensures.answers bytes stands).ok in
    let size : c.in_ok-head.head.size ≡ length bytes = sym (ap (λ (head : Header). head.size) nothing_refused.1) in
    file_answers (g.S.Shelf.view c.args.shelf.now).steady c.args.number c.args.before bytes c.in_ok-head.head c.in_ok-entries.entries.items c.deref.result.now
    (c.in_ok-head.ensures.answers bytes stands).ok
    (c.in_ok-entries.ensures.answers bytes (c.read_header.ensures.follows.file _ _ stands) (omega (arith, c.in_ok-head.ensures.within))).ok
    c.deref.ensures.value c.lumps_of.ensures.answers
