use Rattle.std.proofs.Common.{rules, ◌∙◌}
use Rattle.wad_dir.proofs.FileLemmas.{header-read}
use Rattle.wad_dir.proofs.load.read_header.Goals as goal

pub returns-clause-answers : goal.returns-clause-answers
returns-clause-answers g c bytes stands =
    let size = rw stands at c.in_ok-size.ensures.size in
    let piece = rw (c.size_of.ensures.follows.file _ _ stands) at c.in_ok-read_at.ensures.bytes in
    let header_is = header-read c.args.number c.args.before c.in_ok-size.size bytes c.read_at.new.piece _ size c.if-size.false (search rules) piece c.check_header.ensures.header in
    record { ok = header_is ∙ c.in_ok-check_header.was; err = tt }
