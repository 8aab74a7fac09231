use Rattle.std.proofs.Common.{◌∙◌, refl, arith}
use Rattle.art_rules.specs.Words.{file_named, ReadFault, StandsForNamed}
use Rattle.job_files.specs.{Files.in_file, Lengths.bytes_in}
use Rattle.art_rules.proofs.Laws.{absent_agrees, file_agrees}
use Rattle.job_files.proofs.TakenLemmas.{named_taken}
use Rattle.job_files.proofs.whole_files.read_named.Goals as goal

pub returns-in_err-file-clause-answers : goal.returns-in_err-file-clause-answers
unfolding in_file
returns-in_err-file-clause-answers g c files holds =
    absent_agrees (file_named c.args.name.now files) _ ReadFault c.find.result c.in_err-file.field-0.0 c.from_residual.result
    (λ steady. rw holds at (c.find.ensures.steady steady)) c.in_err-file.was refl c.from_residual.ensures.1

pub returns-clause-answers : goal.returns-clause-answers
unfolding in_file
returns-clause-answers g c files holds =
    let file_there : StandsForNamed (g.S.Shelf.view c.find.new.self) c.in_ok-file.file.0 c.args.name.now files = rw holds at c.in_ok-file.ensures.found in
    file_agrees (file_named c.args.name.now files) (bytes_in c.args.kind) c.read_file.result
    file_there.is_held c.find.ensures.follows.steady (λ bytes is. c.read_file.ensures.answers bytes (file_there.stands ∙ is))

pub returns-clause-taken_of : goal.returns-clause-taken_of
returns-clause-taken_of g c files holds =
    let file_there : StandsForNamed (g.S.Shelf.view c.find.new.self) c.in_ok-file.file.0 c.args.name.now files = rw holds at c.in_ok-file.ensures.found in
    let taken_by_name = named_taken c.args.name.now files (g.S.Shelf.view c.find.new.self).taken (g.S.Shelf.view c.read_file.new.shelf).taken file_there.is_held (λ bytes is. c.read_file.ensures.taken_of bytes (file_there.stands ∙ is)) in
    omega (arith, taken_by_name, c.find.ensures.untaken)
