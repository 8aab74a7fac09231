use Rattle.std.proofs.Common.{◌∷◌, [], ◌∙◌, arith}
use Rattle.art_rules.specs.Words.{file_named, StandsForNamed}
use Rattle.job_files.specs.Flats.{flat_picture}
use Rattle.art_rules.proofs.Laws.{file_agrees}
use Rattle.job_files.proofs.TakenLemmas.{flat_taken}
use Rattle.job_files.proofs.flat.prepare_flat.Goals as goal

pub returns-clause-answers : goal.returns-clause-answers
returns-clause-answers g c files holds =
    let file_there : StandsForNamed (g.S.Shelf.view c.find.new.self) c.in_ok-number.number.0 c.args.file.now files = rw holds at c.in_ok-number.ensures.found in
    file_agrees (file_named c.args.file.now files) (λ bytes. flat_picture c.args.name.now (bytes ∷ [])) c.load_flat.result
    file_there.is_held c.find.ensures.follows.steady (λ bytes is. c.load_flat.ensures.answers bytes (file_there.stands ∙ is))

pub returns-clause-taken : goal.returns-clause-taken
returns-clause-taken g c files holds =
    let file_there : StandsForNamed (g.S.Shelf.view c.find.new.self) c.in_ok-number.number.0 c.args.file.now files = rw holds at c.in_ok-number.ensures.found in
    flat_taken c.args.name.now c.args.file.now files (g.S.Shelf.view c.args.shelf.now).taken (g.S.Shelf.view c.load_flat.new.shelf).taken file_there.is_held
    (λ bytes is. omega (arith, c.find.ensures.untaken, c.load_flat.ensures.taken bytes (file_there.stands ∙ is)))
