use Rattle.art_rules.proofs.{Common.IfOk-weaker, Common.length, Common.◌∙◌, Laws.ok_through}
use Rattle.level_audit.specs.Rules.{Sprite}
use Rattle.level_audit.proofs.ArtLemmas.{book_needed, pictures_there}
use Rattle.level_audit.proofs.PartLemmas.{above_reads}
use Rattle.level_audit.proofs.art.read_book.Goals as goal

pub returns-clause-tells : goal.returns-clause-tells
returns-clause-tells g c =
    above_reads Sprite c.load.result c.map_err.result c.map_err.ensures.cases
    (book_needed c.args.placed.now c.deref.result.now c.load.result (c.deref.ensures.value ∙ c.in_ok-needs.ensures) c.load.ensures.tells)

pub returns-clause-there : goal.returns-clause-there
returns-clause-there g c =
    ok_through _ _ c.load.result c.map_err.result c.map_err.ensures.cases
    (IfOk-weaker c.load.result _ _ (λ book there. pictures_there (length c.args.dir.now.lumps) book there) c.load.ensures.there)
