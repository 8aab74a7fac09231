use Rattle.art_rules.proofs.Laws.{ok_through}
use Rattle.level_audit.specs.Rules.{Map}
use Rattle.level_audit.proofs.PartLemmas.{above_reads}
use Rattle.level_audit.proofs.base.read_labelled.Goals as goal

pub returns-clause-tells : goal.returns-clause-tells
returns-clause-tells g c = above_reads Map c.read_level.result c.map_err.result c.map_err.ensures.cases c.read_level.ensures.tells

pub returns-clause-fits : goal.returns-clause-fits
returns-clause-fits g c = ok_through _ _ c.read_level.result c.map_err.result c.map_err.ensures.cases c.read_level.ensures.fits
