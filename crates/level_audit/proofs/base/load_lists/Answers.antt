use Rattle.level_audit.specs.Rules.{Texture, lists_in}
use Rattle.level_audit.proofs.PartLemmas.{above_reads}
use Rattle.level_audit.proofs.base.load_lists.Goals as goal

pub returns-clause-tells : goal.returns-clause-tells
unfolding lists_in
returns-clause-tells g c = above_reads Texture c.load.result c.map_err.result c.map_err.ensures.cases c.load.ensures.tells
