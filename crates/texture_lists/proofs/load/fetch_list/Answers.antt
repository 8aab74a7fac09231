use Rattle.lump_cache.proofs.LiftLemmas.{lifted_ok, lifted_reads}
use Rattle.texture_lists.proofs.load.fetch_list.Goals as goal

pub returns-clause-tells : goal.returns-clause-tells
returns-clause-tells g c = lifted_reads _ c.fetch_named.result c.map_err.result c.map_err.ensures.cases c.fetch_named.ensures.tells

pub returns-clause-last : goal.returns-clause-last
returns-clause-last g c = lifted_ok _ c.fetch_named.result c.map_err.result c.map_err.ensures.cases c.fetch_named.ensures.found

pub returns-clause-there : goal.returns-clause-there
returns-clause-there g c = lifted_ok _ c.fetch_named.result c.map_err.result c.map_err.ensures.cases c.fetch_named.ensures.there

pub returns-clause-live : goal.returns-clause-live
returns-clause-live g c = lifted_ok _ c.fetch_named.result c.map_err.result c.map_err.ensures.cases c.fetch_named.ensures.live

pub returns-clause-bytes : goal.returns-clause-bytes
returns-clause-bytes g c = λ contents held. lifted_ok _ c.fetch_named.result c.map_err.result c.map_err.ensures.cases (c.fetch_named.ensures.bytes contents held)
