use Rattle.lump_cache.proofs.FetchLemmas.{fetch_reads}
use Rattle.lump_cache.proofs.fetch.make_live.Goals as goal

pub returns-clause-tells : goal.returns-clause-tells
returns-clause-tells g c = fetch_reads c.fetch.ensures.fetches c.requires.there
