use Rattle.std.proofs.Common.{sym, subst}
use Rattle.zone_heap.specs.Homes.{AreHome}
use Rattle.zone_heap.proofs.HomeLemmas.{joined_home}
use Rattle.zone_heap.proofs.search.search.Goals as goal

pub returns-clause-home : goal.returns-clause-home
returns-clause-home c = subst (AreHome c.clear_way-room.new.homes) (sym c.join.ensures.blocks) (joined_home _ _ c.clear_way-room.ensures.home)
