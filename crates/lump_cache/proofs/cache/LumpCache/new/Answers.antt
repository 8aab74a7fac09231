use Rattle.std.proofs.Common.{sym, subst}
use Rattle.zone_rules.specs.Orders.{IsInOrder}
use Rattle.zone_rules.proofs.OrderLemmas.{order_fresh}
use Rattle.lump_cache.proofs.cache.LumpCache.new.Goals as goal

pub returns-in-Ok-clause-order : goal.returns-in-Ok-clause-order
returns-in-Ok-clause-order c = λ items a. subst (IsInOrder items) (sym c.in-Ok.ensures.fresh) (order_fresh items c.args.size c.count.result c.args.composites a)
