use Rattle.std.proofs.Common.{◌-◌, length}
use Rattle.zone_heap.specs.Rules.{is_free, is_pinned, is_purgeable}
use Rattle.zone_heap.proofs.SumLemmas.{IsSum}
use Rattle.zone_heap.proofs.figures.add_up.Given as goal

abbrev pub invariant-loop-at : goal.invariant-loop-at
invariant-loop-at l = record {
  pins : IsSum is_pinned l.region l.at l.pinned;
  purges : IsSum is_purgeable l.region l.at l.purgeable;
  frees : IsSum is_free l.region l.at l.free;
}

abbrev pub decreases-loop-at : goal.decreases-loop-at
decreases-loop-at l = length l.region - l.at
