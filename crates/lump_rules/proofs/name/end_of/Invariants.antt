use Rattle.word_rules.proofs.Common.{false, get_or, ℕ, ◌<◌, ◌==◌, ◌≡◌}
use Rattle.lump_rules.proofs.name.end_of.Given as goal

abbrev pub invariant-loop-i : goal.invariant-loop-i
invariant-loop-i l = (k : ℕ) → k < l.i → (get_or l.bytes k 0 == 0) ≡ false
