use Rattle.word_rules.proofs.Common.{false, filter, get_or, map, range_with_len, ◌≡◌}
use Rattle.wad_dir.proofs.index.list_marked.Given as goal

abbrev pub invariant-loop-i : goal.invariant-loop-i
invariant-loop-i l = map (λ lump. lump.0) l.found.items ≡ filter (λ number. get_or l.marked number false) (range_with_len 0 l.i)
