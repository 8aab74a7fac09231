use Rattle.word_rules.proofs.Common.{false, get_or, List, ℕ, ◌&&◌, ◌≡◌}
use Rattle.wad_dir.specs.{Rules.greatest, Rules.has_name, Indexes.indexed}
use Rattle.wad_dir.proofs.index.index_of.Given as goal

abbrev pub invariant-loop-i : goal.invariant-loop-i
invariant-loop-i l = (name : List ℕ) →
    indexed l.index name ≡ greatest (λ number. get_or l.marked number false && has_name l.lumps name number) l.i
