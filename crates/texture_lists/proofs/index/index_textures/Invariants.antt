use Rattle.std.proofs.Common.{◌≡◌, ℕ, List}
use Rattle.art_rules.specs.Words.{is_named, least}
use Rattle.lump_cache.specs.Indexes.{indexed}
use Rattle.texture_lists.proofs.index.index_textures.Given as goal

abbrev pub invariant-loop-i : goal.invariant-loop-i
invariant-loop-i l = (name : List ℕ) → indexed l.index name ≡ least (is_named l.textures name) l.i
