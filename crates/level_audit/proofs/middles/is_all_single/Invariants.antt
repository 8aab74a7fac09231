use Rattle.art_rules.proofs.Common.{IsSome, true, ℕ, ◌<◌, ◌≡◌}
use Rattle.art_rules.specs.Words.{is_single, single_place}
use Rattle.texture_build.specs.{Sources.own_lookup, Views.prepared_texture}
use Rattle.level_audit.proofs.middles.is_all_single.Given as goal

-- each column so far has one patch, from which it is read
abbrev pub invariant-loop-col : goal.invariant-loop-col
invariant-loop-col l = record {
  patches : (x : ℕ) → x < l.col → is_single (prepared_texture l.textures l.tex.0).patches x ≡ true;
  columns : (x : ℕ) → x < l.col → IsSome (single_place (own_lookup (prepared_texture l.textures l.tex.0) x));
}
