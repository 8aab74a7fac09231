use Rattle.std.proofs.Common.{◌≡◌, ℕ, List, length}
use Rattle.art_rules.specs.declared.PlacedPatch.{PlacedPatch}
use Rattle.patch_columns.proofs.CompositeLemmas.{IsPutting, composite_up_to}
use Rattle.patch_columns.proofs.compose.put_patch.Given as goal

abbrev pub invariant-loop-x : goal.invariant-loop-x
invariant-loop-x l = record {
  same : length l.composite ≡ length l.initial.composite;
  put : (bytes : ℕ → List ℕ) (patches : List PlacedPatch) (n : ℕ) → IsPutting bytes patches n l.lump l.patch l.height l.columns l.initial.composite →
      l.composite ≡ composite_up_to bytes patches n l.height l.x (length l.columns);
}
