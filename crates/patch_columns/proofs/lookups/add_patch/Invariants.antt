use Rattle.patch_columns.specs.Seen.{lookup_with}
use Rattle.patch_columns.proofs.SeenLemmas.{IsChangedBelow}
use Rattle.patch_columns.proofs.lookups.add_patch.Given as goal

abbrev pub invariant-loop-x : goal.invariant-loop-x
invariant-loop-x l = IsChangedBelow (lookup_with l.lump l.patch) l.initial.columns l.columns l.x
