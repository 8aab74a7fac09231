use Rattle.art_rules.proofs.Common.{false, get_or, length, list_any, take, ℕ, ◌<◌, ◌==◌, ◌||◌, ◌≡◌}
use Rattle.art_rules.specs.declared.PlacedPatch.{PlacedPatch}
use Rattle.texture_build.proofs.lumps.mark_patches.Given as goal

abbrev pub invariant-loop-patch : goal.invariant-loop-patch
invariant-loop-patch l =
    (lump : ℕ) → lump < length l.initial.marks → get_or l.marks lump false ≡ (get_or l.initial.marks lump false || list_any (λ (patch : PlacedPatch). patch.lump == lump) (take l.patch-index l.patches))
