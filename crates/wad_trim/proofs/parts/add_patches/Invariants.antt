use Rattle.art_rules.proofs.Common.{filter, list_any, nat_lt, not, take, ◌&&◌, ◌++◌, ◌==◌, ◌≡◌}
use Rattle.sound_scene.specs.Views.{lump_numbers}
use Rattle.wad_trim.proofs.parts.add_patches.Given as goal

-- the patches so far
abbrev pub invariant-loop-patch : goal.invariant-loop-patch
invariant-loop-patch l =
    lump_numbers l.called.items ≡ lump_numbers l.initial.called.items
    ++ filter (λ n. nat_lt n l.count && not (list_any (λ m. m == n) (lump_numbers l.fixed))) (lump_numbers (take l.patch-index l.patches))
