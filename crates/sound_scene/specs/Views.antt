-- What a contract sees of the art of a scene.
use Rattle.std.specs.Prelude.{◌≡◌, ℕ, ◌<◌, ◌||◌, Bool, List, length, map}
use Rattle.art_rules.specs.Words.{LumpNo}
use Rattle.texture_build.specs.Views.{is_marked}

-- the numbers of lumps
abbrev pub lump_numbers : List LumpNo → List ℕ
lump_numbers lumps = map (λ (lump : LumpNo). lump.0) lumps

-- the marks that were set, and those of the numbers that pass
abbrev pub AddsMarks : List Bool → List Bool → (ℕ → Bool) → Type 0
AddsMarks old new passes = (number : ℕ) → number < length old → is_marked new number ≡ (is_marked old number || passes number)
