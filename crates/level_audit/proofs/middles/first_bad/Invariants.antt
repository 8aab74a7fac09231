use Rattle.art_rules.proofs.Common.{false, true, ℕ, ◌&&◌, ◌<◌, ◌≡◌}
use Rattle.texture_build.specs.Views.{is_marked}
use Rattle.level_audit.specs.Rules.{is_bad_middle, middle_of, texture_by}
use Rattle.sound_scene.specs.Whole.{IsNoneOrSingle}
use Rattle.level_audit.proofs.middles.first_bad.Given as goal

-- no side so far, and the middles of those that are marked are of single columns
abbrev pub invariant-loop-number : goal.invariant-loop-number
invariant-loop-number l = record {
  sides : (side : ℕ) → side < l.number → (is_marked l.marks side && is_bad_middle (texture_by l.textures.prepared) (middle_of l.sides side)) ≡ false;
  single : (side : ℕ) → side < l.number → is_marked l.marks side ≡ true → IsNoneOrSingle l.textures (middle_of l.sides side);
}
