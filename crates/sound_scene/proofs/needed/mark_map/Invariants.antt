use Rattle.art_rules.proofs.Common.{length, nat_le, nat_lt, ◌&&◌, ◌+◌, ◌≡◌}
use Rattle.sound_scene.specs.Views.{AddsMarks}
use Rattle.sound_scene.proofs.needed.mark_map.Given as goal

-- the first i lumps behind the label
abbrev pub invariant-loop-i : goal.invariant-loop-i
invariant-loop-i l = record {
  count : length l.marks ≡ length l.initial.marks;
  marked : AddsMarks l.initial.marks l.marks (λ number. nat_lt l.label.0 number && nat_le number (l.label.0 + l.i));
}
