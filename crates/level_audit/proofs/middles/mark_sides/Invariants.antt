use Rattle.art_rules.proofs.Common.{length, list_any, take, ◌≡◌}
use Rattle.level_audit.specs.Rules.{is_seen_through}
use Rattle.sound_scene.specs.Views.{AddsMarks}
use Rattle.level_audit.proofs.middles.mark_sides.Given as goal

-- the sides of the segs so far
abbrev pub invariant-loop-seg : goal.invariant-loop-seg
invariant-loop-seg l = record {
  count : length l.marks ≡ length l.initial.marks;
  marked : AddsMarks l.initial.marks l.marks (λ side. list_any (is_seen_through side) (take l.seg-index l.segs));
}
