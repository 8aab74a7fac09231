use Rattle.art_rules.proofs.Common.{length, list_any, take, ◌≡◌}
use Rattle.scene_rules.specs.Words.{has_flat}
use Rattle.sound_scene.specs.Views.{AddsMarks}
use Rattle.sound_scene.proofs.needed.mark_flats.Given as goal

-- the flats of the sectors so far
abbrev pub invariant-loop-both : goal.invariant-loop-both
invariant-loop-both l = record {
  count : length l.marks ≡ length l.initial.marks;
  marked : AddsMarks l.initial.marks l.marks (λ number. list_any (has_flat number) (take l.both-index l.flats));
}
