use Rattle.art_rules.proofs.Common.{length, list_any, take, ◌==◌, ◌≡◌}
use Rattle.art_rules.specs.Words.{LumpNo}
use Rattle.sound_scene.specs.Views.{AddsMarks}
use Rattle.sound_scene.proofs.needed.mark_lumps.Given as goal

-- the lumps so far
abbrev pub invariant-loop-lump : goal.invariant-loop-lump
invariant-loop-lump l = record {
  count : length l.marks ≡ length l.initial.marks;
  marked : AddsMarks l.initial.marks l.marks (λ number. list_any (λ (lump : LumpNo). lump.0 == number) (take l.lump-index l.lumps));
}
