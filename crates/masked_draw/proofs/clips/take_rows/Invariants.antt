use Rattle.std.proofs.Common.{◌≡◌, ℕ}
use Rattle.picture_rules.specs.Words.{clip_row_at}
use Rattle.masked_draw.specs.Clipped.{row_in, row_after}
use Rattle.masked_draw.proofs.MarkLemmas.{between}
use Rattle.masked_draw.proofs.clips.take_rows.Given as goal

abbrev pub invariant-loop-x : goal.invariant-loop-x
invariant-loop-x l = (x : ℕ) → row_in l.rows x ≡ row_after (between l.first l.x x) (clip_row_at l.openings l.begin l.clip x) (row_in l.initial.rows x)
