use Rattle.std.proofs.Common.{◌≡◌, ℕ, length, get_or}
use Rattle.patch_columns.proofs.RowLemmas.{row_so_far}
use Rattle.patch_columns.proofs.compose.put_post.Given as goal

abbrev pub invariant-loop-k : goal.invariant-loop-k
invariant-loop-k l = record {
  same : length l.column ≡ length l.initial.column;
  rows : (v : ℕ) → get_or l.column v 0 ≡ row_so_far l.lump l.post.first l.first l.k l.initial.column v;
}
