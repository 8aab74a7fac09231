use Rattle.std.proofs.Common.{◌≡◌, ◌<◌, ℕ, length, get_or}
use Rattle.job_files.specs.Flats.{tiled_index}
use Rattle.job_files.proofs.tiling.tile.Given as goal

abbrev pub invariant-loop-i : goal.invariant-loop-i
invariant-loop-i l = record {
  length : length l.pixel-items ≡ l.count;
  so_far : (k : ℕ) → k < l.i → get_or l.pixel-items k 0 ≡ tiled_index l.flat k;
}
