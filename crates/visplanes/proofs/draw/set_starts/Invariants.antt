use Rattle.std.proofs.Common.{◌≡◌, ℕ, ◌<◌, ◌≤◌, max, get_or}
use Rattle.visplanes.proofs.draw.set_starts.Given as goal

abbrev pub invariant-loop-y : goal.invariant-loop-y
invariant-loop-y l = record {
  from : l.begin ≤ l.y;
  idle : l.y ≤ max l.begin l.end;
  set : (k : ℕ) → l.begin ≤ k → k < l.y → get_or l.starts k 0 ≡ l.x;
  below : (k : ℕ) → k < l.begin → get_or l.starts k 0 ≡ get_or l.initial.starts k 0;
  above : (k : ℕ) → l.y ≤ k → get_or l.starts k 0 ≡ get_or l.initial.starts k 0;
}
