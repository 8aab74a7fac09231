use Rattle.std.proofs.Common.{◌≡◌, ℕ, ◌/◌, ◌%◌, ◌<◌, slice_index, length}
use Rattle.angle_tables.specs.Rules.{SCALE_STEPS, scale_light}
use Rattle.angle_tables.proofs.lights.scale_lights.Given as goal

abbrev pub invariant-loop-n : goal.invariant-loop-n
invariant-loop-n l = (length l.maps.items ≡ l.n) × ((k : ℕ) → k < l.n → slice_index l.maps.items k ≡ scale_light l.shape (k / SCALE_STEPS) (k % SCALE_STEPS))
