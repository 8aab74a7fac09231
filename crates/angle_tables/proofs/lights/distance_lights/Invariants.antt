use Rattle.std.proofs.Common.{◌≡◌, ℕ, ◌/◌, ◌%◌, ◌<◌, slice_index, length}
use Rattle.angle_tables.specs.Rules.{DISTANCE_STEPS, distance_light}
use Rattle.angle_tables.proofs.lights.distance_lights.Given as goal

abbrev pub invariant-loop-n : goal.invariant-loop-n
invariant-loop-n l = (length l.maps.items ≡ l.n) × ((k : ℕ) → k < l.n → slice_index l.maps.items k ≡ distance_light (k / DISTANCE_STEPS) (k % DISTANCE_STEPS))
