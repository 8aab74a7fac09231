use Rattle.std.proofs.Common.{◌≡◌, length}
use Rattle.picture_rules.specs.Words.{AreWide}
use Rattle.visplanes.proofs.planes.blank_planes.Given as goal

abbrev pub invariant-loop : goal.invariant-loop
invariant-loop l = record {
  size : length l.planes.items ≡ l.counter;
  wide : AreWide l.planes.items;
}
