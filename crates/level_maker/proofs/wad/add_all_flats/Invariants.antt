-- The flats so far are put.
use Rattle.std.proofs.Common.{◌≡◌}
use Rattle.level_maker.specs.Rules.{listed, made_flat_lump, with_lumps}
use Rattle.level_maker.proofs.wad.add_all_flats.Given as goal

abbrev pub invariant-loop-number : goal.invariant-loop-number
invariant-loop-number l = l.wad ≡ with_lumps l.initial.wad (listed made_flat_lump l.number)
