-- The value of each constant that a clause or a definition cites, by evaluation.
use Rattle.std.specs.Prelude.{refl, ◌≡◌}
use Rattle.level_audit.specs.declared.scene_load.load.TheConstants.{COMPOSITE_SLOTS}

-- src/scene_load/load.rt
composite_slots_row : COMPOSITE_SLOTS ≡ 32767
composite_slots_row = refl
