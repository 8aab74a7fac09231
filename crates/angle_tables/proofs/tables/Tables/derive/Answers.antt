use Rattle.std.proofs.Common.{arith}
use Rattle.view_rules.specs.Sound.{IsShape}
use Rattle.view_rules.proofs.{ShapeLemmas.within_frame, SoundLemmas.sound_by_refusal}
use Rattle.angle_tables.proofs.tables.Tables.derive.Goals as goal

-- a view of one of the nine shapes has a column
pub scale_lights-requires : goal.scale_lights-requires
scale_lights-requires c =
    let shaped : IsShape c.args.shape = record { size = c.args.size; least = c.requires.least; greatest = c.requires.greatest; is = c.requires.shaped } in
    (within_frame c.args.shape shaped).columns

-- the tables that nothing refuses are sound, and each table is filled
pub invariant_of-result : goal.invariant_of-result
invariant_of-result c =
    let shaped : IsShape c.args.shape = record { size = c.args.size; least = c.requires.least; greatest = c.requires.greatest; is = c.requires.shaped } in
    record {
      least = c.requires.least;
      greatest = c.requires.greatest;
      shaped = c.requires.shaped;
      sound = sound_by_refusal c.args.lists c.args.shape shaped c.requires.accepted;
      columns = record { len = c.in_ok-columns.ensures.len; items = c.in_ok-columns.ensures.items };
      angles = record { len = c.in_ok-angles_from_right.ensures.len; items = λ k inside. c.in_ok-angles_from_right.ensures.items k (omega arith) };
      rows = record { len = c.in_ok-rows.ensures.len; items = c.in_ok-rows.ensures.items };
      scales = record { len = c.in_ok-scales.ensures.len; items = c.in_ok-scales.ensures.items };
      scale_lights = record { len = c.in_ok-scale_lights.ensures.len; items = c.in_ok-scale_lights.ensures.items };
      distance_lights = record { len = c.in_ok-distance_lights.ensures.len; items = c.in_ok-distance_lights.ensures.items };
    }
