use Rattle.std.proofs.Common.{◌≤◌, subst, sym}
use Rattle.picture_rules.specs.Words.{SKY_FLAT, Surface}
use Rattle.frame_core.proofs.NumberLemmas.{numbers_at}
use Rattle.frame_core.proofs.bench.planes_of.Goals as goal

pub floor_key-requires : goal.floor_key-requires
floor_key-requires c =
    subst (λ (s : Surface). s.floor_flat ≤ SKY_FLAT) (sym c.surface_at-surface.ensures) (numbers_at c.args.scene.now.scene c.args.sector c.requires.scene c.requires.sector).floor

pub ceiling_key-requires : goal.ceiling_key-requires
ceiling_key-requires c =
    subst (λ (s : Surface). s.ceiling_flat ≤ SKY_FLAT) (sym c.surface_at-surface.ensures) (numbers_at c.args.scene.now.scene c.args.sector c.requires.scene c.requires.sector).ceiling
