use Rattle.std.proofs.Common.{refl}
use Rattle.scene_rules.specs.declared.TheConstants.{PALETTE_SIZE}
use Rattle.level_audit.proofs.ColourLemmas.{filled_first}
use Rattle.level_audit.proofs.colours.first_palette.Goals as goal

pub returns-clause-first : goal.returns-clause-first
returns-clause-first c = λ long.
    filled_first PALETTE_SIZE c.min-count.result _ _ c.args.bytes.now c.in_ok-palette.palette.items c.resize.new.self.items c.min-count.ensures
    (c.in_ok-palette.ensures.items_if_clones_equal (λ x y same. same)) c.in_ok-palette.ensures.len refl c.in_ok-resize.ensures.items long
