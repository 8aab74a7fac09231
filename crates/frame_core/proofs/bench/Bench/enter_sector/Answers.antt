use Rattle.std.proofs.Common.{◌∙◌}
use Rattle.frame_core.proofs.SectorLemmas.{sector_again, sector_new}
use Rattle.frame_core.proofs.bench.Bench.enter_sector.Goals as goal

pub returns-then-enter-clause-sprites : goal.returns-then-enter-clause-sprites
returns-then-enter-clause-sprites c = λ bytes.
    c.add_things.ensures.sprites bytes ∙ sector_new bytes c.args.view.now c.args.scene.now.scene c.args.sector c.args.self.now.sprites c.enter.result _ c.if-enter.true c.enter.ensures.value

pub returns-else-enter-clause-sprites : goal.returns-else-enter-clause-sprites
returns-else-enter-clause-sprites c = λ bytes.
    sector_again bytes c.args.view.now c.args.scene.now.scene c.args.sector c.args.self.now.sprites c.enter.result _ c.if-enter.false c.enter.ensures.value
