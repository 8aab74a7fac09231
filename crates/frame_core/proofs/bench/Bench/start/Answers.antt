use Rattle.std.proofs.Common.{◌≡◌, ◌≤◌, ◌<◌, List, length, subst, ap, sym, ◌∙◌, arith, rules}
use Rattle.picture_rules.specs.Words.{FRAME_WIDTH, IsSound, LevelValue, Sector, ViewShape}
use Rattle.frame_core.proofs.WalkedLemmas.{walked-none}
use Rattle.frame_core.proofs.bench.Bench.start.Goals as goal

pub clear-requires-3 : goal.clear-requires-3
clear-requires-3 c =
    let sectors_same : c.sectors.result.now ≡ c.args.scene.now.scene.base.level.sectors = c.sectors.ensures.value ∙ ap (λ (level : LevelValue). level.sectors) c.level.ensures in
    let sound : IsSound c.args.scene.now.scene.base.level = subst (λ (level : LevelValue). IsSound level) c.level.ensures c.sectors.ensures.sound in
    let sectors_bounded = sound.counts.sectors in
    let count : length c.sectors.result.now ≡ length c.args.scene.now.scene.base.level.sectors = ap length sectors_same in
    omega arith

pub returns-clause-walked : goal.returns-clause-walked
returns-clause-walked c = λ bytes.
    let frame = c.shape.ensures.frame.width in
    let width_fits_frame : c.args.view.now.shape.width ≤ FRAME_WIDTH = subst (λ (s : ViewShape). s.width ≤ FRAME_WIDTH) c.shape.ensures.value (omega arith) in
    let sectors_same : c.sectors.result.now ≡ c.args.scene.now.scene.base.level.sectors = c.sectors.ensures.value ∙ ap (λ (level : LevelValue). level.sectors) c.level.ensures in
    walked-none c.args.view.now bytes c.args.scene.now.scene _ _ _ _ _ (c.start_view.ensures.built c.args.view.now (ap (λ (s : ViewShape). s.height) (sym c.shape.ensures.value)) width_fits_frame)
    (search rules) c.clear-2.ensures
    (λ s l. c.clear-3.ensures.below s (subst (λ (xs : List Sector). s < length xs) (sym sectors_same) l))
    c.first_sector-self.ensures.value
