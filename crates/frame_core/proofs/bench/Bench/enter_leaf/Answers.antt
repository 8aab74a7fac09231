use Rattle.std.proofs.Common.{refl, ap, ◌∙◌}
use Rattle.wall_columns.specs.Walls.{WallsView}
use Rattle.picture_rules.specs.Words.{walls_of}
use Rattle.sound_scene.specs.Pictures.{scene_of}
use Rattle.frame_core.specs.Walked.{planes_after}
use Rattle.frame_core.proofs.WalkedLemmas.{bench_of, enters-leaf, over-passed, over-leaf, same_limits, walked-leaf}
use Rattle.frame_core.proofs.bench.Bench.enter_leaf.Goals as goal

pub returns-in_err-enter_leaf-clause-over : goal.returns-in_err-enter_leaf-clause-over
returns-in_err-enter_leaf-clause-over c = λ bytes most events h.
    let view_now = c.args.view.now in
    let scene = c.args.scene.now.scene in
    over-passed c.enter_leaf.result c.in_err-enter_leaf.field-0.0 c.from_residual.result c.in_err-enter_leaf.was c.from_residual.ensures.1
    ∙ c.enter_leaf.ensures.limit view_now (walls_of view_now (scene_of bytes scene) events) (planes_after view_now (scene_of bytes scene) events) h.built
    ∙ over-leaf view_now bytes scene most events c.args.leaf c.sector_of-sector.result _ _ c.args.self.now h c.sector_of-sector.ensures.value c.planes_of-planes.ensures.floor c.planes_of-planes.ensures.ceiling

pub returns-clause-walked : goal.returns-clause-walked
returns-clause-walked c = λ bytes most events h.
    let view_now = c.args.view.now in
    let scene = c.args.scene.now.scene in
    let old = c.args.self.now in
    let walls_stay = c.in_ok-enter_leaf.ensures.stays in
    let bench_between = bench_of c.enter_leaf.new.planes c.enter_leaf.new.self old.sprites old.entered c.sector_of-sector.result in
    walked-leaf view_now bytes scene most events c.args.leaf c.sector_of-sector.result _ _ old c.enter_sector.new.self
    (enters-leaf view_now scene c.args.leaf c.sector_of-sector.result _ _ old bench_between c.enter_sector.new.self c.enter_sector.ensures.walls c.enter_sector.ensures.planes c.enter_sector.ensures.sector refl refl refl
    c.requires.there c.sector_of-sector.ensures.value c.sector_of-sector.ensures.there c.planes_of-planes.ensures.floor c.planes_of-planes.ensures.ceiling
    (λ ws s b. c.in_ok-enter_leaf.ensures.built view_now ws s b) (λ ws s b. c.in_ok-enter_leaf.ensures.limit view_now ws s b)
    (ap (λ (w : WallsView). w.openings) walls_stay) (same_limits old.walls c.enter_leaf.new.self old.planes c.enter_leaf.new.planes (ap (λ (w : WallsView). w.room) walls_stay) c.in_ok-enter_leaf.ensures.room)
    c.enter_sector.ensures.sprites c.enter_sector.ensures.columns c.enter_sector.ensures.lumps c.enter_sector.ensures.own c.enter_sector.ensures.others) h

pub returns-clause-over : goal.returns-clause-over
returns-clause-over c = λ bytes most events h.
    let view_now = c.args.view.now in
    let scene = c.args.scene.now.scene in
    c.in_ok-enter_leaf.ensures.limit view_now (walls_of view_now (scene_of bytes scene) events) (planes_after view_now (scene_of bytes scene) events) h.built
    ∙ over-leaf view_now bytes scene most events c.args.leaf c.sector_of-sector.result _ _ c.args.self.now h c.sector_of-sector.ensures.value c.planes_of-planes.ensures.floor c.planes_of-planes.ensures.ceiling
