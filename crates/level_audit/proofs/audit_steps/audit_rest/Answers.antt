use Rattle.std.proofs.Common.{◌<◌, ◌∙◌, length, sym, ap, subst}
use Rattle.level_audit.specs.Rules.{LevelBase}
use Rattle.sound_scene.specs.Whole.{IsWholeScene}
use Rattle.level_audit.proofs.AuditLemmas.{base_stopped, scene_stopped, sound_passed, sound_stopped}
use Rattle.sound_scene.proofs.SceneLemmas.{colormap_there}
use Rattle.level_audit.proofs.audit_steps.audit_rest.Goals as goal

pub returns-in_err-base-clause-tells : goal.returns-in_err-base-clause-tells
returns-in_err-base-clause-tells g c =
    base_stopped c.args.request.now.things.now c.args.request.now.name.now c.args.request.now.skill c.read_base.result c.in_err-base.field-0.0 c.from_residual.result c.read_base.ensures.tells c.in_err-base.was c.from_residual.ensures.1

pub returns-in_err-scene-clause-tells : goal.returns-in_err-scene-clause-tells
returns-in_err-scene-clause-tells g c =
    scene_stopped c.args.request.now.things.now c.args.request.now.name.now c.args.request.now.skill c.in_ok-base.base c.in_ok-base.ensures.tells
    c.read_scene.result c.in_err-scene.field-0.0 c.from_residual-in_err-scene.result c.read_scene.ensures.tells c.in_err-scene.was c.from_residual-in_err-scene.ensures.1

pub new-requires-clause-colormap : goal.new-requires-clause-colormap
new-requires-clause-colormap g c =
    let colormap_same = ap (λ (base : LevelBase). base.colormap) c.in_ok-scene.ensures.base in
    subst (λ n. n < length c.args.dir.now.lumps) (sym colormap_same) (subst (λ lump. lump.0 < length c.args.dir.now.lumps) (sym c.in_ok-base.ensures.colormap) (colormap_there c.args.dir.now.lumps c.args.colormap.0 c.requires.colormap))

pub new-requires-clause-palette : goal.new-requires-clause-palette
new-requires-clause-palette g c = ap (λ (base : LevelBase). length base.palette) c.in_ok-scene.ensures.base ∙ c.in_ok-base.ensures.palette

pub returns-in_err-new-clause-tells : goal.returns-in_err-new-clause-tells
returns-in_err-new-clause-tells g c =
    sound_stopped c.args.request.now.things.now c.args.request.now.name.now c.args.request.now.skill c.in_ok-base.base c.in_ok-base.ensures.tells
    c.in_ok-scene.scene c.in_ok-scene.ensures.tells c.from_residual-in_err-new.result c.from_residual-in_err-new.ensures.1

pub returns-clause-tells : goal.returns-clause-tells
returns-clause-tells g c =
    sound_passed c.args.request.now.things.now c.args.request.now.name.now c.args.request.now.skill c.in_ok-base.base c.in_ok-base.ensures.tells
    c.in_ok-scene.scene c.in_ok-scene.ensures.tells c.in_ok-new.field-0 c.in_ok-new.ensures.scene

pub returns-clause-whole : goal.returns-clause-whole
returns-clause-whole g c =
    subst (IsWholeScene c.args.dir.now.lumps c.args.request.now.things.now c.args.request.now.name.now c.args.request.now.skill) (sym c.in_ok-new.ensures.scene) (c.in_ok-scene.ensures.whole c.in_ok-base.ensures.few)
