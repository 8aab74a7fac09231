use Rattle.std.proofs.Common.{subst, arith}
use Rattle.picture_rules.specs.Words.{IsSound, LevelValue, no_seg}
use Rattle.frame_core.proofs.bench.first_sector.Goals as goal

pub returns-in-None-clause-there : goal.returns-in-None-clause-there
returns-in-None-clause-there c = λ some.
    let sound : IsSound c.args.scene.now.scene.base.level = subst (λ (level : LevelValue). IsSound level) c.level.ensures c.leaves.ensures.sound in
    let inside = (sound.segs 0 no_seg some).front in
    omega arith
