use Rattle.level_scene.proofs.LevelLemmas.{label_told}
use Rattle.level_scene.proofs.level.label_of.Goals as goal

pub returns-clause-label : goal.returns-clause-label
returns-clause-label c = label_told c.map.result c.args.dir.now.lumps c.args.name.now c.ok_or.result c.map.ensures.found c.ok_or.ensures.value
