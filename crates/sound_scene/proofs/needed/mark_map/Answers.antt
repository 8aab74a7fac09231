use Rattle.std.proofs.Common.{◌≡◌, length, refl, arith}
use Rattle.art_rules.specs.Words.{MAP_LUMPS}
use Rattle.sound_scene.proofs.MarkLemmas.{map_added}
use Rattle.sound_scene.proofs.needed.mark_map.Goals as goal

pub returns-clause-marked : goal.returns-clause-marked
returns-clause-marked c =
    let map_has_eight_lumps : length MAP_LUMPS ≡ 8 = refl in
    map_added c.args.marks.now c.loop-i.marks c.args.label.0 c.loop-i.i (omega arith) c.loop-i.invariant.marked
