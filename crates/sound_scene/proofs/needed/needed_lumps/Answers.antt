use Rattle.art_rules.proofs.Common.{ap, arith, IfOk-weaker, ◌||◌, ◌∙◌}
use Rattle.scene_rules.specs.Words.{is_needed}
use Rattle.sound_scene.proofs.MarkLemmas.{needed_marked}
use Rattle.sound_scene.proofs.needed.needed_lumps.Goals as goal

pub returns : goal.returns
returns c =
    let lumps = c.args.dir.now.lumps in
    let art = c.args.art.now in
    IfOk-weaker c.lumps.result _ _
    (λ found e. e ∙ needed_marked lumps art c.mark_needed.new.marks (c.mark_needed.ensures.count ∙ c.in_ok-marks.ensures.count ∙ c.count.ensures.count)
    (λ k l. c.mark_needed.ensures.marked k (omega (arith, l, c.in_ok-marks.ensures.count, c.count.ensures.count)) ∙ ap (λ b. b || is_needed lumps art k) (c.in_ok-marks.ensures.none k)))
    c.lumps.ensures
