use Rattle.art_rules.proofs.Common.{ap, arith, IfOk-weaker, list_any, ◌||◌, ◌∙◌}
use Rattle.scene_rules.specs.Words.{has_flat}
use Rattle.wad_trim.proofs.ListLemmas.{flats-marked}
use Rattle.wad_trim.proofs.parts.flat_lumps.Goals as goal

pub returns-clause-lumps : goal.returns-clause-lumps
returns-clause-lumps c =
    let lumps = c.args.dir.now.lumps in
    let flats = c.args.flats.now in
    IfOk-weaker c.lumps.result _ _
    (λ found e. e ∙ flats-marked lumps flats c.mark_flats.new.marks (c.mark_flats.ensures.count ∙ c.in_ok-marks.ensures.count ∙ c.count.ensures.count)
    (λ k l. c.mark_flats.ensures.marked k (omega (arith, l, c.in_ok-marks.ensures.count, c.count.ensures.count)) ∙ ap (λ b. b || list_any (has_flat k) flats) (c.in_ok-marks.ensures.none k)))
    c.lumps.ensures
