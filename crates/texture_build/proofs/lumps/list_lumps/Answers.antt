use Rattle.art_rules.proofs.Common.{ap, arith, false, get_or, IfOk-weaker, length, ◌||◌, ◌∙◌, ◌≡◌}
use Rattle.art_rules.specs.Words.{is_patch_of_any}
use Rattle.texture_build.proofs.MarkLemmas.{lumps_marked, same_front}
use Rattle.texture_build.proofs.lumps.list_lumps.Goals as goal

pub returns : goal.returns
returns c =
    let marks_before = c.deref_mut.result.now in
    let marks = c.mark_textures.new.marks in
    let textures = c.args.textures.now in
    let marks_same : c.deref.result.now ≡ marks = c.deref.ensures.value ∙ same_front c.in_ok-marks.marks.len marks _ (omega (arith, c.mark_textures.ensures.count, c.deref_mut.ensures.len)) in
    let before_is : marks_before ≡ c.in_ok-marks.marks.items = c.deref_mut.ensures.value in
    IfOk-weaker c.marked_lumps.result _ _
    (λ found e. e ∙ lumps_marked c.deref.result.now textures _ (omega (arith, ap length marks_same, c.mark_textures.ensures.count, ap length before_is, c.in_ok-marks.ensures.count))
    (λ k l. ap (λ m. get_or m k false) marks_same ∙ c.mark_textures.ensures.marked k (omega (arith, ap length before_is, c.in_ok-marks.ensures.count))
    ∙ ap (λ b. b || is_patch_of_any textures k) (ap (λ m. get_or m k false) before_is ∙ c.in_ok-marks.ensures.none k)))
    c.marked_lumps.ensures
