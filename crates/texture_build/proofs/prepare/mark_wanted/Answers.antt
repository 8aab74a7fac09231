use Rattle.art_rules.proofs.Common.{ap, arith, false, get_or, length, ◌||◌, ◌∙◌}
use Rattle.texture_build.specs.Views.{is_marked, is_wanted}
use Rattle.texture_build.proofs.{MarkLemmas.same_front, PrepareLemmas.marks_tell}
use Rattle.texture_build.proofs.prepare.mark_wanted.Goals as goal

pub returns-clause-marked : goal.returns-clause-marked
returns-clause-marked c = λ number.
    let marks = c.set_marks.new.marks in
    let wanted = c.args.wanted.now in
    ap (λ m. is_marked m number) (same_front c.in_ok-marks.marks.len marks _ (omega (arith, c.set_marks.ensures.count, c.deref_mut.ensures.len)))
    ∙ marks_tell marks wanted c.args.count number (omega (arith, c.set_marks.ensures.count, ap length c.deref_mut.ensures.value, c.in_ok-marks.ensures.count)) c.requires
    (λ l. c.set_marks.ensures.marked number (omega (arith, ap length c.deref_mut.ensures.value, c.in_ok-marks.ensures.count))
    ∙ ap (λ b. b || is_wanted wanted number) (ap (λ m. get_or m number false) c.deref_mut.ensures.value ∙ c.in_ok-marks.ensures.none number))
