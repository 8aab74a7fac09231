use Rattle.art_rules.proofs.Common.{ap, arith, list_any, ◌||◌, ◌∙◌}
use Rattle.level_audit.specs.Rules.{is_seen_through, texture_by}
use Rattle.level_audit.proofs.MiddleLemmas.{bad_middle-marked, middles_single}
use Rattle.level_audit.proofs.middles.find_bad_middle.Goals as goal

pub returns-clause-value : goal.returns-clause-value
returns-clause-value c =
    let segs = c.args.segs.now in
    c.first_bad.ensures.value
    ∙ bad_middle-marked (texture_by c.args.textures.now.prepared) segs c.args.sides.now c.mark_sides.new.marks
    (λ side l. c.mark_sides.ensures.marked side (omega (arith, l, c.in_ok-marks.ensures.count)) ∙ ap (λ b. b || list_any (is_seen_through side) segs) (c.in_ok-marks.ensures.none side))

pub returns-clause-none : goal.returns-clause-none
returns-clause-none c = λ none.
    let segs = c.args.segs.now in
    middles_single c.args.textures.now segs c.args.sides.now
    (λ side l seen. c.first_bad.ensures.none none side l
    (c.mark_sides.ensures.marked side (omega (arith, l, c.in_ok-marks.ensures.count)) ∙ ap (λ b. b || list_any (is_seen_through side) segs) (c.in_ok-marks.ensures.none side) ∙ seen))
