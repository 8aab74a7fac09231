use Rattle.art_rules.proofs.Common.{arith, below_more, Bool, length, sym, ℕ, ◌&&◌, ◌∙◌}
use Rattle.art_rules.proofs.Laws.{least-none, least-some}
use Rattle.texture_build.specs.Views.{is_marked}
use Rattle.level_audit.specs.Rules.{is_bad_middle, middle_of, texture_by}
use Rattle.level_audit.proofs.MiddleLemmas.{marked_read, single_read}
use Rattle.level_audit.proofs.middles.first_bad.Goals as goal

pub loop-number-preserved : goal.loop-number-preserved
loop-number-preserved c = record {
  sides = below_more _ _ c.loop-number.invariant.sides
      (marked_read (texture_by c.args.textures.now.prepared) c.args.sides.now c.args.marks.now c.loop-number.number _ c.has.result c.loop-number-test.true c.has.ensures ∙ sym c.is_bad_side.ensures.value ∙ c.if-is_bad_side.false);
  single = below_more _ _ c.loop-number.invariant.single
      (single_read c.args.textures.now c.args.sides.now c.args.marks.now c.loop-number.number _ c.has.result c.is_bad_side.result c.loop-number-test.true c.has.ensures c.if-is_bad_side.false c.is_bad_side.ensures.single);
}

pub returns-then-is_bad_side-clause-value : goal.returns-then-is_bad_side-clause-value
returns-then-is_bad_side-clause-value c =
    let is_marked_bad : ℕ → Bool = λ side. is_marked c.args.marks.now side && is_bad_middle (texture_by c.args.textures.now.prepared) (middle_of c.args.sides.now side) in
    sym (least-some is_marked_bad (length c.args.sides.now) c.loop-number.number c.loop-number-test.true
    (marked_read (texture_by c.args.textures.now.prepared) c.args.sides.now c.args.marks.now c.loop-number.number _ c.has.result c.loop-number-test.true c.has.ensures ∙ sym c.is_bad_side.ensures.value ∙ c.if-is_bad_side.true) c.loop-number.invariant.sides)

pub returns-clause-value : goal.returns-clause-value
returns-clause-value c =
    let is_marked_bad : ℕ → Bool = λ side. is_marked c.args.marks.now side && is_bad_middle (texture_by c.args.textures.now.prepared) (middle_of c.args.sides.now side) in
    sym (least-none is_marked_bad (length c.args.sides.now) (λ side l. c.loop-number.invariant.sides side (omega (arith, l, c.loop-number-test.false))))

pub returns-clause-none : goal.returns-clause-none
returns-clause-none c = λ none side l. c.loop-number.invariant.single side (omega (arith, l, c.loop-number-test.false))
