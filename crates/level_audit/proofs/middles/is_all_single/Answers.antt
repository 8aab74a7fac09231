use Rattle.std.proofs.Common.{◌+◌, arith, below_more, sym, ◌∙◌}
use Rattle.texture_build.specs.Views.{prepared_texture}
use Rattle.level_audit.proofs.MiddleLemmas.{all_columns, all_single, not_all_single}
use Rattle.level_audit.proofs.middles.is_all_single.Goals as goal

pub loop-col-preserved : goal.loop-col-preserved
loop-col-preserved c = record {
  patches = below_more _ _ c.loop-col.invariant.patches (sym c.single.ensures.value ∙ c.if-not-single.false);
  columns = below_more _ _ c.loop-col.invariant.columns (sym c.single.ensures.place ∙ c.if-not-single.false);
}

pub returns-then-not-single-clause-value : goal.returns-then-not-single-clause-value
returns-then-not-single-clause-value c =
    sym (not_all_single (prepared_texture c.args.textures.now c.args.tex.0) c.last_column-last.result c.loop-col.col c.last_column-last.ensures.value c.loop-col-test.true (sym c.single.ensures.value ∙ c.if-not-single.true))

pub returns-else-not-single-clause-value : goal.returns-else-not-single-clause-value
returns-else-not-single-clause-value c =
    sym (all_single (prepared_texture c.args.textures.now c.args.tex.0) c.last_column-last.result (c.loop-col.col + 1) c.last_column-last.ensures.value (omega arith)
    (below_more _ _ c.loop-col.invariant.patches (sym c.single.ensures.value ∙ c.if-not-single.false)))

pub returns-else-not-single-clause-columns : goal.returns-else-not-single-clause-columns
returns-else-not-single-clause-columns c = λ on.
    all_columns (prepared_texture c.args.textures.now c.args.tex.0) c.last_column-last.result (c.loop-col.col + 1) c.last_column-last.ensures.value (omega arith)
    (below_more _ _ c.loop-col.invariant.columns (sym c.single.ensures.place ∙ c.if-not-single.false))
