-- A texture column more is written.
use Rattle.picture_rules.proofs.Common.{arith, length-set, refl, rules, ◌∙◌, to_z-of_z}
use Rattle.wall_columns.specs.Rules.{listed_from, texture_column}
use Rattle.wall_columns.proofs.SavedLemmas.{columns-none, columns-more, columns-all}
use Rattle.wall_columns.proofs.openings.put_columns.Goals as goal

pub loop-x-init : goal.loop-x-init
loop-x-init c = record {
  written = λ facts is. columns-none c.args.xs.now (listed_from (texture_column c.args.view.now facts) c.args.first c.args.last) c.args.place c.args.first;
  count = refl;
}

pub loop-x-preserved : goal.loop-x-preserved
loop-x-preserved c = record {
  written = λ facts is.
      columns-more (texture_column c.args.view.now facts) c.args.xs.now c.loop-x.xs c.args.place c.args.first c.args.last c.loop-x.x c.column_at.result _
      (omega arith) (omega arith) c.requires.room (search (rules, to_z-of_z)) (c.column_at.ensures.facts facts c.args.first c.args.last is)
      (c.loop-x.invariant.written facts is);
  count = length-set c.loop-x.xs _ _ ∙ c.loop-x.invariant.count;
}

pub returns-clause-value : goal.returns-clause-value
returns-clause-value c = λ facts is.
    c.loop-x.invariant.written facts is
    ∙ columns-all (texture_column c.args.view.now facts) c.args.xs.now c.args.place c.args.first c.args.last c.loop-x.x (omega arith)
