use Rattle.std.proofs.Common.{◌+◌, arith, ap, sym, ◌∙◌}
use Rattle.patch_columns.specs.Seen.{composed_bytes}
use Rattle.patch_columns.proofs.SeenLemmas.{changed_none, changed_more}
use Rattle.patch_columns.proofs.PlaceLemmas.{composed_before, composed_before-none, composed_before-more, placed_in, placed_in-by, column_lookups-placed}
use Rattle.patch_columns.proofs.AnyBytesLemmas.{columns_any, size_any}
use Rattle.patch_columns.proofs.lookups.place_columns.Goals as goal

pub loop-column-init : goal.loop-column-init
loop-column-init c = record {
  place = composed_before-none c.args.height c.args.columns.now;
  bound = omega arith;
  columns = changed_none (placed_in c.args.height c.args.columns.now) c.args.columns.now;
}

pub loop-column-preserved : goal.loop-column-preserved
loop-column-preserved c =
    let so_far = c.loop-column.invariant in
    let old = c.args.columns.now in
    let height = c.args.height in
    let index = c.loop-column.column-index in
    record {
      place = ap (λ k. k + c.from-place.result) so_far.place
          ∙ ap (λ k. composed_before height old index + k) (c.from-place.ensures ∙ c.composed_bytes-size.ensures ∙ ap (composed_bytes height) (so_far.columns.above index (omega arith)))
          ∙ sym (composed_before-more height old index c.loop-column-test.true);
      bound = omega arith;
      columns = changed_more (placed_in height old) old c.loop-column.columns index c.placed_lookup.result (omega arith) so_far.columns
          (c.placed_lookup.ensures ∙ placed_in-by height old index c.loop-column.place _ so_far.place);
    }

pub returns-clause-placed : goal.returns-clause-placed
returns-clause-placed c = λ bytes patches are.
    column_lookups-placed bytes patches c.args.height c.args.columns.now c.loop-column.columns c.loop-column.column-index are c.loop-column.auto.columns c.loop-column-test.false c.loop-column.invariant.columns

pub returns-clause-columns : goal.returns-clause-columns
returns-clause-columns c = λ patches are.
    columns_any patches c.args.height c.args.columns.now c.loop-column.columns c.loop-column.column-index c.loop-column.auto.columns c.loop-column-test.false c.loop-column.invariant.columns are

pub returns-clause-size : goal.returns-clause-size
returns-clause-size c = λ patches are.
    c.loop-column.invariant.place ∙ size_any patches c.args.height c.args.columns.now c.loop-column.column-index (omega arith) are
