-- One column more, without a run and with one.
use Rattle.std.proofs.Common.{arith}
use Rattle.frame_core.proofs.ShownLemmas.{columns-all, columns-with, columns-without}
use Rattle.frame_core.proofs.list.marked_columns.Goals as goal

pub loop-x-preserved-then-is_none : goal.loop-x-preserved-then-is_none
loop-x-preserved-then-is_none c = record {
  counted = columns-without c.args.planes.now.planes c.args.plane.0 c.loop-x.x c.loop-x.columns c.column.result c.is_none.result c.count-all.ensures.wide c.requires c.loop-x-test.true c.column.ensures c.is_none.ensures c.if-is_none.true c.loop-x.invariant.counted;
  few = omega (arith, c.loop-x.invariant.few);
}

pub loop-x-preserved : goal.loop-x-preserved
loop-x-preserved c = record {
  counted = columns-with c.args.planes.now.planes c.args.plane.0 c.loop-x.x c.loop-x.columns c.column.result c.is_none.result c.count-all.ensures.wide c.requires c.loop-x-test.true c.column.ensures c.is_none.ensures c.if-is_none.false c.loop-x.invariant.counted;
  few = omega (arith, c.loop-x.invariant.few);
}

pub returns : goal.returns
returns c = columns-all c.args.planes.now.planes c.args.plane.0 c.loop-x.x c.loop-x.columns c.count-all.ensures.wide c.requires c.loop-x-test.false c.loop-x.invariant.counted
