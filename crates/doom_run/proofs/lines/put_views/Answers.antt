use Rattle.std.proofs.Common.{arith}
use Rattle.doom_run.proofs.LimitLemmas.{puts-all, puts-more, puts-none, puts-stopped}
use Rattle.doom_run.proofs.lines.put_views.Goals as goal

pub loop-number-init : goal.loop-number-init
loop-number-init g c = puts-none g.L.ViewLines.lines c.args.ready.now _ _

pub loop-number-preserved : goal.loop-number-preserved
loop-number-preserved g c = rw c.in-Ok.is at (puts-more g.L.ViewLines.lines c.loop-number.number c.loop-number.invariant c.put.ensures)

pub returns-in-Err : goal.returns-in-Err
returns-in-Err g c bytes =
    puts-stopped g.L.ViewLines.lines c.loop-number.number c.in-Err.field-0 (rw c.in-Err.is at (puts-more g.L.ViewLines.lines c.loop-number.number c.loop-number.invariant c.put.ensures))
    (omega (arith, c.view_count-count.ensures, c.loop-number-test.true)) bytes

pub returns : goal.returns
returns g c bytes =
    puts-all g.L.ViewLines.lines c.loop-number.number c.loop-number.invariant (omega (arith, c.view_count-count.ensures, c.loop-number-test.false, c.loop-number.auto.number-end)) bytes
