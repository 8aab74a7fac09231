use Rattle.std.proofs.Common.{arith, refl}
use Rattle.art_rules.proofs.Laws.{writes_more, writes_stopped}
use Rattle.doom_run.proofs.ListLemmas.{lines-left, lines-more, lines_behind, none_put}
use Rattle.doom_run.proofs.list.put_each.Goals as goal

pub loop-number-init : goal.loop-number-init
loop-number-init g c = none_put (g.T.Listed.line_of c.args.view) c.args.items.now _ _

pub returns-in_err-put : goal.returns-in_err-put
returns-in_err-put g c =
    let line = g.T.Listed.line_of c.args.view in
    let line_number = c.loop-number.number in
    let line_below_count = c.loop-number-test.true in
    writes_stopped c.from_residual.result (lines_behind line c.args.items.now line_number) _ c.loop-number.invariant tt refl c.put.ensures _ c.in_err-put.was c.from_residual.ensures.0
    (lines-left line c.args.items.now line_number _ c.index-items-number.is (omega (arith, line_below_count)))

pub loop-number-preserved : goal.loop-number-preserved
loop-number-preserved g c =
    let line = g.T.Listed.line_of c.args.view in
    let line_number = c.loop-number.number in
    let line_below_count = c.loop-number-test.true in
    writes_more _ c.loop-number.invariant tt refl c.put.ensures _ c.in_ok-put.was (lines-more line c.args.items.now line_number _ c.index-items-number.is (omega (arith, line_below_count)))
