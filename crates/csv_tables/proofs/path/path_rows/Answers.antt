use Rattle.view_rules.proofs.Common.{◌≡◌, rules, true, arith, is_ok}
use Rattle.csv_tables.proofs.RowLemmas.{read_refused, read_more, read_to_end}
use Rattle.csv_tables.proofs.path.path_rows.Goals as goal

pub returns-in-Err-clause-refused : goal.returns-in-Err-clause-refused
returns-in-Err-clause-refused c r e = read_refused _ _ _ _ _ _ _ _ r c.loop-i.invariant.read c.loop-i-test.true c.index-rows-i.is c.in-Err.ensures.value e

pub loop-i-preserved : goal.loop-i-preserved
loop-i-preserved c =
    let push_is_ok : is_ok c.push.result ≡ true = search rules in let items = rw push_is_ok at c.push.ensures.items in
    let row_read = read_more _ _ _ _ _ _ _ c.in-Ok.view c.loop-i.invariant.read c.loop-i-test.true c.index-rows-i.is
    c.in-Ok.ensures.value c.in-Ok.ensures.light in
    rw items (record {
      read = row_read;
      few = omega (arith, row_read.count, c.in-Ok.ensures.within);
    })

pub returns-clause-ok : goal.returns-clause-ok
returns-clause-ok c = read_to_end _ _ _ _ _ _ c.loop-i.invariant.read c.loop-i-test.false
