use Rattle.view_rules.proofs.Common.{◌≡◌, rules, true, is_ok}
use Rattle.csv_tables.proofs.RowLemmas.{read_refused, read_more, read_to_end}
use Rattle.csv_tables.proofs.weapons.weapon_rows.Goals as goal

pub returns-in-Err-clause-refused : goal.returns-in-Err-clause-refused
returns-in-Err-clause-refused c r e = read_refused _ _ _ _ _ _ _ _ r c.loop-i.invariant c.loop-i-test.true c.index-rows-i.is c.in-Err.ensures.value e

pub loop-i-preserved : goal.loop-i-preserved
loop-i-preserved c =
    let push_is_ok : is_ok c.push.result ≡ true = search rules in
    let items = rw push_is_ok at c.push.ensures.items in
    rw items (read_more _ _ _ _ _ _ _ c.in-Ok.weapon c.loop-i.invariant c.loop-i-test.true c.index-rows-i.is c.in-Ok.ensures.value c.in-Ok.ensures.range)

pub returns-clause-ok : goal.returns-clause-ok
returns-clause-ok c = read_to_end _ _ _ _ _ _ c.loop-i.invariant c.loop-i-test.false
