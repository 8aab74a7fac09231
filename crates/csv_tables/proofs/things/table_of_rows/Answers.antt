use Rattle.view_rules.proofs.Common.{◌≡◌, ◌+◌, ◌<◌, sym, ap, rules, arith, refl, true, is_ok, All-nil}
use Rattle.csv_tables.specs.{declared.things.TheConstants.TYPES, Things.IsLineInRange}
use Rattle.csv_tables.proofs.RowLemmas.{read_refused, read_more, read_to_end}
use Rattle.csv_tables.proofs.ThingLemmas.{numbers-start, numbers-step}
use Rattle.csv_tables.proofs.things.table_of_rows.Goals as goal

pub loop-i-init : goal.loop-i-init
loop-i-init c = rw c.new-lines.ensures.items (record {
  read = record { so_far = refl; count = refl; all = All-nil IsLineInRange };
  numbers = numbers-start c.in-Ok.numbers.items c.in-Ok.ensures;
})

pub returns-in-Err-clause-refused : goal.returns-in-Err-clause-refused
returns-in-Err-clause-refused c r e =
    read_refused _ _ _ _ _ _ _ _ r c.loop-i.invariant.read c.loop-i-test.true c.index-rows-i.is (rw c.deref.ensures.value at c.in-Err.ensures.value) e

pub loop-i-preserved : goal.loop-i-preserved
loop-i-preserved c =
    let inv = c.loop-i.invariant in
    let line = c.in-Ok-read_line.line in
    let push_is_ok : is_ok c.push.result ≡ true = search rules in
    let items = rw push_is_ok at c.push.ensures.items in
    let line_read = rw c.deref.ensures.value at c.in-Ok-read_line.ensures.value in
    let new = rw c.deref.ensures.value at c.in-Ok-read_line.ensures.new in
    let kind_fits : line.kind < TYPES = omega (arith, c.in-Ok-read_line.ensures.range) in
    rw items (record {
      read = read_more _ _ _ _ _ _ _ line inv.read c.loop-i-test.true c.index-rows-i.is line_read c.in-Ok-read_line.ensures.range;
      numbers = numbers-step c.loop-i.lines.items line c.loop-i.numbers.items (c.loop-i.i + 1) inv.numbers kind_fits new (ap (λ n. n + 1) (sym inv.read.count));
    })

pub returns-clause-ok : goal.returns-clause-ok
returns-clause-ok c = read_to_end _ _ _ _ _ _ c.loop-i.invariant.read c.loop-i-test.false

pub read_line-requires : goal.read_line-requires
read_line-requires c = rw (c.deref.ensures.value, c.deref-in-loop-i.ensures.value) c.loop-i.invariant.numbers
