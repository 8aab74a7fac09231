use Rattle.std.proofs.Common.{refl, ℕ, ◌∙◌, ◌≡◌}
use Rattle.doom_run.specs.{Rules.Counts, Rules.ViewListValue, Lists.items_lines, Lists.list_lines}
use Rattle.doom_run.proofs.LimitLemmas.{lines_within, puts-over, same_bytes}
use Rattle.doom_run.proofs.list.ViewListViewLines.put.Goals as goal

items_same : {a b : Counts} {x y : ViewListValue} (view : ℕ) → a ≡ b → x ≡ y → items_lines view a x ≡ items_lines view b y
items_same view e f = rw (e, f) refl

pub returns-in-Ok : goal.returns-in-Ok
returns-in-Ok g c = record {
  writes = λ bytes.
      same_bytes
      (items_same c.args.number (c.in-Ok.ensures.counts bytes) (c.in-Ok.ensures.list bytes)
      ∙ lines_within list_lines bytes c.args.ready.now c.args.number _ c.eye_at-eye.ensures (c.in-Ok.ensures.within bytes))
      c.put_items.ensures;
  loaded = refl;
  limits = c.list_view.ensures.limits;
}

pub returns-in-Err : goal.returns-in-Err
returns-in-Err g c = puts-over list_lines c.args.ready.now _ c.args.number _ c.eye_at-eye.ensures c.in-Err.over c.in-Err.ensures.over refl c.list_view.ensures.limits c.put_over.ensures
