use Rattle.std.proofs.Common.{ap, refl, ◌∙◌}
use Rattle.picture_rules.specs.declared.Counts.{Counts}
use Rattle.doom_run.specs.Views.{counts_line, view_line}
use Rattle.doom_run.proofs.LimitLemmas.{lines_within, puts-over, same_bytes}
use Rattle.doom_run.proofs.limits.CountLinesViewLines.put.Goals as goal

pub returns-in-Ok : goal.returns-in-Ok
returns-in-Ok g c = record {
  writes = λ bytes.
      same_bytes
      (ap (λ (counts : Counts). counts_line c.args.number counts) (c.in-Ok.ensures.counts bytes) ∙ lines_within view_line bytes c.args.ready.now c.args.number _ c.eye_at-eye.ensures (c.in-Ok.ensures.within bytes))
      c.put_counts.ensures;
  loaded = refl;
  limits = c.count_view.ensures.limits;
}

pub returns-in-Err : goal.returns-in-Err
returns-in-Err g c = puts-over view_line c.args.ready.now _ c.args.number _ c.eye_at-eye.ensures c.in-Err.over c.in-Err.ensures.over refl c.count_view.ensures.limits c.put_over.ensures
