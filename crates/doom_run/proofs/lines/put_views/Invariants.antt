use Rattle.std.proofs.Common.{Ok}
use Rattle.doom_run.specs.Renders.{PutsLines}
use Rattle.doom_run.proofs.LimitLemmas.{first_lines}
use Rattle.doom_run.proofs.lines.put_views.Given as goal

-- the lines of the views so far
abbrev pub invariant-loop-number : goal.invariant-loop-number
invariant-loop-number g l =
    PutsLines (first_lines g.L.ViewLines.lines l.number) l.fn.ready l.ready (g.K.Sink.written l.fn.out) (g.K.Sink.written l.out) (g.K.Sink.faults l.fn.out) (g.K.Sink.faults l.out) (Ok tt)
