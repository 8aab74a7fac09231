use Rattle.std.proofs.Common.{take, Ok}
use Rattle.doom_run.specs.{Rules.Failed, Rules.Writes, Lists.lines_from}
use Rattle.doom_run.proofs.list.put_each.Given as goal

-- the lines so far
abbrev pub invariant-loop-number : goal.invariant-loop-number
invariant-loop-number g l =
    Writes {E = Failed} (g.K.Sink.written l.fn.out) (g.K.Sink.written l.out) (g.K.Sink.faults l.fn.out) (g.K.Sink.faults l.out)
    (lines_from (g.T.Listed.line_of l.view) 0 (take l.number l.items)) (Ok tt)
