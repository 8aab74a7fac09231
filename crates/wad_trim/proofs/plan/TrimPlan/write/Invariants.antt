use Rattle.std.proofs.Common.{◌≤◌, length, Ok}
use Rattle.wad_trim.specs.Writes.{IsCopied, WritesLumps}
use Rattle.wad_trim.proofs.FileLemmas.{so_far}
use Rattle.wad_trim.proofs.plan.TrimPlan.write.Given as goal

-- the header and the bytes of the parts so far
abbrev pub invariant-loop-part : goal.invariant-loop-part
invariant-loop-part g l = record {
  slots : length l.dir.lumps ≤ l.cache.lumps;
  written : WritesLumps (g.S.Shelf.view l.fn.shelf) (g.S.Shelf.view l.shelf) l.dir l.fn.cache l.cache
      (g.K.Sink.written l.fn.sink) (g.K.Sink.written l.sink) (g.K.Sink.faults l.fn.sink) (g.K.Sink.faults l.sink)
      (IsCopied l.self) (so_far l.dir.lumps l.self l.part-index) (Ok tt);
}
