use Rattle.std.proofs.Common.{◌≡◌, ◌+◌, take, Ok}
use Rattle.wad_trim.specs.Rules.{Failed, HEADER_SIZE, Writes, parts_size}
use Rattle.wad_trim.specs.Plans.{entries_from}
use Rattle.wad_trim.proofs.write.put_entries.Given as goal

-- the entries so far
abbrev pub invariant-loop-part : goal.invariant-loop-part
invariant-loop-part g l = record {
  place : l.place ≡ HEADER_SIZE + parts_size l.dir.lumps (take l.part-index l.parts);
  written : Writes {E = Failed} (g.K.Sink.written l.fn.sink) (g.K.Sink.written l.sink) (g.K.Sink.faults l.fn.sink) (g.K.Sink.faults l.sink)
      (entries_from l.dir.lumps HEADER_SIZE (take l.part-index l.parts)) (Ok tt);
}
