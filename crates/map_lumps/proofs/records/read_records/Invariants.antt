use Rattle.std.proofs.Common.{◌≡◌}
use Rattle.map_lumps.specs.Rules.{listed, record_at}
use Rattle.map_lumps.proofs.records.read_records.Given as goal

abbrev pub invariant-loop-n : goal.invariant-loop-n
invariant-loop-n g l = l.records.items ≡ listed (λ n. g.R.MapRecord.record_in (record_at g.R.MapRecord.SIZE l.bytes n)) l.n
