-- What a status says by itself.
use Rattle.std.specs.Prelude.{ℕ, List}
use Rattle.art_rules.specs.Words.{Fault, Grew, GrewByPrefix}
use Rattle.art_rules.specs.Fault.TheVariants as fault
use Rattle.refusals.specs.declared.refusal.Refusal.{Refusal}
use Rattle.job_files.specs.declared.status.Status.{Status}
use Rattle.job_files.specs.declared.status.Status.TheVariants.{Done, Usage, Refused, ReadFault, WriteFault, Limit, ZoneFull, OutOfMemory}

-- the status of a fault
abbrev pub status_of : Fault Refusal → Status
status_of (fault.Refused refusal) = Refused refusal
status_of fault.ReadFault = ReadFault
status_of (fault.ZoneFull wanted widest) = ZoneFull wanted widest
status_of fault.OutOfMemory = OutOfMemory

-- the number with which the program ends
abbrev pub code_of : Status → ℕ
code_of Done = 0
code_of Usage = 1
code_of (Refused refusal) = 2
code_of ReadFault = 3
code_of WriteFault = 4
code_of (Limit view kind count) = 5
code_of (ZoneFull wanted widest) = 6
code_of OutOfMemory = 7

-- what was written of bytes, by the status that their delivery gives
abbrev pub DeliversBytes : List ℕ → (List ℕ → Type 0) → (List ℕ → Type 0) → Status → Type 0
DeliversBytes bytes old new Done = Grew old new bytes
DeliversBytes bytes old new Usage = ⊥
DeliversBytes bytes old new (Refused refusal) = ⊥
DeliversBytes bytes old new ReadFault = ⊥
DeliversBytes bytes old new WriteFault = GrewByPrefix old new bytes
DeliversBytes bytes old new (Limit view kind count) = ⊥
DeliversBytes bytes old new (ZoneFull wanted widest) = ⊥
DeliversBytes bytes old new OutOfMemory = ⊥
