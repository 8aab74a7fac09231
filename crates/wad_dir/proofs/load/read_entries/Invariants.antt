use Rattle.std.proofs.Common.{◌≡◌, length, All}
use Rattle.lump_rules.specs.Wads.{lumps_in}
use Rattle.wad_dir.proofs.load.read_entries.Given as goal

abbrev pub invariant-loop-index : goal.invariant-loop-index
invariant-loop-index l = record {
  lumps : l.lumps.items ≡ lumps_in l.number l.index l.entries;
  count : length l.lumps.items ≡ l.index;
  owned : All (λ lump. lump.file ≡ l.number) l.lumps.items;
}
