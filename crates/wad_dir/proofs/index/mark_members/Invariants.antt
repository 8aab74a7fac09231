use Rattle.std.proofs.Common.{◌≡◌, ℕ, length}
use Rattle.wad_dir.specs.Rules.{is_member, listed, mark_before, starts_in}
use Rattle.wad_dir.specs.Indexes.{is_grouped}
use Rattle.wad_dir.proofs.index.mark_members.Given as goal

abbrev pub invariant-loop-lump : goal.invariant-loop-lump
invariant-loop-lump l = record {
  marks : l.marks.items ≡ listed (is_member l.group l.lumps) l.lump-index;
  count : length l.marks.items ≡ l.lump-index;
  grouped : (file : ℕ) → is_grouped l.grouped file ≡ starts_in l.group l.lumps file (mark_before l.group l.lumps l.lump-index);
}
