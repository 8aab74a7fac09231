use Rattle.std.proofs.Common.{◌≡◌, ◌≤◌, ◌*◌, ◌^◌, take}
use Rattle.trim_rules.specs.Parts.{parts_size}
use Rattle.wad_trim.proofs.refuse.parts_size.Given as goal

-- the bytes of the parts so far
abbrev pub invariant-loop-part : goal.invariant-loop-part
invariant-loop-part l = record {
  size : l.size ≡ parts_size l.dir.lumps (take l.part-index l.parts);
  bound : l.size ≤ 2 ^ 32 * l.part-index;
}
