use Rattle.std.proofs.Common.{◌≡◌, arith, ap, length, length-append, ◌∷◌, []}
use Rattle.lump_rules.specs.declared.wad.Lump.{Lump}
use Rattle.wad_dir.proofs.EntryLemmas.{more_lumps, all_more, no_lumps, all_none}
use Rattle.wad_dir.proofs.load.read_entries.Goals as goal

pub loop-index-init : goal.loop-index-init
loop-index-init c = record {
  lumps = no_lumps c.args.number c.args.entries.now _ c.new-lumps.ensures.items;
  count = ap length c.new-lumps.ensures.items;
  owned = all_none (λ (lump : Lump). lump.file ≡ c.args.number) _ c.new-lumps.ensures.items;
}

pub loop-index-preserved : goal.loop-index-preserved
loop-index-preserved c = record {
  lumps = more_lumps c.args.number c.loop-index.index _ c.args.entries.now _ _ _ c.in_ok-push.ensures.items c.read_entry.ensures (omega arith) c.loop-index.invariant.lumps;
  count = omega (arith, ap length c.in_ok-push.ensures.items, length-append c.loop-index.lumps.items (c.read_entry.result ∷ []));
  owned = all_more (λ (lump : Lump). lump.file ≡ c.args.number) c.loop-index.lumps.items _ c.read_entry.result c.in_ok-push.ensures.items (ap (λ (lump : Lump). lump.file) c.read_entry.ensures) c.loop-index.invariant.owned;
}
