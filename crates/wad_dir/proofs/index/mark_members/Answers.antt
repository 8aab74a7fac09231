use Rattle.word_rules.proofs.Common.{[], ap, arith, length, length-append, refl, slice_get, slice_get_read, Some, ◌∷◌, ◌≡◌}
use Rattle.wad_dir.proofs.MemberLemmas.{member_step, grouped_step}
use Rattle.wad_dir.proofs.index.mark_members.Goals as goal

pub loop-lump-preserved : goal.loop-lump-preserved
loop-lump-preserved c =
    let lump_is : slice_get c.args.lumps.now c.loop-lump.lump-index ≡ Some c.lump-item.result = slice_get_read c.args.lumps.now _ c.loop-lump.lump-index c.lump-item.result refl (omega arith) c.lump-item.is in
    record {
      marks = member_step c.args.group c.args.lumps.now c.loop-lump.lump-index c.lump-item.result c.loop-lump.grouped c.loop-lump.marks.items _ c.is_inside.result lump_is
          (rw (← c.is_end-ends.ensures) c.is_inside.ensures) (c.loop-lump.invariant.grouped _) c.in_ok-push.ensures.items c.loop-lump.invariant.marks;
      count = omega (arith, ap length c.in_ok-push.ensures.items, length-append c.loop-lump.marks.items (c.is_inside.result ∷ []));
      grouped = λ file. grouped_step c.args.group c.args.lumps.now c.loop-lump.lump-index file c.lump-item.result c.loop-lump.grouped _ lump_is
          (rw (← c.is_start-starts.ensures, ← c.is_end-ends.ensures) c.next_grouped-grouped.ensures) (c.loop-lump.invariant.grouped file);
    }
