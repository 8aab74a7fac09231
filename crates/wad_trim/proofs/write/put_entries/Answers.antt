use Rattle.std.proofs.Common.{◌≤◌, ◌+◌, ℕ, List, Ok, sym, subst, refl, arith}
use Rattle.art_rules.proofs.Laws.{writes_more, writes_none, writes_stopped}
use Rattle.wad_trim.specs.Rules.{Failed, HEADER_SIZE, MAX_FILE_BYTES, Writes, parts_size}
use Rattle.wad_trim.proofs.FileLemmas.{entries-none, entries_behind, entry-left, entry-more, fits-size, size-more, size-none, size-within}
use Rattle.wad_trim.proofs.write.put_entries.Goals as goal

pub loop-part-init : goal.loop-part-init
loop-part-init g c =
    let bytes_written = g.K.Sink.written c.args.sink.now in
    let faults = g.K.Sink.faults c.args.sink.now in
    record {
      place = omega (arith, size-none c.args.dir.now.lumps);
      written = subst (λ (bytes : List ℕ). Writes {E = Failed} bytes_written bytes_written faults faults bytes (Ok tt)) (sym (entries-none c.args.dir.now.lumps HEADER_SIZE)) (writes_none bytes_written faults);
    }

pub returns-in_err-put_entry : goal.returns-in_err-put_entry
returns-in_err-put_entry g c =
    let lumps = c.args.dir.now.lumps in let all_parts = c.args.parts.now in
    let part_no = c.loop-part.part-index in
    writes_stopped c.from_residual.result (entries_behind lumps all_parts part_no c.part-item.result) _ c.loop-part.invariant.written tt refl c.put_entry.ensures _ c.in_err-put_entry.was c.from_residual.ensures.0
    (entry-left lumps all_parts part_no c.part-item.result (omega arith) c.part-item.is c.loop-part.invariant.place
    c.part_size-size.ensures c.part_name.ensures)

pub overflow_add-place : goal.overflow_add-place
overflow_add-place g c =
    let lumps = c.args.dir.now.lumps in
    let all_parts = c.args.parts.now in
    let file_fits : HEADER_SIZE + parts_size lumps all_parts ≤ MAX_FILE_BYTES = fits-size lumps all_parts c.requires.fits in
    omega (arith, c.part_size-size.ensures, file_fits, size-within lumps all_parts c.loop-part.part-index c.part-item.result (omega arith) c.part-item.is, c.loop-part.invariant.place)

pub loop-part-preserved : goal.loop-part-preserved
loop-part-preserved g c =
    let lumps = c.args.dir.now.lumps in let all_parts = c.args.parts.now in let part_no = c.loop-part.part-index in
    record {
      place = omega (
        arith,
        c.part_size-size.ensures,
        size-more lumps all_parts part_no c.part-item.result (omega arith) c.part-item.is,
        c.loop-part.invariant.place,
      );
      written = writes_more _ c.loop-part.invariant.written tt refl c.put_entry.ensures _ c.in_ok-put_entry.was
          (entry-more lumps all_parts part_no c.part-item.result (omega arith) c.part-item.is c.loop-part.invariant.place
          c.part_size-size.ensures c.part_name.ensures);
    }
