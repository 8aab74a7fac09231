use Rattle.std.proofs.Common.{ℕ, List, [], ◌++◌, ap, sym, ◌∙◌, append-nil, length, arith}
use Rattle.texture_build.proofs.FetchLemmas.{fetch_reads}
use Rattle.wad_trim.specs.Rules.{HEADER_SIZE, TrimPart, lump_bytes, trimmed_file}
use Rattle.wad_trim.specs.{Plans.entries_from, Writes.IsCopied}
use Rattle.wad_trim.proofs.CopyLemmas.{copied-none, fetch-failed, piece-failed, piece-put}
use Rattle.wad_trim.proofs.FileLemmas.{bytes_by, file-begun, file-ended, head_of, so_far}
use Rattle.wad_trim.proofs.WriteLemmas.{lumps-none, put-done, put-stopped}
use Rattle.wad_trim.proofs.plan.TrimPlan.write.Goals as goal

pub returns-in_err-put_header : goal.returns-in_err-put_header
returns-in_err-put_header g c =
    let lumps = c.args.dir.now.lumps in let plan_parts = c.args.self.now in
    put-stopped c.from_residual.result (λ bytes. bytes_by bytes plan_parts ++ entries_from lumps HEADER_SIZE plan_parts)
    (λ bytes. trimmed_file bytes lumps plan_parts)
    (lumps-none (g.S.Shelf.view c.args.shelf.now) c.args.dir.now c.args.cache.now (g.K.Sink.written c.args.sink.now) (g.K.Sink.faults c.args.sink.now) (IsCopied plan_parts))
    c.put_header.ensures c.in_err-put_header.field-0.0 c.in_err-put_header.was c.from_residual.ensures.1
    (λ contents hold. ap (λ (ps : List TrimPart). head_of lumps ps ++ (bytes_by (lump_bytes contents lumps) plan_parts ++ entries_from lumps HEADER_SIZE plan_parts)) (c.deref-parts.ensures.value ∙ c.self.view_is)
    ∙ file-begun contents lumps hold.within plan_parts c.requires.there)

pub loop-part-init : goal.loop-part-init
loop-part-init g c =
    let lumps = c.args.dir.now.lumps in let plan_parts = c.args.self.now in
    record {
      slots = c.requires.slots;
      written =
          put-done (so_far lumps plan_parts 0)
          (lumps-none (g.S.Shelf.view c.args.shelf.now) c.args.dir.now c.args.cache.now (g.K.Sink.written c.args.sink.now) (g.K.Sink.faults c.args.sink.now) (IsCopied plan_parts))
          c.put_header.ensures c.in_ok-put_header.field-0 c.in_ok-put_header.was
          (λ contents hold. ap (head_of lumps) (c.deref-parts.ensures.value ∙ c.self.view_is) ∙ sym (append-nil (head_of lumps plan_parts)));
    }

pub loop-part-preserved-in_default : goal.loop-part-preserved-in_default
loop-part-preserved-in_default g c = record {
  slots = c.loop-part.invariant.slots;
  written = copied-none c.loop-part.part-index c.part-item.result (c.deref-parts.ensures.value ∙ c.self.view_is) (omega arith) c.part-item.is c.loop-part.invariant.written c.in_default.not-Copy;
}

pub returns-in_err-fetch : goal.returns-in_err-fetch
returns-in_err-fetch g c =
    fetch-failed c.loop-part.part-index c.part-item.result (c.deref-parts.ensures.value ∙ c.self.view_is) (omega arith) c.part-item.is c.loop-part.invariant.written
    c.in-Copy.lump c.in-Copy.is c.requires.there (fetch_reads c.fetch.ensures.fetches)
    c.from_residual-in_err-fetch.result c.in_err-fetch.field-0.0 c.in_err-fetch.was c.from_residual-in_err-fetch.ensures.1

pub returns-in_err-put : goal.returns-in_err-put
returns-in_err-put g c =
    piece-failed c.loop-part.part-index c.part-item.result (c.deref-parts.ensures.value ∙ c.self.view_is) (omega arith) c.part-item.is c.loop-part.invariant.written
    c.in-Copy.lump c.in-Copy.is c.requires.there (fetch_reads c.fetch.ensures.fetches) c.in_ok-fetch.field-0 c.in_ok-fetch.was c.in_ok-fetch.ensures.live c.live_lump.ensures.value c.put.ensures
    c.from_residual-in_err-put.result c.in_err-put.field-0.0 c.in_err-put.was c.from_residual-in_err-put.ensures.1

pub loop-part-preserved : goal.loop-part-preserved
loop-part-preserved g c = record {
  slots = omega (arith, c.loop-part.invariant.slots, c.fetch.ensures.counts.1);
  written =
      piece-put c.loop-part.part-index c.part-item.result (c.deref-parts.ensures.value ∙ c.self.view_is) (omega arith) c.part-item.is c.loop-part.invariant.written
      c.in-Copy.lump c.in-Copy.is c.requires.there (fetch_reads c.fetch.ensures.fetches) c.in_ok-fetch.field-0 c.in_ok-fetch.was c.in_ok-fetch.ensures.live c.live_lump.ensures.value c.put.ensures
      c.in_ok-put.field-0 c.in_ok-put.was;
}

pub returns-in_err-put_entries : goal.returns-in_err-put_entries
returns-in_err-put_entries g c =
    let lumps = c.args.dir.now.lumps in let plan_parts = c.args.self.now in
    let part_no = c.loop-part.part-index in
    let parts_same = c.deref-parts.ensures.value ∙ c.self.view_is in
    put-stopped c.from_residual-in_err-put_entries.result (λ bytes. []) (λ bytes. trimmed_file bytes lumps plan_parts)
    c.loop-part.invariant.written c.put_entries.ensures c.in_err-put_entries.field-0.0 c.in_err-put_entries.was c.from_residual-in_err-put_entries.ensures.1
    (λ contents hold. ap (λ (v : List ℕ). so_far lumps plan_parts part_no (lump_bytes contents lumps) ++ v)
    (append-nil _ ∙ ap (entries_from lumps HEADER_SIZE) parts_same)
    ∙ file-ended contents lumps hold.within plan_parts part_no (omega (arith, ap length parts_same)) c.requires.there)

pub returns : goal.returns
returns g c =
    let lumps = c.args.dir.now.lumps in
    let plan_parts = c.args.self.now in
    let part_no = c.loop-part.part-index in
    let parts_same = c.deref-parts.ensures.value ∙ c.self.view_is in
    put-done (λ bytes. trimmed_file bytes lumps plan_parts) c.loop-part.invariant.written
    c.put_entries.ensures c.in_ok-put_entries.field-0 c.in_ok-put_entries.was
    (λ contents hold. ap (λ (ps : List TrimPart). so_far lumps plan_parts part_no (lump_bytes contents lumps) ++ entries_from lumps HEADER_SIZE ps) parts_same
    ∙ file-ended contents lumps hold.within plan_parts part_no (omega (arith, ap length parts_same)) c.requires.there)
