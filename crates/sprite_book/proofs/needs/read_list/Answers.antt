use Rattle.std.proofs.Common.{◌∙◌, refl}
use Rattle.art_rules.specs.Words.{each_of, first_needs, frame_of, OutOfMemory}
use Rattle.lump_cache.proofs.CallLemmas.{reads_memory, reads_same, reads_stop_first, reads_as}
use Rattle.sprite_book.proofs.CallLemmas.{reads_alone, nothing_read}
use Rattle.sprite_book.proofs.needs.read_list.Goals as goal

pub returns-in_err-patches-clause-tells : goal.returns-in_err-patches-clause-tells
returns-in_err-patches-clause-tells g c =
    reads_same c.from_residual.result OutOfMemory (λ bytes. each_of (frame_of bytes c.args.dir.now.lumps) (first_needs c.args.needed.now)) c.from_residual.ensures.1 (reads_memory (g.S.Shelf.view c.args.shelf.now) c.args.dir.now c.args.cache.now OutOfMemory refl)

pub returns-in_err-read_frames-clause-tells : goal.returns-in_err-read_frames-clause-tells
returns-in_err-read_frames-clause-tells g c =
    reads_stop_first (λ bytes. each_of (frame_of bytes c.args.dir.now.lumps) (first_needs c.args.needed.now)) c.read_frames.result _ c.from_residual-in_err-read_frames.result
    (reads_alone (λ bytes. nothing_read bytes c.deref_mut.result.now c.count.result (c.deref_mut.ensures.value ∙ c.in_ok-patches.ensures)) c.read_frames.ensures.tells) c.in_err-read_frames.was c.from_residual-in_err-read_frames.ensures.1
    (λ lump wanted. wanted) (λ bytes refusal is. is)

pub returns-clause-tells : goal.returns-clause-tells
returns-clause-tells g c =
    reads_as tt _ (reads_alone (λ bytes. nothing_read bytes c.deref_mut.result.now c.count.result (c.deref_mut.ensures.value ∙ c.in_ok-patches.ensures)) c.in_ok-read_frames.ensures.tells)
    (λ lump wanted. wanted) (λ bytes is. is)
