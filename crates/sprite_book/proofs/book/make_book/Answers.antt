use Rattle.std.proofs.Common.{Ok, sym, ap, ◌∙◌, refl}
use Rattle.art_rules.specs.Words.{each_of, first_needs, frame_of, OutOfMemory}
use Rattle.lump_cache.proofs.CallLemmas.{reads_memory, reads_same, reads_short, reads_stop_first, reads_as}
use Rattle.sprite_book.proofs.book.make_book.Goals as goal

pub returns-in_err-index-clause-tells : goal.returns-in_err-index-clause-tells
returns-in_err-index-clause-tells g c =
    reads_same c.from_residual.result OutOfMemory (λ bytes. each_of (frame_of bytes c.args.dir.now.lumps) (first_needs c.args.needed.now)) c.from_residual.ensures.1 (reads_memory (g.S.Shelf.view c.args.shelf.now) c.args.dir.now c.args.cache.now OutOfMemory refl)

pub returns-in_err-list-clause-tells : goal.returns-in_err-list-clause-tells
returns-in_err-list-clause-tells g c =
    reads_stop_first (λ bytes. each_of (frame_of bytes c.args.dir.now.lumps) (first_needs c.args.needed.now)) c.read_list.result _ c.from_residual-in_err-list.result c.read_list.ensures.tells c.in_err-list.was c.from_residual-in_err-list.ensures.1
    (λ lump wanted. wanted) (λ bytes refusal is. is)

pub returns-in_err-bind-clause-tells : goal.returns-in_err-bind-clause-tells
returns-in_err-bind-clause-tells g c =
    reads_same c.from_residual-in_err-bind.result OutOfMemory (λ bytes. each_of (frame_of bytes c.args.dir.now.lumps) (first_needs c.args.needed.now)) c.from_residual-in_err-bind.ensures.1
    (reads_short OutOfMemory refl (λ lump wanted. wanted) c.in_ok-list.ensures.tells)

pub returns-clause-tells : goal.returns-clause-tells
returns-clause-tells g c = reads_as c.in_ok-list.list _ c.in_ok-list.ensures.tells (λ lump wanted. wanted) (λ bytes is. is ∙ ap Ok (sym c.in_ok-bind.ensures))
