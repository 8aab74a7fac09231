use Rattle.std.proofs.Common.{arith}
use Rattle.lump_cache.proofs.CallLemmas.{reads_same}
use Rattle.art_rules.specs.Words.{patch_or_bad}
use Rattle.sprite_book.proofs.CallLemmas.{reads_known, reads_of}
use Rattle.sprite_book.proofs.ReadLemmas.{read_before, read_kept}
use Rattle.sprite_book.proofs.read.read_patch.Goals as goal

pub returns-in-Some : goal.returns-in-Some
returns-in-Some g c = reads_known (g.S.Shelf.view c.args.shelf.now) c.args.dir.now c.args.cache.now c.args.patches.now c.in-Some.patch (λ contents told. read_before _ c.args.patches.now c.args.lump c.in-Some.patch told.read c.in-Some.is)

pub returns-in_err-patch : goal.returns-in_err-patch
returns-in_err-patch g c = reads_of c.args.patches.now (reads_same c.from_residual.result _ (λ bytes. patch_or_bad bytes c.args.lump) c.from_residual.ensures.1 c.in_err-patch.ensures)

pub returns : goal.returns
returns g c = read_kept c.args.patches.now c.args.lump c.in_ok-patch.patch (omega arith) c.in_ok-patch.ensures
