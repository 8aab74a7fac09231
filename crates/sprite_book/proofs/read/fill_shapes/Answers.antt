use Rattle.art_rules.proofs.Common.{arith, Contains-get_or, false, length, refl, sym, take, ◌+◌, ◌<◌}
use Rattle.sprite_book.specs.Rules.{Mention, each_of, shape_of}
use Rattle.sprite_book.proofs.CallLemmas.{reads_known, reads_more, reads_stop, reads_same}
use Rattle.art_rules.proofs.EachLemmas.{each_of-nil}
use Rattle.sprite_book.proofs.FrameLemmas.{shapes_push, shapes_stop, outlines_push}
use Rattle.sprite_book.proofs.read.fill_shapes.Goals as goal

abbrev no_mention : Mention
no_mention = record { lump = 0; frame = 0; rotation = 0; flip = false }

pub loop-k-init : goal.loop-k-init
loop-k-init g c = record {
  tells = reads_known (g.S.Shelf.view c.args.shelf.now) c.args.dir.now c.args.cache.now c.args.patches.now tt (λ contents told. each_of-nil (shape_of _));
  outlines = refl;
}

pub loop-k-preserved : goal.loop-k-preserved
loop-k-preserved g c =
    let index_below_shapes : c.loop-k.k < length c.loop-k.shapes = omega arith in
    record {
      tells = reads_more (λ bytes. each_of (shape_of bytes) (take (c.loop-k.k + 1) c.args.pictures.now)) c.in_ok-patch.patch tt c.loop-k.invariant.tells c.read_patch.result c.read_patch.ensures c.in_ok-patch.was
          (λ lump e. (_, Contains-get_or c.args.pictures.now c.loop-k.k no_mention (omega arith), sym e))
          (λ bytes one two. shapes_push bytes c.args.pictures.now c.loop-k.shapes c.loop-k.k no_mention c.in_ok-patch.patch c.shape_in.result (omega arith) index_below_shapes c.shape_in.ensures one two);
      outlines = outlines_push c.args.pictures.now c.loop-k.shapes c.loop-k.k no_mention c.in_ok-patch.patch c.shape_in.result (omega arith) index_below_shapes c.shape_in.ensures c.loop-k.invariant.outlines;
    }

pub returns-in_err-patch-clause-tells : goal.returns-in_err-patch-clause-tells
returns-in_err-patch-clause-tells g c =
    reads_same c.from_residual.result c.in_err-patch.field-0.0 (λ bytes. each_of (shape_of bytes) c.args.pictures.now) c.from_residual.ensures.1
    (reads_stop (λ bytes. each_of (shape_of bytes) c.args.pictures.now) c.in_err-patch.field-0.0 c.loop-k.invariant.tells c.read_patch.result c.read_patch.ensures c.in_err-patch.was
    (λ lump e. (_, Contains-get_or c.args.pictures.now c.loop-k.k no_mention (omega arith), sym e))
    (λ bytes e one two. shapes_stop bytes c.args.pictures.now (take c.loop-k.k c.loop-k.shapes) c.loop-k.k no_mention e (omega arith) one two))
