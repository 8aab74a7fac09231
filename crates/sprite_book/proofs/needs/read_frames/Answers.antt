use Rattle.art_rules.proofs.Common.{[], ap, arith, get_or, length, List, map, map-append, Ok, subst, sym, take, ◌++◌, ◌+◌, ◌<◌, ◌∙◌, ◌∷◌, ◌≡◌}
use Rattle.sprite_book.specs.Rules.{Frame, Need, OutOfMemory, each_of, first_needs, frame_of, outline, outline_of}
use Rattle.sprite_book.specs.Calls.{Reads, IsWanted}
use Rattle.sprite_book.proofs.CallLemmas.{reads_known, reads_more, reads_stop, reads_same, reads_short}
use Rattle.sprite_book.proofs.NeedLemmas.{needs_none, need_same, need_push, need_stop, need_asked, wanted_need, frame_absent}
use Rattle.sprite_book.proofs.needs.read_frames.Goals as goal

abbrev no_need : Need
no_need = record { thing = 0; sprite = []; frame = 0 }

pub loop-need-init : goal.loop-need-init
loop-need-init g c = record {
  tells = reads_known (g.S.Shelf.view c.args.shelf.now) c.args.dir.now c.args.cache.now c.args.patches.now tt (λ contents told. needs_none (frame_of _ c.args.dir.now.lumps) ∙ ap Ok (sym c.requires.empty));
  outlines = needs_none (outline_of c.args.dir.now.lumps) ∙ ap (λ v. Ok (map outline v)) (sym c.requires.empty);
  placed = c.requires.placed;
}

pub loop-need-preserved-then-has : goal.loop-need-preserved-then-has
loop-need-preserved-then-has g c =
    let needs_same = need_same c.args.needed.now c.loop-need.need-index no_need (omega arith) (need_asked _ _ _ (get_or c.args.needed.now c.loop-need.need-index no_need) c.loop-need.invariant.outlines c.has.ensures c.if-has.true) in
    record {
      tells = subst (λ ns. Reads (g.S.Shelf.view c.args.shelf.now) (g.S.Shelf.view c.loop-need.shelf) c.args.dir.now c.args.cache.now c.loop-need.cache c.args.patches.now c.loop-need.patches (IsWanted c.args.dir.now.lumps c.args.needed.now) (λ (_ : Unit {0}). c.loop-need.list.frames.items) (λ bytes. each_of (frame_of bytes c.args.dir.now.lumps) ns) (Ok tt)) needs_same c.loop-need.invariant.tells;
      outlines = subst (λ ns. each_of (outline_of c.args.dir.now.lumps) ns ≡ Ok (map outline c.loop-need.list.frames.items)) needs_same c.loop-need.invariant.outlines;
      placed = c.loop-need.invariant.placed;
    }

pub add-requires-clause-absent : goal.add-requires-clause-absent
add-requires-clause-absent g c = frame_absent c.args.dir.now.lumps (get_or c.args.needed.now c.loop-need.need-index no_need) c.in_ok-frame.frame c.loop-need.list.frames.items c.has.result c.in_ok-frame.ensures.outline c.has.ensures c.if-has.false

pub loop-need-preserved : goal.loop-need-preserved
loop-need-preserved g c =
    let empty_need = no_need in let place = c.loop-need.need-index in
    let needed = c.args.needed.now in
    let frames = c.loop-need.list.frames.items in
    let lumps = c.args.dir.now.lumps in
    let place_below_needs : place < length needed = omega arith in
    let new = need_asked lumps (take place needed) frames (get_or needed place empty_need) c.loop-need.invariant.outlines c.has.ensures c.if-has.false in
    record {
      tells = reads_more (λ bytes. each_of (frame_of bytes lumps) (first_needs (take (place + 1) needed))) c.in_ok-frame.frame tt c.loop-need.invariant.tells c.read_frame.result c.read_frame.ensures.tells c.in_ok-frame.was (wanted_need needed place empty_need place_below_needs)
          (λ bytes one two. need_push (frame_of bytes lumps) needed place empty_need frames c.in_ok-frame.frame place_below_needs new one two
          ∙ ap Ok (sym c.in_ok-add.ensures.frames));
      outlines = need_push (outline_of lumps) needed place empty_need (map outline frames) (outline c.in_ok-frame.frame) place_below_needs new c.loop-need.invariant.outlines c.in_ok-frame.ensures.outline
          ∙ ap Ok (sym (ap (map outline) c.in_ok-add.ensures.frames ∙ map-append outline frames (c.in_ok-frame.frame ∷ [])));
      placed = c.in_ok-add.ensures.placed;
    }

pub returns-in_err-frame-clause-tells : goal.returns-in_err-frame-clause-tells
returns-in_err-frame-clause-tells g c =
    let place = c.loop-need.need-index in
    let needed = c.args.needed.now in
    let place_below_needs : place < length needed = omega arith in
    reads_same c.from_residual.result c.in_err-frame.field-0.0 _ c.from_residual.ensures.1
    (reads_stop _ c.in_err-frame.field-0.0 c.loop-need.invariant.tells c.read_frame.result c.read_frame.ensures.tells c.in_err-frame.was (wanted_need needed place no_need place_below_needs)
    (λ bytes e. need_stop (frame_of bytes c.args.dir.now.lumps) needed place no_need c.loop-need.list.frames.items e place_below_needs (need_asked _ _ _ (get_or needed place no_need) c.loop-need.invariant.outlines c.has.ensures c.if-has.false)))

pub returns-in_err-add-clause-tells : goal.returns-in_err-add-clause-tells
returns-in_err-add-clause-tells g c =
    let place = c.loop-need.need-index in
    let needed = c.args.needed.now in
    let lumps = c.args.dir.now.lumps in
    let frames = c.loop-need.list.frames.items in
    let place_below_needs : place < length needed = omega arith in
    let value : Unit {0} → List Frame = λ done. frames ++ c.in_ok-frame.frame ∷ [] in
    let reads_with_frame = reads_more {wants = IsWanted lumps needed} {value = value} (λ bytes. each_of (frame_of bytes lumps) (first_needs (take (place + 1) needed))) c.in_ok-frame.frame tt c.loop-need.invariant.tells c.read_frame.result c.read_frame.ensures.tells c.in_ok-frame.was (wanted_need needed place no_need place_below_needs)
    (λ bytes. need_push (frame_of bytes lumps) needed place no_need frames c.in_ok-frame.frame place_below_needs (need_asked _ _ _ (get_or needed place no_need) c.loop-need.invariant.outlines c.has.ensures c.if-has.false)) in
    reads_same c.from_residual-in_err-add.result OutOfMemory _ c.from_residual-in_err-add.ensures.1 (reads_short reads_with_frame)
