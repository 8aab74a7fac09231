use Rattle.std.proofs.Common.{sym, ap, ◌∙◌, ◌++◌, arith, map, get_or}
use Rattle.art_rules.specs.declared.shapes.Shape.{Shape}
use Rattle.sprite_book.proofs.ListLemmas.{lumps_none, lumps_more, no_frame}
use Rattle.sprite_book.proofs.list.shape_numbers.Goals as goal

pub loop-frame-init : goal.loop-frame-init
loop-frame-init c = c.new-numbers.ensures.items ∙ sym lumps_none

pub loop-frame-preserved : goal.loop-frame-preserved
loop-frame-preserved c =
    c.in_ok-add_numbers.ensures
    ∙ ap (λ v. v ++ map (λ (shape : Shape). shape.lump.0) (get_or c.args.frames.now c.loop-frame.frame-index no_frame).shapes) c.loop-frame.invariant
    ∙ sym (lumps_more c.args.frames.now c.loop-frame.frame-index no_frame (omega arith))
