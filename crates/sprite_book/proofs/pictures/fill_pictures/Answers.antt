use Rattle.std.proofs.Common.{sym, ◌∙◌, arith, take, length}
use Rattle.art_rules.specs.Words.{picture_or_missing}
use Rattle.art_rules.proofs.EachLemmas.{each_of-nil, numbers-push, numbers-stop}
use Rattle.sprite_book.proofs.PictureLemmas.{told_error}
use Rattle.sprite_book.proofs.pictures.fill_pictures.Goals as goal

pub loop-k-init : goal.loop-k-init
loop-k-init c = λ all is last. each_of-nil (picture_or_missing (all c.args.need.now.sprite) c.args.need.now)

pub loop-k-preserved : goal.loop-k-preserved
loop-k-preserved c = λ all is last.
    numbers-push (picture_or_missing (all c.args.need.now.sprite) c.args.need.now) c.loop-k.k c.loop-k.pictures c.in_ok-picture.field-0 (omega arith) (c.loop-k.invariant all is last) (sym (c.picture_at.ensures all is last) ∙ c.in_ok-picture.was)

pub returns-in_err-picture : goal.returns-in_err-picture
returns-in_err-picture c = λ all is last.
    told_error _ c.from_residual.result c.in_err-picture.field-0.0 _ c.from_residual.ensures.1
    (numbers-stop (picture_or_missing (all c.args.need.now.sprite) c.args.need.now) c.loop-k.k (length c.args.pictures.now) (take c.loop-k.k c.loop-k.pictures) c.in_err-picture.field-0.0 (omega arith) (c.loop-k.invariant all is last) (sym (c.picture_at.ensures all is last) ∙ c.in_err-picture.was))
