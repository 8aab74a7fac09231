use Rattle.std.proofs.Common.{sym, ◌∙◌}
use Rattle.sprite_book.proofs.PictureLemmas.{last_found, same_error, pictures_none, pictures_by}
use Rattle.sprite_book.proofs.pictures.find_pictures.Goals as goal

pub returns-in_err-last : goal.returns-in_err-last
returns-in_err-last c = λ all is.
    same_error c.from_residual.result c.in_err-last.field-0.0 c.from_residual.ensures.1 ∙ pictures_none (all c.args.need.now.sprite) c.args.need.now c.last_mention.result c.in_err-last.field-0.0 (c.last_mention.ensures all is) c.in_err-last.was

pub returns-in_err-fill_pictures : goal.returns-in_err-fill_pictures
returns-in_err-fill_pictures c = λ all is.
    let last = last_found (all c.args.need.now.sprite) c.args.need.now c.in_ok-last.last c.last_mention.result (c.last_mention.ensures all is) c.in_ok-last.was in
    same_error c.from_residual-in_err-fill_pictures.result c.in_err-fill_pictures.field-0.0 c.from_residual-in_err-fill_pictures.ensures.1
    ∙ sym (c.in_err-fill_pictures.ensures all is last)
    ∙ pictures_by (all c.args.need.now.sprite) c.args.need.now c.last_mention.result c.in_ok-last.last (c.last_mention.ensures all is) c.in_ok-last.was

pub returns : goal.returns
returns c = λ all is.
    let last = last_found (all c.args.need.now.sprite) c.args.need.now c.in_ok-last.last c.last_mention.result (c.last_mention.ensures all is) c.in_ok-last.was in
    sym (c.in_ok-fill_pictures.ensures all is last) ∙ pictures_by (all c.args.need.now.sprite) c.args.need.now c.last_mention.result c.in_ok-last.last (c.last_mention.ensures all is) c.in_ok-last.was
