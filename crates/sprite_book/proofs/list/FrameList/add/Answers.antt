use Rattle.std.proofs.Common.{◌≡◌, length, vec_len, subst, sym, ◌∙◌, rules}
use Rattle.sprite_book.specs.Indexes.{IsPlaceOf}
use Rattle.sprite_book.proofs.ListLemmas.{place_more}
use Rattle.sprite_book.proofs.list.FrameList.add.Goals as goal

pub returns-clause-placed : goal.returns-clause-placed
returns-clause-placed c =
    let frames_length : vec_len c.args.self.now.frames ≡ length c.args.self.now.frames.items = search rules in
    subst (IsPlaceOf c.insert.new.self) (sym c.in_ok-push.ensures.items) (place_more c.args.self.now.frames.items c.args.frame c.len-place.result c.args.self.now.index c.insert.new.self c.in_ok-insert.ensures.updates (c.len-place.ensures ∙ frames_length) c.requires.placed c.requires.absent)
