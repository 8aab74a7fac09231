use Rattle.sprite_book.proofs.MentionLemmas.{index_more}
use Rattle.sprite_book.proofs.mentions.add_mention.Goals as goal

pub returns-in_ok-insert-2 : goal.returns-in_ok-insert-2
returns-in_ok-insert-2 c = λ all is. rw c.in-Some.is (index_more c.args.letters c.in-Some.mention c.args.index.now (record { frames = c.insert.new.self; turned = c.insert-in-Some.new.self }) all c.in_ok-insert.ensures.updates c.in_ok-insert-2.ensures.updates is)
