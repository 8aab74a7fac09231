use Rattle.art_rules.specs.Words.{book_of, first_needs, outlines_of}
use Rattle.lump_cache.proofs.CallLemmas.{full_room}
use Rattle.sprite_book.proofs.{CallLemmas.full_weaker, FrameLemmas.book_there}
use Rattle.std.proofs.lemmas.Result.{IfOk-weaker}
use Rattle.sprite_book.proofs.book.SpriteBook.load.Goals as goal

pub returns-clause-answers : goal.returns-clause-answers
unfolding book_of
returns-clause-answers g c = λ contents stand within faithful. c.make_book.ensures.tells.answers contents (record { stand = stand; within = within; faithful = faithful })

pub returns-clause-outlines : goal.returns-clause-outlines
unfolding outlines_of
returns-clause-outlines g c = c.make_book.ensures.outlines

pub returns-clause-full : goal.returns-clause-full
returns-clause-full g c = full_weaker c.make_book.result (λ wanted widest' k. (k.lump, k.asked, k.wanted_is, k.narrow)) c.make_book.ensures.tells.full

pub returns-clause-room : goal.returns-clause-room
returns-clause-room g c = λ colormap size rest. full_weaker c.make_book.result (λ wanted widest' k. full_room k colormap size rest) c.make_book.ensures.tells.full

pub returns-clause-there : goal.returns-clause-there
returns-clause-there g c = IfOk-weaker c.make_book.result _ _ (λ book e. book_there c.args.dir.now.lumps (first_needs c.args.needed.now) book e) c.make_book.ensures.outlines
