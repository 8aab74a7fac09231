-- The posts so far are put.
use Rattle.word_rules.proofs.Common.{flat_map, take, ◌++◌, ◌≡◌}
use Rattle.made_rules.specs.Pictures.{post_bytes}
use Rattle.level_maker.proofs.patches.put_posts.Given as goal

abbrev pub invariant-loop-post : goal.invariant-loop-post
invariant-loop-post l = l.lump.items ≡ l.initial.lump.items ++ flat_map (post_bytes l.seed l.x) (take l.post-index l.posts)
