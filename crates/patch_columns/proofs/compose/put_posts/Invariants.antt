use Rattle.std.proofs.Common.{◌≡◌, ◌-◌, length}
use Rattle.patch_columns.specs.Composites.{posts_at, with_posts}
use Rattle.patch_columns.proofs.compose.put_posts.Given as goal

-- what is left to put on what was put is the whole
abbrev pub invariant-loop-post : goal.invariant-loop-post
invariant-loop-post l =
    with_posts l.column (posts_at l.lump l.place l.y) ≡ with_posts l.initial.column (posts_at l.lump l.initial.place l.y)

abbrev pub decreases-loop-post : goal.decreases-loop-post
decreases-loop-post l = length l.lump - l.place
