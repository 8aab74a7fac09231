use Rattle.picture_rules.proofs.Common.{◌≤ℤ◌, pos, rules, to_z-of_z}
use Rattle.picture_rules.specs.Words.{post_first}
use Rattle.brush.proofs.PostLemmas.{post_first-low}
use Rattle.brush.proofs.posts.first_row.Goals as goal

pub returns-clause-from : goal.returns-clause-from
unfolding post_first
returns-clause-from c =
    let low : pos 0 ≤ℤ post_first c.args.clip c.args.begin =
    post_first-low c.args.clip c.args.begin c.requires.least c.requires.greatest in
    search (rules, to_z-of_z, low)
