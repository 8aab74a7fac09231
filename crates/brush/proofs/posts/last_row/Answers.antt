use Rattle.picture_rules.proofs.Common.{◌<ℤ◌, pos, rules, arith, to_z-of_z}
use Rattle.picture_rules.specs.Words.{post_last}
use Rattle.brush.proofs.PostLemmas.{post_last-high}
use Rattle.brush.proofs.posts.last_row.Goals as goal

pub returns-clause-to : goal.returns-clause-to
unfolding post_last
returns-clause-to c =
    let height_bounded = c.ranges.height in
    let high : post_last c.args.clip c.args.end <ℤ pos c.args.height =
    post_last-high c.args.clip c.args.end c.args.height (omega arith) c.requires.least
    c.requires.greatest in
    search (rules, to_z-of_z, high)
