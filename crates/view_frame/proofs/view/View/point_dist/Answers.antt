use Rattle.word_rules.proofs.Common.{rules, to_z-of_z}
use Rattle.view_frame.proofs.BearingLemmas.{abs_word-low}
use Rattle.view_frame.proofs.view.View.point_dist.Goals as goal

pub origin_dist-requires-clause-first : goal.origin_dist-requires-clause-first
origin_dist-requires-clause-first c = search (rules, to_z-of_z, abs_word-low)

pub origin_dist-requires-clause-second : goal.origin_dist-requires-clause-second
origin_dist-requires-clause-second c = search (rules, to_z-of_z, abs_word-low)
