use Rattle.word_rules.proofs.Common.{rules, to_z-of_z}
use Rattle.view_frame.proofs.BearingLemmas.{lesser_word-low, lesser_word-greater_word}
use Rattle.view_frame.proofs.bearings.origin_dist.Goals as goal

pub sorted_dist-requires-clause-least : goal.sorted_dist-requires-clause-least
sorted_dist-requires-clause-least c = search (rules, to_z-of_z, lesser_word-low)

pub sorted_dist-requires-clause-order : goal.sorted_dist-requires-clause-order
sorted_dist-requires-clause-order c = search (rules, to_z-of_z, lesser_word-greater_word)
