use Rattle.std.proofs.Common.{sym, ap, ◌∙◌}
use Rattle.node_walk.specs.Ranges.{columns_of}
use Rattle.node_walk.proofs.RangeLemmas.{columns_of-none}
use Rattle.node_walk.proofs.cover.Cover.new.Goals as goal

pub returns : goal.returns
returns c = ap (columns_of c.args.width) c.new.ensures ∙ sym (columns_of-none c.args.width)
