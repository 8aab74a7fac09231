-- Both parts of a division are smaller.
use Rattle.std.proofs.Common.{◌+◌}
use Rattle.made_rules.specs.Nodes.{width, height}
use Rattle.level_maker.proofs.nodes.+put_nodes.Given as goal

abbrev pub decreases-put_nodes : goal.decreases-put_nodes
decreases-put_nodes l = width l.part + height l.part
