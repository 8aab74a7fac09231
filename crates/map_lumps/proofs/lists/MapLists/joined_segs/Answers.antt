use Rattle.level_rules.proofs.maps.JoinLemmas.{records_refusal-none}
use Rattle.map_lumps.specs.Views.{listed_records}
use Rattle.map_lumps.proofs.lists.MapLists.joined_segs.Goals as goal

pub join_segs-requires-clause-lines : goal.join_segs-requires-clause-lines
join_segs-requires-clause-lines c =
    let records_right = records_refusal-none (listed_records c.self.inside) (rw (c.self.view_is) c.requires) in cc

pub join_segs-requires-clause-segs : goal.join_segs-requires-clause-segs
join_segs-requires-clause-segs c =
    let records_right = records_refusal-none (listed_records c.self.inside) (rw (c.self.view_is) c.requires) in cc
