use Rattle.std.proofs.Common.{◌≡◌, ◌∙◌, length, ap}
use Rattle.level_rules.proofs.maps.JoinLemmas.{length-joined_segs, records_refusal-none}
use Rattle.map_lumps.specs.Views.{listed_records}
use Rattle.map_lumps.proofs.lists.MapLists.joined_leaves.Goals as goal

pub join_leaves-requires : goal.join_leaves-requires
join_leaves-requires c =
    let records_right = records_refusal-none (listed_records c.self.inside) (rw (c.self.view_is) c.requires.right) in
    let segs_as_many : length c.args.segs.now ≡ length c.self.inside.segs.items = ap length (rw (c.self.view_is) c.requires.segs) ∙ length-joined_segs (listed_records c.self.inside) in
    cc
