-- Open windows are in their ranges.
use Rattle.picture_rules.proofs.Common.{pos, replicate, rules, to_z_pos, ◌≡◌}
use Rattle.picture_rules.specs.Words.{FRAME_WIDTH, minus_one}
use Rattle.wall_columns.proofs.PartLemmas.{are_clips-filled}
use Rattle.wall_columns.proofs.windows.Windows.open.Goals as goal

pub invariant_of-self : goal.invariant_of-self
invariant_of-self c =
    let ceilings_filled : c.fill.new.self ≡ replicate FRAME_WIDTH minus_one = search rules in
    let floors_filled : c.fill-2.new.self ≡ replicate FRAME_WIDTH (pos c.args.height) = search (rules, to_z_pos) in
    are_clips-filled c.args.height c.fill.new.self c.fill-2.new.self c.requires ceilings_filled floors_filled
