use Rattle.std.proofs.Common.{ap}
use Rattle.sound_scene.specs.Views.{lump_numbers}
use Rattle.wad_trim.proofs.CalledLemmas.{fixed-is}
use Rattle.wad_trim.proofs.parts.fixed_lumps.Goals as goal

pub returns : goal.returns
returns c =
    fixed-is c.args.dir.now.lumps _ _ _ _ _ _ (ap lump_numbers c.new-lumps.ensures.items) c.in_ok-add_last.ensures c.in_ok-add_last-2.ensures c.in_ok-add_last-3.ensures c.in_ok-add_last-4.ensures c.in_ok-add_last-5.ensures
