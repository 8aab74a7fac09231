use Rattle.std.proofs.Common.{ap, length, ◌∙◌}
use Rattle.lump_rules.specs.declared.names.Group.TheVariants.{Sprites}
use Rattle.wad_dir.proofs.MemberLemmas.{members_marked, numbers_alike}
use Rattle.wad_dir.proofs.index.list_sprites.Goals as goal

pub returns : goal.returns
returns c = numbers_alike _ _ _ (members_marked Sprites _ c.args.lumps.now (ap length c.deref.ensures.value ∙ c.in_ok-marked.ensures.count) (c.deref.ensures.value ∙ c.in_ok-marked.ensures.marks)) c.list_marked.ensures
