use Rattle.std.proofs.Common.{rules, ◌≡◌, ◌∙◌, ap, sym, Some}
use Rattle.zone_rules.specs.Zones.{owner_at}
use Rattle.lump_cache.proofs.TagLemmas.{unless_same_tag}
use Rattle.lump_cache.proofs.tags.retag.Goals as goal

-- the block has the tag already
pub returns-else-ne-clause-zone : goal.returns-else-ne-clause-zone
returns-else-ne-clause-zone g c =
    let tags_same : c.args.current ≡ c.args.tag = search rules in
    sym (unless_same_tag (owner_at g.K.SlotKind.CODE c.args.slot.number) c.args.tag c.args.zone.now c.requires.sound (c.requires.current ∙ ap Some tags_same))
