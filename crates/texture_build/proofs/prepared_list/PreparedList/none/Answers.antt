use Rattle.std.proofs.Common.{ap, map, sym, ◌∙◌}
use Rattle.art_rules.specs.Words.{LumpNo, MAX_LUMPS, patch_lumps}
use Rattle.texture_build.proofs.MarkLemmas.{lumps_none}
use Rattle.texture_build.proofs.prepared_list.PreparedList.none.Goals as goal

pub invariant_of-result : goal.invariant_of-result
invariant_of-result c = ap (map (λ (lump : LumpNo). lump.0)) c.new-2.ensures.items ∙ lumps_none MAX_LUMPS ∙ ap (λ textures. patch_lumps textures MAX_LUMPS) (sym c.new.ensures.items)
