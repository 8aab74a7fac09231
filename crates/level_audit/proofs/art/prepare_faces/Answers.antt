use Rattle.art_rules.proofs.Common.{ap, on_ok_weaker, option_map, ◌∙◌}
use Rattle.art_rules.proofs.Laws.{done_through}
use Rattle.texture_build.specs.{TexNo.TexNo, Views.is_wanted}
use Rattle.level_audit.specs.Rules.{Texture}
use Rattle.level_audit.proofs.ArtLemmas.{sides_prepared, sky_prepared, textures_wanted}
use Rattle.level_audit.proofs.PartLemmas.{above_reads}
use Rattle.level_audit.proofs.art.prepare_faces.Goals as goal

pub returns-clause-tells : goal.returns-clause-tells
returns-clause-tells g c =
    above_reads Texture c.prepare.result c.map_err.result c.map_err.ensures.cases
    (textures_wanted c.args.textures.now.lists c.args.sides.now (option_map (λ (tex : TexNo). tex.0) c.args.sky) c.deref.result.now c.prepare.result
    (λ number. ap (λ wanted. is_wanted wanted number) c.deref.ensures.value ∙ c.in_ok-wanted.ensures.wanted number) c.prepare.ensures.tells)

pub returns-clause-sides : goal.returns-clause-sides
returns-clause-sides g c =
    done_through _ _ c.prepare.result c.map_err.result c.map_err.ensures.cases
    (on_ok_weaker c.prepare.result (sides_prepared c.prepare.new.self c.args.sides.now (option_map (λ (tex : TexNo). tex.0) c.args.sky) c.deref.result.now
    (λ number. ap (λ wanted. is_wanted wanted number) c.deref.ensures.value ∙ c.in_ok-wanted.ensures.wanted number)) c.prepare.ensures.wanted)

pub returns-clause-sky : goal.returns-clause-sky
returns-clause-sky g c =
    done_through _ _ c.prepare.result c.map_err.result c.map_err.ensures.cases
    (on_ok_weaker c.prepare.result (sky_prepared c.prepare.new.self c.args.sides.now (option_map (λ (tex : TexNo). tex.0) c.args.sky) c.deref.result.now
    (λ number. ap (λ wanted. is_wanted wanted number) c.deref.ensures.value ∙ c.in_ok-wanted.ensures.wanted number)) c.prepare.ensures.wanted)
