use Rattle.std.proofs.Common.{refl}
use Rattle.art_rules.proofs.Laws.{if_ok}
use Rattle.scene_rules.specs.Words.{level_of, lump_no, map_bytes}
use Rattle.lump_cache.proofs.CallLemmas.{reads_stop_first}
use Rattle.level_scene.proofs.LevelLemmas.{level_of-stop, finish_done}
use Rattle.level_scene.proofs.level.level_behind.Goals as goal

pub add_lumps-requires-clause-lumps : goal.add_lumps-requires-clause-lumps
unfolding lump_no
add_lumps-requires-clause-lumps g c = refl

pub returns-in_err-builder-clause-tells : goal.returns-in_err-builder-clause-tells
returns-in_err-builder-clause-tells g c =
    reads_stop_first (λ bytes. level_of (map_bytes bytes c.args.label.0)) c.add_lumps.result c.in_err-builder.field-0.0 c.from_residual.result c.add_lumps.ensures.tells c.in_err-builder.was c.from_residual.ensures.1
    (λ lump wanted. wanted) (λ bytes refusal. level_of-stop bytes c.args.label.0 refusal)

pub returns-clause-tells : goal.returns-clause-tells
returns-clause-tells g c =
    finish_done c.args.label.0 c.in_ok-builder.builder c.in_ok-builder.ensures.tells c.finish.result c.map_err.result c.map_err.ensures.cases c.finish.ensures.ok c.finish.ensures.refused

pub returns-clause-fits : goal.returns-clause-fits
returns-clause-fits g c = if_ok _ c.map_err.result (λ level. c.in_ok-builder.ensures.fits)
