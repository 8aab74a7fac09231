use Rattle.map_lumps.specs.Builders.{BuilderValue, with_lump}
use Rattle.lump_cache.proofs.SizeLemmas.{beside_earlier, beside_lent}
use Rattle.level_scene.proofs.AddLemmas.{same_bytes, add_done, added_done, fits_done}
use Rattle.level_scene.proofs.lumps.add_lump.Goals as goal

pub returns-clause-tells : goal.returns-clause-tells
returns-clause-tells g c =
    add_done c.args.lump c.args.builder.now _ c.args.number.0 c.live_lump.result.now c.in_ok-fetch_live.ensures.tells (λ contents held. same_bytes _ c.live_lump.result.now _ c.live_lump.ensures.value (c.in_ok-fetch_live.ensures.bytes contents held))
    c.add.result c.add.ensures.size c.map_err.result c.map_err.ensures.cases c.add.ensures.ok

pub returns-clause-added : goal.returns-clause-added
unfolding with_lump
returns-clause-added g c = added_done (λ (b : BuilderValue). b.added) _ _ c.add.result c.map_err.result c.map_err.ensures.cases c.add.ensures.ok

pub returns-clause-fits : goal.returns-clause-fits
returns-clause-fits g c =
    fits_done c.map_err.result
    (beside_earlier c.args.number.0 c.in_ok-fetch_live.ensures.tells.keeps
    (beside_lent c.args.dir.now.lumps c.fetch_live.new.cache c.args.number.0 c.live_lump.result.now c.requires.there c.live_lump.ensures.value c.live_lump.ensures.fits))
