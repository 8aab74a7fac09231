use Rattle.texture_build.specs.Rules.{MissingPatch, itself, lump_bytes}
use Rattle.std.proofs.Common.{ap}
use Rattle.lump_cache.proofs.CallLemmas.{reads_told, reads_then_refused}
use Rattle.texture_build.proofs.PlaceLemmas.{lump_placed, step_made, step_missing}
use Rattle.texture_build.proofs.place.place_lump.Goals as goal

pub returns-in-Some-clause-lump : goal.returns-in-Some-clause-lump
returns-in-Some-clause-lump g c = lump_placed c.args.entry.now c.args.lump.0 _ c.place_live.result c.in-Some.patch c.place_live.ensures.value c.in-Some.is

pub returns-in-Some-clause-tells : goal.returns-in-Some-clause-tells
returns-in-Some-clause-tells g c =
    reads_told c.in_ok-fetch_live.field-0 c.in-Some.patch c.in_ok-fetch_live.ensures.tells (λ lump s. s)
    (λ contents told. step_made (lump_bytes contents c.args.dir.now.lumps) c.args.tex.0 c.args.entry.now c.args.lump.0 _ c.args.columns.now c.place_live.new.columns c.place_live.result c.in-Some.patch
    (c.in_ok-fetch_live.ensures.bytes contents told) c.place_live.ensures.value c.place_live.ensures.columns c.in-Some.is)

pub returns-in-None-clause-tells : goal.returns-in-None-clause-tells
returns-in-None-clause-tells g c =
    reads_then_refused c.missing_patch.result (MissingPatch c.args.tex.0) (ap itself c.missing_patch.ensures) (λ lump s. s)
    c.in_ok-fetch_live.ensures.tells
    (λ contents told done. step_missing (lump_bytes contents c.args.dir.now.lumps) c.args.tex.0 c.args.entry.now c.args.lump.0 _ c.args.columns.now c.place_live.result
    (c.in_ok-fetch_live.ensures.bytes contents told) c.place_live.ensures.value c.in-None.is)
