use Rattle.std.proofs.Common.{◌∙◌}
use Rattle.art_rules.specs.Words.{patch_names}
use Rattle.texture_lists.proofs.JudgeLemmas.{pnames_name, fetch_stopped, fetch_judged}
use Rattle.texture_lists.proofs.load.load_names.Goals as goal

pub returns-in_err-lump-clause-tells : goal.returns-in_err-lump-clause-tells
returns-in_err-lump-clause-tells g c = fetch_stopped patch_names (c.from_bytes.ensures ∙ pnames_name) c.fetch_list.result _ c.from_residual.result c.fetch_list.ensures.tells c.in_err-lump.was c.from_residual.ensures.1

pub returns : goal.returns
returns g c =
    let lump_judged = fetch_judged patch_names (c.from_bytes.ensures ∙ pnames_name) c.in_ok-lump.lump _ c.patch_names.result c.in_ok-lump.ensures.tells c.in_ok-lump.ensures.last c.in_ok-lump.ensures.there c.in_ok-lump.ensures.live c.in_ok-lump.ensures.bytes c.live_bytes.ensures.value c.live_bytes.ensures.fits c.patch_names.ensures.answers c.patch_names.ensures.of_bytes in
    record { tells = lump_judged.0; fits = lump_judged.1 }
