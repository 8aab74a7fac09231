use Rattle.std.proofs.Common.{◌∙◌}
use Rattle.texture_lists.specs.Parts.{second_part}
use Rattle.texture_lists.proofs.JudgeLemmas.{texture2_name, fetch_stopped, fetch_judged}
use Rattle.texture_lists.proofs.load.load_second.Goals as goal

pub returns-in_err-lump-clause-tells : goal.returns-in_err-lump-clause-tells
returns-in_err-lump-clause-tells g c = fetch_stopped (second_part c.args.before) (c.from_bytes.ensures ∙ texture2_name) c.fetch_list.result _ c.from_residual.result c.fetch_list.ensures.tells c.in_err-lump.was c.from_residual.ensures.1

pub returns : goal.returns
returns g c =
    let lump_judged = fetch_judged (second_part c.args.before) (c.from_bytes.ensures ∙ texture2_name) c.in_ok-lump.lump _ c.second_part.result c.in_ok-lump.ensures.tells c.in_ok-lump.ensures.last c.in_ok-lump.ensures.there c.in_ok-lump.ensures.live c.in_ok-lump.ensures.bytes c.live_bytes.ensures.value c.live_bytes.ensures.fits c.second_part.ensures.answers c.second_part.ensures.of_bytes in
    record { tells = lump_judged.0; fits = lump_judged.1; few = c.second_part.ensures.few; count = c.second_part.ensures.count }
