use Rattle.art_rules.proofs.Common.{ap, option_and_then, ◌∙◌}
use Rattle.art_rules.specs.Words.{patch_of}
use Rattle.sprite_book.proofs.ReadLemmas.{fetch_stopped, fetch_found, fetch_bad}
use Rattle.sprite_book.proofs.read.fetch_patch.Goals as goal

pub returns-in_err-fetch_live : goal.returns-in_err-fetch_live
returns-in_err-fetch_live g c = fetch_stopped c.args.lump c.fetch_live.result _ c.from_residual.result c.fetch_live.ensures.tells c.in_err-fetch_live.was c.from_residual.ensures.1

pub returns-in-Some : goal.returns-in-Some
returns-in-Some g c =
    fetch_found c.args.lump c.in_ok-fetch_live.ensures.tells c.live_patch.result (λ contents told. c.live_patch.ensures ∙ ap (option_and_then patch_of) (c.in_ok-fetch_live.ensures.bytes contents told)) c.in-Some.patch c.in-Some.is

pub returns-in-None : goal.returns-in-None
returns-in-None g c =
    fetch_bad c.args.lump c.in_ok-fetch_live.ensures.tells c.live_patch.result (λ contents told. c.live_patch.ensures ∙ ap (option_and_then patch_of) (c.in_ok-fetch_live.ensures.bytes contents told)) c.from.result c.from.ensures c.in-None.is
