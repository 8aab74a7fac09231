use Rattle.std.proofs.Common.{ap, inl, inr}
use Rattle.texture_lists.specs.Rules.{TEXTURE1, TEXTURE2, and_then, both_lists, named_bytes}
use Rattle.lump_cache.proofs.CallLemmas.{reads_stop_first, reads_then}
use Rattle.lump_cache.proofs.SizeLemmas.{either_beside}
use Rattle.texture_lists.specs.Parts.{joined_parts}
use Rattle.texture_lists.proofs.PartLemmas.{both_lists-stop, both_lists-more, then_second}
use Rattle.texture_lists.proofs.{JudgeLemmas.tells_end, BesideLemmas.on_ok}
use Rattle.texture_lists.proofs.load.load_both.Goals as goal

pub returns-in_err-first-clause-tells : goal.returns-in_err-first-clause-tells
returns-in_err-first-clause-tells g c =
    let lumps = c.args.dir.now.lumps in
    reads_stop_first (λ bytes. both_lists (named_bytes bytes lumps TEXTURE1) (named_bytes bytes lumps TEXTURE2)) c.load_first.result _ c.from_residual.result c.load_first.ensures.tells c.in_err-first.was c.from_residual.ensures.1
    (λ lump asked. inl asked) (λ bytes refusal. both_lists-stop (named_bytes bytes lumps TEXTURE1) (named_bytes bytes lumps TEXTURE2) refusal)

pub returns-in_err-second-clause-tells : goal.returns-in_err-second-clause-tells
returns-in_err-second-clause-tells g c =
    let lumps = c.args.dir.now.lumps in
    let first_list = c.in_ok-first.first in
    reads_then (λ bytes. both_lists (named_bytes bytes lumps TEXTURE1) (named_bytes bytes lumps TEXTURE2)) c.from_residual-in_err-second.result c.in_ok-first.ensures.tells
    (reads_stop_first (λ bytes. then_second (named_bytes bytes lumps TEXTURE2) first_list) c.load_second.result _ c.from_residual-in_err-second.result (rw c.count.ensures at c.load_second.ensures.tells) c.in_err-second.was c.from_residual-in_err-second.ensures.1
    (λ lump asked. asked) (λ bytes refusal is. ap (λ r. and_then r (joined_parts first_list)) is)) (λ lump asked. inl asked)
    (λ lump asked. inr asked) (λ bytes. both_lists-more (named_bytes bytes lumps TEXTURE1) (named_bytes bytes lumps TEXTURE2) first_list)

pub returns-clause-tells : goal.returns-clause-tells
returns-clause-tells g c =
    let lumps = c.args.dir.now.lumps in
    let first_list = c.in_ok-first.first in
    reads_then (λ bytes. both_lists (named_bytes bytes lumps TEXTURE1) (named_bytes bytes lumps TEXTURE2)) c.joined.result c.in_ok-first.ensures.tells
    (tells_end (λ bytes. then_second (named_bytes bytes lumps TEXTURE2) first_list) c.joined.result (rw c.count.ensures at c.in_ok-second.ensures.tells) (λ lump asked. asked) c.joined.ensures.of_bytes
    (λ contents told is. rw is c.joined.ensures.answers)) (λ lump asked. inl asked)
    (λ lump asked. inr asked) (λ bytes. both_lists-more (named_bytes bytes lumps TEXTURE1) (named_bytes bytes lumps TEXTURE2) first_list)

pub returns-clause-fits : goal.returns-clause-fits
returns-clause-fits g c =
    on_ok c.joined.result (either_beside c.in_ok-first.ensures.tells.keeps c.in_ok-first.ensures.fits c.in_ok-second.ensures.fits)
