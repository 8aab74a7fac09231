use Rattle.art_rules.proofs.Common.{ap, arith, list_any, list_any_at, sym, take_all, ◌∙◌}
use Rattle.art_rules.specs.Words.{has_name, LumpNo}
use Rattle.wad_trim.proofs.ListLemmas.{any-number}
use Rattle.wad_trim.proofs.parts.has_named.Goals as goal

pub returns-then-lump_has_name : goal.returns-then-lump_has_name
returns-then-lump_has_name c =
    let has_that_name = has_name c.args.dir.now.lumps c.args.name.now in
    sym (sym (any-number has_that_name c.args.lumps.now)
    ∙ list_any_at (λ (lump : LumpNo). has_that_name lump.0) c.args.lumps.now c.loop-lump.lump-index (record { 0 = 0 }) (omega arith) (sym c.lump_has_name.ensures ∙ c.if-lump_has_name.true))

pub returns : goal.returns
returns c =
    let has_that_name = has_name c.args.dir.now.lumps c.args.name.now in
    sym (sym (any-number has_that_name c.args.lumps.now)
    ∙ ap (list_any (λ (lump : LumpNo). has_that_name lump.0)) (sym (take_all c.loop-lump.lump-index c.args.lumps.now (omega arith)))
    ∙ c.loop-lump.invariant)
