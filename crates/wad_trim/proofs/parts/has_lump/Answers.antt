use Rattle.art_rules.proofs.Common.{ap, arith, eq-true, list_any, list_any_at, sym, take_all, ◌==◌, ◌∙◌}
use Rattle.art_rules.specs.Words.{LumpNo}
use Rattle.wad_trim.proofs.ListLemmas.{any-number}
use Rattle.wad_trim.proofs.parts.has_lump.Goals as goal

pub returns-then-other-lump : goal.returns-then-other-lump
returns-then-other-lump c =
    let lump_number = c.args.lump.0 in
    sym (sym (any-number (λ m. m == lump_number) c.args.lumps.now)
    ∙ list_any_at (λ (other : LumpNo). other.0 == lump_number) c.args.lumps.now c.loop-other.other-index (record { 0 = 0 }) (omega arith) (eq-true _ lump_number c.if-other-lump.true))

pub returns : goal.returns
returns c =
    let lump_number = c.args.lump.0 in
    sym (sym (any-number (λ m. m == lump_number) c.args.lumps.now)
    ∙ ap (list_any (λ (other : LumpNo). other.0 == lump_number)) (sym (take_all c.loop-other.other-index c.args.lumps.now (omega arith)))
    ∙ c.loop-other.invariant)
