use Rattle.art_rules.proofs.Common.{ap, is_some, List, nat_cmp, slice_cmp, Some, subst, sym, Updates, ℕ, ◌∙◌}
use Rattle.texture_lists.proofs.IndexLemmas.{name_known, name_put, none_if}
use Rattle.texture_lists.proofs.index.put_new.Goals as goal

pub returns-then-is_some : goal.returns-then-is_some
returns-then-is_some c = λ q. name_known c.args.name.now c.args.number q c.args.index.now (ap is_some (sym c.look_up.ensures) ∙ sym c.is_some.ensures ∙ c.if-is_some.true)

pub returns : goal.returns
returns c = λ q. name_put c.args.name.now c.args.number q c.args.index.now c.insert.new.self
    (sym c.look_up.ensures ∙ none_if c.look_up.result (sym c.is_some.ensures ∙ c.if-is_some.false))
    (subst (λ (k : List ℕ). Updates (slice_cmp nat_cmp) c.args.index.now c.insert.new.self k (Some c.args.number)) c.bytes.ensures c.in_ok-insert.ensures.updates)
