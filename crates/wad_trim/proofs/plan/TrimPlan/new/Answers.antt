use Rattle.art_rules.proofs.Common.{ap, Some, sym, ◌∙◌, ◌≡◌}
use Rattle.trim_rules.specs.Parts.{trim_refusal}
use Rattle.wad_trim.proofs.PlanLemmas.{plan-fits, plan-ok, plan-refused}
use Rattle.wad_trim.proofs.plan.TrimPlan.new.Goals as goal

pub returns-in-Some-clause-refused : goal.returns-in-Some-clause-refused
returns-in-Some-clause-refused c = λ refusal e.
    let refusal_same : c.in-Some.refusal ≡ refusal = cc in
    plan-refused _ _ _ _ c.in_ok-parts.ensures.parts refusal
    (ap (trim_refusal c.args.dir.now.lumps) (sym c.deref.ensures.value) ∙ sym c.trim_refusal.ensures ∙ c.in-Some.is ∙ ap Some refusal_same)

pub returns-in-None-clause-ok : goal.returns-in-None-clause-ok
returns-in-None-clause-ok c =
    plan-ok _ _ _ _ c.in_ok-parts.ensures.parts
    (ap (trim_refusal c.args.dir.now.lumps) (sym c.deref.ensures.value) ∙ sym c.trim_refusal.ensures ∙ c.in-None.is)

pub returns-in-None-clause-fits : goal.returns-in-None-clause-fits
returns-in-None-clause-fits c =
    plan-fits _ _ _ _ c.in_ok-parts.ensures.parts
    (ap (trim_refusal c.args.dir.now.lumps) (sym c.deref.ensures.value) ∙ sym c.trim_refusal.ensures ∙ c.in-None.is)
