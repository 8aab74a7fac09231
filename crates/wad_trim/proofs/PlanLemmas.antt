-- The plan of a level, by whether its parts are refused.
use Rattle.std.proofs.Common.{◌≡◌, ℕ, List, Some, None, Ok, Err, ap, sym, subst, ◌∙◌}
use Rattle.wad_trim.specs.Rules.{Lump, SceneArt, TrimPart, TrimRefusal, trim_parts, trim_plan, trim_refusal, unless_trim_refused}
use Rattle.trim_rules.proofs.PlanLemmas.{plan-accepted}
use Rattle.wad_trim.specs.Plans.{FitsFile}

module _ (lumps : List Lump) (art : SceneArt) (name : List ℕ) (parts : List TrimPart) (is : parts ≡ trim_parts lumps art name) where
  -- they are
  pub plan-refused : (refusal : TrimRefusal) → trim_refusal lumps parts ≡ Some refusal → trim_plan lumps art name ≡ Err refusal
  unfolding trim_plan
  plan-refused refusal e =
      ap (λ (some : List TrimPart). unless_trim_refused (trim_refusal lumps some) some) (sym is)
      ∙ ap (λ o. unless_trim_refused o parts) e

  -- they are not
  pub plan-ok : trim_refusal lumps parts ≡ None → trim_plan lumps art name ≡ Ok parts
  unfolding trim_plan
  plan-ok e =
      ap (λ (some : List TrimPart). unless_trim_refused (trim_refusal lumps some) some) (sym is)
      ∙ ap (λ o. unless_trim_refused o parts) e

  -- and so they fit
  pub plan-fits : trim_refusal lumps parts ≡ None → FitsFile lumps parts
  plan-fits e =
      let fine = (plan-accepted lumps art name parts (plan-ok e)).1 in
      subst (FitsFile lumps) (sym is) (record { count = fine.count; bytes = fine.size })
