use Rattle.std.proofs.Common.{ℕ, ◌<◌, length, sym, subst}
use Rattle.art_rules.specs.Words.{PreparedTexture}
use Rattle.texture_build.proofs.ColumnLemmas.{mask_within}
use Rattle.texture_build.proofs.prepared.PreparedTexture.mask.Goals as goal

pub returns-clause-within : goal.returns-clause-within
returns-clause-within c =
    let inside = c.self.inside in subst (λ (v : PreparedTexture). inside.mask < length v.columns) c.self.view_is
    (subst (λ (m : ℕ). m < length inside.columns.items)
    (sym c.self.invariant.1) (mask_within (length inside.columns.items) c.self.invariant.4 c.self.invariant.5))
