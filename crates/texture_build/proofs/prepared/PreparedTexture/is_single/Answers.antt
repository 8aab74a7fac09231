use Rattle.art_rules.proofs.Common.{ap, get_or_default, is_some, length, subst, sym, ◌<◌, ◌∙◌}
use Rattle.texture_build.specs.Rules.{Empty, PreparedTexture, is_single, is_single_lookup, single_place}
use Rattle.art_rules.proofs.LookupLemmas.{columns_of-single}
use Rattle.texture_build.specs.Sources.{own_lookup}
use Rattle.texture_build.proofs.prepared.PreparedTexture.is_single.Goals as goal

pub returns-clause-value : goal.returns-clause-value
returns-clause-value c =
    let inside = c.self.inside in
    let col_below : c.args.col < length inside.columns.items = subst (λ (v : PreparedTexture). c.args.col < length v.columns) (sym c.self.view_is) c.requires in
    c.is_single_lookup.ensures
    ∙ ap is_single_lookup c.index.ensures
    ∙ columns_of-single inside.patches.items inside.height inside.columns.items c.args.col _ c.self.invariant.0 col_below
    ∙ ap (λ (v : PreparedTexture). is_single v.patches c.args.col) c.self.view_is

pub returns-clause-place : goal.returns-clause-place
unfolding is_single_lookup
returns-clause-place c =
    let inside = c.self.inside in
    let col_below : c.args.col < length inside.columns.items = subst (λ (v : PreparedTexture). c.args.col < length v.columns) (sym c.self.view_is) c.requires in
    c.is_single_lookup.ensures
    ∙ ap is_single_lookup (c.index.ensures ∙ get_or_default inside.columns.items c.args.col _ Empty col_below)
    ∙ ap (λ (v : PreparedTexture). is_some (single_place (own_lookup v c.args.col))) c.self.view_is
