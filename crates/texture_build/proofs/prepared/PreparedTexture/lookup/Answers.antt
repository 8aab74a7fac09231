use Rattle.art_rules.proofs.Common.{ap, List, slice_index_or, subst, sym, ◌∙◌}
use Rattle.texture_build.specs.Rules.{ColumnLookup, Empty, PreparedTexture}
use Rattle.texture_build.specs.{Sources.IsColumnThere, Views.ArePatchesThere}
use Rattle.texture_build.proofs.ColumnLemmas.{column_there}
use Rattle.texture_build.proofs.prepared.PreparedTexture.lookup.Goals as goal

pub returns-clause-there : goal.returns-clause-there
returns-clause-there c = λ lumps there.
    let inside = c.self.inside in
    let column_no = c.masked_column.result in
    subst (IsColumnThere lumps) (sym (c.lookup_at.ensures ∙ ap (λ (xs : List ColumnLookup). slice_index_or xs column_no Empty) c.deref.ensures.value))
    (column_there lumps inside.patches.items inside.height inside.columns.items column_no c.self.invariant.0 (subst (λ (t : PreparedTexture). ArePatchesThere lumps t) (sym c.self.view_is) there))
