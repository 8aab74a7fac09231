-- The texture columns are saved among those that are used.
use Rattle.picture_rules.proofs.Common.{◌≡◌, ◌≤◌, ◌+◌, ◌-◌, ℕ, ℤ, List, length, ap, arith, rules, sym, ◌∙◌, with_items_is}
use Rattle.wall_columns.specs.{Rules.listed_from, Rules.texture_column, Saved.with_list}
use Rattle.picture_rules.proofs.Laws.{length-listed_from}
use Rattle.wall_columns.proofs.PartLemmas.{saved_view}
use Rattle.wall_columns.proofs.openings.Openings.save_columns.Goals as goal

pub returns-in-Some-clause-value : goal.returns-in-Some-clause-value
returns-in-Some-clause-value c = λ facts is.
    let column : ℕ → ℤ = texture_column c.args.view.now facts in
    let columns : List ℤ = listed_from column c.args.first c.args.last in
    let place_within : c.in-Some.place + (c.args.last + 1 - c.args.first) ≤ length c.args.self.now.saved = search rules in
    let lent_is_list : c.deref_mut.result.now ≡ c.self.inside.list.items = search rules in
    saved_view c.self.inside.list.items _ columns c.self.inside.used c.in-Some.place c.args.self.now c.args.place (search rules)
    (sym c.self.view_is) c.in-Some.is (omega (arith, length-listed_from column c.args.first c.args.last))
    (with_items_is c.self.inside.list c.put_columns.new.xs (search rules) ∙ c.put_columns.ensures.value facts is ∙ ap (λ (xs : List ℤ). with_list xs c.in-Some.place columns) lent_is_list)
