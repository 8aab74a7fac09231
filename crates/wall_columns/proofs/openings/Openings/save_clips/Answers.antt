-- A list is saved among those that are used.
use Rattle.picture_rules.proofs.Common.{◌≡◌, ℤ, List, ap, rules, sym, ◌∙◌, with_items_is}
use Rattle.wall_columns.specs.Saved.{with_list}
use Rattle.wall_columns.proofs.PartLemmas.{saved_view}
use Rattle.wall_columns.proofs.openings.Openings.save_clips.Goals as goal

pub returns-in-Some-clause-value : goal.returns-in-Some-clause-value
returns-in-Some-clause-value c =
    let lent_is_list : c.deref_mut.result.now ≡ c.self.inside.list.items = search rules in
    saved_view c.self.inside.list.items _ c.args.clips.now c.self.inside.used c.in-Some.place c.args.self.now c.args.place (search rules)
    (sym c.self.view_is) c.in-Some.is (search rules)
    (with_items_is c.self.inside.list c.put_list.new.xs (search rules) ∙ c.put_list.ensures.value ∙ ap (λ (xs : List ℤ). with_list xs c.in-Some.place c.args.clips.now) lent_is_list)
