-- A note is made of its parts.
use Rattle.picture_rules.proofs.Common.{ap, arith, ints, refl, rules, sym, to_z, w32, ◌+◌, ◌-◌, ◌∙◌, ◌≡◌, to_z-of_z}
use Rattle.wall_columns.specs.Rules.{FragmentNumbers, fragment_numbers, minus_one, silhouette_of}
use Rattle.wall_edges.specs.Fragments.{FragmentValue}
use Rattle.wall_columns.specs.Places.{places_of}
use Rattle.wall_columns.proofs.NoteLemmas.{note_of-parts}
use Rattle.wall_columns.proofs.notes.note_of.Goals as goal

pub returns : goal.returns
returns c = λ v facts place is_of seg height places.
    let numbers : FragmentNumbers = c.numbers-numbers.result in
    let numbers_are : numbers ≡ fragment_numbers v facts c.args.first c.args.last = c.numbers-numbers.ensures ∙ ap (λ (f : FragmentValue). f.numbers) is_of in
    let silhouette_is : c.fragment.inside.silhouette ≡ silhouette_of numbers =
    ap (λ (f : FragmentValue). f.fields.silhouette) (c.fragment.view_is ∙ is_of) ∙ ap silhouette_of (sym numbers_are) in
    note_of-parts v facts c.args.first c.args.last place numbers c.args.places c.args.seg_no c.fragment.inside.silhouette c.args.height _ _ _ _ _ (to_z w32 c.args.height) minus_one _ _
    numbers_are (places ∙ ap (λ (m : FragmentNumbers). places_of m place (c.args.last + 1 - c.args.first)) (sym c.numbers-numbers.ensures)) seg height (search (rules, to_z-of_z)) (search (rules, to_z-of_z)) (search (rules, to_z-of_z)) silhouette_is (search (rules, to_z-of_z)) (search (rules, to_z-of_z))
    (omega (arith, ints)) refl c.clip_note.ensures c.clip_note-2.ensures
