use Rattle.picture_rules.proofs.Common.{ap, codes, List, ℕ, ◌++◌, ◌∙◌}
use Rattle.refusals.specs.Lines.{labelled}
use Rattle.doom_run.proofs.{LimitLemmas.same_bytes, ListLemmas.seven_added}
use Rattle.doom_run.proofs.list.put_sums.Goals as goal

pub returns : goal.returns
returns g c =
    let counts = c.args.counts.now in
    let list = c.args.list.now in
    let labelled_of : ℕ → List ℕ = labelled (codes " of ") in
    same_bytes
    (seven_added (labelled (codes "view ") c.args.view) (labelled (codes " fragments ") counts.fragments) (labelled_of list.all_fragments) (labelled (codes " planes ") counts.planes)
    (labelled (codes " openings ") counts.openings) (labelled (codes " sprites ") counts.sprites) (labelled_of list.all_sprites) (codes "\n") _ _ _ _ _ _ _ _
    (c.add_number.ensures.text ∙ ap (λ (v : List ℕ). v ++ labelled (codes "view ") c.args.view) c.new-line.ensures) c.add_number-2.ensures.text
    (c.add_number-3.ensures.text ∙ ap (λ (n : ℕ). c.add_number-2.new.self ++ labelled_of n) c.all_fragments.ensures) c.add_number-4.ensures.text c.add_number-5.ensures.text c.add_number-6.ensures.text
    (c.add_number-7.ensures.text ∙ ap (λ (n : ℕ). c.add_number-6.new.self ++ labelled_of n) c.all_sprites.ensures) c.add.ensures.text)
    c.put.ensures
