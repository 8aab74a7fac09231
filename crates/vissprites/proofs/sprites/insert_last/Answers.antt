use Rattle.picture_rules.proofs.Common.{ap, insert, ℕ, ◌∙◌, ◌≡◌}
use Rattle.vissprites.specs.Kept.{count_before}
use Rattle.vissprites.proofs.KeptLemmas.{insert_last-split}
use Rattle.vissprites.proofs.sprites.insert_last.Goals as goal

-- the entry goes to its place
pub returns-clause-entries : goal.returns-clause-entries
returns-clause-entries c =
    let put : c.insert.new.self.items ≡ insert c.args.kept.now.items c.count_before-index.result c.args.entry = c.in-Ok.ensures.items in
    let place : c.count_before-index.result ≡ count_before c.args.entry c.args.kept.now.items =
    c.count_before-index.ensures.count ∙ ap (count_before c.args.entry) c.deref.ensures.value
    in
    put ∙ ap (λ (i : ℕ). insert c.args.kept.now.items i c.args.entry) place ∙ insert_last-split c.args.entry c.args.kept.now.items
