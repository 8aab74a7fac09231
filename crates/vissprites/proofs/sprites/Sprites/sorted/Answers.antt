use Rattle.picture_rules.proofs.Common.{AllPass, IsSortedBy, IsStableBy, List, rules, subst, sym, ◌≡◌}
use Rattle.vissprites.specs.Rules.{SpriteEntry, draw_order, is_smaller}
use Rattle.picture_rules.proofs.sprite.OrderLemmas.{draw_order-sorted, draw_order-stable}
use Rattle.vissprites.proofs.BoundLemmas.{draw_order-all}
use Rattle.vissprites.proofs.sprites.Sprites.sorted.Goals as goal

-- drawing order is sorted and stable, and has the entries that were made
pub returns-clause-ordered : goal.returns-clause-ordered
returns-clause-ordered c =
    let order : c.new.result ≡ draw_order c.args.self.now = search rules in
    let is_sorted : List SpriteEntry → Type 0 = IsSortedBy is_smaller in
    subst is_sorted (sym order) (draw_order-sorted c.args.self.now)

pub returns-clause-stable : goal.returns-clause-stable
returns-clause-stable c =
    let order : c.new.result ≡ draw_order c.args.self.now = search rules in
    let is_stable : List SpriteEntry → Type 0 = IsStableBy is_smaller c.args.self.now in
    subst is_stable (sym order) (draw_order-stable c.args.self.now)

pub returns-clause-entries : goal.returns-clause-entries
returns-clause-entries c =
    λ test all.
    let order : c.new.result ≡ draw_order c.args.self.now = search rules in
    let all_pass : List SpriteEntry → Type 0 = AllPass test in
    subst all_pass (sym order) (draw_order-all test c.args.self.now all)
