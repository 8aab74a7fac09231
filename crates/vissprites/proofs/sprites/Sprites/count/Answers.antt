use Rattle.std.proofs.Common.{◌≡◌, length, vec_len, rules, ap, sym, ◌∙◌}
use Rattle.vissprites.proofs.KeptLemmas.{length-made_order}
use Rattle.vissprites.proofs.sprites.Sprites.count.Goals as goal

-- as many are kept as were made
pub returns-clause-value : goal.returns-clause-value
returns-clause-value c =
    let kept_length : vec_len c.self.inside.kept ≡ length c.self.inside.kept.items = search rules in
    c.len.ensures ∙ kept_length ∙ sym (length-made_order c.self.inside.kept.items c.self.invariant.0) ∙ ap length c.self.view_is
