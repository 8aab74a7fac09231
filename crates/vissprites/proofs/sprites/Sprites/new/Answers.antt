use Rattle.std.proofs.Common.{List, ap, sym, subst, ◌∙◌}
use Rattle.picture_rules.specs.declared.sprite.SpriteEntry.{SpriteEntry}
use Rattle.vissprites.specs.Kept.{made_order, IsKept}
use Rattle.vissprites.proofs.KeptLemmas.{none_kept, made_order-none}
use Rattle.vissprites.proofs.sprites.Sprites.new.Goals as goal

pub invariant_of-result : goal.invariant_of-result
invariant_of-result c =
    let is_kept : List SpriteEntry → Type 0 = IsKept in
    (subst is_kept (sym c.in_ok-kept.ensures.items) none_kept, c.in_ok-kept.ensures.capacity)

pub returns : goal.returns
returns c = ap made_order c.in_ok-kept.ensures.items ∙ made_order-none
