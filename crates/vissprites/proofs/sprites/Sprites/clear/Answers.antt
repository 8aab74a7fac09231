use Rattle.std.proofs.Common.{List, ap, sym, subst, ◌∙◌, arith}
use Rattle.picture_rules.specs.declared.sprite.SpriteEntry.{SpriteEntry}
use Rattle.vissprites.specs.Kept.{made_order, IsKept}
use Rattle.vissprites.proofs.KeptLemmas.{none_kept, made_order-none}
use Rattle.vissprites.proofs.sprites.Sprites.clear.Goals as goal

-- the room stays
pub invariant_of-self : goal.invariant_of-self
invariant_of-self c =
    let is_kept : List SpriteEntry → Type 0 = IsKept in
    (subst is_kept (sym c.clear.ensures.items) none_kept, omega (arith, c.self.invariant.1, c.clear.ensures.capacity))

pub returns : goal.returns
returns c = ap made_order c.clear.ensures.items ∙ made_order-none
