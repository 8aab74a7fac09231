-- The strip of the sprite is asked for.
use Rattle.picture_rules.proofs.Common.{[], ◌∷◌, ap, subst, sym}
use Rattle.receiver_rules.proofs.ReceiverLemmas.{receives-same}
use Rattle.brush.specs.Strips.{Picture, PictureStripValue}
use Rattle.masked_draw.proofs.sprites.paint_sprite.Goals as goal

pub picture-requires : goal.picture-requires
picture-requires g c = subst (λ (strip : PictureStripValue). g.B.Brush.takes c.args.brush.now (Picture strip)) (sym c.sprite_strip.ensures) c.requires.takes

pub returns : goal.returns
returns g c = receives-same _ (ap (λ (strip : PictureStripValue). Picture strip ∷ []) c.sprite_strip.ensures) c.picture.ensures
