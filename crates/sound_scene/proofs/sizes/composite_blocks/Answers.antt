use Rattle.art_rules.proofs.Common.{arith, None, refl}
use Rattle.scene_rules.specs.Words.{composite_block}
use Rattle.sound_scene.proofs.SizeLemmas.{composite_block-none, greatest_none, greatest_step, sum_step}
use Rattle.sound_scene.proofs.sizes.composite_blocks.Goals as goal

pub loop-number-init : goal.loop-number-init
loop-number-init c = record {
  greatest = greatest_none composite_block;
  sum = refl;
  greatest_fits = omega arith;
  sum_fits = omega arith;
}

pub loop-number-preserved : goal.loop-number-preserved
loop-number-preserved c =
    let prepared = c.args.textures.now.prepared in
    let texture_number = c.loop-number.number in
    record {
      greatest = greatest_step composite_block prepared texture_number None _ _ _ (λ l. composite_block-none) c.loop-number.invariant.greatest c.composite_block.ensures.value c.with_block-blocks.ensures.greatest;
      sum = sum_step composite_block prepared texture_number None _ _ _ (λ l. composite_block-none) c.loop-number.invariant.sum c.composite_block.ensures.value c.with_block-blocks.ensures.sum;
      greatest_fits = omega (arith, c.composite_block.ensures.fits);
      sum_fits = omega (arith, c.composite_block.ensures.fits);
    }
