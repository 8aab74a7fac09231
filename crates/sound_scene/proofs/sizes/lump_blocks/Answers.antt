use Rattle.art_rules.proofs.Common.{ap, arith, length, refl, take_all, ℕ, ◌<◌, ◌∙◌}
use Rattle.sound_scene.specs.Rules.{LumpNo, greatest_by, lump_block}
use Rattle.sound_scene.proofs.SizeLemmas.{greatest_by-map, greatest_none, greatest_step, index_below, sum_step}
use Rattle.sound_scene.proofs.sizes.lump_blocks.Goals as goal

pub loop-lump-init : goal.loop-lump-init
loop-lump-init c = record {
  greatest = greatest_none (λ (lump : LumpNo). lump_block c.args.dir.now.lumps lump.0);
  sum = refl;
  greatest_fits = omega arith;
  few = omega arith;
  sum_fits = omega arith;
}

pub loop-lump-preserved : goal.loop-lump-preserved
loop-lump-preserved c =
    let lumps = c.args.lumps.now in
    let index = c.loop-lump.lump-index in
    let block : LumpNo → ℕ = λ lump. lump_block c.args.dir.now.lumps lump.0 in
    let index_below_count : index < length lumps = c.loop-lump-test.true in
    let index_within = index_below lumps index _ _ c.requires.ascending index_below_count c.lump_block.ensures.number in
    record {
      greatest = greatest_step block lumps index _ _ _ _ (λ l. absurd (omega arith)) c.loop-lump.invariant.greatest c.lump_block.ensures.value c.with_block-blocks.ensures.greatest;
      sum = sum_step block lumps index _ _ _ _ (λ l. absurd (omega arith)) c.loop-lump.invariant.sum c.lump_block.ensures.value c.with_block-blocks.ensures.sum;
      greatest_fits = omega (arith, c.lump_block.ensures.fits);
      few = omega arith;
      sum_fits = omega (arith, c.lump_block.ensures.fits);
    }

pub returns-clause-greatest : goal.returns-clause-greatest
returns-clause-greatest c =
    let lumps = c.args.lumps.now in
    let block = lump_block c.args.dir.now.lumps in
    c.loop-lump.invariant.greatest
    ∙ ap (greatest_by (λ (lump : LumpNo). block lump.0)) (take_all c.loop-lump.lump-index lumps (omega arith))
    ∙ greatest_by-map block (λ (lump : LumpNo). lump.0) lumps
