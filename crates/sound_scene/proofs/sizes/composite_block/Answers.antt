use Rattle.std.proofs.Common.{ℕ, ap, sym, ◌∙◌}
use Rattle.texture_build.specs.Views.{prepared_at}
use Rattle.scene_rules.specs.Words.{block_or_none}
use Rattle.sound_scene.proofs.SizeLemmas.{prepared_block, unprepared_block}
use Rattle.sound_scene.proofs.sizes.composite_block.Goals as goal

pub returns-then-not-is_prepared-clause-value : goal.returns-then-not-is_prepared-clause-value
returns-then-not-is_prepared-clause-value c = unprepared_block (prepared_at c.args.textures.now.prepared c.args.tex.0) (sym c.is_prepared.ensures ∙ c.if-not-is_prepared.true)

pub returns-clause-value : goal.returns-clause-value
returns-clause-value c =
    prepared_block (prepared_at c.args.textures.now.prepared c.args.tex.0) c.block_or_none.result (sym c.is_prepared.ensures ∙ c.if-not-is_prepared.false)
    (c.block_or_none.ensures.value ∙ ap (λ (n : ℕ). block_or_none n) c.composite_size.ensures.value)
