use Rattle.std.proofs.Common.{subst, sym, arith}
use Rattle.sound_scene.specs.Sound.{SoundValue}
use Rattle.sound_scene.proofs.SceneLemmas.{colormap_there}
use Rattle.frame_core.specs.Views.{CanDrawView}
use Rattle.frame_core.proofs.SceneLemmas.{drawable-whole}
use Rattle.whole_tests.proofs.tests.shelf_tests.scene_of.Goals as goal

-- what passed its audit can be drawn, and the cache has as many slots as before
pub returns-clause-drawable : goal.returns-clause-drawable
returns-clause-drawable c =
    let lumps = c.args.dir.now.lumps in
    let sound = c.in_ok-audit.field-0 in
    let whole = c.in_ok-audit.ensures.whole in
    let enough_fit = c.requires.few in
    let counts = c.in_ok-audit.ensures.counts in
    let slots = c.requires.slots in
    let composites = c.requires.composites in
    let whole_few = whole.few in
    let can_draw : CanDrawView lumps sound.scene c.audit.new.cache = record {
      drawable = drawable-whole lumps _ _ _ sound.scene whole;
      few = omega (arith, enough_fit);
      colormap = colormap_there lumps sound.scene.base.colormap c.in_ok-audit.ensures.colormap;
      slots = omega (arith, slots, counts.1);
      composites = omega (arith, composites, counts.2, whole_few);
    } in
    subst (λ (s : SoundValue). CanDrawView lumps s.scene c.audit.new.cache) (sym c.in_ok-new.ensures.ok) can_draw
