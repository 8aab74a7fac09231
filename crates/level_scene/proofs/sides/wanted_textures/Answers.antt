use Rattle.art_rules.proofs.Common.{All-get_or, ap, arith, get_or, not, option_map, sym, ◌&&◌, ◌==◌, ◌||◌, ◌∙◌}
use Rattle.scene_rules.specs.Words.{shows_texture, SideTextures}
use Rattle.texture_lists.specs.declared.number.TexNo.{TexNo}
use Rattle.scene_rules.proofs.SideLemmas.{is_wanted-more}
use Rattle.level_scene.specs.Bounds.{AreBelow}
use Rattle.level_scene.proofs.sides.wanted_textures.Goals as goal

abbrev no_textures : SideTextures
no_textures = record { top = 0; bottom = 0; middle = 0 }

pub loop-side-preserved : goal.loop-side-preserved
loop-side-preserved c =
    let sides = c.args.sides.now in
    let index = c.loop-side.side-index in
    record {
      wanted = λ number.
          c.in_ok-add_side.ensures.wanted number
          ∙ (ap (λ b. b || (not (number == 0) && shows_texture number (get_or sides index no_textures))) (c.loop-side.invariant.wanted number)
          ∙ sym (is_wanted-more sides (option_map (λ (tex : TexNo). tex.0) c.args.sky) number index no_textures (omega arith)));
      below = λ count all sky. c.in_ok-add_side.ensures.below count
          (All-get_or (AreBelow count) sides index no_textures (omega arith) all) (c.loop-side.invariant.below count all sky);
    }
