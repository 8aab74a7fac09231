use Rattle.art_rules.proofs.Common.{All, IfSome, list_any, option_map, take, ℕ, ◌<◌, ◌==◌, ◌≡◌}
use Rattle.texture_lists.specs.declared.number.TexNo.{TexNo}
use Rattle.scene_rules.specs.Words.{is_wanted_texture}
use Rattle.level_scene.specs.Bounds.{AreBelow}
use Rattle.level_scene.proofs.sides.wanted_textures.Given as goal

-- what the sides so far and the sky want
abbrev pub invariant-loop-side : goal.invariant-loop-side
invariant-loop-side l = record {
  wanted : (number : ℕ) → list_any (λ (tex : TexNo). tex.0 == number) l.wanted.items ≡ is_wanted_texture (take l.side-index l.sides) (option_map (λ (tex : TexNo). tex.0) l.fn.sky) number;
  below : (count : ℕ) → All (AreBelow count) l.sides → IfSome l.fn.sky (λ (tex : TexNo). tex.0 < count) → All (λ (tex : TexNo). tex.0 < count) l.wanted.items;
}
