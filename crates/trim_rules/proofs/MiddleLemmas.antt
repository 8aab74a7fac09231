-- Masked mid textures whose patches have other numbers: the same side is the first that is bad.
use Rattle.art_rules.proofs.Common.{[], ap, length, length-map, List, list_all, list_any, map, None, not, Option, option_map, range_with_len, refl, Some, suc, zero, ℕ, ◌&&◌, ◌+◌, ◌==◌, ◌∙◌, ◌∷◌, ◌≡◌}
use Rattle.trim_rules.specs.Rules.{PlacedPatch, PreparedTexture, Seg, SideTextures, bad_middle, is_all_single, is_bad_middle, is_bad_side, is_seen_through, is_single, least, mask_of, middle_of, patches_in, texture_by}
use Rattle.trim_rules.proofs.PreparedLemmas.{move_texture}
use Rattle.trim_rules.proofs.TexelLemmas.{moved, moved_lookup, patches_in-moved}

module _ (σ : ℕ → ℕ) where
  single-same : (ps : List PlacedPatch) (x : ℕ) → is_single (map (moved σ) ps) x ≡ is_single ps x
  unfolding is_single
  single-same ps x = ap (λ n. n == 1) (ap length (patches_in-moved σ ps x) ∙ length-map (patches_in ps x) (moved σ))

  all_single-same : (t : PreparedTexture) → is_all_single (move_texture σ t) ≡ is_all_single t
  unfolding is_all_single
  all_single-same t =
      ap (λ n. list_all (is_single (map (moved σ) t.patches)) (range_with_len 0 (mask_of n + 1))) (length-map t.columns (moved_lookup σ))
      ∙ ap (λ f. list_all f (range_with_len 0 (mask_of (length t.columns) + 1))) (λ i x. single-same t.patches x i)

  texture-by : (ts : List (Option PreparedTexture)) (n : ℕ) → texture_by (map (option_map (move_texture σ)) ts) n ≡ move_texture σ (texture_by ts n)
  texture-by [] n = refl
  texture-by (None ∷ ts) zero = refl
  texture-by (Some t ∷ ts) zero = refl
  texture-by (t ∷ ts) (suc n) = texture-by ts n

  side-same : (ts : List (Option PreparedTexture)) (segs : List Seg) (sides : List SideTextures) (side : ℕ)
      → is_bad_side (texture_by (map (option_map (move_texture σ)) ts)) segs sides side ≡ is_bad_side (texture_by ts) segs sides side
  unfolding is_bad_side is_bad_middle
  side-same ts segs sides side =
      ap (λ b. list_any (is_seen_through side) segs && (not (middle_of sides side == 0) && not b))
      (ap is_all_single (texture-by ts (middle_of sides side)) ∙ all_single-same (texture_by ts (middle_of sides side)))

  -- the first side whose middle is bad
  pub bad_middle-same : (ts : List (Option PreparedTexture)) (segs : List Seg) (sides : List SideTextures)
      → bad_middle (texture_by (map (option_map (move_texture σ)) ts)) segs sides ≡ bad_middle (texture_by ts) segs sides
  unfolding bad_middle
  bad_middle-same ts segs sides = ap (λ p. least p (length sides)) (λ i side. side-same ts segs sides side i)
