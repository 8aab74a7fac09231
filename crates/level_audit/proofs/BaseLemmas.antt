-- The steps of a base, and the lumps that stand beside the colormap.
use Rattle.std.proofs.Common.{◌≡◌, ℕ, true, List, take, Result, Ok, Err, refl, subst}
use Rattle.level_audit.specs.Rules.{Art, ArtRefusal, AuditRefusal, Heap, LevelBase, LevelValue, Lump, Map, PALETTE_SIZE, Texture, TextureLists, and_then, base_in, base_over, colormap_of, from_below, is_map_lump, label_of, level_in, lists_in, playpal_of}
use Rattle.texture_build.specs.Sizes.{StandsBeside}
use Rattle.level_scene.specs.Asked.{IsLumpOfMap}

-- the base of a map and its lists, with these colours
abbrev pub with_colours : ℕ → ℕ → List ℕ → ℕ × LevelValue → TextureLists → LevelBase
with_colours colormap playpal palette map lists = record { colormap = colormap; playpal = playpal; palette = palette; label = map.0; level = map.1; lists = lists }

-- the lists behind a map
abbrev pub then_lists : (ℕ → List ℕ) → List Lump → ℕ → ℕ → List ℕ → ℕ × LevelValue → Result LevelBase AuditRefusal
then_lists bytes lumps colormap playpal palette map = and_then (from_below Texture (lists_in bytes lumps)) (λ lists. Ok (with_colours colormap playpal palette map lists))

module _ (bytes : ℕ → List ℕ) (lumps : List Lump) (name : List ℕ) (colormap playpal : ℕ) (palette : List ℕ) where
  -- no level
  pub base_over-stop : (refusal : AuditRefusal) → from_below Map (level_in bytes lumps name) ≡ Err refusal → base_over bytes lumps name colormap playpal palette ≡ Err refusal
  unfolding base_over
  base_over-stop refusal e = rw e refl

  -- a level, and what follows it
  pub base_over-more : (map : ℕ × LevelValue) → from_below Map (level_in bytes lumps name) ≡ Ok map → base_over bytes lumps name colormap playpal palette ≡ then_lists bytes lumps colormap playpal palette map
  unfolding base_over
  base_over-more map e = rw e refl

module _ (bytes : ℕ → List ℕ) (lumps : List Lump) (name : List ℕ) (colormap : ℕ) (is : colormap_of lumps ≡ Ok colormap) where
  -- no PLAYPAL
  pub base-stop : (refusal : ArtRefusal) → playpal_of lumps ≡ Err refusal → base_in bytes lumps name ≡ Err (Art refusal)
  unfolding base_in
  base-stop refusal e = rw (is, e) refl

  -- both lumps of colours, and what follows the palette
  pub base-more : (playpal : ℕ) (palette : List ℕ) → playpal_of lumps ≡ Ok playpal → take PALETTE_SIZE (bytes playpal) ≡ palette → base_in bytes lumps name ≡ base_over bytes lumps name colormap playpal palette
  unfolding base_in
  base-more playpal palette e same = rw (is, e, ← same) refl

module _ (lumps : List Lump) (z : Heap) where
  -- the lumps behind the label that was found are those of the map
  pub map_beside : (name : List ℕ) (label : ℕ) → label_of lumps name ≡ Ok label → ((lump : ℕ) → is_map_lump label lump ≡ true → StandsBeside lumps z lump) → (lump : ℕ) → IsLumpOfMap lumps name lump → StandsBeside lumps z lump
  map_beside name label is beside lump asked =
      let asked_label_is = asked.is in
      let label_same : asked.label ≡ label = cc in
      beside lump (subst (λ n. is_map_lump n lump ≡ true) label_same asked.among)

  -- the PLAYPAL that was found is the only one
  pub playpal_beside : (playpal : ℕ) → playpal_of lumps ≡ Ok playpal → StandsBeside lumps z playpal → (lump : ℕ) → playpal_of lumps ≡ Ok lump → StandsBeside lumps z lump
  playpal_beside playpal is beside lump asked =
      let playpal_same : playpal ≡ lump = cc in
      subst (StandsBeside lumps z) playpal_same beside
