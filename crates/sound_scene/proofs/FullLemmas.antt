-- For which block that a scene needs a zone is full, and that such a zone is smaller than enough.
use Rattle.art_rules.proofs.Common.{[], ap, arith, Contains, inl, inr, length, List, Some, true, ℕ, ◌+◌, ◌<◌, ◌∷◌, ◌≡◌, ◌≢◌, ◌≤◌, ◌⊎◌}
use Rattle.sound_scene.specs.Rules.{Lump, PlacedPatch, PreparedTexture, SceneArt, composite_block, enough, greatest_by, is_needed, lump_block}
use Rattle.texture_build.specs.Sizes.{IsGapBeside, IsGapBesideTwo}
use Rattle.sound_scene.proofs.MemberLemmas.{among_cases, among_none}
use Rattle.sound_scene.proofs.NeededLemmas.{needed_there}

-- none is greater than the greatest
contained_greatest : {X : Type 0} (f : X → ℕ) (xs : List X) (x : X) → Contains xs x → f x ≤ greatest_by f xs
unfolding greatest_by
contained_greatest f [] x has = among_none x has
contained_greatest f (y ∷ xs) x has = elim (among_cases y xs x has) [
  | inl same ↦ let value_same : f y ≡ f x = ap f same in omega (arith, value_same)
  | inr later ↦ omega (arith, contained_greatest f xs x later)
]

-- A zone is full for a lump that is needed: it does not hold it beside COLORMAP.
pub record IsLumpFull (lumps : List Lump) (art : SceneArt) (zone wanted widest' : ℕ) : Type 0 where
  pub lump : ℕ
  pub there : lump < length lumps
  pub needed : is_needed lumps art lump ≡ true
  pub is : wanted ≡ lump_block lumps lump
  pub gap : IsGapBeside zone (lump_block lumps art.colormap) widest'

-- for the composite of a texture
pub record IsCompositeFull (lumps : List Lump) (art : SceneArt) (zone wanted widest' : ℕ) : Type 0 where
  pub texture : PreparedTexture
  pub prepared : Contains art.prepared (Some texture)
  pub is : wanted ≡ composite_block (Some texture)
  pub some : wanted ≢ 0
  pub gap : IsGapBeside zone (lump_block lumps art.colormap) widest'

-- for a patch of a texture whose composite is built, which has to stand beside it and COLORMAP
pub record IsPatchFull (lumps : List Lump) (art : SceneArt) (zone wanted widest' : ℕ) : Type 0 where
  pub texture : PreparedTexture
  pub prepared : Contains art.prepared (Some texture)
  pub patch : PlacedPatch
  pub among : Contains texture.patches patch
  pub there : patch.lump < length lumps
  pub needed : is_needed lumps art patch.lump ≡ true
  pub is : wanted ≡ lump_block lumps patch.lump
  pub built : composite_block (Some texture) ≢ 0
  pub gap : IsGapBesideTwo zone (lump_block lumps art.colormap + composite_block (Some texture)) widest'

abbrev pub IsArtFull : List Lump → SceneArt → ℕ → ℕ → ℕ → Type 0
IsArtFull lumps art zone wanted widest' =
    IsLumpFull lumps art zone wanted widest'
    ⊎ (IsCompositeFull lumps art zone wanted widest' ⊎ IsPatchFull lumps art zone wanted widest')

-- it is smaller than enough
pub full-small : (lumps : List Lump) (art : SceneArt) (zone wanted widest' : ℕ) → widest' < wanted → IsArtFull lumps art zone wanted widest' → zone < enough lumps art
unfolding enough
full-small lumps art zone wanted widest' narrow (inl f) = omega (arith, narrow, f.gap.1, f.is, needed_there lumps art f.lump f.needed f.there)
full-small lumps art zone wanted widest' narrow (inr (inl f)) =
    omega (arith, narrow, f.gap.1, f.is, contained_greatest composite_block art.prepared (Some f.texture) f.prepared)
full-small lumps art zone wanted widest' narrow (inr (inr f)) = omega (
  arith,
  narrow,
  f.gap.1,
  f.is,
  contained_greatest composite_block art.prepared (Some f.texture) f.prepared,
  needed_there lumps art f.patch.lump f.needed f.there,
)
