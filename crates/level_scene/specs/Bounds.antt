-- Numbers of textures and of flats that are there.
use Rattle.std.specs.Prelude.{ℕ, ◌<◌, ⊤}
use Rattle.level_scene.specs.Rules.{Flat, SectorFlats, SideTextures, Sky}
use Rattle.scene_rules.specs.declared.Flat.TheVariants.{Lump as LumpFlat}

-- the number 0, which is none, or one below the count of textures
abbrev pub IsNoneOrBelow : ℕ → ℕ → Type 0
IsNoneOrBelow count number = 0 < number → number < count

-- so are the textures of a side
pub record AreBelow (count : ℕ) (side : SideTextures) : Type 0 where
  pub top : IsNoneOrBelow count side.top
  pub bottom : IsNoneOrBelow count side.bottom
  pub middle : IsNoneOrBelow count side.middle

-- the sky, or a lump below the count of lumps
abbrev pub IsThere : ℕ → Flat → Type 0
IsThere count Sky = ⊤
IsThere count (LumpFlat lump) = lump.0 < count

-- so are the flats of a sector
pub record AreThere (count : ℕ) (flats : SectorFlats) : Type 0 where
  pub floor : IsThere count flats.floor
  pub ceiling : IsThere count flats.ceiling
