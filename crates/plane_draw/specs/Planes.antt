-- What drawing planes asks of them, and with whose bytes it draws.
use Rattle.std.specs.Prelude.{◌≡◌, ◌<◌, ◌≤◌, ℕ, ℤ, List, Contains, Option, Some, IfSome, IsSome}
use Rattle.plane_draw.specs.Rules.{Flat4, Plane, ViewShape, ViewValue, column, sky_column}
use Rattle.picture_rules.specs.declared.plane.Flat4.TheVariants as flat
use Rattle.visplanes.specs.Spans.{IsSeen}
use Rattle.texture_build.specs.TexNo.{TexNo}

-- the flat of a plane is a lump of the directory, and there is a texture of the sky for sky
abbrev pub HasFlat : ℕ → Option TexNo → Flat4 → Type 0
HasFlat lumps sky flat.Sky = IsSome sky
HasFlat lumps sky (flat.Lump lump) = lump < lumps

-- a plane may be drawn: its flat is there, and its rows are in the view and in the frame
pub record CanDrawPlane (shape : ViewShape) (left top lumps : ℕ) (sky : Option TexNo) (p : Plane) : Type 0 where
  pub flat : HasFlat lumps sky p.key.flat
  pub seen : IsSeen shape left top p

-- a sky plane has rows at column x of the view
pub record ShowsSkyAt (planes : List Plane) (x : ℕ) : Type 0 where
  pub plane : Plane
  pub among : Contains planes plane
  pub sky : plane.key.flat ≡ flat.Sky
  pub run : ℕ × ℕ
  pub has : column plane x ≡ Some run
  pub rows : run.0 ≤ run.1

-- column `own` of a texture is the sky's that is seen where a sky plane has rows
pub record IsSkyColumn (v : ViewValue) (sky : Option TexNo) (planes : List Plane) (number : ℕ) (own : ℤ) : Type 0 where
  pub some : IsSome sky
  pub texture : IfSome sky (λ tex. number ≡ tex.0)
  pub x : ℕ
  pub shown : ShowsSkyAt planes x
  pub is : own ≡ sky_column v x

-- a plane has a run of rows at some column
abbrev pub IsMarked : Plane → Type 0
IsMarked p = (x : ℕ) × IsSome (column p x)

-- a lump is the flat of one of the planes that are marked
pub record IsFlatOf (planes : List Plane) (lump : ℕ) : Type 0 where
  pub plane : Plane
  pub among : Contains planes plane
  pub marked : IsMarked plane
  pub is : plane.key.flat ≡ flat.Lump lump
