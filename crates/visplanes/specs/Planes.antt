-- What a contract sees of planes: their list, and the room that was taken for them.
use Rattle.std.specs.Prelude.{◌≡◌, ℕ, ◌-◌, ◌<◌, ◌≤◌, pos, List, Some, length, slice_index_or}
use Rattle.visplanes.specs.Rules.{Flat4, Lump, Plane, Sky, empty_plane, number_of}

pub record PlanesView : Type 0 where
  pub planes : List Plane
  pub room : ℕ

abbrev pub with_planes : List Plane → PlanesView → PlanesView
with_planes planes s = record s { planes = planes }

-- what stands where no plane has the number
unfoldable pub no_plane : Plane
no_plane = empty_plane (record { height = pos 0; flat = Sky; light = pos 0 })

-- plane number n
abbrev pub plane_at : List Plane → ℕ → Plane
plane_at planes n = slice_index_or planes n no_plane

-- plane n is the first of its key, and n is 0 where there is no plane
pub record IsFirst (planes : List Plane) (n : ℕ) : Type 0 where
  pub within : n ≤ length planes - 1
  pub first : n < length planes → number_of planes (plane_at planes n).key ≡ Some n

-- the lump of a flat, 0 where it is the sky
abbrev pub flat_lump : Flat4 → ℕ
flat_lump Sky = 0
flat_lump (Lump n) = n
