-- The keys of planes, and which planes a leaf finds (R_Subsector, r_bsp.c; R_FindPlane, r_plane.c).
use Rattle.std.specs.Prelude.{ℕ, ◌==◌, ◌&&◌, ◌||◌, ℤ, pos, int_lt, Bool, true, false, cond, Option, Some, None}
use Rattle.picture_rules.specs.Rules.{Surface, is_sky, same_word}
use Rattle.picture_rules.specs.{declared.plane.PlaneKey.PlaneKey, declared.plane.Flat4.Flat4}
use Rattle.picture_rules.specs.declared.plane.Flat4.TheVariants.{Sky, Lump}

unfoldable pub same_flat : Flat4 → Flat4 → Bool
same_flat Sky Sky = true
same_flat Sky (Lump m) = false
same_flat (Lump n) Sky = false
same_flat (Lump n) (Lump m) = n == m

unfoldable pub same_key : PlaneKey → PlaneKey → Bool
same_key a b = same_word a.height b.height && (same_flat a.flat b.flat && same_word a.light b.light)

unfoldable pub is_sky_key : PlaneKey → Bool
is_sky_key key = same_flat key.flat Sky

-- all sky is one: its key has height 0 and light 0
unfoldable pub key_of : ℤ → ℕ → ℤ → PlaneKey
key_of height flat light =
    cond (is_sky flat) (record { height = pos 0; flat = Sky; light = pos 0 }) (record { height = height; flat = Lump flat; light = light })

-- the floor is found where it is below the viewpoint
unfoldable pub floor_key : ℤ → Surface → Option PlaneKey
floor_key eye_z s = cond (int_lt s.floor eye_z) (Some (key_of s.floor s.floor_flat s.light)) None

-- the ceiling where it is above the viewpoint, or sky
unfoldable pub ceiling_key : ℤ → Surface → Option PlaneKey
ceiling_key eye_z s = cond (int_lt eye_z s.ceiling || is_sky s.ceiling_flat) (Some (key_of s.ceiling s.ceiling_flat s.light)) None
