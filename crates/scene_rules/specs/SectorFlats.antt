-- The flats of sectors, and the surfaces that the drawing layers compare (P_LoadSectors, p_setup.c;
-- R_FlatNumForName, r_data.c).
use Rattle.std.specs.Prelude.{ℕ, cond, List, [], ◌∷◌, Option, Some, Result, option_map}
use Rattle.std.specs.Option.{option_and_then}
use Rattle.lump_rules.specs.{declared.wad.Lump.Lump, Lookups.flat_of}
use Rattle.level_rules.specs.{declared.Sector.Sector, declared.Surface.Surface}
use Rattle.level_rules.specs.declared.TheConstants.{SKY_FLAT}
use Rattle.scene_rules.specs.{declared.Flat.Flat, declared.SectorFlats.SectorFlats}
use Rattle.scene_rules.specs.declared.Flat.TheVariants.{Sky, Lump as LumpFlat}
use Rattle.scene_rules.specs.declared.refusal.SceneRefusal.{SceneRefusal}
use Rattle.scene_rules.specs.declared.refusal.SceneRefusal.TheVariants.{SectorFlat}
use Rattle.scene_rules.specs.{Numbered.each_or, Skies.is_sky_name}

-- what a name of a flat means: the sky, or the last flat of that name
unfoldable pub lump_flat : ℕ → Flat
lump_flat lump = LumpFlat (record { 0 = lump })

unfoldable pub flat_named : List Lump → List ℕ → Option Flat
flat_named lumps name = cond (is_sky_name name) (Some Sky) (option_map lump_flat (flat_of lumps name))

unfoldable pub both_flats : Flat → Flat → SectorFlats
both_flats floor ceiling = record { floor = floor; ceiling = ceiling }

-- the flats of a sector, nothing where one of them is not found
unfoldable pub flats_of : List Lump → Sector → Option SectorFlats
flats_of lumps sector =
    option_and_then (λ floor. option_map (both_flats floor) (flat_named lumps sector.ceiling_name)) (flat_named lumps sector.floor_name)

-- the flats of all sectors, or the first sector that lacks one
unfoldable pub sector_flats : List Lump → List Sector → Result (List SectorFlats) SceneRefusal
sector_flats lumps sectors = each_or (flats_of lumps) SectorFlat sectors

-- the number by which flats are compared
unfoldable pub flat_number : Flat → ℕ
flat_number Sky = SKY_FLAT
flat_number (LumpFlat lump) = lump.0

unfoldable pub surface_of : Sector → SectorFlats → Surface
surface_of sector flats = record {
  floor = sector.floor;
  ceiling = sector.ceiling;
  floor_flat = flat_number flats.floor;
  ceiling_flat = flat_number flats.ceiling;
  light = sector.light;
}

-- the surfaces of all sectors
unfoldable pub surfaces_of : List Sector → List SectorFlats → List Surface
surfaces_of [] flats = []
surfaces_of (sector ∷ sectors) [] = []
surfaces_of (sector ∷ sectors) (f ∷ flats) = surface_of sector f ∷ surfaces_of sectors flats
