-- How many surfaces a level has.
use Rattle.art_rules.proofs.Common.{[], ap, arith, length, List, refl, suc, ◌∷◌, ◌≡◌}
use Rattle.sound_scene.specs.Rules.{Sector, SectorFlats, surfaces_of}

-- there are as many surfaces as sectors
pub surface_counts : (sectors : List Sector) (flats : List SectorFlats) → length flats ≡ length sectors → length (surfaces_of sectors flats) ≡ length sectors
unfolding surfaces_of
surface_counts [] flats e = refl
surface_counts (sector ∷ sectors) [] e = absurd (omega (arith, e))
surface_counts (sector ∷ sectors) (both ∷ flats) e = ap suc (surface_counts sectors flats (omega (arith, e)))
