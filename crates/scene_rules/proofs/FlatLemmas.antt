-- Laws of `surfaces_of`.
use Rattle.std.proofs.Common.{◌≡◌, ℕ, zero, suc, ◌+◌, ◌<◌, List, [], ◌∷◌, ◌++◌, length, take, get_or, refl, ap, arith}
use Rattle.level_rules.specs.declared.Sector.{Sector}
use Rattle.scene_rules.specs.declared.SectorFlats.{SectorFlats}
use Rattle.scene_rules.specs.SectorFlats.{surface_of, surfaces_of}

-- before the first sector
pub surfaces_of-none : (flats : List SectorFlats) → surfaces_of [] flats ≡ []
unfolding surfaces_of
surfaces_of-none flats = refl

-- one sector more
pub surfaces_of-more : (sectors : List Sector) (flats : List SectorFlats) (i : ℕ) (s : Sector) (f : SectorFlats) → i < length sectors → i < length flats →
    surfaces_of (take (i + 1) sectors) (take (i + 1) flats) ≡ surfaces_of (take i sectors) (take i flats) ++ surface_of (get_or sectors i s) (get_or flats i f) ∷ []
unfolding surfaces_of
surfaces_of-more [] flats i s f l m = absurd (omega arith)
surfaces_of-more (sector ∷ sectors) [] i s f l m = absurd (omega arith)
surfaces_of-more (sector ∷ sectors) (both ∷ flats) zero s f l m = refl
surfaces_of-more (sector ∷ sectors) (both ∷ flats) (suc i) s f l m =
    let next_count_is : suc i + 1 ≡ suc (i + 1) = omega arith in
    rw next_count_is (ap (λ v. surface_of sector both ∷ v) (surfaces_of-more sectors flats i s f (omega arith) (omega arith)))

-- for `grind`: a loop over the sectors
pub ruleset surfaces = (surfaces_of-none, surfaces_of-more)
