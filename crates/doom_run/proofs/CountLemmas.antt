-- A scene that may be drawn may be counted.
use Rattle.picture_rules.proofs.Common.{[], All, All-cons, All-head, All-nil, All-tail, arith, length, List, ℕ, ◌∷◌, ◌≤◌}
use Rattle.doom_run.specs.Rules.{Flat, Heap, Lump, SKY_FLAT, SceneValue, Sector, SectorFlats, flat_number, surface_of, surfaces_of}
use Rattle.scene_rules.specs.declared.Flat.TheVariants.{Sky, Lump as LumpFlat}
use Rattle.level_scene.specs.Bounds.{AreThere, IsThere}
use Rattle.frame_core.specs.Views.{AreFlatNumbers, CanCount, CanDrawView}

-- a flat's number is that of a lump, or the sky's
number_within : (count : ℕ) (flat : Flat) → count ≤ SKY_FLAT → IsThere count flat → flat_number flat ≤ SKY_FLAT
unfolding flat_number
number_within count Sky few there = omega arith
number_within count (LumpFlat lump) few there = omega (arith, few, there)

numbers_within : (count : ℕ) (sectors : List Sector) (flats : List SectorFlats) → count ≤ SKY_FLAT → All (AreThere count) flats → All AreFlatNumbers (surfaces_of sectors flats)
unfolding surfaces_of surface_of
numbers_within count [] flats few there = All-nil AreFlatNumbers
numbers_within count (sector ∷ sectors) [] few there = All-nil AreFlatNumbers
numbers_within count (sector ∷ sectors) (f ∷ flats) few there =
    let flats_are_there = All-head (AreThere count) f flats there in
    All-cons AreFlatNumbers (surface_of sector f) (surfaces_of sectors flats)
    (record { floor = number_within count f.floor few flats_are_there.floor; ceiling = number_within count f.ceiling few flats_are_there.ceiling })
    (numbers_within count sectors flats few (All-tail (AreThere count) f flats there))

pub can_count : (lumps : List Lump) (scene : SceneValue) (z : Heap) → CanDrawView lumps scene z → CanCount scene
can_count lumps scene z can = record {
  sides = can.drawable.sides;
  flats = can.drawable.flats;
  numbers = numbers_within (length lumps) scene.base.level.sectors scene.faces.flats can.few can.drawable.flats_there;
}
