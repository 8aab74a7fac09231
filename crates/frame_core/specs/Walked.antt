-- The walls, planes and vissprites of a view as a list of events makes them.
use Rattle.std.specs.Prelude.{◌≡◌, ◌≤◌, ◌<◌, ◌⊎◌, ◌||◌, ℕ, Bool, true, false, List, All, None, length, map}
use Rattle.std.specs.List.{AllPass}
use Rattle.frame_core.specs.Rules.{Event, Flat4, FragmentEvent, IsAmongPlanes, LeafEvent, Limits, Plane, PlanesNow, Scene, SceneValue, SpriteEntry, Step, Surface, ViewShape, ViewValue, Wall, after_events, book_lumps, facts_of, holds, is_entered, is_sky, last_leaf, leaf_sector, leaf_surface, no_planes, openings_after, seg_at, steps_over, surface_at, view_entries, view_steps, wall_of, walls_of, with_things}
use Rattle.picture_rules.specs.declared.plane.Flat4.TheVariants.{Sky, Lump}
use Rattle.vissprites.specs.Bounds.{lies_within, has_lump_below}
use Rattle.wall_columns.specs.Built.{IsBuilt, limits_of}
use Rattle.frame_core.specs.{declared.bench.Bench.Bench, Entered.has_entered}
use Rattle.sound_scene.specs.Pictures.{lists_of, scene_of}

-- an event names what is there: a leaf, or columns of the view and a seg
abbrev pub IsEventIn : ViewValue → SceneValue → Event → Type 0
IsEventIn v scene (LeafEvent n) = n < length scene.base.level.leaves
IsEventIn v scene (FragmentEvent seg first last) =
    (seg < length scene.base.level.segs) × ((first ≤ last) × (last < v.shape.width))

-- the fragment of a seg as it is seen after these events
unfoldable pub next_wall : ViewValue → Scene → List Event → ℕ → ℕ → ℕ → Wall
next_wall v scene events seg first last =
    wall_of v (facts_of scene (leaf_surface scene (last_leaf 0 events)) seg (seg_at scene.level seg)) first last

-- the vissprites with those of a sector's things, where it was not entered before
unfoldable pub with_sector : ViewValue → Scene → Bool → ℕ → List SpriteEntry → List SpriteEntry
with_sector v scene true sector entries = entries
with_sector v scene false sector entries = with_things v scene sector entries (scene.things_of sector)

-- the planes after the events
unfoldable pub planes_after : ViewValue → Scene → List Event → PlanesNow
planes_after v scene events =
    after_events no_planes (map (λ (s : Step). s.event) (view_steps v scene events))

-- the flat of a plane is that of a sector's floor or ceiling: sky, or a lump
abbrev pub IsFlatOf : Surface → Flat4 → Type 0
IsFlatOf s Sky = (is_sky s.floor_flat || is_sky s.ceiling_flat) ≡ true
IsFlatOf s (Lump n) =
    ((n ≡ s.floor_flat) × (is_sky s.floor_flat ≡ false)) ⊎ ((n ≡ s.ceiling_flat) × (is_sky s.ceiling_flat ≡ false))

pub record IsFlatShown (scene : SceneValue) (flat : Flat4) : Type 0 where
  pub sector : ℕ
  pub there : sector < length scene.base.level.sectors
  pub is : IsFlatOf (surface_at (lists_of scene) sector) flat

-- a plane of a sector of the scene, which lies in the view
pub record IsPlaneIn (shape : ViewShape) (scene : SceneValue) (p : Plane) : Type 0 where
  pub flat : IsFlatShown scene p.key.flat
  pub column : (x y : ℕ) → holds p y x ≡ true → x < shape.width
  pub row : (x y : ℕ) → holds p y x ≡ true → y < shape.height

-- The walls, the planes and the vissprites are those of the events, none of which passes a limit.
pub record HasWalked (v : ViewValue) (bytes : ℕ → List ℕ) (scene : SceneValue) (most : Limits)
    (events : List Event) (b : Bench) : Type 0 where
  pub there : All (IsEventIn v scene) events
  pub built : IsBuilt v (walls_of v (scene_of bytes scene) events)
      (planes_after v (scene_of bytes scene) events) b.walls b.planes.planes
  pub openings : length b.walls.openings ≡ openings_after 0 (view_steps v (scene_of bytes scene) events)
  pub limits : limits_of b.walls b.planes ≡ most
  pub within : steps_over most (view_steps v (scene_of bytes scene) events) ≡ None
  pub planes : All (IsPlaneIn v.shape scene) b.planes.planes
  pub sprites : b.sprites ≡ view_entries v (scene_of bytes scene) events
  pub columns : AllPass (lies_within v.shape.width) b.sprites
  pub lumps : (n : ℕ) → All (λ lump. lump < n) (book_lumps scene.book) → AllPass (has_lump_below n) b.sprites
  pub entered : (sector : ℕ) → sector < length scene.base.level.sectors →
      has_entered b.entered sector ≡ is_entered (scene_of bytes scene) events sector
  pub sector : b.sector ≡ leaf_sector (scene_of bytes scene) (last_leaf 0 events)

-- a leaf or a fragment may come next
pub record CanTake (v : ViewValue) (scene : SceneValue) (b : Bench) : Type 0 where
  pub height : b.walls.height ≡ v.shape.height
  pub floor : IsAmongPlanes b.planes.planes b.walls.floor
  pub ceiling : IsAmongPlanes b.planes.planes b.walls.ceiling
  pub sector : 0 < length scene.base.level.segs → b.sector < length scene.base.level.sectors
