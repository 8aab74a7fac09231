-- The scene by the trimmed file is the level's under other numbers, as drawing asks for it.
use Rattle.picture_rules.proofs.Common.{[], All, AllByRecursion, ap, arith, length, length-map, List, map, None, Ok, Option, or_else-none, refl, Some, suc, sym, zero, ℕ, ◌<◌, ◌∙◌, ◌∷◌, ◌≡◌}
use Rattle.doom_run.specs.Rules.{Flat, LevelValue, MapBytes, MapLeaf, MapRefusal, SceneValue, Sector, SectorFlats, joined_leaves, joined_level, level_of, map_refusal, no_leaf_refusal, picked, records_of, records_refusal, sizes_refusal, surface_of, surfaces_of, unless}
use Rattle.picture_rules.specs.Words.{Leaf}
use Rattle.picture_rules.proofs.Laws.{level_of-sound}
use Rattle.scene_rules.specs.declared.Flat.TheVariants.{Sky, Lump as LumpFlat}
use Rattle.sound_scene.proofs.SurfaceLemmas.{surface_counts}
use Rattle.sound_scene.specs.Pictures.{lists_of}
use Rattle.trim_rules.proofs.FlatPlaceLemmas.{AreFlatPlaces, IsFlatPlace}
use Rattle.trim_rules.proofs.MovedFlatLemmas.{move_both, move_flat}
use Rattle.trim_rules.proofs.{PickedLemmas.picked-moved, SceneLemmas.IsSceneMoved}
use Rattle.alike_rules.proofs.{SoundLemmas.HasSectors, SurfaceLemmas.IsSurfaceOf}
use Rattle.doom_run.proofs.alike.SceneOfLemmas.{IsMovedValue, moved_flats, moved_named}

-- the same flats by both names for what moves them
flat-same : (σ : ℕ → ℕ) (f : Flat) → move_flat σ f ≡ moved_named σ f
flat-same σ Sky = refl
flat-same σ (LumpFlat lump) = refl

flats-same : (σ : ℕ → ℕ) (fs : List SectorFlats) → map (move_both σ) fs ≡ map (moved_flats σ) fs
flats-same σ [] = refl
flats-same σ (f ∷ fs) = rw (flat-same σ f.floor, flat-same σ f.ceiling, flats-same σ fs) refl

-- what drawing asks of the two scenes
pub moved-value : (σ : ℕ → ℕ) (bytes : ℕ → List ℕ) (moved scene : SceneValue) → IsSceneMoved σ bytes moved scene → IsMovedValue σ bytes moved scene
moved-value σ bytes moved scene m = record {
  level = m.level;
  lists = m.lists;
  colormap = m.colormap;
  sides = m.sides;
  sky = m.sky;
  flats = sym m.flats ∙ flats-same σ moved.faces.flats;
  prepared = sym m.prepared;
  placed = m.placed;
  pick = λ sprite frame rotation. ap (λ book. picked book sprite frame rotation) (sym m.book) ∙ picked-moved σ moved.book sprite frame rotation;
}

-- both flats of each surface are of part 1, or the sky
pub surfaces-placed : (count : ℕ) (sectors : List Sector) (flats : List SectorFlats) → AllByRecursion (AreFlatPlaces count) flats → All (IsSurfaceOf (IsFlatPlace count)) (surfaces_of sectors flats)
unfolding surfaces_of surface_of
surfaces-placed count [] flats all k d lt = absurd (omega arith)
surfaces-placed count (s ∷ ss) [] all k d lt = absurd (omega arith)
surfaces-placed count (s ∷ ss) (f ∷ fs) all zero d lt = record { floor = all.0.floor; ceiling = all.0.ceiling }
surfaces-placed count (s ∷ ss) (f ∷ fs) all (suc k) d lt = surfaces-placed count ss fs all.1 k d (omega arith)

unless_step : (refusal : Option MapRefusal) (value level : LevelValue) → unless refusal value ≡ Ok level → (refusal ≡ None) × (value ≡ level)
unfolding unless
unless_step None value level e = (refl, cc)
unless_step (Some r) value level e = absurd (cc)

some_leaf : (leaves : List MapLeaf) → no_leaf_refusal leaves ≡ None → 0 < length leaves
unfolding no_leaf_refusal
some_leaf [] e = absurd (cc)
some_leaf (leaf ∷ leaves) e = omega arith

no_leaf : Leaf
no_leaf = record { first = 0; count = 0; sector = 0 }

-- a level has a leaf
level-leaf : (b : MapBytes) (level : LevelValue) → level_of b ≡ Ok level → 0 < length level.leaves
unfolding level_of map_refusal records_refusal joined_level joined_leaves
level-leaf b level e =
    let level_not_refused = unless_step _ (joined_level (records_of b)) level e in
    let records = or_else-none (sizes_refusal b) (records_refusal (records_of b)) level_not_refused.0 in
    let leaf = or_else-none (no_leaf_refusal (records_of b).leaves) _ records.1 in
    let has_leaves : 0 < length (records_of b).leaves = some_leaf (records_of b).leaves leaf.0 in
    let count : length (joined_leaves (records_of b)) ≡ length (records_of b).leaves = length-map (records_of b).leaves _ in
    let leaf_count_same : length (joined_leaves (records_of b)) ≡ length level.leaves = ap (λ (l : LevelValue). length l.leaves) level_not_refused.1 in
    omega arith

-- and so a sector
pub level-sector : (b : MapBytes) (level : LevelValue) → level_of b ≡ Ok level → 0 < length level.sectors
level-sector b level e =
    let sound = level_of-sound b level e in
    let leaf = (sound.leaves 0 no_leaf (level-leaf b level e)).sector in
    omega arith

-- each sector that is named has a surface
pub scene-sectors : (b : MapBytes) (scene : SceneValue) → level_of b ≡ Ok scene.base.level → length scene.faces.flats ≡ length scene.base.level.sectors → HasSectors (lists_of scene)
scene-sectors b scene e count =
    let sound = level_of-sound b scene.base.level e in
    let sector_count_same : length (surfaces_of scene.base.level.sectors scene.faces.flats) ≡ length scene.base.level.sectors = surface_counts scene.base.level.sectors scene.faces.flats count in
    let has_sectors : 0 < length scene.base.level.sectors = level-sector b scene.base.level e in
    record {
      some = omega arith;
      leaves = λ k d lt. let in_sector = (sound.leaves k d lt).sector in omega arith;
      backs = λ k d lt sector is. let back_is_there = (sound.segs k d lt).back sector is in omega arith;
    }
