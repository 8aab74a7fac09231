-- The scene that is drawn of a level whose lumps have other numbers is the same scene under the other numbers.
use Rattle.picture_rules.proofs.Common.{[], All, ap, List, map, None, Option, option_map, refl, Some, sym, unwrap_or, ℕ, ◌∙◌, ◌∷◌, ◌≡◌}
use Rattle.doom_run.specs.Rules.{Flat, SceneValue, Sector, SectorFlats, Shape, flat_number, picked, sky_flat, surface_of, surfaces_of, texture_at, things_of}
use Rattle.scene_rules.specs.declared.Flat.TheVariants.{Sky, Lump as LumpFlat}
use Rattle.sound_scene.specs.Sound.{textures_view}
use Rattle.sound_scene.specs.Pictures.{drawn_shape, lists_of, scene_of}
use Rattle.alike_rules.proofs.EntryLemmas.{moved_shape}
use Rattle.alike_rules.proofs.SceneLemmas.{IsMovedScene, moved_level}
use Rattle.alike_rules.proofs.SoundLemmas.{HasSectors, sectors-moved}
use Rattle.alike_rules.proofs.SurfaceLemmas.{IsSurfaceOf, moved_surface}
use Rattle.doom_run.proofs.alike.ArtLemmas.{art-moved, moved_prepared}

-- a sector's flat under the other numbers; the sky stays
abbrev pub moved_named : (ℕ → ℕ) → Flat → Flat
moved_named σ Sky = Sky
moved_named σ (LumpFlat lump) = LumpFlat (record { 0 = σ lump.0 })

abbrev pub moved_flats : (ℕ → ℕ) → SectorFlats → SectorFlats
moved_flats σ f = record { floor = moved_named σ f.floor; ceiling = moved_named σ f.ceiling }

-- a picture of the book under the other numbers
abbrev pub moved_picture : (ℕ → ℕ) → Shape → Shape
moved_picture σ s = record { lump = record { 0 = σ s.lump.0 }; flip = s.flip; width = s.width; left = s.left; top = s.top }

-- The same scene of a level, but for the numbers of its lumps; bytes are those of the other's lumps.
pub record IsMovedValue (σ : ℕ → ℕ) (bytes : ℕ → List ℕ) (scene other : SceneValue) : Type 0 where
  pub level : other.base.level ≡ scene.base.level
  pub lists : other.base.lists ≡ scene.base.lists
  pub colormap : bytes other.base.colormap ≡ bytes (σ scene.base.colormap)
  pub sides : other.faces.sides ≡ scene.faces.sides
  pub sky : other.faces.sky ≡ scene.faces.sky
  pub flats : other.faces.flats ≡ map (moved_flats σ) scene.faces.flats
  pub prepared : other.prepared ≡ moved_prepared σ scene.prepared
  pub placed : other.placed ≡ scene.placed
  pub pick : (sprite : List ℕ) (frame rotation : ℕ) → picked other.book sprite frame rotation ≡ option_map (moved_picture σ) (picked scene.book sprite frame rotation)

module _ (σ : ℕ → ℕ) (keeps : σ sky_flat ≡ sky_flat) where
  number-moved : (f : Flat) → flat_number (moved_named σ f) ≡ σ (flat_number f)
  unfolding flat_number
  number-moved Sky = sym keeps
  number-moved (LumpFlat lump) = refl

  surface-moved : (sector : Sector) (f : SectorFlats) → surface_of sector (moved_flats σ f) ≡ moved_surface σ (surface_of sector f)
  unfolding surface_of
  surface-moved sector f = rw (number-moved f.floor, number-moved f.ceiling) refl

  surfaces-moved : (sectors : List Sector) (flats : List SectorFlats) → surfaces_of sectors (map (moved_flats σ) flats) ≡ map (moved_surface σ) (surfaces_of sectors flats)
  unfolding surfaces_of
  surfaces-moved [] flats = refl
  surfaces-moved (s ∷ ss) [] = refl
  surfaces-moved (s ∷ ss) (f ∷ fs) = rw (surface-moved s f, surfaces-moved ss fs) refl

  drawn_step : (o : Option Shape) → option_map drawn_shape (option_map (moved_picture σ) o) ≡ option_map (moved_shape σ) (option_map drawn_shape o)
  drawn_step None = refl
  drawn_step (Some s) = refl

  lists-moved : (bytes : ℕ → List ℕ) (scene other : SceneValue) → IsMovedValue σ bytes scene other → lists_of other ≡ moved_level σ (lists_of scene)
  lists-moved bytes scene other m = rw (m.level, m.sides, m.flats, surfaces-moved scene.base.level.sectors scene.faces.flats) refl

  -- the scene that is drawn
  pub scene-moved : (P : ℕ → Type 0) (bytes : ℕ → List ℕ) (scene other : SceneValue) → IsMovedValue σ bytes scene other
      → HasSectors (lists_of scene) → All (IsSurfaceOf P) (lists_of scene).surfaces
      → IsMovedScene P σ (scene_of (λ n. bytes (σ n)) scene) (scene_of bytes other)
  unfolding scene_of
  scene-moved P bytes scene other m sectors flats = record {
    level = lists-moved bytes scene other m;
    surfaces = sectors-moved P σ (lists_of scene) sectors flats;
    sides = ap (λ level. level.sides) m.level;
    side_textures = m.sides;
    texture_height = λ n. ap (λ lists. (texture_at lists.textures n).height) m.lists;
    things_of = λ sector. ap (λ placed. things_of placed sector) m.placed;
    pick = λ sprite frame rotation. ap (option_map drawn_shape) (m.pick sprite frame rotation) ∙ drawn_step (picked scene.book sprite frame rotation);
    sky = ap (λ o. unwrap_or o 0) m.sky;
    art = art-moved σ bytes (textures_view scene) (textures_view other) scene.base.colormap other.base.colormap m.prepared m.colormap;
  }
