-- What the names of a level mean by the trimmed file: the same sides and sky, and the flats under other numbers.
use Rattle.art_rules.proofs.Common.{AllByRecursion, ap, length, List, map, Ok, Option, refl, sym, ℕ, ◌∙◌, ◌≡◌, ◌≤◌}
use Rattle.trim_rules.specs.Rules.{Faces, LevelValue, Lump, SKY_FLAT, SceneArt, Sector, SectorFlats, SideTextures, TextureLists, faces_in, sector_flats, side_textures, sky_texture}
use Rattle.art_rules.proofs.Laws.{and_then-ok}
use Rattle.trim_rules.specs.{Parts.trim_parts, Files.trimmed_lumps}
use Rattle.trim_rules.proofs.HeldFlatLemmas.{flat_part, flats-held}
use Rattle.trim_rules.proofs.MovedFlatLemmas.{move_both, sectors-moved}
use Rattle.trim_rules.proofs.PlaceLemmas.{part_source, source_of}
use Rattle.trim_rules.proofs.TrimmedLemmas.{IsUnmarked}

-- the flats of the sectors
pub trimmed-sectors : (bytes : ℕ → List ℕ) (lumps : List Lump) (art : SceneArt) (name : List ℕ) (sectors : List Sector)
    → length lumps ≤ SKY_FLAT → sector_flats lumps sectors ≡ Ok art.flats → AllByRecursion (IsUnmarked lumps) (trim_parts lumps art name)
    → (moved : List SectorFlats) × (sector_flats (trimmed_lumps bytes lumps (trim_parts lumps art name)) sectors ≡ Ok moved)
    × (map (move_both (source_of (trim_parts lumps art name))) moved ≡ art.flats)
trimmed-sectors bytes lumps art name sectors few e unmarked =
    sectors-moved (trimmed_lumps bytes lumps (trim_parts lumps art name)) lumps (source_of (trim_parts lumps art name)) sectors art.flats
    (flats-held bytes lumps art name sectors few e unmarked) (λ k lt. ap part_source (flat_part lumps art name k lt)) e

faces-made : (lumps : List Lump) (name : List ℕ) (level : LevelValue) (lists : TextureLists) (sides : List SideTextures) (sky : Option ℕ) (flats : List SectorFlats)
    → side_textures lists.textures level.sides ≡ Ok sides → sky_texture lists.textures name level.sectors ≡ Ok sky → sector_flats lumps level.sectors ≡ Ok flats
    → faces_in lumps name level lists ≡ Ok (record { sides = sides; sky = sky; flats = flats })
unfolding faces_in
faces-made lumps name level lists sides sky flats a b c = rw (a, b, c) refl

-- All that the names mean.
pub trimmed-faces : (bytes : ℕ → List ℕ) (lumps : List Lump) (art : SceneArt) (name : List ℕ) (level : LevelValue) (lists : TextureLists) (faces : Faces)
    → length lumps ≤ SKY_FLAT → faces_in lumps name level lists ≡ Ok faces → faces.flats ≡ art.flats → AllByRecursion (IsUnmarked lumps) (trim_parts lumps art name)
    → (moved : List SectorFlats)
    × (faces_in (trimmed_lumps bytes lumps (trim_parts lumps art name)) name level lists ≡ Ok (record { sides = faces.sides; sky = faces.sky; flats = moved }))
    × (map (move_both (source_of (trim_parts lumps art name))) moved ≡ faces.flats)
unfolding faces_in
trimmed-faces bytes lumps art name level lists faces few e same unmarked =
    let sides_found = and_then-ok (side_textures lists.textures level.sides) _ faces e in
    let sky_found = and_then-ok (sky_texture lists.textures name level.sectors) _ faces sides_found.2 in
    let flats_found = and_then-ok (sector_flats lumps level.sectors) _ faces sky_found.2 in
    let faces_are : ◌≡◌ {A = Faces} (record { sides = sides_found.0; sky = sky_found.0; flats = flats_found.0 }) faces = cc in
    let flats : sector_flats lumps level.sectors ≡ Ok art.flats = flats_found.1 ∙ ap (λ (f : Faces). Ok f.flats) faces_are ∙ ap Ok same in
    let moved = trimmed-sectors bytes lumps art name level.sectors few flats unmarked in (
      moved.0,
      faces-made (trimmed_lumps bytes lumps (trim_parts lumps art name)) name level lists sides_found.0 sky_found.0 moved.0 sides_found.1 sky_found.1 moved.1
          ∙ ap (λ (f : Faces). Ok (record { sides = f.sides; sky = f.sky; flats = moved.0 })) faces_are,
      moved.2 ∙ sym same,
    )
