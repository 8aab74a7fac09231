-- A row of the weapon table as a layer, and the light of a viewpoint.
use Rattle.picture_rules.proofs.Common.{[], ap, arith, length, List, None, Option, option_map, refl, slice_index_or, Some, suc, sym, ℕ, ℤ, ◌∙◌, ◌∷◌, ◌≡◌}
use Rattle.doom_run.specs.Rules.{Eye, Frame, SceneValue, Sector, SectorFlats, Shape, Surface, WeaponLayer, no_surface, picked, sector_at, surface_at, surfaces_of}
use Rattle.csv_tables.specs.declared.weapons.WeaponRow.{WeaponRow}
use Rattle.sound_scene.specs.Pictures.{drawn_shape}
use Rattle.doom_run.specs.Layers.{layer_of, layer_with, layer_light}

-- there are as many surfaces as sectors
pub length_surfaces : (sectors : List Sector) (flats : List SectorFlats) → length flats ≡ length sectors → length (surfaces_of sectors flats) ≡ length sectors
unfolding surfaces_of
length_surfaces [] flats e = refl
length_surfaces (sector ∷ sectors) [] e = e
length_surfaces (sector ∷ sectors) (both ∷ flats) e = let rest : length flats ≡ length sectors = omega (arith, e) in ap suc (length_surfaces sectors flats rest)

-- the light of the surface that was found
pub light_found : (scene : SceneValue) (eye : Eye) (surfaces : List Surface) (n : ℕ) (x y : ℤ) → surfaces ≡ surfaces_of scene.base.level.sectors scene.faces.flats → n ≡ sector_at scene.base.level x y → x ≡ eye.x → y ≡ eye.y →
    (slice_index_or surfaces n no_surface).light ≡ layer_light scene eye
unfolding layer_light surface_at
light_found scene eye surfaces n x y are is h v =
    let sector_same : n ≡ sector_at scene.base.level eye.x eye.y = is ∙ ap (λ (a : ℤ). sector_at scene.base.level a y) h ∙ ap (λ (b : ℤ). sector_at scene.base.level eye.x b) v in
    ap (λ (xs : List Surface). (slice_index_or xs n no_surface).light) are ∙ ap (λ (k : ℕ). (slice_index_or (surfaces_of scene.base.level.sectors scene.faces.flats) k no_surface).light) sector_same

-- the frame of a row has no picture
pub layer_none : (book : List Frame) (light : ℤ) (number : ℕ) (row : WeaponRow) → picked book row.sprite row.frame 0 ≡ None → None ≡ layer_of book light number row
unfolding layer_of
layer_none book light number row none = ap (option_map (layer_with light number row)) (sym none)

-- it has one
pub layer_some : (book : List Frame) (light light' : ℤ) (number : ℕ) (row : WeaponRow) (shape : Shape) (sx sy : ℤ) → picked book row.sprite row.frame 0 ≡ Some shape → sx ≡ row.sx → sy ≡ row.sy → light' ≡ light →
    ◌≡◌ {A = Option WeaponLayer} (Some (record { row = number; shape = drawn_shape shape; sx = sx; sy = sy; bright = row.bright; light = light' })) (layer_of book light number row)
unfolding layer_of layer_with
layer_some book light light' number row shape sx sy some x y l =
    let layer_made : ℤ → ℤ → ℤ → Option WeaponLayer = λ a b c. Some (record { row = number; shape = drawn_shape shape; sx = a; sy = b; bright = row.bright; light = c }) in
    ap (λ (a : ℤ). layer_made a sy light') x ∙ ap (λ (b : ℤ). layer_made row.sx b light') y ∙ ap (λ (c : ℤ). layer_made row.sx row.sy c) l ∙ ap (option_map (layer_with light number row)) (sym some)
