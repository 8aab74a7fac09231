-- The numbers of a fragment whose sectors' flats have other numbers are the same.
use Rattle.picture_rules.proofs.Common.{Bool, None, Option, option_map, refl, Some, ℕ, ℤ, ◌≡◌}
use Rattle.alike_rules.specs.Rules.{Surface, ViewValue, WallFacts, bottom_by_step, bottom_is_constant, bottom_mid, bottom_part, bottom_silhouette, fragment_numbers, is_masked, middle_mid, middle_part, numbers_by, shuts_bottom, shuts_top, sky_flat, top_by_step, top_is_constant, top_mid, top_part, top_silhouette, world_bottom, world_high, world_low, world_top}
use Rattle.alike_rules.proofs.PlaneLemmas.{IsOneToOne}
use Rattle.alike_rules.proofs.SurfaceLemmas.{IsBackOf, IsSurfaceOf, ceiling_mark-moved, floor_mark-moved, moved_surface, top-moved}

abbrev pub moved_facts : (ℕ → ℕ) → WallFacts → WallFacts
moved_facts σ f = record {
  seg_no = f.seg_no;
  seg = f.seg;
  front = moved_surface σ f.front;
  back = option_map (moved_surface σ) f.back;
  x_offset = f.x_offset;
  y_offset = f.y_offset;
  top = f.top;
  bottom = f.bottom;
  middle = f.middle;
}

module _ (σ : ℕ → ℕ) where
  high_same : (eye_z : ℤ) (back : Option Surface) → world_high eye_z (option_map (moved_surface σ) back) ≡ world_high eye_z back
  unfolding world_high
  high_same eye_z None = refl
  high_same eye_z (Some back) = refl

  low_same : (eye_z : ℤ) (back : Option Surface) → world_low eye_z (option_map (moved_surface σ) back) ≡ world_low eye_z back
  unfolding world_low
  low_same eye_z None = refl
  low_same eye_z (Some back) = refl

  floor_same : (eye_z : ℤ) (front : Surface) → world_bottom eye_z (moved_surface σ front) ≡ world_bottom eye_z front
  unfolding world_bottom
  floor_same eye_z front = refl

  masked_same : (f : WallFacts) (back : Option Surface) → is_masked (moved_facts σ f) (option_map (moved_surface σ) back) ≡ is_masked f back
  unfolding is_masked
  masked_same f None = refl
  masked_same f (Some back) = refl

  bottom_same : (eye_z : ℤ) (front : Surface) (back : Option Surface) (m : Bool) → bottom_silhouette eye_z (moved_surface σ front) (option_map (moved_surface σ) back) m ≡ bottom_silhouette eye_z front back m
  unfolding bottom_silhouette shuts_bottom bottom_by_step
  bottom_same eye_z front None m = refl
  bottom_same eye_z front (Some back) m = refl

  top_same : (eye_z : ℤ) (front : Surface) (back : Option Surface) (m : Bool) → top_silhouette eye_z (moved_surface σ front) (option_map (moved_surface σ) back) m ≡ top_silhouette eye_z front back m
  unfolding top_silhouette shuts_top top_by_step
  top_same eye_z front None m = refl
  top_same eye_z front (Some back) m = refl

  bottom_constant_same : (front : Surface) (back : Option Surface) → bottom_is_constant (moved_surface σ front) (option_map (moved_surface σ) back) ≡ bottom_is_constant front back
  unfolding bottom_is_constant shuts_bottom
  bottom_constant_same front None = refl
  bottom_constant_same front (Some back) = refl

  top_constant_same : (front : Surface) (back : Option Surface) → top_is_constant (moved_surface σ front) (option_map (moved_surface σ) back) ≡ top_is_constant front back
  unfolding top_is_constant shuts_top
  top_constant_same front None = refl
  top_constant_same front (Some back) = refl

module _ (P : ℕ → Type 0) (σ : ℕ → ℕ) (one : IsOneToOne P σ) (sky : P sky_flat) (keeps : σ sky_flat ≡ sky_flat) (eye_z : ℤ) (f : WallFacts)
    (p : IsSurfaceOf P f.front) (q : IsBackOf P f.back) where
  own_top : world_top eye_z (moved_surface σ f.front) (option_map (moved_surface σ) f.back) ≡ world_top eye_z f.front f.back
  own_top = top-moved P σ one sky keeps eye_z f.front f.back p q

  middle_step : (back : Option Surface) → middle_part eye_z (moved_facts σ f) (option_map (moved_surface σ) back) ≡ middle_part eye_z f back
  unfolding middle_part middle_mid
  middle_step None = rw own_top refl
  middle_step (Some back) = refl

  upper_step : (back : Option Surface) → IsBackOf P back → top_part eye_z (moved_facts σ f) (option_map (moved_surface σ) back) ≡ top_part eye_z f back
  unfolding top_part top_mid world_high
  upper_step None r = refl
  upper_step (Some back) r = rw (own_top, top-moved P σ one sky keeps eye_z f.front (Some back) p r) refl

  lower_step : (back : Option Surface) → bottom_part eye_z (moved_facts σ f) (option_map (moved_surface σ) back) ≡ bottom_part eye_z f back
  unfolding bottom_part bottom_mid world_bottom
  lower_step None = refl
  lower_step (Some back) = rw (own_top, low_same σ eye_z f.back, low_same σ eye_z (Some back)) refl

-- the numbers of a fragment
pub numbers-same : (P : ℕ → Type 0) (σ : ℕ → ℕ) → IsOneToOne P σ → P sky_flat → σ sky_flat ≡ sky_flat → (v : ViewValue) (f : WallFacts) (first last : ℕ)
    → IsSurfaceOf P f.front → IsBackOf P f.back → fragment_numbers v (moved_facts σ f) first last ≡ fragment_numbers v f first last
unfolding fragment_numbers numbers_by
numbers-same P σ one sky keeps v f first last p q =
    rw (
      top-moved P σ one sky keeps v.eye.z f.front f.back p q,
      floor_same σ v.eye.z f.front,
      high_same σ v.eye.z f.back,
      low_same σ v.eye.z f.back,
      floor_mark-moved P σ one sky keeps v.eye.z f.front f.back p q,
      ceiling_mark-moved P σ one sky keeps v.eye.z f.front f.back p q,
      masked_same σ f f.back,
      bottom_same σ v.eye.z f.front f.back (is_masked f f.back),
      top_same σ v.eye.z f.front f.back (is_masked f f.back),
      bottom_constant_same σ f.front f.back,
      top_constant_same σ f.front f.back,
      middle_step P σ one sky keeps v.eye.z f p q f.back,
      upper_step P σ one sky keeps v.eye.z f p q f.back q,
      lower_step P σ one sky keeps v.eye.z f p q f.back,
    ) refl
