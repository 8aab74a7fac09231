-- Planes whose flats have other numbers: the same dots of floors, ceilings and sky.
use Rattle.std.proofs.Common.{◌≡◌, ℕ, map, Option, Some, None, refl, ap, ◌∙◌}
use Rattle.alike_rules.specs.Rules.{Art, Flat4, Lump, PLANE, Painter, Plane, SKY, Sky, ViewValue, column, flat_colour, floor_colour, floor_dots, holds, listed, listed_from, lump_source, painter_of, plane_dots, plane_dots_by, run_dots, sky_colour, sky_column, sky_dots}
use Rattle.alike_rules.proofs.DotLemmas.{IsMovedArt, column_dots-moved, joined-moved, lump-moved, moved_dot, moved_painter, painter-moved}
use Rattle.alike_rules.proofs.PlaneLemmas.{moved_flat, moved_plane}

pub run_dots-moved : (σ : ℕ → ℕ) (p : Painter) (x : ℕ) (f g : ℕ → ℕ) → ((y : ℕ) → g y ≡ f y) → (o : Option (ℕ × ℕ))
    → run_dots (moved_painter σ p) x g o ≡ map (moved_dot σ) (run_dots p x f o)
unfolding run_dots
run_dots-moved σ p x f g same None = refl
run_dots-moved σ p x f g same (Some r) = column_dots-moved σ p x f g same (listed_from (λ y. y) r.0 r.1)

module _ (σ : ℕ → ℕ) (art other : Art) (moved : IsMovedArt σ art other) (v : ViewValue) where
  floor_colour-moved : (lump : ℕ) (p : Plane) (x y : ℕ) → floor_colour v other (σ lump) (moved_plane σ p) x y ≡ floor_colour v art lump p x y
  unfolding floor_colour flat_colour holds column
  floor_colour-moved lump p x y = ap (other.shade _) (moved.byte lump _) ∙ moved.shade _ _

  column-moved : (p : Plane) (x : ℕ) → column (moved_plane σ p) x ≡ column p x
  unfolding column
  column-moved p x = refl

  -- the dots of a plane with a flat
  pub floor_dots-moved : (n lump : ℕ) (p : Plane) → floor_dots v other n (σ lump) (moved_plane σ p) ≡ map (moved_dot σ) (floor_dots v art n lump p)
  unfolding floor_dots
  floor_dots-moved n lump p =
      joined-moved (moved_dot σ)
      (λ x. run_dots (painter_of PLANE n (lump_source lump)) x (floor_colour v art lump p x) (column p x))
      (λ x. run_dots (painter_of PLANE n (lump_source (σ lump))) x (floor_colour v other (σ lump) (moved_plane σ p) x) (column (moved_plane σ p) x))
      (λ x. rw (lump-moved σ lump, painter-moved σ PLANE n (lump_source lump), column-moved p x)
      (run_dots-moved σ (painter_of PLANE n (lump_source lump)) x (floor_colour v art lump p x) (floor_colour v other (σ lump) (moved_plane σ p) x)
      (λ y. floor_colour-moved lump p x y) (column p x)))
      (listed (λ x. x) v.shape.width)

  sky_colour-moved : (sky x y : ℕ) → sky_colour v other sky x y ≡ sky_colour v art sky x y
  unfolding sky_colour
  sky_colour-moved sky x y = ap (other.shade _) (moved.texel _ _ _) ∙ moved.shade _ _

  -- the dots of a plane with the sky
  pub sky_dots-moved : (n sky : ℕ) (p : Plane) → sky_dots v other n sky (moved_plane σ p) ≡ map (moved_dot σ) (sky_dots v art n sky p)
  unfolding sky_dots
  sky_dots-moved n sky p =
      joined-moved (moved_dot σ)
      (λ x. run_dots (painter_of SKY n (art.texture_source sky (sky_column v x))) x (sky_colour v art sky x) (column p x))
      (λ x. run_dots (painter_of SKY n (other.texture_source sky (sky_column v x))) x (sky_colour v other sky x) (column (moved_plane σ p) x))
      (λ x. rw (moved.texture_source sky (sky_column v x), painter-moved σ SKY n (art.texture_source sky (sky_column v x)), column-moved p x)
      (run_dots-moved σ (painter_of SKY n (art.texture_source sky (sky_column v x))) x (sky_colour v art sky x) (sky_colour v other sky x)
      (λ y. sky_colour-moved sky x y) (column p x)))
      (listed (λ x. x) v.shape.width)

  plane_by-moved : (sky n : ℕ) (p : Plane) (flat : Flat4) → plane_dots_by v other sky n (moved_plane σ p) (moved_flat σ flat) ≡ map (moved_dot σ) (plane_dots_by v art sky n p flat)
  unfolding plane_dots_by
  plane_by-moved sky n p Sky = sky_dots-moved n sky p
  plane_by-moved sky n p (Lump lump) = floor_dots-moved n lump p

  pub plane_dots-moved : (sky n : ℕ) (p : Plane) → plane_dots v other sky n (moved_plane σ p) ≡ map (moved_dot σ) (plane_dots v art sky n p)
  unfolding plane_dots
  plane_dots-moved sky n p = plane_by-moved sky n p p.key.flat
