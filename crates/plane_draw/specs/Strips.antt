-- The strips of the planes of a view, in order.
use Rattle.std.specs.Prelude.{ℕ, Bool, cond, nat_lt, is_some, List, [], ◌∷◌, Option, Some, None, length}
use Rattle.std.specs.List.{list_any}
use Rattle.plane_draw.specs.Rules.{Flat4, Plane, SKY, ViewValue, column, joined_lists, listed, sky_column}
use Rattle.picture_rules.specs.declared.plane.Flat4.TheVariants as flat
use Rattle.plane_draw.specs.Rules.{SKY_MAP, SKY_MID}
use Rattle.visplanes.specs.Planes.{plane_at}
use Rattle.texture_build.specs.TexNo.{TexNo}
use Rattle.texture_build.specs.declared.strip.TextureStrip.{TextureStrip}
use Rattle.brush.specs.Strips.{Floor, Strip, Texture}

-- rows first to last of column x of sky plane number n
unfoldable pub sky_strip : ViewValue → ℕ → TexNo → ℕ → ℕ → ℕ → TextureStrip
sky_strip v n tex x first last = record {
  kind = SKY;
  number = n;
  tex = tex;
  column = sky_column v x;
  x = x;
  first = first;
  last = last;
  centre = v.shape.centre_y;
  mid = SKY_MID;
  step = v.shape.sky_step;
  map = SKY_MAP;
}

-- the strip of a column of it that has this run, none without rows
unfoldable pub run_strips : ViewValue → ℕ → TexNo → ℕ → Option (ℕ × ℕ) → List Strip
run_strips v n tex x None = []
run_strips v n tex x (Some r) = cond (nat_lt r.1 r.0) [] (Texture (sky_strip v n tex x r.0 r.1) ∷ [])

-- the strips of a sky plane, column by column; none where the view has no texture of the sky
unfoldable pub sky_strips : ViewValue → Option TexNo → ℕ → Plane → List Strip
sky_strips v None n p = []
sky_strips v (Some tex) n p = joined_lists (λ x. run_strips v n tex x (column p x)) (listed (λ x. x) v.shape.width)

-- a plane has a run of rows at some column
unfoldable pub has_run : Plane → Bool
has_run p = list_any is_some p.runs

-- a plane with its flat is one strip, and none where it has no run
unfoldable pub floor_strips : ViewValue → ℕ → Plane → ℕ → List Strip
floor_strips v n p lump = cond (has_run p) (Floor (record { view = v; plane = p; number = n; lump = lump }) ∷ []) []

unfoldable pub plane_strips_by : ViewValue → Option TexNo → ℕ → Plane → Flat4 → List Strip
plane_strips_by v sky n p flat.Sky = sky_strips v sky n p
plane_strips_by v sky n p (flat.Lump lump) = floor_strips v n p lump

-- the strips of plane number n
unfoldable pub plane_strips : ViewValue → Option TexNo → ℕ → Plane → List Strip
plane_strips v sky n p = plane_strips_by v sky n p p.key.flat

-- those of all planes
unfoldable pub planes_strips : ViewValue → Option TexNo → List Plane → List Strip
planes_strips v sky planes =
    joined_lists (λ k. plane_strips v sky k (plane_at planes k)) (listed (λ k. k) (length planes))
