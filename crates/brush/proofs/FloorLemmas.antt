-- Laws of a plane that was painted with its flat and the colormap.
use Rattle.picture_rules.proofs.Common.{[], ap, false, List, None, Option, refl, slice_index, Some, subst, sym, ℕ, ◌∷◌, ◌≡◌}
use Rattle.art_rules.specs.Words.{byte_at, Lump}
use Rattle.picture_rules.specs.Words.{Art, Dot, PLANE, Painter, Plane, ViewValue, column, floor_colour, floor_dots, is_sky_key, joined_lists, listed, lump_source, painter_of, plane_dots, plane_dots_by, run_dots, same_flat, shade}
use Rattle.picture_rules.specs.declared.{plane.Flat4.Flat4}
use Rattle.picture_rules.specs.declared.plane.Flat4.TheVariants as flat
use Rattle.pixel_strips.specs.Canvases.{CanvasView, with_dots, with_painter}
use Rattle.pixel_strips.specs.Dotted.{HasDots, PlacedAlike}
use Rattle.pixel_strips.proofs.DottedLemmas.{has_dots-as, has_dots-painted, placed-has_dots}
use Rattle.visplanes.specs.{Planes.flat_lump, Spans.GivesFlat}
use Rattle.texture_build.specs.{Arts.view_art, Draws.FitBeside, Draws.FitsBeside, Views.TexturesView}
use Rattle.texture_build.proofs.BesideLemmas.{fit_beside-append, fit_beside-column_dots}
use Rattle.brush.specs.Strips.{FloorValue, floor_strip_dots}

-- a plane with a flat is not sky
pub floor-key : (p : Plane) (lump : ℕ) → p.key.flat ≡ flat.Lump lump → is_sky_key p.key ≡ false
unfolding is_sky_key same_flat
floor-key p lump is = ap (λ (f : Flat4). same_flat f flat.Sky) is

-- its dots are those of its flat
floor_by : (v : ViewValue) (art : Art) (sky n lump : ℕ) (p : Plane) → p.key.flat ≡ flat.Lump lump → plane_dots v art sky n p ≡ floor_dots v art n lump p
unfolding plane_dots plane_dots_by
floor_by v art sky n lump p is = ap (plane_dots_by v art sky n p) is

-- the art of these bytes gives those of a lump and of the colormap
gives_flat : (bytes : ℕ → List ℕ) (textures : TexturesView) (colormap lump : ℕ) (own shades : List ℕ) →
    own ≡ bytes lump → shades ≡ bytes colormap → GivesFlat (view_art bytes textures colormap) lump own shades
unfolding view_art byte_at
gives_flat bytes textures colormap lump own shades is_own is_shades = record {
  byte = λ place. ap (λ (xs : List ℕ). slice_index xs place) (sym is_own);
  shade = λ m index. ap (λ (xs : List ℕ). shade xs m index) (sym is_shades);
}

-- what `draw_plane` says of the canvas
abbrev pub IsDrawn : (Painter → ℕ → ℕ) → FloorValue → List ℕ → List ℕ → Painter → CanvasView → CanvasView → Type 0
IsDrawn mark s own shades painter a c = (art : Art) (sky : ℕ) → GivesFlat art (flat_lump s.plane.key.flat) own shades →
    c ≡ with_dots mark (plane_dots s.view art sky s.number s.plane) (with_painter painter a)

-- so the canvas has the dots of the plane by that art
pub floor-painted : (mark : Painter → ℕ → ℕ) (painter : Painter) (bytes : ℕ → List ℕ) (textures : TexturesView) (colormap : ℕ) (s : FloorValue) (own shades : List ℕ) (a c : CanvasView) →
    s.plane.key.flat ≡ flat.Lump s.lump → own ≡ bytes s.lump → shades ≡ bytes colormap → IsDrawn mark s own shades painter a c →
    HasDots mark (floor_strip_dots (view_art bytes textures colormap) s) a c
unfolding floor_strip_dots
floor-painted mark painter bytes textures colormap s own shades a c is is_own is_shades drawn =
    let art = view_art bytes textures colormap in
    has_dots-as (floor_by s.view art 0 s.number s.lump s.plane is)
    (has_dots-painted {b = with_painter painter a} refl (drawn art 0 (subst (λ (k : ℕ). GivesFlat art k own shades) (sym (ap flat_lump is)) (gives_flat bytes textures colormap s.lump own shades is_own is_shades))))

-- some art gives these bytes, so the canvas is where it was
art_of : List ℕ → List ℕ → Art
art_of own shades = record {
  texel = λ number column r. 0;
  texture_source = λ number column. record { kind = 0; number = 0 };
  texture_posts = λ number column. [];
  picture_posts = λ lump column. [];
  byte = λ lump place. slice_index own place;
  shade = λ m index. shade shades m index;
}

pub floor-placed : (mark : Painter → ℕ → ℕ) (painter : Painter) (s : FloorValue) (own shades : List ℕ) (a c : CanvasView) →
    IsDrawn mark s own shades painter a c → PlacedAlike a c
unfolding art_of
floor-placed mark painter s own shades a c drawn =
    placed-has_dots (has_dots-painted {b = with_painter painter a} refl (drawn (art_of own shades) 0 (record { byte = λ place. refl; shade = λ m index. refl })))

-- what its painter reads fits beside the colormap
module _ (lumps : List Lump) (textures : TexturesView) (colormap count zone : ℕ) where
  fit_run : (painter : Painter) (x : ℕ) (colour : ℕ → ℕ) (run : Option (ℕ × ℕ)) → FitsBeside lumps textures colormap count zone painter →
      FitBeside lumps textures colormap count zone (run_dots painter x colour run)
  unfolding run_dots
  fit_run painter x colour None fits = tt
  fit_run painter x colour (Some r) fits = fit_beside-column_dots lumps textures colormap count zone painter x colour _ fits

  fit_joined : (f : ℕ → List Dot) (xs : List ℕ) → ((x : ℕ) → FitBeside lumps textures colormap count zone (f x)) → FitBeside lumps textures colormap count zone (joined_lists f xs)
  unfolding joined_lists
  fit_joined f [] fits = tt
  fit_joined f (x ∷ xs) fits = fit_beside-append lumps textures colormap count zone (f x) (joined_lists f xs) (fits x) (fit_joined f xs fits)

  pub fit-floor : (art : Art) (s : FloorValue) → FitsBeside lumps textures colormap count zone (painter_of PLANE s.number (lump_source s.lump)) →
      FitBeside lumps textures colormap count zone (floor_strip_dots art s)
  unfolding floor_strip_dots floor_dots
  fit-floor art s fits =
      fit_joined (λ x. run_dots (painter_of PLANE s.number (lump_source s.lump)) x (floor_colour s.view art s.lump s.plane x) (column s.plane x)) (listed (λ x. x) s.view.shape.width)
      (λ x. fit_run (painter_of PLANE s.number (lump_source s.lump)) x (floor_colour s.view art s.lump s.plane x) (column s.plane x) fits)
