-- The colours of a span strip are those of a plane's span.
use Rattle.picture_rules.proofs.Common.{ap, ℕ, ℤ, ◌≡◌}
use Rattle.picture_rules.specs.Words.{base_x, base_y, distance_map, mul, Painter, pixel_place, span_dots, span_x, span_y, Spans}
use Rattle.pixel_strips.specs.Strips.{row_colour}
use Rattle.visplanes.specs.Spans.{FloorView, distance_at, light_at, pixel_colour, row_dots}

pixel_same : (f : FloorView) (spans : Spans) (y first map : ℕ) (distance x0 y0 x_step y_step : ℤ) → spans ≡ f.view.spans → distance ≡ distance_at f y → map ≡ distance_map f.view (light_at f) distance →
    x0 ≡ span_x f.view distance first → y0 ≡ span_y f.view distance first → x_step ≡ mul distance (base_x f.view) → y_step ≡ mul distance (base_y f.view) →
    (x : ℕ) → row_colour spans f.flat f.colormap map x0 y0 x_step y_step first x ≡ pixel_colour f y first x
unfolding row_colour pixel_colour pixel_place
pixel_same f spans y first map distance x0 y0 x_step y_step s d m a b e h x = cc

pub span-row : (f : FloorView) (spans : Spans) (painter : Painter) (y first last map : ℕ) (distance x0 y0 x_step y_step : ℤ) → spans ≡ f.view.spans → distance ≡ distance_at f y → map ≡ distance_map f.view (light_at f) distance →
    x0 ≡ span_x f.view distance first → y0 ≡ span_y f.view distance first → x_step ≡ mul distance (base_x f.view) → y_step ≡ mul distance (base_y f.view) →
    span_dots painter y (row_colour spans f.flat f.colormap map x0 y0 x_step y_step first) first last ≡ row_dots f painter y first last
unfolding row_dots
span-row f spans painter y first last map distance x0 y0 x_step y_step s d m a b e h =
    ap (λ (colour : ℕ → ℕ). span_dots painter y colour first last) (λ i x. pixel_same f spans y first map distance x0 y0 x_step y_step s d m a b e h x i)
