-- Laws of a canvas that was given dots: none, one list after the other, and dots by one painter.
use Rattle.std.proofs.Common.{◌≡◌, ℕ, List, [], ◌++◌, refl, sym, ap, ◌∙◌}
use Rattle.pixel_strips.specs.Rules.{Dot, Painter, put_dots}
use Rattle.pixel_rules.proofs.DotLemmas.{put_dots-append, put_dots-none}
use Rattle.pixel_strips.specs.Canvases.{CanvasView, with_painter, with_dots}
use Rattle.pixel_strips.specs.Dotted.{HasDots, PlacedAlike}

-- nothing was painted
pub has_dots-none : (mark : Painter → ℕ → ℕ) (canvas : CanvasView) → HasDots mark [] canvas canvas
has_dots-none mark canvas = record {
  cells = sym (put_dots-none mark canvas.left canvas.top canvas.cells);
  left = refl;
  top = refl;
}

-- first the one list, then the other
pub has_dots-append : {mark : Painter → ℕ → ℕ} {xs ys : List Dot} {a b c : CanvasView} →
    HasDots mark xs a b → HasDots mark ys b c → HasDots mark (xs ++ ys) a c
has_dots-append {mark} {xs} {ys} {a} {b} {c} one two = record {
  cells = two.cells
      ∙ ap (λ (left : ℕ). put_dots mark left b.top ys b.cells) one.left
      ∙ ap (λ (top : ℕ). put_dots mark a.left top ys b.cells) one.top
      ∙ ap (put_dots mark a.left a.top ys) one.cells
      ∙ sym (put_dots-append mark a.left a.top xs ys a.cells);
  left = two.left ∙ one.left;
  top = two.top ∙ one.top;
}

-- the dots by another spelling
pub has_dots-as : {mark : Painter → ℕ → ℕ} {xs ys : List Dot} {a b : CanvasView} → xs ≡ ys →
    HasDots mark xs a b → HasDots mark ys a b
has_dots-as {mark} {a} e one = record {
  cells = one.cells ∙ ap (λ dots. put_dots mark a.left a.top dots a.cells) e;
  left = one.left;
  top = one.top;
}

-- a painter began and painted them
pub has_dots-painted : {mark : Painter → ℕ → ℕ} {dots : List Dot} {painter : Painter}
    {a b c : CanvasView} → b ≡ with_painter painter a → c ≡ with_dots mark dots b →
    HasDots mark dots a c
has_dots-painted {mark} {dots} began painted = record {
  cells = ap (λ (canvas : CanvasView). canvas.cells) painted
      ∙ ap (λ (canvas : CanvasView). put_dots mark canvas.left canvas.top dots canvas.cells) began;
  left = ap (λ (canvas : CanvasView). canvas.left) painted
      ∙ ap (λ (canvas : CanvasView). canvas.left) began;
  top = ap (λ (canvas : CanvasView). canvas.top) painted
      ∙ ap (λ (canvas : CanvasView). canvas.top) began;
}

-- it stands where it stood
pub placed-none : (canvas : CanvasView) → PlacedAlike canvas canvas
placed-none canvas = record { left = refl; top = refl }

pub placed-then : {a b c : CanvasView} → PlacedAlike a b → PlacedAlike b c → PlacedAlike a c
placed-then one two = record { left = two.left ∙ one.left; top = two.top ∙ one.top }

pub placed-has_dots : {mark : Painter → ℕ → ℕ} {dots : List Dot} {a b : CanvasView} →
    HasDots mark dots a b → PlacedAlike a b
placed-has_dots one = record { left = one.left; top = one.top }
