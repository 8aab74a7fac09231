-- Laws of `FitBeside`: none, one list after the other, and the dots of a column by one painter.
use Rattle.std.proofs.Common.{◌≡◌, ℕ, List, [], ◌∷◌, ◌++◌, subst}
use Rattle.art_rules.specs.Words.{column_dots, Dot, Lump, Painter}
use Rattle.texture_build.specs.{Views.TexturesView, Draws.FitsBeside, Draws.FitBeside}

module _ (lumps : List Lump) (textures : TexturesView) (colormap count zone : ℕ) where
  pub fit_beside-none : FitBeside lumps textures colormap count zone []
  fit_beside-none = tt

  pub fit_beside-append : (xs ys : List Dot) → FitBeside lumps textures colormap count zone xs →
      FitBeside lumps textures colormap count zone ys →
      FitBeside lumps textures colormap count zone (xs ++ ys)
  fit_beside-append [] ys one two = two
  fit_beside-append (x ∷ xs) ys one two = (one.0, fit_beside-append xs ys one.1 two)

  pub fit_beside-column_dots : (painter : Painter) (x : ℕ) (colour : ℕ → ℕ) (rows : List ℕ) →
      FitsBeside lumps textures colormap count zone painter →
      FitBeside lumps textures colormap count zone (column_dots painter x colour rows)
  unfolding column_dots
  fit_beside-column_dots painter x colour [] fits = tt
  fit_beside-column_dots painter x colour (y ∷ ys) fits =
      (fits, fit_beside-column_dots painter x colour ys fits)

  pub fit_beside-as : {xs ys : List Dot} → xs ≡ ys →
      FitBeside lumps textures colormap count zone xs →
      FitBeside lumps textures colormap count zone ys
  fit_beside-as e k = subst (FitBeside lumps textures colormap count zone) e k
