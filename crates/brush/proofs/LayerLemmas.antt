-- Laws of a picture that is painted column by column.
use Rattle.picture_rules.proofs.Common.{[], ap, arith, length, List, map, range_with_len, refl, Result, subst, sym, ℕ, ℤ, ◌++◌, ◌+◌, ◌-◌, ◌<◌, ◌∙◌, ◌∷◌, ◌≡◌, ◌≤◌}
use Rattle.brush.specs.Rules.{Dot, LUMP, Lump, MaskedColumn, Painter, joined_lists, listed_from, lump_source, painter_of, picture_column, posts_dots, shade, byte_at}
use Rattle.picture_rules.proofs.Laws.{joined_lists-next}
use Rattle.pixel_strips.specs.Canvases.{CanvasView, with_dots, with_painter}
use Rattle.pixel_strips.specs.Dotted.{HasDots}
use Rattle.pixel_strips.proofs.CanvasLemmas.{dots_none, with_dots-append}
use Rattle.pixel_strips.proofs.DottedLemmas.{has_dots-as, has_dots-painted}
use Rattle.texture_build.specs.{Arts.own_posts, Arts.view_art, Draws.FitBeside, Draws.FitsBeside, Views.TexturesView}
use Rattle.texture_build.proofs.BesideLemmas.{fit_beside-append}
use Rattle.art_rules.specs.Words.{Art, ShelfView}
use Rattle.texture_build.specs.{CacheFault.CacheFault, Caches.cache_fault, DirectoryView.DirectoryView, Draws.DrawsWith, Paints.PaintTools, Zones.Heap}
use Rattle.brush.specs.Pictures.{read_column, read_columns}
use Rattle.brush.specs.Strips.{PictureStripValue, column_of_picture, picture_dots, picture_masked}
use Rattle.brush.proofs.LendLemmas.{fit_beside-posts}

-- the columns, one after the other
pub columns-none : (mark : Painter → ℕ → ℕ) (s : PictureStripValue) (bytes colormap : List ℕ) (canvas : CanvasView) → canvas ≡ with_dots mark (read_columns s bytes colormap canvas.painter s.first) canvas
unfolding read_columns joined_lists
columns-none mark s bytes colormap canvas =
    let no_columns : s.first - s.first ≡ 0 = omega arith in
    dots_none mark canvas
    ∙ ap (λ (n : ℕ). with_dots mark (joined_lists (read_column s bytes colormap canvas.painter) (map (λ x. x) (range_with_len s.first n))) canvas) (sym no_columns)

columns_more : (s : PictureStripValue) (bytes colormap : List ℕ) (painter : Painter) (x : ℕ) → s.first ≤ x →
    read_columns s bytes colormap painter (x + 1) ≡ read_columns s bytes colormap painter x ++ read_column s bytes colormap painter x
unfolding read_columns
columns_more s bytes colormap painter x l = joined_lists-next (read_column s bytes colormap painter) s.first x l

pub columns-more : (mark : Painter → ℕ → ℕ) (s : PictureStripValue) (bytes colormap : List ℕ) (x : ℕ) (start now new : CanvasView) → s.first ≤ x →
    now ≡ with_dots mark (read_columns s bytes colormap start.painter x) start → new ≡ with_dots mark (read_column s bytes colormap now.painter x) now →
    new ≡ with_dots mark (read_columns s bytes colormap start.painter (x + 1)) start
columns-more mark s bytes colormap x start now new l before one =
    one
    ∙ ap (λ (c : CanvasView). with_dots mark (read_column s bytes colormap c.painter x) c) before
    ∙ with_dots-append mark (read_columns s bytes colormap start.painter x) (read_column s bytes colormap start.painter x) start
    ∙ ap (λ (dots : List Dot). with_dots mark dots start) (sym (columns_more s bytes colormap start.painter x l))

-- the column that is seen at column x of the view
pub column-read : (mark : Painter → ℕ → ℕ) (s : PictureStripValue) (bytes colormap : List ℕ) (m : ℕ) (column : MaskedColumn) (x : ℕ) (own : ℤ) (old new : CanvasView) →
    own ≡ picture_column s.flip s.width s.left s.masked.iscale x → column ≡ picture_masked s x → m ≡ s.map →
    new ≡ with_dots mark (posts_dots s.shape old.painter x column (byte_at bytes) (shade colormap m) (own_posts bytes own)) old → new ≡ with_dots mark (read_column s bytes colormap old.painter x) old
unfolding read_column
column-read mark s bytes colormap m column x own old new is_own is_column is_map h =
    h ∙ (λ i. with_dots mark (posts_dots s.shape old.painter x (is_column i) (byte_at bytes) (shade colormap (is_map i)) (own_posts bytes (is_own i))) old)

-- the columns by the art of these bytes
lists_same : (f g : ℕ → List Dot) (xs : List ℕ) → ((x : ℕ) → f x ≡ g x) → joined_lists f xs ≡ joined_lists g xs
unfolding joined_lists
lists_same f g [] h = refl
lists_same f g (x ∷ xs) h = ap (λ (ys : List Dot). ys ++ joined_lists f xs) (h x) ∙ ap (λ (ys : List Dot). g x ++ ys) (lists_same f g xs h)

abbrev picture_painter : PictureStripValue → Painter
picture_painter s = painter_of s.kind s.number (lump_source s.lump)

column_art : (bytes : ℕ → List ℕ) (textures : TexturesView) (colormap : ℕ) (s : PictureStripValue) (x : ℕ) →
    read_column s (bytes s.lump) (bytes colormap) (picture_painter s) x ≡ column_of_picture (view_art bytes textures colormap) s x
unfolding column_of_picture read_column view_art
column_art bytes textures colormap s x = refl

columns_art : (bytes : ℕ → List ℕ) (textures : TexturesView) (colormap : ℕ) (s : PictureStripValue) →
    read_columns s (bytes s.lump) (bytes colormap) (picture_painter s) (s.last + 1) ≡ picture_dots (view_art bytes textures colormap) s
unfolding read_columns picture_dots listed_from
columns_art bytes textures colormap s =
    lists_same (read_column s (bytes s.lump) (bytes colormap) (picture_painter s)) (column_of_picture (view_art bytes textures colormap) s) (map (λ x. x) (range_with_len s.first (s.last + 1 - s.first)))
    (λ x. column_art bytes textures colormap s x)

lump_painter : (kind number lump : ℕ) → record { kind = kind; number = number; source_kind = LUMP; source = lump } ≡ painter_of kind number (lump_source lump)
unfolding painter_of lump_source
lump_painter kind number lump = refl

-- a canvas that was given the columns by their bytes has the picture's dots
pub picture-painted : {mark : Painter → ℕ → ℕ} (bytes : ℕ → List ℕ) (textures : TexturesView) (colormap : ℕ) (s : PictureStripValue) (own shades : List ℕ) (start began new : CanvasView) →
    own ≡ bytes s.lump → shades ≡ bytes colormap → began ≡ with_painter (record { kind = s.kind; number = s.number; source_kind = LUMP; source = s.lump }) start →
    new ≡ with_dots mark (read_columns s own shades began.painter (s.last + 1)) began → HasDots mark (picture_dots (view_art bytes textures colormap) s) start new
picture-painted bytes textures colormap s own shades start began new is_own is_shades began_is h =
    let painter = ap (λ (c : CanvasView). c.painter) began_is ∙ lump_painter s.kind s.number s.lump in
    has_dots-as ((λ i. read_columns s (is_own i) (is_shades i) (painter i) (s.last + 1)) ∙ columns_art bytes textures colormap s) (has_dots-painted began_is h)

-- and what its painter reads fits beside the colormap
module _ (lumps : List Lump) (textures : TexturesView) (colormap count zone : ℕ) where
  fit_column : (art : Art) (s : PictureStripValue) (x : ℕ) → FitsBeside lumps textures colormap count zone (picture_painter s) → FitBeside lumps textures colormap count zone (column_of_picture art s x)
  unfolding column_of_picture
  fit_column art s x fits = fit_beside-posts lumps textures colormap count zone s.shape (picture_painter s) x (picture_masked s x) _ _ _ fits

  fit_list : (art : Art) (s : PictureStripValue) (xs : List ℕ) → FitsBeside lumps textures colormap count zone (picture_painter s) → FitBeside lumps textures colormap count zone (joined_lists (column_of_picture art s) xs)
  unfolding joined_lists
  fit_list art s [] fits = tt
  fit_list art s (x ∷ xs) fits =
      fit_beside-append lumps textures colormap count zone (column_of_picture art s x) (joined_lists (column_of_picture art s) xs) (fit_column art s x fits) (fit_list art s xs fits)

  pub fit-picture : (art : Art) (s : PictureStripValue) → FitsBeside lumps textures colormap count zone (picture_painter s) → FitBeside lumps textures colormap count zone (picture_dots art s)
  unfolding picture_dots
  fit-picture art s fits = fit_list art s (listed_from (λ x. x) s.first s.last) fits

-- lumps of a directory that is the tools' own
pub there-by : {dir : DirectoryView} (t : PaintTools) (lump : ℕ) → t.dir ≡ dir → lump < length dir.lumps → lump < length t.dir.lumps
there-by t lump is h = subst (λ (d : DirectoryView). lump < length d.lumps) (sym is) h

pub draws-by : {A : Type 0} {pictures : ℕ → Type 0} {view after : ShelfView} {dir : DirectoryView} {old new : Heap} {result : Result A CacheFault} (t : PaintTools) → t.dir ≡ dir →
    DrawsWith cache_fault (λ (n : ℕ) (own : ℤ). ⊥) pictures view after dir t.textures old new result → DrawsWith cache_fault (λ (n : ℕ) (own : ℤ). ⊥) pictures view after t.dir t.textures old new result
draws-by {A} {pictures} {view} {after} {old = old} {new} {result} t is h =
    subst (λ (d : DirectoryView). DrawsWith cache_fault (λ (n : ℕ) (own : ℤ). ⊥) pictures view after d t.textures old new result) (sym is) h
