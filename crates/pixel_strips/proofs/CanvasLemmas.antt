-- A canvas after one dot more.
use Rattle.word_rules.proofs.Common.{[], ap, List, map, map-range_with_len_more, range_with_len, sym, ℕ, ◌++◌, ◌+◌, ◌∙◌, ◌∷◌, ◌≡◌, set}
use Rattle.pixel_strips.specs.Rules.{Dot, Painter, cell_of, column_dots, listed_from, put_dots, span_dots}
use Rattle.word_rules.proofs.ListedLemmas.{listed_from-length}
use Rattle.pixel_rules.proofs.DotLemmas.{put_dots-append, put_dots-more, put_dots-none}
use Rattle.pixel_rules.proofs.StripLemmas.{column_dots-append}
use Rattle.pixel_strips.specs.Canvases.{CanvasView, with_dot, with_dots}

-- no dot yet
pub dots_none : (mark : Painter → ℕ → ℕ) (canvas : CanvasView) → canvas ≡ with_dots mark [] canvas
dots_none mark canvas = ap (λ (cells : List ℕ). record canvas { cells = cells }) (sym (put_dots-none mark canvas.left canvas.top canvas.cells))

-- first the one list of dots, then the other
pub with_dots-append : (mark : Painter → ℕ → ℕ) (xs ys : List Dot) (canvas : CanvasView) → with_dots mark ys (with_dots mark xs canvas) ≡ with_dots mark (xs ++ ys) canvas
with_dots-append mark xs ys canvas =
    ap (λ (cells : List ℕ). record canvas { cells = cells }) (sym (put_dots-append mark canvas.left canvas.top xs ys canvas.cells))

-- the dots of a strip, where its colours have another name
pub recoloured : (mark : Painter → ℕ → ℕ) (canvas view : CanvasView) (dots : (ℕ → ℕ) → List Dot) (f g : ℕ → ℕ) →
    view ≡ with_dots mark (dots f) canvas → f ≡ g → view ≡ with_dots mark (dots g) canvas
recoloured mark canvas view dots f g painted same = painted ∙ ap (λ (colour : ℕ → ℕ). with_dots mark (dots colour) canvas) same

-- a frame's view, told by its parts
abbrev pub view_with : Painter → ℕ → ℕ → List ℕ → CanvasView
view_with painter left top cells = record { cells = cells; painter = painter; left = left; top = top }

-- one dot more, by the painter that paints
pub dots_more : (mark : Painter → ℕ → ℕ) (ds : List Dot) (d : Dot) (canvas before after : CanvasView) → before ≡ with_dots mark ds canvas →
    d.painter ≡ canvas.painter → after ≡ with_dot mark d.x d.y d.colour before → after ≡ with_dots mark (ds ++ d ∷ []) canvas
dots_more mark ds d canvas before after e p f =
    f ∙ ap (with_dot mark d.x d.y d.colour) e
    ∙ ap (λ (painter : Painter). record canvas { cells = set (put_dots mark canvas.left canvas.top ds canvas.cells) (cell_of canvas.left canvas.top d.x d.y) (mark painter d.colour) }) (sym p)
    ∙ ap (λ (cells : List ℕ). record canvas { cells = cells }) (sym (put_dots-more mark canvas.left canvas.top ds d canvas.cells))

-- the numbers from first on, n of them
abbrev pub from : ℕ → ℕ → List ℕ
from first n = map (λ y. y) (range_with_len first n)

-- the dots of n rows of a column, from the first on
abbrev pub rows_dots : Painter → ℕ → (ℕ → ℕ) → ℕ → ℕ → List Dot
rows_dots painter x colour first n = column_dots painter x colour (from first n)

pub rows_none : (painter : Painter) (x : ℕ) (colour : ℕ → ℕ) (first n : ℕ) → n ≡ 0 → rows_dots painter x colour first n ≡ []
unfolding column_dots
rows_none painter x colour first n e = rw e

pub rows_more : (painter : Painter) (x : ℕ) (colour : ℕ → ℕ) (first k n y : ℕ) → k + 1 ≡ n → first + k ≡ y →
    rows_dots painter x colour first k ++ (record { x = x; y = y; colour = colour y; painter = painter } ∷ []) ≡ rows_dots painter x colour first n
unfolding column_dots
rows_more painter x colour first k n y e f =
    sym (ap (λ (m : ℕ). rows_dots painter x colour first m) (sym e)
    ∙ ap (column_dots painter x colour) (map-range_with_len_more (λ y. y) first k y f)
    ∙ column_dots-append painter x colour (from first k) (y ∷ []))

pub rows_all : (painter : Painter) (x : ℕ) (colour : ℕ → ℕ) (first last n : ℕ) → first + n ≡ last + 1 →
    rows_dots painter x colour first n ≡ column_dots painter x colour (listed_from (λ y. y) first last)
rows_all painter x colour first last n e = ap (column_dots painter x colour) (listed_from-length (λ y. y) first last n e)

-- a dot of a span
abbrev pub span_dot : Painter → ℕ → (ℕ → ℕ) → ℕ → Dot
span_dot painter y colour x = record { x = x; y = y; colour = colour x; painter = painter }

-- the dots of n columns of a row, from the first on
abbrev pub columns_dots : Painter → ℕ → (ℕ → ℕ) → ℕ → ℕ → List Dot
columns_dots painter y colour first n = map (span_dot painter y colour) (range_with_len first n)

pub columns_none : (painter : Painter) (y : ℕ) (colour : ℕ → ℕ) (first n : ℕ) → n ≡ 0 → columns_dots painter y colour first n ≡ []
columns_none painter y colour first n e = rw e

pub columns_more : (painter : Painter) (y : ℕ) (colour : ℕ → ℕ) (first k n x : ℕ) → k + 1 ≡ n → first + k ≡ x →
    columns_dots painter y colour first k ++ (span_dot painter y colour x ∷ []) ≡ columns_dots painter y colour first n
columns_more painter y colour first k n x e f =
    sym (ap (λ (m : ℕ). columns_dots painter y colour first m) (sym e) ∙ map-range_with_len_more (span_dot painter y colour) first k x f)

pub columns_all : (painter : Painter) (y : ℕ) (colour : ℕ → ℕ) (first last n : ℕ) → first + n ≡ last + 1 →
    columns_dots painter y colour first n ≡ span_dots painter y colour first last
unfolding span_dots
columns_all painter y colour first last n e = listed_from-length (span_dot painter y colour) first last n e
