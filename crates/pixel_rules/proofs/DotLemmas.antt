-- Laws of dots: put one list after the other, the last one at a pixel, and the cells that they leave.
use Rattle.word_rules.proofs.Common.{[], ap, arith, Bool, cases_eq, cases_lt, cond, eq-eqb, false, get_or, get_or-set_other, get_or-set_same, inl, inr, length, length-set, List, ne_eqb, None, Option, or_else-assoc, refl, same_lists, Some, subst, sym, true, ℕ, ◌%◌, ◌++◌, ◌+◌, ◌-◌, ◌/◌, ◌<◌, ◌∙◌, ◌∷◌, ◌≡◌, ◌≢◌, ◌≤◌, ◌⊎◌, set}
use Rattle.word_rules.specs.Least.{or_else}
use Rattle.pixel_rules.specs.declared.Painter.{Painter}
use Rattle.view_rules.specs.declared.TheConstants.{FRAME_WIDTH, FRAME_HEIGHT}
use Rattle.pixel_rules.specs.Dots.{Dot, cell_of, put_dots, is_at, last_dot_from, last_dot, mark_or, AreInFrame}

-- first the one list, then the other
pub put_dots-append : (mark : Painter → ℕ → ℕ) (left top : ℕ) (xs ys : List Dot) (cells : List ℕ) →
    put_dots mark left top (xs ++ ys) cells ≡ put_dots mark left top ys (put_dots mark left top xs cells)
unfolding put_dots
put_dots-append mark left top [] ys cells = refl
put_dots-append mark left top (d ∷ ds) ys cells = put_dots-append mark left top ds ys (set cells (cell_of left top d.x d.y) (mark d.painter d.colour))

pub put_dots-none : (mark : Painter → ℕ → ℕ) (left top : ℕ) (cells : List ℕ) → put_dots mark left top [] cells ≡ cells
unfolding put_dots
put_dots-none mark left top cells = refl

-- one dot more
pub put_dots-more : (mark : Painter → ℕ → ℕ) (left top : ℕ) (ds : List Dot) (d : Dot) (cells : List ℕ) →
    put_dots mark left top (ds ++ d ∷ []) cells ≡ set (put_dots mark left top ds cells) (cell_of left top d.x d.y) (mark d.painter d.colour)
unfolding put_dots
put_dots-more mark left top [] d cells = refl
put_dots-more mark left top (e ∷ es) d cells = put_dots-more mark left top es d (set cells (cell_of left top e.x e.y) (mark e.painter e.colour))

pub length-put_dots : (mark : Painter → ℕ → ℕ) (left top : ℕ) (ds : List Dot) (cells : List ℕ) → length (put_dots mark left top ds cells) ≡ length cells
unfolding put_dots
length-put_dots mark left top [] cells = refl
length-put_dots mark left top (d ∷ ds) cells =
    length-put_dots mark left top ds (set cells (cell_of left top d.x d.y) (mark d.painter d.colour)) ∙ length-set cells (cell_of left top d.x d.y) (mark d.painter d.colour)

here : (b : Option Dot) (d : Dot) (t : Bool) → cond t (Some d) b ≡ or_else (cond t (Some d) None) b
here b d true = refl
here b d false = refl

last_from : (b : Option Dot) (x y : ℕ) (ds : List Dot) → last_dot_from b x y ds ≡ or_else (last_dot_from None x y ds) b
unfolding last_dot_from
last_from b x y [] = refl
last_from b x y (d ∷ ds) =
    last_from (cond (is_at x y d) (Some d) b) x y ds
    ∙ ap (or_else (last_dot_from None x y ds)) (here b d (is_at x y d))
    ∙ or_else-assoc (last_dot_from None x y ds) (cond (is_at x y d) (Some d) None) b
    ∙ ap (λ (o : Option Dot). or_else o b) (sym (last_from (cond (is_at x y d) (Some d) None) x y ds))

append_from : (b : Option Dot) (x y : ℕ) (xs ys : List Dot) → last_dot_from b x y (xs ++ ys) ≡ last_dot_from (last_dot_from b x y xs) x y ys
unfolding last_dot_from
append_from b x y [] ys = refl
append_from b x y (d ∷ ds) ys = append_from (cond (is_at x y d) (Some d) b) x y ds ys

-- of two lists the later one's last dot, or else the earlier one's
pub last_dot-append : (x y : ℕ) (xs ys : List Dot) → last_dot x y (xs ++ ys) ≡ or_else (last_dot x y ys) (last_dot x y xs)
unfolding last_dot
last_dot-append x y xs ys = append_from None x y xs ys ∙ last_from (last_dot_from None x y xs) x y ys

pub last_dot-none : (x y : ℕ) → last_dot x y [] ≡ None
unfolding last_dot last_dot_from
last_dot-none x y = refl

-- two pixels of a view have one cell only where they are one
same_cell : (left top x y p q : ℕ) → x + left < FRAME_WIDTH → p + left < FRAME_WIDTH → cell_of left top x y ≡ cell_of left top p q → (x ≡ p) × (y ≡ q)
unfolding cell_of
same_cell left top x y p q l m e = (omega arith, omega arith)

none_before : (mark : Painter → ℕ → ℕ) (c : ℕ) → c ≡ mark_or mark c None
unfolding mark_or
none_before mark c = refl

-- a cell after one dot
cell_after : (mark : Painter → ℕ → ℕ) (left top x y : ℕ) (d : Dot) (cells : List ℕ) (before : Option Dot) (c k : ℕ) →
    x + left < FRAME_WIDTH → d.x + left < FRAME_WIDTH → cell_of left top x y < length cells → get_or cells (cell_of left top x y) k ≡ mark_or mark c before →
    get_or (set cells (cell_of left top d.x d.y) (mark d.painter d.colour)) (cell_of left top x y) k ≡ mark_or mark c (cond (is_at x y d) (Some d) before)
unfolding is_at mark_or
cell_after mark left top x y d cells before c k l m n e =
    elim (cases_eq d.x x) [
      | inr a ↦ rw (ne_eqb d.x x a) (get_or-set_other cells (cell_of left top d.x d.y) (cell_of left top x y) (mark d.painter d.colour) k (λ q. a (sym (same_cell left top x y d.x d.y l m q).0)) ∙ e)
      | inl a ↦ elim (cases_eq d.y y) [
        | inr b ↦ rw (ne_eqb d.y y b, eq-eqb d.x x a) (get_or-set_other cells (cell_of left top d.x d.y) (cell_of left top x y) (mark d.painter d.colour) k (λ q. b (sym (same_cell left top x y d.x d.y l m q).1)) ∙ e)
        | inl b ↦
            let cell_is : cell_of left top d.x d.y ≡ cell_of left top x y = ap (λ (i : ℕ). cell_of left top i d.y) a ∙ ap (cell_of left top x) b in
            rw (eq-eqb d.x x a, eq-eqb d.y y b)
            (ap (λ (i : ℕ). get_or (set cells i (mark d.painter d.colour)) (cell_of left top x y) k) cell_is ∙ get_or-set_same cells (cell_of left top x y) (mark d.painter d.colour) k n)
      ]
    ]

cells_after : (mark : Painter → ℕ → ℕ) (left top x y : ℕ) (ds : List Dot) (cells : List ℕ) (before : Option Dot) (c k : ℕ) →
    AreInFrame left top ds → x + left < FRAME_WIDTH → cell_of left top x y < length cells → get_or cells (cell_of left top x y) k ≡ mark_or mark c before →
    get_or (put_dots mark left top ds cells) (cell_of left top x y) k ≡ mark_or mark c (last_dot_from before x y ds)
unfolding put_dots last_dot_from
cells_after mark left top x y [] cells before c k a l n e = e
cells_after mark left top x y (d ∷ ds) cells before c k a l n e =
    let cell_within : cell_of left top x y < length (set cells (cell_of left top d.x d.y) (mark d.painter d.colour)) = rw length-set n in
    cells_after mark left top x y ds (set cells (cell_of left top d.x d.y) (mark d.painter d.colour)) (cond (is_at x y d) (Some d) before) c k a.1 l cell_within
    (cell_after mark left top x y d cells before c k l a.0.0 n e)

-- the cell of a pixel has the mark of the last dot there, or what it had before
pub cell-put_dots : (mark : Painter → ℕ → ℕ) (left top x y : ℕ) (ds : List Dot) (cells : List ℕ) (k : ℕ) →
    AreInFrame left top ds → x + left < FRAME_WIDTH → cell_of left top x y < length cells →
    get_or (put_dots mark left top ds cells) (cell_of left top x y) k ≡ mark_or mark (get_or cells (cell_of left top x y) k) (last_dot x y ds)
unfolding last_dot
cell-put_dots mark left top x y ds cells k a l n =
    cells_after mark left top x y ds cells None (get_or cells (cell_of left top x y) k) k a l n (none_before mark (get_or cells (cell_of left top x y) k))

-- a cell left of the view, or above it
abbrev pub IsBeside : ℕ → ℕ → ℕ → Type 0
IsBeside left top cell = (cell % FRAME_WIDTH < left) ⊎ (cell / FRAME_WIDTH < top)

not_there : (left top cell : ℕ) (d : Dot) → (d.x + left < FRAME_WIDTH) × (d.y + top < FRAME_HEIGHT) → IsBeside left top cell → cell ≢ cell_of left top d.x d.y
unfolding cell_of
not_there left top cell d i (inl h) = λ e. absurd (omega arith)
not_there left top cell d i (inr h) = λ e. absurd (omega arith)

-- a cell beside the view stays
pub cell_beside-put_dots : (mark : Painter → ℕ → ℕ) (left top cell : ℕ) (ds : List Dot) (cells : List ℕ) (k : ℕ) →
    AreInFrame left top ds → IsBeside left top cell → get_or (put_dots mark left top ds cells) cell k ≡ get_or cells cell k
unfolding put_dots
cell_beside-put_dots mark left top cell [] cells k a b = refl
cell_beside-put_dots mark left top cell (d ∷ ds) cells k a b =
    cell_beside-put_dots mark left top cell ds (set cells (cell_of left top d.x d.y) (mark d.painter d.colour)) k a.1 b
    ∙ get_or-set_other cells (cell_of left top d.x d.y) cell (mark d.painter d.colour) k (not_there left top cell d a.0 b)

-- any cell is one of a pixel, or beside the view
pixel_of : (left top cell : ℕ) → left ≤ cell % FRAME_WIDTH → top ≤ cell / FRAME_WIDTH → cell_of left top (cell % FRAME_WIDTH - left) (cell / FRAME_WIDTH - top) ≡ cell
unfolding cell_of
pixel_of left top cell l m = omega arith

-- each cell has the mark of the last dot of its pixel, or what it had before
pub cell_any-put_dots : (mark : Painter → ℕ → ℕ) (left top cell : ℕ) (ds : List Dot) (cells : List ℕ) (k : ℕ) →
    AreInFrame left top ds → left ≤ cell % FRAME_WIDTH → top ≤ cell / FRAME_WIDTH → cell < length cells →
    get_or (put_dots mark left top ds cells) cell k ≡ mark_or mark (get_or cells cell k) (last_dot (cell % FRAME_WIDTH - left) (cell / FRAME_WIDTH - top) ds)
cell_any-put_dots mark left top cell ds cells k a l m n =
    let cell_is = pixel_of left top cell l m in let column_in_frame : cell % FRAME_WIDTH - left + left < FRAME_WIDTH = omega arith in
    subst (λ (i : ℕ). get_or (put_dots mark left top ds cells) i k ≡ mark_or mark (get_or cells i k) (last_dot (cell % FRAME_WIDTH - left) (cell / FRAME_WIDTH - top) ds)) cell_is
    (cell-put_dots mark left top (cell % FRAME_WIDTH - left) (cell / FRAME_WIDTH - top) ds cells k a column_in_frame
    (subst (λ (i : ℕ). i < length cells) (sym cell_is) n))

same_at : (mark : Painter → ℕ → ℕ) (left top : ℕ) (ds es : List Dot) (cells : List ℕ) → AreInFrame left top ds → AreInFrame left top es →
    ((x y : ℕ) → last_dot x y ds ≡ last_dot x y es) → (cell k : ℕ) → cell < length cells →
    get_or (put_dots mark left top ds cells) cell k ≡ get_or (put_dots mark left top es cells) cell k
same_at mark left top ds es cells a b h cell k n =
    elim (cases_lt (cell % FRAME_WIDTH) left) [
      | inl l ↦ cell_beside-put_dots mark left top cell ds cells k a (inl l) ∙ sym (cell_beside-put_dots mark left top cell es cells k b (inl l))
      | inr l ↦ elim (cases_lt (cell / FRAME_WIDTH) top) [
        | inl m ↦ cell_beside-put_dots mark left top cell ds cells k a (inr m) ∙ sym (cell_beside-put_dots mark left top cell es cells k b (inr m))
        | inr m ↦
            cell_any-put_dots mark left top cell ds cells k a l m n
            ∙ ap (mark_or mark (get_or cells cell k)) (h (cell % FRAME_WIDTH - left) (cell / FRAME_WIDTH - top))
            ∙ sym (cell_any-put_dots mark left top cell es cells k b l m n)
      ]
    ]

-- two lists with the same last dot at each pixel leave the same cells, in whatever order their dots come
pub put_dots-same : (mark : Painter → ℕ → ℕ) (left top : ℕ) (ds es : List Dot) (cells : List ℕ) → AreInFrame left top ds → AreInFrame left top es →
    ((x y : ℕ) → last_dot x y ds ≡ last_dot x y es) → put_dots mark left top ds cells ≡ put_dots mark left top es cells
put_dots-same mark left top ds es cells a b h =
    same_lists (put_dots mark left top ds cells) (put_dots mark left top es cells)
    (length-put_dots mark left top ds cells ∙ sym (length-put_dots mark left top es cells))
    (λ cell k n. same_at mark left top ds es cells a b h cell k (subst (λ (i : ℕ). cell < i) (length-put_dots mark left top ds cells) n))

pub in_frame-append : (left top : ℕ) (xs ys : List Dot) → AreInFrame left top xs → AreInFrame left top ys → AreInFrame left top (xs ++ ys)
in_frame-append left top [] ys a b = b
in_frame-append left top (d ∷ ds) ys a b = (a.0, in_frame-append left top ds ys a.1 b)
