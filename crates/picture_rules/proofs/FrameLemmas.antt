-- Laws of frames: the cells of a canvas that was given the dots of a view are its picture, or its trace.
use Rattle.word_rules.proofs.Common.{[], and_from, and_left, and_right, ap, append-nil, arith, Bool, cases_lt, cond, false, get_or, inl, inr, le-leb, length, List, lt-leb, lt-ltb, map, nat_le, nat_lt, ne_eqb, None, Option, range_with_len, refl, Some, subst, sym, true, ℕ, ◌%◌, ◌&&◌, ◌++◌, ◌+◌, ◌-◌, ◌/◌, ◌<◌, ◌==◌, ◌∙◌, ◌∷◌, ◌≡◌, ◌≤◌, ◌⊎◌}
use Rattle.picture_rules.specs.Rules.{AreInFrame, Dot, FRAME_CELLS, FRAME_WIDTH, Painter, ViewShape, ViewValue, colour_of, is_at, joined_lists, last_dot, last_dot_from, listed, mark_or, put_dots}
use Rattle.word_rules.proofs.ListedLemmas.{listed-all}
use Rattle.pixel_rules.proofs.DotLemmas.{length-put_dots, cell_beside-put_dots, cell_any-put_dots}
use Rattle.picture_rules.specs.{sprite.Weapons.WeaponLayer, Scene.Scene}
use Rattle.picture_rules.specs.Paints.{view_paints, overlaid_paints}
use Rattle.picture_rules.specs.Picture.{is_in_window, frame_dot, frame_dots, frame_of, picture, overlaid_picture, overlaid_trace, FitsFrame, AreInView}

-- dots in the view are in the frame
pub in_frame-in_view : (shape : ViewShape) (dots : List Dot) → FitsFrame shape → AreInView shape dots → AreInFrame shape.left shape.top dots
in_frame-in_view shape [] f a = tt
in_frame-in_view shape (d ∷ ds) f a = ((omega (arith, f.columns, a.0.0), omega (arith, f.rows, a.0.1)), in_frame-in_view shape ds f a.1)

pub in_view-append : (shape : ViewShape) (xs ys : List Dot) → AreInView shape xs → AreInView shape ys → AreInView shape (xs ++ ys)
in_view-append shape [] ys a b = b
in_view-append shape (d ∷ ds) ys a b = (a.0, in_view-append shape ds ys a.1 b)

-- no dot right of the view, or below it
not_at : (shape : ViewShape) (x y : ℕ) (d : Dot) → (d.x < shape.width) × (d.y < shape.height) → (shape.width ≤ x) ⊎ (shape.height ≤ y) → is_at x y d ≡ false
unfolding is_at
not_at shape x y d a (inl h) = and_left (d.x == x) (d.y == y) (ne_eqb d.x x (λ e. absurd (omega arith)))
not_at shape x y d a (inr h) = and_right (d.x == x) (d.y == y) (ne_eqb d.y y (λ e. absurd (omega arith)))

none_past : (shape : ViewShape) (x y : ℕ) (b : Option Dot) (dots : List Dot) → AreInView shape dots → (shape.width ≤ x) ⊎ (shape.height ≤ y) → last_dot_from b x y dots ≡ b
unfolding last_dot_from
none_past shape x y b [] a h = refl
none_past shape x y b (d ∷ ds) a h =
    ap (λ (t : Bool). last_dot_from (cond t (Some d) b) x y ds) (not_at shape x y d a.0 h) ∙ none_past shape x y b ds a.1 h

pub last_dot-past_view : (shape : ViewShape) (x y : ℕ) (dots : List Dot) → AreInView shape dots → (shape.width ≤ x) ⊎ (shape.height ≤ y) → last_dot x y dots ≡ None
unfolding last_dot
last_dot-past_view shape x y dots a h = none_past shape x y None dots a h

-- the dot of a cell: by the four edges of the view
dot_left : (shape : ViewShape) (dots : List Dot) (x y : ℕ) → x < shape.left → frame_dot shape dots x y ≡ None
unfolding frame_dot is_in_window
dot_left shape dots x y l =
    ap (λ (t : Bool). cond t (last_dot (x - shape.left) (y - shape.top) dots) None)
    (and_left (nat_le shape.left x && nat_lt x (shape.left + shape.width)) (nat_le shape.top y && nat_lt y (shape.top + shape.height)) (and_left (nat_le shape.left x) (nat_lt x (shape.left + shape.width)) (lt-leb shape.left x l)))

dot_above : (shape : ViewShape) (dots : List Dot) (x y : ℕ) → y < shape.top → frame_dot shape dots x y ≡ None
unfolding frame_dot is_in_window
dot_above shape dots x y l =
    ap (λ (t : Bool). cond t (last_dot (x - shape.left) (y - shape.top) dots) None)
    (and_right (nat_le shape.left x && nat_lt x (shape.left + shape.width)) (nat_le shape.top y && nat_lt y (shape.top + shape.height)) (and_left (nat_le shape.top y) (nat_lt y (shape.top + shape.height)) (lt-leb shape.top y l)))

-- not within the window though right of its left edge and below its top: right of it or below it
past_window : (shape : ViewShape) (x y : ℕ) → shape.left ≤ x → shape.top ≤ y → is_in_window shape x y ≡ false → (shape.width ≤ x - shape.left) ⊎ (shape.height ≤ y - shape.top)
unfolding is_in_window
past_window shape x y l m e =
    elim (cases_lt x (shape.left + shape.width)) [
      | inr a ↦ inl (omega arith)
      | inl a ↦ elim (cases_lt y (shape.top + shape.height)) [
        | inr b ↦ inr (omega arith)
        | inl b ↦
            let inside : ((nat_le shape.left x && nat_lt x (shape.left + shape.width)) && (nat_le shape.top y && nat_lt y (shape.top + shape.height))) ≡ true =
            and_from (nat_le shape.left x && nat_lt x (shape.left + shape.width)) (nat_le shape.top y && nat_lt y (shape.top + shape.height))
            (and_from (nat_le shape.left x) (nat_lt x (shape.left + shape.width)) (le-leb shape.left x l) (lt-ltb x (shape.left + shape.width) a))
            (and_from (nat_le shape.top y) (nat_lt y (shape.top + shape.height)) (le-leb shape.top y m) (lt-ltb y (shape.top + shape.height) b)) in cc
      ]
    ]

within_by : (shape : ViewShape) (dots : List Dot) (x y : ℕ) → AreInView shape dots → shape.left ≤ x → shape.top ≤ y → (t : Bool) → is_in_window shape x y ≡ t →
    cond t (last_dot (x - shape.left) (y - shape.top) dots) None ≡ last_dot (x - shape.left) (y - shape.top) dots
within_by shape dots x y a l m true e = refl
within_by shape dots x y a l m false e = sym (last_dot-past_view shape (x - shape.left) (y - shape.top) dots a (past_window shape x y l m e))

dot_within : (shape : ViewShape) (dots : List Dot) (x y : ℕ) → AreInView shape dots → shape.left ≤ x → shape.top ≤ y → frame_dot shape dots x y ≡ last_dot (x - shape.left) (y - shape.top) dots
unfolding frame_dot
dot_within shape dots x y a l m = within_by shape dots x y a l m (is_in_window shape x y) refl

none_marks : (mark : Painter → ℕ → ℕ) (c : ℕ) → c ≡ mark_or mark c None
unfolding mark_or
none_marks mark c = refl

-- a canvas of a frame's cells that was given the dots: each cell has the mark of the dot that is seen there, or what it had
cell_is : (shape : ViewShape) (mark : Painter → ℕ → ℕ) (dots : List Dot) (cells : List ℕ) (cell : ℕ) → FitsFrame shape → AreInView shape dots → cell < length cells →
    get_or (put_dots mark shape.left shape.top dots cells) cell 0 ≡ mark_or mark (get_or cells cell 0) (frame_dot shape dots (cell % FRAME_WIDTH) (cell / FRAME_WIDTH))
cell_is shape mark dots cells cell f a n =
    elim (cases_lt (cell % FRAME_WIDTH) shape.left) [
      | inl l ↦
          cell_beside-put_dots mark shape.left shape.top cell dots cells 0 (in_frame-in_view shape dots f a) (inl l)
          ∙ none_marks mark (get_or cells cell 0) ∙ ap (mark_or mark (get_or cells cell 0)) (sym (dot_left shape dots (cell % FRAME_WIDTH) (cell / FRAME_WIDTH) l))
      | inr l ↦ elim (cases_lt (cell / FRAME_WIDTH) shape.top) [
        | inl m ↦
            cell_beside-put_dots mark shape.left shape.top cell dots cells 0 (in_frame-in_view shape dots f a) (inr m)
            ∙ none_marks mark (get_or cells cell 0) ∙ ap (mark_or mark (get_or cells cell 0)) (sym (dot_above shape dots (cell % FRAME_WIDTH) (cell / FRAME_WIDTH) m))
        | inr m ↦
            cell_any-put_dots mark shape.left shape.top cell dots cells 0 (in_frame-in_view shape dots f a) l m n
            ∙ ap (mark_or mark (get_or cells cell 0)) (sym (dot_within shape dots (cell % FRAME_WIDTH) (cell / FRAME_WIDTH) a l m))
      ]
    ]

pub frame-put_dots : (shape : ViewShape) (mark : Painter → ℕ → ℕ) (dots : List Dot) (cells : List ℕ) → FitsFrame shape → AreInView shape dots → length cells ≡ FRAME_CELLS →
    put_dots mark shape.left shape.top dots cells ≡ listed (λ cell. mark_or mark (get_or cells cell 0) (frame_dot shape dots (cell % FRAME_WIDTH) (cell / FRAME_WIDTH))) FRAME_CELLS
frame-put_dots shape mark dots cells f a n =
    listed-all (λ cell. mark_or mark (get_or cells cell 0) (frame_dot shape dots (cell % FRAME_WIDTH) (cell / FRAME_WIDTH))) (put_dots mark shape.left shape.top dots cells) FRAME_CELLS 0
    (length-put_dots mark shape.left shape.top dots cells ∙ n)
    (λ cell l. cell_is shape mark dots cells cell f a (subst (λ (m : ℕ). cell < m) (sym n) l))

mapped : (f : Option Dot → ℕ) (g : ℕ → Option Dot) (h : ℕ → ℕ) (xs : List ℕ) → ((x : ℕ) → h x ≡ f (g x)) → map h xs ≡ map f (map g xs)
mapped f g h [] e = refl
mapped f g h (x ∷ xs) e = ap (λ (y : ℕ). y ∷ map h xs) (e x) ∙ ap (λ (ys : List ℕ). f (g x) ∷ ys) (mapped f g h xs e)

colour_or : (c : ℕ) (o : Option Dot) → c ≡ 0 → mark_or (λ p k. k) c o ≡ colour_of o
unfolding mark_or colour_of
colour_or c None e = e
colour_or c (Some d) e = refl

colours_listed : (shape : ViewShape) (dots : List Dot) (cells : List ℕ) (n : ℕ) → ((cell : ℕ) → get_or cells cell 0 ≡ 0) →
    listed (λ cell. mark_or (λ p k. k) (get_or cells cell 0) (frame_dot shape dots (cell % FRAME_WIDTH) (cell / FRAME_WIDTH))) n ≡ map colour_of (listed (λ cell. frame_dot shape dots (cell % FRAME_WIDTH) (cell / FRAME_WIDTH)) n)
unfolding listed
colours_listed shape dots cells n z =
    mapped colour_of (λ cell. frame_dot shape dots (cell % FRAME_WIDTH) (cell / FRAME_WIDTH)) (λ cell. mark_or (λ p k. k) (get_or cells cell 0) (frame_dot shape dots (cell % FRAME_WIDTH) (cell / FRAME_WIDTH)))
    (range_with_len 0 n) (λ cell. colour_or (get_or cells cell 0) (frame_dot shape dots (cell % FRAME_WIDTH) (cell / FRAME_WIDTH)) (z cell))

-- a cleared frame that was given the dots, and marks a cell by its colour, is the picture
pub frame_of-put_dots : (shape : ViewShape) (dots : List Dot) (cells : List ℕ) → FitsFrame shape → AreInView shape dots → length cells ≡ FRAME_CELLS →
    ((cell : ℕ) → get_or cells cell 0 ≡ 0) → put_dots (λ p k. k) shape.left shape.top dots cells ≡ frame_of shape dots
unfolding frame_of frame_dots
frame_of-put_dots shape dots cells f a n z = frame-put_dots shape (λ p k. k) dots cells f a n ∙ colours_listed shape dots cells FRAME_CELLS z

-- the colours of a trace are its picture
pub trace-colours : (v : ViewValue) (scene : Scene) (layers : List WeaponLayer) → map colour_of (overlaid_trace v scene layers) ≡ overlaid_picture v scene layers
unfolding overlaid_trace overlaid_picture frame_of
trace-colours v scene layers = refl
