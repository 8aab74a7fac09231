-- Laws of a canvas that is given a plane's spans from column to column: none yet, one column more, all.
use Rattle.picture_rules.proofs.Common.{[], and_left, and_right, ap, ap₂, arith, Bool, both_ways, cases_eq, cases_lt, cond, false, inl, inr, le-ltb, List, lt-ltb, max, min, nat_lt, None, not, Option, refl, Some, suc, sym, true, zero, ℕ, ◌&&◌, ◌++◌, ◌+◌, ◌-◌, ◌<◌, ◌||◌, ◌∙◌, ◌≡◌, ◌≤◌}
use Rattle.picture_rules.specs.Words.{Dot, FRAME_HEIGHT, FRAME_WIDTH, holds, holds_row, last_dot, or_else, Painter, Plane, span_start, ViewShape}
use Rattle.picture_rules.proofs.Laws.{in_frame-append, last_dot-append, last_dot-none}
use Rattle.picture_rules.proofs.plane.SpanLemmas.{span_start-on, span_start-off, span_start-zero, span_start-within, span_start-passes, span_start-least, span_start-is}
use Rattle.pixel_strips.specs.Canvases.{CanvasView, with_dots}
use Rattle.pixel_strips.proofs.CanvasLemmas.{dots_none, with_dots-append}
use Rattle.visplanes.specs.declared.rows.Rows.{Rows}
use Rattle.visplanes.specs.Spans.{FloorView, pixel_colour, row_dots, closed_rows, closed_dots, is_in, run_before, plane_dot, CanPaint, IsSeen, HasSpans}
use Rattle.visplanes.proofs.RowLemmas.{is_in-from}
use Rattle.visplanes.proofs.DotLemmas.{row_dots-at, row_dots-beside, closed_dots-at, closed_dots-frame}

-- no span ends where a column has the rows of the column before
pub closed_same : (f : FloorView) (painter : Painter) (start : ℕ → ℕ) (before now : Rows) (x : ℕ) →
    before.begin ≡ now.begin → before.end ≡ now.end → closed_dots f painter start before now x ≡ []
unfolding closed_dots closed_rows
closed_same f painter start before now x b e =
    let no_rows_above : min before.end now.begin - before.begin ≡ 0 = omega (arith, b) in
    let no_rows_below : before.end - max before.begin now.end ≡ 0 = omega (arith, e) in
    ap₂ (λ (m n : ℕ). closed_rows f painter start x before.begin m ++ closed_rows f painter start x (max before.begin now.end) n) no_rows_above no_rows_below

-- the column before column x holds row y
abbrev pub held_before : Plane → ℕ → ℕ → Bool
held_before p y x = holds_row (run_before p x) y

pub held_before-more : (p : Plane) (y x n : ℕ) → x + 1 ≡ n → held_before p y n ≡ holds p y x
unfolding run_before holds
held_before-more p y x n e = let is_suc : n ≡ suc x = omega arith in ap (λ (i : ℕ). holds_row (run_before p i) y) is_suc

held_before-none : (p : Plane) (y : ℕ) → held_before p y 0 ≡ false
unfolding run_before holds_row
held_before-none p y = refl

pub held_before-nowhere : (p : Plane) (y x : ℕ) → ((k : ℕ) → k < x → holds p y k ≡ false) → held_before p y x ≡ false
held_before-nowhere p y zero h = held_before-none p y
held_before-nowhere p y (suc x) h = held_before-more p y x (suc x) (omega arith) ∙ h x (omega arith)

-- where the span that is open in row y begins: as before where the column holds the row, else after it
pub start-kept : (p : Plane) (y x n : ℕ) → x + 1 ≡ n → holds p y x ≡ true → span_start (holds p y) n ≡ span_start (holds p y) x
start-kept p y x n e h = span_start-on (holds p y) x n e h

-- and at the column itself where the one before does not hold it
pub start-fresh : (p : Plane) (y x : ℕ) → held_before p y x ≡ false → span_start (holds p y) x ≡ x
start-fresh p y zero h = span_start-zero (holds p y)
start-fresh p y (suc x) h = span_start-off (holds p y) x (suc x) (omega arith) (sym (held_before-more p y x (suc x) (omega arith)) ∙ h)

-- a row that the column before holds has a span that began before
pub start-before : (p : Plane) (y x : ℕ) → held_before p y x ≡ true → span_start (holds p y) x < x
start-before p y zero h = absurd (both_ways (held_before p y 0) (held_before-none p y) h)
start-before p y (suc x) h =
    let begins_alike : span_start (holds p y) (suc x) ≡ span_start (holds p y) x = span_start-on (holds p y) x (suc x) (omega arith) (sym (held_before-more p y x (suc x) (omega arith)) ∙ h) in
    let not_past : span_start (holds p y) x ≤ x = span_start-within (holds p y) x in
    omega arith

-- such a span may be painted
pub can_paint : (shape : ViewShape) (left top : ℕ) (p : Plane) → IsSeen shape left top p → (s x y : ℕ) → held_before p y x ≡ true → s ≡ span_start (holds p y) x → CanPaint shape left top s x y
can_paint shape left top p seen s zero y h e = absurd (both_ways (held_before p y 0) (held_before-none p y) h)
can_paint shape left top p seen s (suc x) y h e =
    let holds_it : holds p y x ≡ true = sym (held_before-more p y x (suc x) (omega arith)) ∙ h in
    let began : span_start (holds p y) (suc x) < suc x = start-before p y (suc x) h in
    let in_view : x < shape.width = seen.column x y holds_it in
    let in_frame : x + left < FRAME_WIDTH = seen.frame_column x y holds_it in
    record {
      begins = omega arith;
      column = omega arith;
      row = seen.row x y holds_it;
      frame_column = omega arith;
      frame_row = seen.frame_row x y holds_it;
    }

-- the column before a span does not hold its row
all_pass : (p : Plane) (y x j : ℕ) → j + 1 ≡ span_start (holds p y) x → holds p y j ≡ true → (k : ℕ) → j ≤ k → k < x → holds p y k ≡ true
all_pass p y x j e h k a b =
    elim (cases_eq k j) [
      | inl f ↦ ap (holds p y) f ∙ h
      | inr f ↦ span_start-passes (holds p y) x k (omega arith) b
    ]

before_span : (p : Plane) (y x j : ℕ) → j + 1 ≡ span_start (holds p y) x → (b : Bool) → holds p y j ≡ b → b ≡ false
before_span p y x j e false h = refl
before_span p y x j e true h =
    let not_past : span_start (holds p y) x ≤ x = span_start-within (holds p y) x in
    let begins_there : span_start (holds p y) x ≤ j = span_start-least (holds p y) x j (omega arith) (all_pass p y x j e h) in
    absurd (omega arith)

-- in a span the start is that of its first column
same_start : (p : Plane) (y x k : ℕ) → span_start (holds p y) x ≤ k → k ≤ x → span_start (holds p y) k ≡ span_start (holds p y) x
same_start p y x k l m =
    span_start-is (holds p y) k (span_start (holds p y) x) l
    (λ j a b. span_start-passes (holds p y) x j a (omega arith))
    (λ j e. before_span p y x j e (holds p y j) refl)

-- the dots of a row that ends before column x
ended_from : (f : FloorView) (painter : Painter) (p : Plane) (s x k y : ℕ) → s ≡ span_start (holds p y) x → s < x →
    last_dot k y (row_dots f painter y s (x - 1)) ≡ cond (not (nat_lt k s) && nat_lt k x) (Some (plane_dot f painter p k y)) None
unfolding plane_dot
ended_from f painter p s x k y e l =
    elim (cases_lt k s) [
      | inl a ↦ row_dots-beside f painter y s (x - 1) k (inl a) ∙ rw (lt-ltb k s a) refl
      | inr a ↦ elim (cases_lt k x) [
        | inr b ↦ row_dots-beside f painter y s (x - 1) k (inr (omega arith)) ∙ rw (le-ltb k s a, le-ltb k x b) refl
        | inl b ↦
            row_dots-at f painter y s (x - 1) k a (omega arith)
            ∙ ap (λ (i : ℕ). Some (record { x = k; y = y; colour = pixel_colour f y i k; painter = painter })) (e ∙ sym (same_start p y x k (omega arith) (omega arith)))
            ∙ rw (le-ltb k s a, lt-ltb k x b) refl
      ]
    ]

ended_at : (f : FloorView) (painter : Painter) (p : Plane) (start x k y : ℕ) → start ≡ span_start (holds p y) x → span_start (holds p y) x < x →
    last_dot k y (row_dots f painter y start (x - 1)) ≡ cond (not (nat_lt k (span_start (holds p y) x)) && nat_lt k x) (Some (plane_dot f painter p k y)) None
ended_at f painter p start x k y e l =
    ap (λ (s : ℕ). last_dot k y (row_dots f painter y s (x - 1))) e ∙ ended_from f painter p (span_start (holds p y) x) x k y refl l

both_dots : (a b : Bool) (d : Dot) → or_else (cond a (Some d) None) (cond b (Some d) None) ≡ cond (a || b) (Some d) None
both_dots true b d = refl
both_dots false b d = refl

-- a pixel of a row is painted by then: it was, or its span ends there
ends : (s x n k : ℕ) (v : Bool) → s < x → x + 1 ≡ n → (s ≤ k → k < x → v ≡ true) → (k ≡ x → v ≡ false) →
    ((not (nat_lt k s) && nat_lt k x) || (nat_lt k s && v)) ≡ (nat_lt k n && v)
ends s x n k v l e t f =
    elim (cases_lt k s) [
      | inl a ↦ (let not_reached : k < n = omega arith in rw (lt-ltb k s a, lt-ltb k n not_reached) refl)
      | inr a ↦ elim (cases_lt k x) [
        | inl b ↦ (let not_reached : k < n = omega arith in rw (le-ltb k s a, lt-ltb k x b, lt-ltb k n not_reached, t a b) refl)
        | inr b ↦ elim (cases_eq k x) [
          | inl c ↦ (let not_reached : k < n = omega arith in rw (le-ltb k s a, le-ltb k x b, lt-ltb k n not_reached, f c) refl)
          | inr c ↦ (let is_past : n ≤ k = omega arith in rw (le-ltb k s a, le-ltb k x b, le-ltb k n is_past) refl)
        ]
      ]
    ]

stays : (x n k : ℕ) (v : Bool) → x + 1 ≡ n → (k ≡ x → v ≡ false) → (nat_lt k x && v) ≡ (nat_lt k n && v)
stays x n k v e f =
    elim (cases_lt k x) [
      | inl b ↦ (let not_reached : k < n = omega arith in rw (lt-ltb k x b, lt-ltb k n not_reached) refl)
      | inr b ↦ elim (cases_eq k x) [
        | inl c ↦ (let not_reached : k < n = omega arith in rw (le-ltb k x b, lt-ltb k n not_reached, f c) refl)
        | inr c ↦ (let is_past : n ≤ k = omega arith in rw (le-ltb k x b, le-ltb k n is_past) refl)
      ]
    ]

-- which pixels of a row are painted when column x is passed, by whether the column before and the column itself hold it
painted_more : (p : Plane) (y x n k : ℕ) → x + 1 ≡ n → (b h : Bool) → held_before p y x ≡ b → holds p y x ≡ h →
    (((b && not h) && (not (nat_lt k (span_start (holds p y) x)) && nat_lt k x)) || (nat_lt k (span_start (holds p y) x) && holds p y k)) ≡ (nat_lt k (span_start (holds p y) n) && holds p y k)
painted_more p y x n k e true true c d = ap (λ (s : ℕ). nat_lt k s && holds p y k) (sym (start-kept p y x n e d))
painted_more p y x n k e false true c d = ap (λ (s : ℕ). nat_lt k s && holds p y k) (sym (start-kept p y x n e d))
painted_more p y x n k e true false c d =
    ends (span_start (holds p y) x) x n k (holds p y k) (start-before p y x c) e (λ a b. span_start-passes (holds p y) x k a b) (λ q. ap (holds p y) q ∙ d)
    ∙ ap (λ (s : ℕ). nat_lt k s && holds p y k) (sym (span_start-off (holds p y) x n e d))
painted_more p y x n k e false false c d =
    ap (λ (s : ℕ). nat_lt k s && holds p y k) (start-fresh p y x c)
    ∙ stays x n k (holds p y k) e (λ q. ap (holds p y) q ∙ d)
    ∙ ap (λ (s : ℕ). nat_lt k s && holds p y k) (sym (span_start-off (holds p y) x n e d))

closed_pixel : (b h c : Bool) (o : Option Dot) (d : Dot) → (b ≡ true → o ≡ cond c (Some d) None) → cond (b && not h) o None ≡ cond ((b && not h) && c) (Some d) None
closed_pixel true true c o d e = refl
closed_pixel true false c o d e = e refl
closed_pixel false h c o d e = refl

-- no column that holds a row is passed: no dot yet
none_yet : (p : Plane) (x k y : ℕ) → ((k y : ℕ) → k < x → holds p y k ≡ false) → (nat_lt k (span_start (holds p y) x) && holds p y k) ≡ false
none_yet p x k y h =
    elim (cases_lt k x) [
      | inl a ↦ and_right (nat_lt k (span_start (holds p y) x)) (holds p y k) (h k y a)
      | inr a ↦ (let not_past : span_start (holds p y) x ≤ x = span_start-within (holds p y) x in and_left (nat_lt k (span_start (holds p y) x)) (holds p y k) (le-ltb k (span_start (holds p y) x) (omega arith)))
    ]

pub spans_none : (mark : Painter → ℕ → ℕ) (f : FloorView) (p : Plane) (x : ℕ) (canvas : CanvasView) → ((k y : ℕ) → k < x → holds p y k ≡ false) →
    HasSpans mark f p (λ y. span_start (holds p y) x) canvas canvas
spans_none mark f p x canvas h = record {
  dots = [];
  painted = dots_none mark canvas;
  in_frame = tt;
  pixels = λ k y. last_dot-none k y ∙ ap (λ (b : Bool). cond b (Some (plane_dot f canvas.painter p k y)) None) (sym (none_yet p x k y h));
}

-- what is known when column x is passed
pub record IsPassing (shape : ViewShape) (p : Plane) (start : ℕ → ℕ) (before now : Rows) (x : ℕ) (canvas : CanvasView) : Type 0 where
  pub seen : IsSeen shape canvas.left canvas.top p
  pub before_ordered : before.begin ≤ before.end
  pub now_ordered : now.begin ≤ now.end
  pub held : (y : ℕ) → is_in before y ≡ held_before p y x
  pub holding : (y : ℕ) → is_in now y ≡ holds p y x
  pub starts : (y : ℕ) → is_in before y ≡ true → start y ≡ span_start (holds p y) x

passing_frame : (shape : ViewShape) (p : Plane) (start : ℕ → ℕ) (before now : Rows) (x : ℕ) (canvas : CanvasView) → IsPassing shape p start before now x canvas →
    (y : ℕ) → before.begin ≤ y → y < before.end → (0 < x) × (x + canvas.left < FRAME_WIDTH + 1) × (y + canvas.top < FRAME_HEIGHT)
passing_frame shape p start before now x canvas i y l m =
    let was_held : held_before p y x ≡ true = sym (i.held y) ∙ is_in-from before y l m in
    let may_paint = can_paint shape canvas.left canvas.top p i.seen (span_start (holds p y) x) x y was_held refl in
    (omega (arith, may_paint.begins), may_paint.frame_column, may_paint.frame_row)

-- the pixels when column x is passed
passed_pixel : (f : FloorView) (painter : Painter) (shape : ViewShape) (p : Plane) (start : ℕ → ℕ) (before now : Rows) (x n : ℕ) (canvas : CanvasView) (dots : List Dot) (k y : ℕ) →
    x + 1 ≡ n → IsPassing shape p start before now x canvas →
    last_dot k y dots ≡ cond (nat_lt k (span_start (holds p y) x) && holds p y k) (Some (plane_dot f painter p k y)) None →
    last_dot k y (dots ++ closed_dots f painter start before now x) ≡ cond (nat_lt k (span_start (holds p y) n) && holds p y k) (Some (plane_dot f painter p k y)) None
passed_pixel f painter shape p start before now x n canvas dots k y e i h =
    let ends_here : Bool = not (nat_lt k (span_start (holds p y) x)) && nat_lt k x in
    let dot : Dot = plane_dot f painter p k y in
    last_dot-append k y dots (closed_dots f painter start before now x)
    ∙ ap (λ (o : Option Dot). or_else o (last_dot k y dots))
    (closed_dots-at f painter start before now x k y i.before_ordered i.now_ordered
    ∙ closed_pixel (is_in before y) (is_in now y) ends_here (last_dot k y (row_dots f painter y (start y) (x - 1))) dot
    (λ t. ended_at f painter p (start y) x k y (i.starts y t) (start-before p y x (sym (i.held y) ∙ t))))
    ∙ ap (or_else (cond ((is_in before y && not (is_in now y)) && ends_here) (Some dot) None)) h
    ∙ both_dots ((is_in before y && not (is_in now y)) && ends_here) (nat_lt k (span_start (holds p y) x) && holds p y k) dot
    ∙ ap (λ (b : Bool). cond b (Some dot) None) (painted_more p y x n k e (is_in before y) (is_in now y) (sym (i.held y)) (sym (i.holding y)))

pub spans_more : (mark : Painter → ℕ → ℕ) (f : FloorView) (shape : ViewShape) (p : Plane) (start : ℕ → ℕ) (before now : Rows) (x n : ℕ) (canvas mid after : CanvasView) →
    x + 1 ≡ n → IsPassing shape p start before now x canvas → HasSpans mark f p (λ y. span_start (holds p y) x) canvas mid →
    after ≡ with_dots mark (closed_dots f mid.painter start before now x) mid → HasSpans mark f p (λ y. span_start (holds p y) n) canvas after
spans_more mark f shape p start before now x n canvas mid after e i h g = record {
  dots = h.dots ++ closed_dots f canvas.painter start before now x;
  painted = g ∙ ap (λ (m : CanvasView). with_dots mark (closed_dots f m.painter start before now x) m) h.painted
      ∙ with_dots-append mark h.dots (closed_dots f canvas.painter start before now x) canvas;
  in_frame = in_frame-append canvas.left canvas.top h.dots (closed_dots f canvas.painter start before now x) h.in_frame
      (closed_dots-frame f canvas.painter start before now canvas.left canvas.top x (passing_frame shape p start before now x canvas i));
  pixels = λ k y. passed_pixel f canvas.painter shape p start before now x n canvas h.dots k y e i (h.pixels k y);
}

-- all pixels are painted: where that is told otherwise makes no difference
until_same : (a b k : ℕ) (h : Bool) → (h ≡ true → k < a) → (h ≡ true → k < b) → (nat_lt k a && h) ≡ (nat_lt k b && h)
until_same a b k true l m = (let below_a = l refl in let below_b = m refl in rw (lt-ltb k a below_a, lt-ltb k b below_b) refl)
until_same a b k false l m = and_right (nat_lt k a) false refl ∙ sym (and_right (nat_lt k b) false refl)

pub spans_all : (mark : Painter → ℕ → ℕ) (f : FloorView) (p : Plane) (u v : ℕ → ℕ) (canvas after : CanvasView) → HasSpans mark f p u canvas after →
    ((k y : ℕ) → holds p y k ≡ true → k < u y) → ((k y : ℕ) → holds p y k ≡ true → k < v y) → HasSpans mark f p v canvas after
spans_all mark f p u v canvas after h l m = record {
  dots = h.dots;
  painted = h.painted;
  in_frame = h.in_frame;
  pixels = λ k y. h.pixels k y ∙ ap (λ b. cond b (Some (plane_dot f canvas.painter p k y)) None) (until_same (u y) (v y) k (holds p y k) (l k y) (m k y));
}
