-- Laws of `fill_cells`: one cell more, how far a loop is, and that the cells of a strip of a frame are
-- those of its dots.
use Rattle.word_rules.proofs.Common.{[], ap, arith, cases_lt, FitsSigned, inl, inr, List, max, of_z, refl, set-set, set_comm, subst, suc, sym, to_z, w32, zero, ℕ, ℤ, ◌*◌, ◌++◌, ◌+◌, ◌-◌, ◌<◌, ◌∙◌, ◌∷◌, ◌≡◌, ◌≢◌, ◌≤◌, set}
use Rattle.pixel_strips.specs.Rules.{Dot, FRAME_WIDTH, Painter, Spans, cell_of, column_dots, listed_from, put_dots, span_dots, step_at}
use Rattle.pixel_rules.proofs.DotLemmas.{put_dots-more, put_dots-none}
use Rattle.pixel_strips.specs.{declared.canvas.CutColumn.CutColumn, declared.canvas.CutSpan.CutSpan}
use Rattle.pixel_strips.specs.declared.places.TheConstants.{CARRIES}
use Rattle.pixel_strips.specs.Canvases.{marked_by_colour, fill_cells}
use Rattle.pixel_strips.specs.Fills.{ColumnFilled, ColumnFills, Filled, Fills, SpanFilled, SpanFills}
use Rattle.pixel_strips.specs.Places.{IsFirstPlace, IsSpanPlace, IsTexelPlace}
use Rattle.pixel_strips.proofs.PlaceLemmas.{span_place-to, span_place_begun, texel_place_begun, texel_place_later}
use Rattle.pixel_strips.proofs.CanvasLemmas.{rows_dots, rows_none, rows_more, rows_all, span_dot, columns_dots, columns_none, columns_more, columns_all}

fill_cells-none : (place value : ℕ → ℕ) (cells : List ℕ) → cells ≡ fill_cells place value 0 cells
unfolding fill_cells
fill_cells-none place value cells = refl

-- so many cells are set, where a call has set the last of them
pub fills_to : {cell value : ℕ → ℕ} {n count so_far all : ℕ} {before old new : List ℕ} → max so_far (n + count) ≡ all → n ≤ so_far →
    Fills cell value n count old new → Filled cell value so_far before old → Filled cell value all before new
fills_to {cell} {value} {so_far = so_far} {before = before} {new = new} e among f i = subst (λ (k : ℕ). Filled cell value k before new) e (f.sets so_far before among i)

-- four, one by one
pub fills_four : {cell value : ℕ → ℕ} {n : ℕ} {a b c d e : List ℕ} → Fills cell value n 1 a b → Fills cell value (n + 1) 1 b c →
    Fills cell value (n + 2) 1 c d → Fills cell value (n + 3) 1 d e → Fills cell value n 4 a e
fills_four {n = n} one two three four = record {
  sets = λ so_far before among i.
      fills_to {so_far = max so_far (n + 3)} (omega arith) (omega arith) four
      (fills_to {so_far = max so_far (n + 2)} (omega arith) (omega arith) three
      (fills_to {so_far = max so_far (n + 1)} (omega arith) (omega arith) two (one.sets so_far before among i)));
}

-- n cells of a column are set, and the place is that of the next one
pub record ColumnReached (cut : CutColumn) (start n place : ℕ) (before cells : List ℕ) : Type 0 where
  pub at : IsTexelPlace (step_at cut.fraction cut.step n) place
  pub filled : ColumnFilled cut.texels.now cut.shades.now cut.fraction cut.step start n before cells

pub column_begun : {cut : CutColumn} {start place : ℕ} {cells : List ℕ} → FitsSigned w32 cut.fraction →
    IsTexelPlace (to_z w32 (of_z w32 cut.fraction)) place → ColumnReached cut start 0 place cells cells
column_begun {cut} {cells = cells} f p = record {
  at = texel_place_begun cut.fraction cut.step _ f p;
  filled = record { filled = fill_cells-none _ _ cells };
}

-- `count` rows more, and so many steps
pub column_reached : {cut : CutColumn} {start n m count place step next : ℕ} {before old new : List ℕ} → n + count ≡ m → IsTexelPlace cut.step step →
    ColumnReached cut start n place before old → ((a b : ℤ) → IsTexelPlace a place → IsTexelPlace b step → IsTexelPlace (step_at a b count) next) →
    (IsTexelPlace (step_at cut.fraction cut.step n) place → ColumnFills cut cut.fraction start n count old new) →
    ColumnReached cut start m next before new
column_reached {cut} {n = n} {m} {count} e step i stepped filled = record {
  at = texel_place_later cut.fraction cut.step n count m _ e (stepped _ cut.step i.at step);
  filled = fills_to (omega (arith, e)) (omega arith) (filled i.at) i.filled;
}

-- the same of a span, with at most one carry a step
pub record SpanReached (cut : CutSpan) (start n place : ℕ) (before cells : List ℕ) : Type 0 where
  pub at : IsSpanPlace cut.spans cut.x_fraction cut.y_fraction cut.x_step cut.y_step n place
  pub filled : SpanFilled cut.spans cut.texels.now cut.shades.now cut.x_fraction cut.y_fraction cut.x_step cut.y_step start n before cells

pub span_begun : {cut : CutSpan} {start place : ℕ} {cells : List ℕ} → FitsSigned w32 cut.x_fraction → FitsSigned w32 cut.y_fraction →
    IsFirstPlace cut.spans (to_z w32 (of_z w32 cut.x_fraction)) (to_z w32 (of_z w32 cut.y_fraction)) place → SpanReached cut start 0 place cells cells
span_begun {cut} {cells = cells} f g p = record {
  at = span_place_begun cut.spans cut.x_fraction cut.y_fraction cut.x_step cut.y_step _ f g p;
  filled = record { filled = fill_cells-none _ _ cells };
}

pub span_reached : {cut : CutSpan} {start n m count place step next : ℕ} {before old new : List ℕ} → n + count ≡ m → n + count < CARRIES →
    IsFirstPlace cut.spans cut.x_step cut.y_step step → SpanReached cut start n place before old →
    ((spans : Spans) (x y a b : ℤ) (k : ℕ) → k + count < CARRIES → IsSpanPlace spans x y a b k place → IsFirstPlace spans a b step → IsSpanPlace spans x y a b (k + count) next) →
    (IsSpanPlace cut.spans cut.x_fraction cut.y_fraction cut.x_step cut.y_step n place → SpanFills cut cut.x_fraction cut.y_fraction start n count old new) →
    SpanReached cut start m next before new
span_reached {cut} {n = n} {m} {count} e few step i stepped filled = record {
  at = span_place-to cut.spans cut.x_fraction cut.y_fraction cut.x_step cut.y_step (n + count) m _ e (stepped cut.spans cut.x_fraction cut.y_fraction cut.x_step cut.y_step n few i.at step);
  filled = fills_to (omega (arith, e)) (omega arith) (filled i.at) i.filled;
}

pub fill_cells-more : (place value : ℕ → ℕ) (k n : ℕ) (cells : List ℕ) → k + 1 ≡ n →
    set (fill_cells place value k cells) (place k) (value k) ≡ fill_cells place value n cells
unfolding fill_cells
fill_cells-more place value k n cells e =
    let next_is : suc k ≡ n = omega arith in
    ap (λ (m : ℕ). fill_cells place value m cells) next_is

-- a cell that is set again to what it has
fill_cells-again : (place value : ℕ → ℕ) (cells : List ℕ) → ((i j : ℕ) → i < j → place i < place j) → (k m n : ℕ) → k + 1 + m ≡ n →
    set (fill_cells place value n cells) (place k) (value k) ≡ fill_cells place value n cells
fill_cells-again place value cells below k zero n e =
    let more_filled = fill_cells-more place value k n cells (omega (arith, e)) in
    ap (λ (cs : List ℕ). set cs (place k) (value k)) (sym more_filled) ∙ set-set (fill_cells place value k cells) (place k) (value k) (value k) ∙ more_filled
fill_cells-again place value cells below k (suc m) n e =
    let last : ℕ = k + 1 + m in
    let more_filled = fill_cells-more place value last n cells (omega (arith, e)) in
    let places_differ : place last ≢ place k = let place_below = below k last (omega arith) in omega arith in
    ap (λ (cs : List ℕ). set cs (place k) (value k)) (sym more_filled)
    ∙ set_comm (fill_cells place value last cells) (place last) (place k) (value last) (value k) places_differ
    ∙ ap (λ (cs : List ℕ). set cs (place last) (value last)) (fill_cells-again place value cells below k m last refl) ∙ more_filled

-- the next cell, or one that is set already
pub fill_cells-on : (place value : ℕ → ℕ) (cells : List ℕ) → ((i j : ℕ) → i < j → place i < place j) → (k n : ℕ) → k ≤ n →
    set (fill_cells place value n cells) (place k) (value k) ≡ fill_cells place value (max n (k + 1)) cells
fill_cells-on place value cells below k n h = elim (cases_lt k n) [
  | inl l ↦ let count_is : n ≡ max n (k + 1) = omega (arith, l) in
      fill_cells-again place value cells below k (n - (k + 1)) n (omega (arith, l)) ∙ ap (λ (m : ℕ). fill_cells place value m cells) count_is
  | inr l ↦ let count_is : k ≡ n = omega (arith, l, h) in
      ap (λ (m : ℕ). set (fill_cells place value m cells) (place k) (value k)) (sym count_is) ∙ fill_cells-more place value k (max n (k + 1)) cells (omega (arith, count_is))
]

-- dots that come one by one set the cells one by one
fill_cells-dots : (left top : ℕ) (dots : ℕ → List Dot) (dot : ℕ → Dot) (place value : ℕ → ℕ) (cells : List ℕ) →
    dots 0 ≡ [] → ((k : ℕ) → dots k ++ dot k ∷ [] ≡ dots (suc k)) →
    ((k : ℕ) → place k ≡ cell_of left top (dot k).x (dot k).y) → ((k : ℕ) → value k ≡ (dot k).colour) →
    (n : ℕ) → fill_cells place value n cells ≡ put_dots marked_by_colour left top (dots n) cells
unfolding fill_cells
fill_cells-dots left top dots dot place value cells none more places values zero =
    sym (ap (λ (ds : List Dot). put_dots marked_by_colour left top ds cells) none ∙ put_dots-none marked_by_colour left top cells)
fill_cells-dots left top dots dot place value cells none more places values (suc n) =
    ap (λ (before : List ℕ). set before (place n) (value n)) (fill_cells-dots left top dots dot place value cells none more places values n)
    ∙ ap (λ (i : ℕ). set (put_dots marked_by_colour left top (dots n) cells) i (value n)) (places n)
    ∙ ap (set (put_dots marked_by_colour left top (dots n) cells) (cell_of left top (dot n).x (dot n).y)) (values n)
    ∙ sym (put_dots-more marked_by_colour left top (dots n) (dot n) cells)
    ∙ ap (λ (ds : List Dot). put_dots marked_by_colour left top ds cells) (more n)

row_cell : (left top x first start k : ℕ) → start ≡ FRAME_WIDTH * (first + top) + (x + left) → start + FRAME_WIDTH * k ≡ cell_of left top x (first + k)
unfolding cell_of
row_cell left top x first start k e = omega (arith, e)

column_cell : (left top y first start k : ℕ) → start ≡ FRAME_WIDTH * (y + top) + (first + left) → start + k ≡ cell_of left top (first + k) y
unfolding cell_of
column_cell left top y first start k e = omega (arith, e)

-- the cells of a column, from the one of its first row on
pub fill_cells-column : (painter : Painter) (left top x : ℕ) (colour : ℕ → ℕ) (first last start n : ℕ) (value : ℕ → ℕ) (cells : List ℕ) →
    start ≡ FRAME_WIDTH * (first + top) + (x + left) → first + n ≡ last + 1 → ((k : ℕ) → value k ≡ colour (first + k)) →
    fill_cells (λ k. start + FRAME_WIDTH * k) value n cells ≡ put_dots marked_by_colour left top (column_dots painter x colour (listed_from (λ y. y) first last)) cells
fill_cells-column painter left top x colour first last start n value cells s e values =
    let dot : ℕ → Dot = λ k. record { x = x; y = first + k; colour = colour (first + k); painter = painter } in
    fill_cells-dots left top (rows_dots painter x colour first) dot (λ k. start + FRAME_WIDTH * k) value cells
    (rows_none painter x colour first 0 refl) (λ k. rows_more painter x colour first k (suc k) (first + k) (omega arith) refl)
    (λ k. row_cell left top x first start k s) values n
    ∙ ap (λ (ds : List Dot). put_dots marked_by_colour left top ds cells) (rows_all painter x colour first last n e)

-- the cells of a span, from the one of its first column on
pub fill_cells-span : (painter : Painter) (left top y : ℕ) (colour : ℕ → ℕ) (first last start n : ℕ) (value : ℕ → ℕ) (cells : List ℕ) →
    start ≡ FRAME_WIDTH * (y + top) + (first + left) → first + n ≡ last + 1 → ((k : ℕ) → value k ≡ colour (first + k)) →
    fill_cells (λ k. start + k) value n cells ≡ put_dots marked_by_colour left top (span_dots painter y colour first last) cells
fill_cells-span painter left top y colour first last start n value cells s e values =
    let dot : ℕ → Dot = λ k. span_dot painter y colour (first + k) in
    fill_cells-dots left top (columns_dots painter y colour first) dot (λ k. start + k) value cells
    (columns_none painter y colour first 0 refl) (λ k. columns_more painter y colour first k (suc k) (first + k) (omega arith) refl)
    (λ k. column_cell left top y first start k s) values n
    ∙ ap (λ (ds : List Dot). put_dots marked_by_colour left top ds cells) (columns_all painter y colour first last n e)
