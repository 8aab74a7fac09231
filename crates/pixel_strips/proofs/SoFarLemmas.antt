-- A strip that is painted dot by dot: what stands so far, at its begin, one dot more, and at its end.
use Rattle.word_rules.proofs.Common.{[], ap, arith, FitsSigned, List, of_z, refl, subst, sym, to_z, w32, ℕ, ℤ, ◌+◌, ◌-◌, ◌∙◌, ◌≡◌, ◌≤◌, to_z-of_z}
use Rattle.pixel_strips.specs.Rules.{Dot, Painter, Spans, plus, span_dots, span_place, step_at}
use Rattle.word_rules.proofs.StepLemmas.{step_at-zero, step_at-more}
use Rattle.pixel_strips.specs.Canvases.{CanvasView, with_dot, with_dots}
use Rattle.pixel_strips.specs.{Strips.column_strip_dots, Places.IsSpanPlace}
use Rattle.pixel_strips.proofs.PlaceLemmas.{plus_fits, span_place-to}
use Rattle.pixel_strips.proofs.CanvasLemmas.{dots_none, dots_more, rows_dots, rows_none, rows_more, rows_all, span_dot, columns_dots, columns_none, columns_more, columns_all}

-- what stands at row y of a column, or at column x of a span: the fraction, as the code has its word
first_fraction : (first step : ℤ) (k : ℕ) → FitsSigned w32 first → 0 ≡ k → to_z w32 (of_z w32 first) ≡ step_at first step k
first_fraction first step k f e = to_z-of_z w32 first f ∙ step_at-zero first step f ∙ ap (step_at first step) e

next_fraction : (first step now sum : ℤ) (k n : ℕ) → k + 1 ≡ n → FitsSigned w32 step → now ≡ step_at first step k →
    sum ≡ plus now (to_z w32 (of_z w32 step)) → to_z w32 (of_z w32 sum) ≡ step_at first step n
next_fraction first step now sum k n e f at more =
    to_z-of_z w32 sum (subst (FitsSigned w32) (sym more) (plus_fits now (to_z w32 (of_z w32 step))))
    ∙ more ∙ ap (plus now) (to_z-of_z w32 step f) ∙ ap (λ (z : ℤ). plus z step) at ∙ step_at-more first step k n e

-- the dots, where the list of them has another name
dots_renamed : (mark : Painter → ℕ → ℕ) (canvas view : CanvasView) (ds es : List Dot) → view ≡ with_dots mark ds canvas → ds ≡ es → view ≡ with_dots mark es canvas
dots_renamed mark canvas view ds es painted e = painted ∙ ap (λ (dots : List Dot). with_dots mark dots canvas) e

-- the rows of a column above y are painted, and the fraction is that of row y
pub record ColumnSoFar (mark : Painter → ℕ → ℕ) (x : ℕ) (colour : ℤ → ℕ) (fraction step : ℤ) (first y : ℕ) (now : ℤ) (canvas view : CanvasView) : Type 0 where
  pub from : first ≤ y
  pub step_fits : FitsSigned w32 step
  pub at : now ≡ step_at fraction step (y - first)
  pub painted : view ≡ with_dots mark (rows_dots canvas.painter x (λ k. colour (step_at fraction step (k - first))) first (y - first)) canvas

pub column_begun : (mark : Painter → ℕ → ℕ) (x : ℕ) (colour : ℤ → ℕ) (fraction step : ℤ) (first : ℕ) (canvas : CanvasView) → FitsSigned w32 fraction → FitsSigned w32 step →
    ColumnSoFar mark x colour fraction step first first (to_z w32 (of_z w32 fraction)) canvas canvas
column_begun mark x colour fraction step first canvas f g = let count_is_zero : 0 ≡ first - first = omega arith in record {
  from = omega arith;
  step_fits = g;
  at = first_fraction fraction step (first - first) f count_is_zero;
  painted = dots_renamed mark canvas canvas [] _ (dots_none mark canvas) (sym (rows_none _ _ _ _ _ (sym count_is_zero)));
}

pub column_dotted : {mark : Painter → ℕ → ℕ} {x : ℕ} {colour : ℤ → ℕ} {fraction step : ℤ} {first y v : ℕ} {now sum : ℤ} {canvas view after : CanvasView} →
    ColumnSoFar mark x colour fraction step first y now canvas view → v ≡ colour now → sum ≡ plus now (to_z w32 (of_z w32 step)) → after ≡ with_dot mark x y v view →
    ColumnSoFar mark x colour fraction step first (y + 1) (to_z w32 (of_z w32 sum)) canvas after
column_dotted {mark} {x} {colour} {fraction} {step} {first} {y} {v} {now} {sum} {canvas} {view} {after} old is more dot =
    let first_at_most = old.from in
    let offset_more : y - first + 1 ≡ y + 1 - first = omega arith in
    let of_row : ℕ → ℕ = λ k. colour (step_at fraction step (k - first)) in
    record {
      from = omega arith;
      step_fits = old.step_fits;
      at = next_fraction fraction step now sum (y - first) (y + 1 - first) offset_more old.step_fits old.at more;
      painted = dots_renamed mark canvas after _ _
          (dots_more mark (rows_dots canvas.painter x of_row first (y - first)) (record { x = x; y = y; colour = of_row y; painter = canvas.painter })
          canvas view after old.painted refl (dot ∙ ap (λ (c : ℕ). with_dot mark x y c view) (is ∙ ap colour old.at)))
          (rows_more canvas.painter x of_row first (y - first) (y + 1 - first) y offset_more (omega arith));
    }

pub column_ended : {mark : Painter → ℕ → ℕ} {x : ℕ} {colour : ℤ → ℕ} {fraction step : ℤ} {first y : ℕ} {now : ℤ} {canvas view : CanvasView} (last : ℕ) →
    ColumnSoFar mark x colour fraction step first y now canvas view → first + (y - first) ≡ last + 1 →
    view ≡ with_dots mark (column_strip_dots canvas.painter x (λ k. colour (step_at fraction step (k - first))) first last) canvas
column_ended {mark} {x} {colour} {fraction} {step} {first} {y} {now} {canvas} {view} last old e =
    dots_renamed mark canvas view _ _ old.painted (rows_all canvas.painter x (λ k. colour (step_at fraction step (k - first))) first last (y - first) e)

-- the columns of a span left of x are painted, and the place is that of column x
pub record SpanSoFar (mark : Painter → ℕ → ℕ) (y : ℕ) (colour : ℕ → ℕ) (spans : Spans) (x_fraction y_fraction x_step y_step : ℤ) (first x place : ℕ)
    (canvas view : CanvasView) : Type 0 where
  pub from : first ≤ x
  pub at : IsSpanPlace spans x_fraction y_fraction x_step y_step (x - first) place
  pub painted : view ≡ with_dots mark
      (columns_dots canvas.painter y (λ k. colour (span_place spans x_fraction y_fraction x_step y_step (k - first))) first (x - first)) canvas

pub span_begun : (mark : Painter → ℕ → ℕ) (y : ℕ) (colour : ℕ → ℕ) (spans : Spans) (x_fraction y_fraction x_step y_step : ℤ) (first place : ℕ) (canvas : CanvasView) →
    IsSpanPlace spans x_fraction y_fraction x_step y_step 0 place →
    SpanSoFar mark y colour spans x_fraction y_fraction x_step y_step first first place canvas canvas
span_begun mark y colour spans x_fraction y_fraction x_step y_step first place canvas at = let count_is_zero : 0 ≡ first - first = omega arith in record {
  from = omega arith;
  at = span_place-to spans x_fraction y_fraction x_step y_step 0 (first - first) place count_is_zero at;
  painted = dots_renamed mark canvas canvas [] _ (dots_none mark canvas) (sym (columns_none canvas.painter y
      (λ k. colour (span_place spans x_fraction y_fraction x_step y_step (k - first))) first (first - first) (sym count_is_zero)));
}

pub span_dotted : {mark : Painter → ℕ → ℕ} {y : ℕ} {colour : ℕ → ℕ} {spans : Spans} {x_fraction y_fraction x_step y_step : ℤ} {first x v place texel next : ℕ}
    {canvas view after : CanvasView} → SpanSoFar mark y colour spans x_fraction y_fraction x_step y_step first x place canvas view →
    v ≡ colour texel → texel ≡ span_place spans x_fraction y_fraction x_step y_step (x - first) →
    IsSpanPlace spans x_fraction y_fraction x_step y_step (x - first + 1) next → after ≡ with_dot mark x y v view →
    SpanSoFar mark y colour spans x_fraction y_fraction x_step y_step first (x + 1) next canvas after
span_dotted {mark} {y} {colour} {spans} {x_fraction} {y_fraction} {x_step} {y_step} {first} {x} {v} {place} {texel} {next} {canvas} {view} {after} old is there more dot =
    let first_at_most = old.from in
    let offset_more : x - first + 1 ≡ x + 1 - first = omega arith in
    let of_column : ℕ → ℕ = λ k. colour (span_place spans x_fraction y_fraction x_step y_step (k - first)) in
    record {
      from = omega arith;
      at = span_place-to spans x_fraction y_fraction x_step y_step (x - first + 1) (x + 1 - first) next offset_more more;
      painted = dots_renamed mark canvas after _ _
          (dots_more mark (columns_dots canvas.painter y of_column first (x - first)) (span_dot canvas.painter y of_column x)
          canvas view after old.painted refl (dot ∙ ap (λ (c : ℕ). with_dot mark x y c view) (is ∙ ap colour there)))
          (columns_more canvas.painter y of_column first (x - first) (x + 1 - first) x offset_more (omega arith));
    }

pub span_ended : {mark : Painter → ℕ → ℕ} {y : ℕ} {colour : ℕ → ℕ} {spans : Spans} {x_fraction y_fraction x_step y_step : ℤ} {first x place : ℕ}
    {canvas view : CanvasView} (last : ℕ) → SpanSoFar mark y colour spans x_fraction y_fraction x_step y_step first x place canvas view → first + (x - first) ≡ last + 1 →
    view ≡ with_dots mark (span_dots canvas.painter y (λ k. colour (span_place spans x_fraction y_fraction x_step y_step (k - first))) first last) canvas
span_ended {mark} {y} {colour} {spans} {x_fraction} {y_fraction} {x_step} {y_step} {first} {x} {place} {canvas} {view} last old e =
    dots_renamed mark canvas view _ _ old.painted
    (columns_all canvas.painter y (λ k. colour (span_place spans x_fraction y_fraction x_step y_step (k - first))) first last (x - first) e)
