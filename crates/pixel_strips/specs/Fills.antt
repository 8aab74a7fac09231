-- Strips of a frame that are being filled, one cell after the other.
use Rattle.std.specs.Prelude.{◌≡◌, ◌≤◌, ℕ, ◌+◌, ◌*◌, ℤ, List, max}
use Rattle.pixel_strips.specs.Rules.{FRAME_WIDTH, Spans, span_place, step_at}
use Rattle.pixel_strips.specs.{declared.canvas.CutColumn.CutColumn, declared.canvas.CutSpan.CutSpan}
use Rattle.pixel_strips.specs.{Canvases.fill_cells, Strips.cut_colour, Strips.cut_span_colour}

-- n cells of a strip are set, the k-th at `cell k` to `value k`
pub record Filled (cell value : ℕ → ℕ) (n : ℕ) (before cells : List ℕ) : Type 0 where
  pub filled : cells ≡ fill_cells cell value n before

-- `count` cells are set from the n-th on, of which some may be set already
pub record Fills (cell value : ℕ → ℕ) (n count : ℕ) (old new : List ℕ) : Type 0 where
  pub sets : (so_far : ℕ) (before : List ℕ) → n ≤ so_far →
      Filled cell value so_far before old → Filled cell value (max so_far (n + count)) before new

-- those of a column, the first at `start`
abbrev pub ColumnFilled : List ℕ → List ℕ → ℤ → ℤ → ℕ → ℕ → List ℕ → List ℕ → Type 0
ColumnFilled texels shades fraction step start n before cells =
    Filled (λ k. start + FRAME_WIDTH * k) (λ k. cut_colour texels shades (step_at fraction step k)) n before cells

abbrev pub ColumnFills : CutColumn → ℤ → ℕ → ℕ → ℕ → List ℕ → List ℕ → Type 0
ColumnFills cut fraction start n count old new =
    Fills (λ k. start + FRAME_WIDTH * k) (λ k. cut_colour cut.texels.now cut.shades.now (step_at fraction cut.step k)) n count old new

-- the same of a span
abbrev pub SpanFilled : Spans → List ℕ → List ℕ → ℤ → ℤ → ℤ → ℤ → ℕ → ℕ → List ℕ → List ℕ → Type 0
SpanFilled spans texels shades x y x_step y_step start n before cells =
    Filled (λ k. start + k) (λ k. cut_span_colour texels shades (span_place spans x y x_step y_step k)) n before cells

abbrev pub SpanFills : CutSpan → ℤ → ℤ → ℕ → ℕ → ℕ → List ℕ → List ℕ → Type 0
SpanFills cut x y start n count old new =
    Fills (λ k. start + k) (λ k. cut_span_colour cut.texels.now cut.shades.now (span_place cut.spans x y cut.x_step cut.y_step k)) n count old new
