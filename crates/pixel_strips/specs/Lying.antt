-- Where a strip lies in the frame, and what it leaves of a canvas.
use Rattle.std.specs.Prelude.{◌+◌, ◌<◌, ◌≤◌, ℕ}
use Rattle.pixel_strips.specs.Rules.{FRAME_HEIGHT, FRAME_WIDTH, Painter, Spans, span_dots}
use Rattle.pixel_strips.specs.declared.column.ColumnStrip.{ColumnStrip}
use Rattle.pixel_strips.specs.declared.span.SpanStrip.{SpanStrip}
use Rattle.pixel_strips.specs.Canvases.{CanvasView, with_dots}
use Rattle.pixel_strips.specs.Strips.{column_strip_dots, row_colour, strip_colour}

-- its rows are in order, and lie in the frame
abbrev pub IsColumnIn : ColumnStrip → CanvasView → Type 0
IsColumnIn s canvas = (s.first ≤ s.last)
    × ((s.x + canvas.left < FRAME_WIDTH) × (s.last + canvas.top < FRAME_HEIGHT))

-- its columns likewise
abbrev pub IsSpanIn : SpanStrip → CanvasView → Type 0
IsSpanIn s canvas = (s.first ≤ s.last)
    × ((s.y + canvas.top < FRAME_HEIGHT) × (s.last + canvas.left < FRAME_WIDTH))

-- a canvas with the dots of a column
abbrev pub with_column_cut : (Painter → ℕ → ℕ) → ColumnStrip → CanvasView → CanvasView
with_column_cut mark s canvas = with_dots mark (column_strip_dots canvas.painter s.x
    (strip_colour s.source.now s.base s.colormap.now s.map s.fraction s.step s.first) s.first s.last) canvas

-- with those of a span that is stepped so
abbrev pub with_span : (Painter → ℕ → ℕ) → Spans → SpanStrip → CanvasView → CanvasView
with_span mark spans s canvas = with_dots mark (span_dots canvas.painter s.y
    (row_colour spans s.flat.now s.colormap.now s.map s.x_fraction s.y_fraction s.x_step s.y_step s.first)
    s.first s.last) canvas
