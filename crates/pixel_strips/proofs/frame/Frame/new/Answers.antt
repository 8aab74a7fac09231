use Rattle.std.proofs.Common.{ℕ, List, ap}
use Rattle.pixel_strips.specs.Canvases.{CanvasView, blank}
use Rattle.pixel_strips.proofs.frame.Frame.new.Goals as goal

pub returns : goal.returns
unfolding blank
returns c =
    let unpainted : List ℕ → CanvasView = λ cells. record { cells = cells; painter = record { kind = 0; number = 0; source_kind = 0; source = 0 }; left = 0; top = 0 } in
    ap unpainted c.in_ok-zeros.ensures
