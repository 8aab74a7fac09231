use Rattle.std.proofs.Common.{◌≡◌, ℕ, ap, ◌∙◌, replicate, vec_len, rules}
use Rattle.pixel_rules.specs.declared.TheConstants.{FRAME_CELLS}
use Rattle.pixel_strips.specs.Canvases.{CanvasView}
use Rattle.pixel_strips.proofs.CanvasLemmas.{view_with}
use Rattle.pixel_strips.proofs.frame.Frame.clear.Goals as goal

pub returns : goal.returns
returns c =
    let size : vec_len c.self.inside.cells ≡ FRAME_CELLS = search rules in
    ap (view_with c.self.inside.painter c.self.inside.left c.self.inside.top) (c.fill.ensures.items (λ y e. e) ∙ ap (λ (n : ℕ). replicate {A = ℕ} n 0) size)
    ∙ ap (λ (v : CanvasView). record v { cells = replicate FRAME_CELLS 0 }) c.self.view_is
