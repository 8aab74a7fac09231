-- Laws of edges: those of each column are the first ones, stepped.
use Rattle.word_rules.proofs.Common.{FitsSigned, SFits-int_wrap, w32, ℕ, ℤ, ◌+◌, ◌-ℤ◌, ◌≡◌}
use Rattle.picture_rules.specs.Rules.{ViewShape, minus, mul, shr_word}
use Rattle.word_rules.proofs.StepLemmas.{step_at-zero, step_at-more}
use Rattle.picture_rules.specs.declared.wall.FragmentNumbers.{FragmentNumbers}
use Rattle.picture_rules.specs.declared.wall.TheConstants.{HEIGHT_SHIFT}
use Rattle.picture_rules.specs.wall.Edges.{centre_edge, edge_first, edge_step, edge_at, edges_at, edges_first, edges_step, edges_plus}

edge_fits : (shape : ViewShape) (w scale : ℤ) → FitsSigned w32 (edge_first shape w scale)
unfolding edge_first minus
edge_fits shape w scale = SFits-int_wrap w32 (centre_edge shape -ℤ mul w scale)

edge_zero : (shape : ViewShape) (height scale step : ℤ) → edge_first shape (shr_word height HEIGHT_SHIFT) scale ≡ edge_at shape height scale step 0
unfolding edge_at
edge_zero shape height scale step =
    step_at-zero (edge_first shape (shr_word height HEIGHT_SHIFT) scale) (edge_step (shr_word height HEIGHT_SHIFT) step) (edge_fits shape (shr_word height HEIGHT_SHIFT) scale)

-- the edges of the first column
pub edges_at-zero : (shape : ViewShape) (n : FragmentNumbers) → FitsSigned w32 n.scale1 → edges_first shape n ≡ edges_at shape n 0
unfolding edges_first edges_at
edges_at-zero shape n f =
    let scale_at = step_at-zero n.scale1 n.step f in
    let top_at = edge_zero shape n.world_top n.scale1 n.step in
    let bottom_at = edge_zero shape n.world_bottom n.scale1 n.step in
    let high_at = edge_zero shape n.world_high n.scale1 n.step in
    let low_at = edge_zero shape n.world_low n.scale1 n.step in cc

-- one column more
pub edges_at-more : (shape : ViewShape) (n : FragmentNumbers) (k m : ℕ) → k + 1 ≡ m → edges_plus (edges_at shape n k) (edges_step n) ≡ edges_at shape n m
unfolding edges_at edges_step edges_plus edge_at
edges_at-more shape n k m h =
    let edge_one_more = λ (height : ℤ). step_at-more (edge_first shape (shr_word height HEIGHT_SHIFT) n.scale1) (edge_step (shr_word height HEIGHT_SHIFT) n.step) k m h in
    cc (step_at-more n.scale1 n.step k m h, edge_one_more n.world_top, edge_one_more n.world_bottom, edge_one_more n.world_high, edge_one_more n.world_low)

-- for `grind`: a loop that steps the edges
pub ruleset edge_stepping = (edges_at-zero, edges_at-more)
