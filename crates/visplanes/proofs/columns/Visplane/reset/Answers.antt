use Rattle.picture_rules.proofs.Common.{ap, arith, get_or-replicate, List, slice_index, ℕ, ◌<◌, ◌∙◌, ◌≡◌}
use Rattle.picture_rules.specs.Words.{FRAME_WIDTH}
use Rattle.visplanes.specs.declared.columns.TheConstants.{NO_RUN}
use Rattle.visplanes.proofs.ColumnLemmas.{kept-empty, plane_of-empty}
use Rattle.visplanes.proofs.columns.Visplane.reset.Goals as goal

-- no column has a top
unmarked : (c : goal.After-self-2-1) (x : ℕ) → x < FRAME_WIDTH → slice_index c.fill.new.self x ≡ NO_RUN
unmarked c x l =
    ap (λ (tops : List ℕ). slice_index tops x) (c.fill.ensures.after (λ y e. e))
    ∙ get_or-replicate _ x NO_RUN 0 (omega (arith, l, c.self.invariant.top_bytes))

pub invariant_of-self : goal.invariant_of-self
invariant_of-self c =
    kept-empty c.fill.new.self c.self.inside.bottoms (c.fill.ensures.len ∙ c.self.invariant.top_bytes) c.self.invariant.bottom_bytes (unmarked c) c.self.invariant.rows

pub returns : goal.returns
returns c = plane_of-empty c.args.key c.fill.new.self c.self.inside.bottoms (unmarked c)
