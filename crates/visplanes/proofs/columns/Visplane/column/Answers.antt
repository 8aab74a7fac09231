use Rattle.std.proofs.Common.{ap, sym, ◌∙◌, arith}
use Rattle.picture_rules.specs.Words.{column, Plane}
use Rattle.visplanes.proofs.ColumnLemmas.{run_at-none, run_at-some, column-kept, column-past}
use Rattle.visplanes.proofs.columns.Visplane.column.Goals as goal

pub returns-then-x-ge-FRAME_WIDTH-clause-run : goal.returns-then-x-ge-FRAME_WIDTH-clause-run
returns-then-x-ge-FRAME_WIDTH-clause-run c =
    let fields = c.self.inside in
    sym (column-past fields.key fields.tops fields.bottoms c.args.x c.if-x-ge-FRAME_WIDTH.true) ∙ ap (λ (p : Plane). column p c.args.x) c.self.view_is

pub returns-then-top-clause-run : goal.returns-then-top-clause-run
returns-then-top-clause-run c =
    let fields = c.self.inside in
    sym (column-kept fields.key fields.tops fields.bottoms c.args.x (omega arith) ∙ run_at-none fields.tops fields.bottoms c.args.x c.if-top.true) ∙ ap (λ (p : Plane). column p c.args.x) c.self.view_is

pub returns-clause-run : goal.returns-clause-run
returns-clause-run c =
    let fields = c.self.inside in
    sym (column-kept fields.key fields.tops fields.bottoms c.args.x (omega arith) ∙ run_at-some fields.tops fields.bottoms c.args.x c.if-top.false) ∙ ap (λ (p : Plane). column p c.args.x) c.self.view_is
