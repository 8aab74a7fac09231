use Rattle.std.proofs.Common.{arith, ◌∙◌}
use Rattle.patch_columns.specs.Seen.{lookup_with}
use Rattle.patch_columns.proofs.SeenLemmas.{changed_none, changed_more, columns_with-changed, columns_with-added}
use Rattle.patch_columns.proofs.lookups.add_patch.Goals as goal

pub returns-clause-value : goal.returns-clause-value
returns-clause-value c =
    columns_with-changed c.args.lump.now c.args.patch.now c.args.columns.now c.loop-x.columns c.loop-x.x c.loop-x.auto.columns c.loop-x-test.false c.loop-x.invariant

pub returns-clause-added : goal.returns-clause-added
returns-clause-added c = λ bytes patches of are.
    columns_with-changed c.args.lump.now c.args.patch.now c.args.columns.now c.loop-x.columns c.loop-x.x c.loop-x.auto.columns c.loop-x-test.false c.loop-x.invariant
    ∙ columns_with-added bytes c.args.lump.now patches c.args.patch.now c.args.columns.now of are

pub loop-x-preserved : goal.loop-x-preserved
loop-x-preserved c =
    changed_more (lookup_with c.args.lump.now c.args.patch.now) c.args.columns.now c.loop-x.columns c.loop-x.x c.lookup_with.result (omega arith) c.loop-x.invariant c.lookup_with.ensures

pub loop-x-init : goal.loop-x-init
loop-x-init c = changed_none (lookup_with c.args.lump.now c.args.patch.now) c.args.columns.now
