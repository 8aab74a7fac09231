use Rattle.std.specs.Prelude.{codes}
use Rattle.refusals.specs.Lines.{labelled}
use Rattle.job_files.proofs.LineLemmas.{three_added}
use Rattle.doom_run.proofs.audit.put_sizes.Goals as goal

pub returns : goal.returns
returns g c =
    rw (three_added (labelled (codes "accepted enough ") c.args.sizes.enough) (labelled (codes " roomy ") c.args.sizes.roomy) (codes "\n") _ _ _ _
    c.new-line.ensures c.add_number.ensures.text c.add_number-2.ensures.text c.add.ensures.text) at c.put.ensures
