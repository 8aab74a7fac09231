use Rattle.std.specs.Prelude.{codes}
use Rattle.refusals.specs.Lines.{labelled}
use Rattle.job_files.proofs.LineLemmas.{three_added}
use Rattle.job_files.proofs.notes.put_zone_full.Goals as goal

pub returns : goal.returns
returns g c =
    rw (three_added (labelled (codes "doomview: zone full wanted ") c.args.wanted) (labelled (codes " widest ") c.args.widest) (codes "\n") _ _ _ _
    c.new-line.ensures c.add_number.ensures.text c.add_number-2.ensures.text c.add.ensures.text) at c.put.ensures
