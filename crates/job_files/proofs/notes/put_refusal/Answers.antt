use Rattle.picture_rules.proofs.Common.{codes, flat_map}
use Rattle.refusals.specs.Lines.{numbers_of, spaced}
use Rattle.job_files.proofs.LineLemmas.{three_added}
use Rattle.job_files.proofs.notes.put_refusal.Goals as goal

pub returns : goal.returns
returns g c =
    rw (three_added (codes "doomview: refused") (flat_map spaced (numbers_of c.args.refusal)) (codes "\n") _ _ _ _
    c.new-line.ensures c.add.ensures.text c.add_refusal.ensures.text c.add-2.ensures.text) at c.put.ensures
