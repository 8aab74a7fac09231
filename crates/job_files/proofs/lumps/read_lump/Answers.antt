use Rattle.job_files.proofs.LumpLemmas.{all_of_lump}
use Rattle.job_files.proofs.lumps.read_lump.Goals as goal

pub returns-clause-answers : goal.returns-clause-answers
returns-clause-answers g c contents stand within =
    rw (all_of_lump contents c.args.dir.now.lumps c.args.lump.0 c.size-size.result c.size-size.ensures) at (c.read_front.ensures.answers contents stand within)
