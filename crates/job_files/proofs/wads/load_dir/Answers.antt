use Rattle.art_rules.specs.Words.{directory}
use Rattle.lump_cache.specs.Faults.{dir_fault}
use Rattle.refusals.specs.declared.refusal.Refusal.TheVariants.{Wad}
use Rattle.job_files.proofs.AboveLemmas.{answers_above, causes_above}
use Rattle.job_files.proofs.wads.load_dir.Goals as goal

pub returns-clause-answers : goal.returns-clause-answers
returns-clause-answers g c contents stand =
    answers_above dir_fault Wad (directory contents) c.load.result c.map_err.result c.map_err.ensures.cases (c.load.ensures.answers contents stand)

pub returns-clause-causes : goal.returns-clause-causes
returns-clause-causes g c = causes_above dir_fault Wad c.load.result c.map_err.result c.map_err.ensures.cases c.load.ensures.causes
