use Rattle.std.proofs.Common.{ap, ◌∙◌}
use Rattle.job_files.specs.Rules.{PALETTE_SIZE, Playpal, long_lump, playpal_of}
use Rattle.job_files.proofs.ColourLemmas.{colour_names, long_told}
use Rattle.job_files.proofs.colours.find_playpal.Goals as goal

pub returns-clause-lump : goal.returns-clause-lump
unfolding playpal_of
returns-clause-lump c =
    long_told Playpal c.find_long.result _ c.ok_or.result (c.find_long.ensures.found ∙ ap (λ name. long_lump c.args.dir.now.lumps name PALETTE_SIZE) (c.from_bytes.ensures ∙ colour_names.1)) c.ok_or.ensures.value
