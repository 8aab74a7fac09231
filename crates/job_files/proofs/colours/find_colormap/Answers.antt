use Rattle.std.proofs.Common.{ap, ◌∙◌}
use Rattle.job_files.specs.Rules.{COLORMAP_SIZE, Colormap, colormap_of, long_lump}
use Rattle.job_files.proofs.ColourLemmas.{colour_names, long_told}
use Rattle.job_files.proofs.colours.find_colormap.Goals as goal

pub returns-clause-lump : goal.returns-clause-lump
unfolding colormap_of
returns-clause-lump c =
    long_told Colormap c.find_long.result _ c.ok_or.result (c.find_long.ensures.found ∙ ap (λ name. long_lump c.args.dir.now.lumps name COLORMAP_SIZE) (c.from_bytes.ensures ∙ colour_names.0)) c.ok_or.ensures.value
