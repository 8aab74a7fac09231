use Rattle.std.proofs.Common.{◌∙◌, ap, sym, Ok}
use Rattle.lump_rules.proofs.ContentLemmas.{directory_within}
use Rattle.wad_dir.proofs.directory.Directory.load.Goals as goal

pub returns-clause-within : goal.returns-clause-within
returns-clause-within g c contents stand =
    directory_within contents c.in_ok-new.field-0.lumps ((c.in_ok-list.ensures.answers contents stand).ok ∙ ap Ok (sym c.in_ok-new.ensures.1))
