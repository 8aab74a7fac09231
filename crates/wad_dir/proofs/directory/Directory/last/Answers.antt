use Rattle.std.proofs.Common.{length, rules}
use Rattle.lump_rules.specs.Lookups.{has_name}
use Rattle.wad_dir.proofs.IndexLemmas.{found_there}
use Rattle.wad_dir.proofs.directory.Directory.last.Goals as goal

pub returns-clause-there : goal.returns-clause-there
returns-clause-there c =
    found_there (has_name c.args.self.now.lumps c.args.name.now) (length c.args.self.now.lumps) c.look_up.result (search rules)
