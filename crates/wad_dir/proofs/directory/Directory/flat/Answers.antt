use Rattle.word_rules.proofs.Common.{length, rules, ◌&&◌}
use Rattle.wad_dir.specs.Rules.{Flats, has_name, is_member}
use Rattle.wad_dir.proofs.IndexLemmas.{found_there}
use Rattle.wad_dir.proofs.directory.Directory.flat.Goals as goal

pub returns-clause-there : goal.returns-clause-there
returns-clause-there c =
    found_there (λ number. is_member Flats c.args.self.now.lumps number && has_name c.args.self.now.lumps c.args.name.now number)
    (length c.args.self.now.lumps) c.look_up.result (search rules)
