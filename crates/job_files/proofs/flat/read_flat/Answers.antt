use Rattle.picture_rules.proofs.Common.{Option, option_map_or, subst, ℕ, ◌+◌, ◌≤◌}
use Rattle.art_rules.specs.Words.{lump_at}
use Rattle.job_files.specs.Sizes.{flat_size}
use Rattle.job_files.proofs.flat.read_flat.Goals as goal

pub returns-in-Some-clause-taken : goal.returns-in-Some-clause-taken
unfolding flat_size
returns-in-Some-clause-taken g c =
    subst (λ (found : Option ℕ). (g.S.Shelf.view c.read_lump.new.shelf).taken ≤ (g.S.Shelf.view c.args.shelf.now).taken + option_map_or (λ lump. (lump_at c.args.dir.now.lumps lump).size) found 0)
    c.in-Some.ensures.found c.read_lump.ensures.taken
