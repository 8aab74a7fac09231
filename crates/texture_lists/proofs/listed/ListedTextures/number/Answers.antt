use Rattle.std.proofs.Common.{◌∙◌, ap, arith, length}
use Rattle.art_rules.specs.Words.{TextureLists}
use Rattle.texture_lists.proofs.IndexLemmas.{least_there}
use Rattle.texture_lists.proofs.listed.ListedTextures.number.Goals as goal

pub returns-in-Some-clause-there : goal.returns-in-Some-clause-there
returns-in-Some-clause-there c = λ some.
    let number_within = least_there c.self.inside.textures.items c.args.name.now c.in-Some.number (c.in-Some.ensures ∙ c.self.invariant.1 c.args.name.now) in
    let count_same = ap (λ (v : TextureLists). length v.textures) c.self.view_is in
    omega (arith, number_within, count_same)
