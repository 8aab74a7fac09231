use Rattle.std.proofs.Common.{ap, length}
use Rattle.texture_build.specs.Rules.{Refused, TooBig, texture_at}
use Rattle.texture_build.proofs.PrepareLemmas.{bound_big, bound_ok}
use Rattle.texture_build.proofs.prepare.bind_texture.Goals as goal

pub returns-in-Some-clause-ok : goal.returns-in-Some-clause-ok
returns-in-Some-clause-ok c = λ bytes are.
    bound_ok bytes c.args.tex.0 (texture_at c.args.lists.now.textures c.args.tex.0) c.args.patches.items (length c.args.columns.items) c.height.result c.new.result c.in-Some.texture c.requires.width c.height.ensures c.new.ensures.big (c.new.ensures.columns bytes are) c.in-Some.is

pub returns-in-None-clause-err : goal.returns-in-None-clause-err
returns-in-None-clause-err c = (
  ap (λ n. Refused (TooBig n)) c.from.ensures,
  λ bytes. bound_big bytes c.args.tex.0 (texture_at c.args.lists.now.textures c.args.tex.0) c.args.patches.items (length c.args.columns.items) c.height.result c.new.result c.requires.width c.height.ensures c.new.ensures.big c.in-None.is,
)
