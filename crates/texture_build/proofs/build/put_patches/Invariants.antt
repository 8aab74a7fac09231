use Rattle.std.proofs.Common.{Ok}
use Rattle.texture_build.specs.Builds.{PutsPatches}
use Rattle.texture_build.proofs.build.put_patches.Given as goal

abbrev pub invariant-loop-patch : goal.invariant-loop-patch
invariant-loop-patch g l = PutsPatches l.number l.texture 0 l.patch-index (g.S.Shelf.view l.initial.shelf) (g.S.Shelf.view l.shelf) l.dir l.initial.cache l.cache (Ok tt)
