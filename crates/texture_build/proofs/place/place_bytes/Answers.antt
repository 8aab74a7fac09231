use Rattle.std.proofs.Common.{subst, sym}
use Rattle.patch_columns.specs.Seen.{AreSeen}
use Rattle.patch_columns.proofs.AnyBytesLemmas.{columns_with-any}
use Rattle.texture_build.proofs.place.place_bytes.Goals as goal

pub returns-clause-seen : goal.returns-clause-seen
returns-clause-seen c = λ patches are. subst (AreSeen _) (sym c.add_patch.ensures.value) (columns_with-any c.args.bytes.now patches c.place_patch-placed.result c.args.columns.now are)
