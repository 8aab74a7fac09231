use Rattle.std.proofs.Common.{◌∙◌}
use Rattle.wad_dir.proofs.{IndexLemmas.indexed_alike, MemberLemmas.flats_marked}
use Rattle.wad_dir.proofs.index.index_flats.Goals as goal

pub returns : goal.returns
returns c = indexed_alike _ _ _ (λ name. flats_marked _ c.args.lumps.now name (c.deref.ensures.value ∙ c.in_ok-marked.ensures.marks)) c.index_of.ensures
