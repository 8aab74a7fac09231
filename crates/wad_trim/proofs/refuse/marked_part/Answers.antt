use Rattle.art_rules.proofs.Common.{ap, length, option_map, sym, ◌∙◌}
use Rattle.wad_trim.specs.Rules.{LumpNo, is_mark, lump_at}
use Rattle.wad_trim.proofs.MarkedLemmas.{marked-listed, marked-unlisted, number-cond}
use Rattle.wad_trim.proofs.refuse.marked_part.Goals as goal

pub marked-requires : goal.marked-requires
marked-requires c = c.in-Some.ensures.there (length c.args.dir.now.lumps) c.requires

pub returns-in-Some : goal.returns-in-Some
returns-in-Some c =
    let lumps = c.args.dir.now.lumps in
    let lump = c.in-Some.lump in
    ap (option_map (λ (l : LumpNo). l.0)) c.marked.ensures
    ∙ number-cond (is_mark (lump_at lumps lump.0).name) lump
    ∙ sym (marked-listed lumps c.args.part lump.0 c.in-Some.ensures.is (c.in-Some.ensures.there (length lumps) c.requires))

pub returns-in-None : goal.returns-in-None
returns-in-None c = sym (marked-unlisted c.args.dir.now.lumps c.args.part c.in-None.ensures.is)
