use Rattle.picture_rules.proofs.Common.{arith, common_steps, length, on_ok_weaker}
use Rattle.art_rules.specs.Words.{lump_at}
use Rattle.job_files.proofs.LumpLemmas.{file_stands, lump_within, piece_of_lump, front_is_there}
use Rattle.job_files.proofs.lumps.fill_front.Goals as goal

pub returns-clause-bytes : goal.returns-clause-bytes
returns-clause-bytes g c contents stand within =
    on_ok_weaker c.read_at.result
    (λ read. piece_of_lump contents c.args.dir.now.lumps c.args.lump.0 c.place.result (length c.args.piece.now) _ c.read_at.new.piece
    (file_stands (g.S.Shelf.view c.args.shelf.now) c.args.dir.now.files contents (lump_at c.args.dir.now.lumps c.args.lump.0).file c.file.result stand c.file.ensures)
    c.place.ensures c.requires.within c.read_at.auto.piece read)
    c.read_at.ensures.bytes

pub returns-clause-steady : goal.returns-clause-steady
returns-clause-steady g c contents stand within steady =
    front_is_there contents c.args.dir.now.lumps c.args.lump.0 c.place.result (length c.args.piece.now) _
    (file_stands (g.S.Shelf.view c.args.shelf.now) c.args.dir.now.files contents (lump_at c.args.dir.now.lumps c.args.lump.0).file c.file.result stand c.file.ensures)
    c.place.ensures c.requires.within (grind (arith, common_steps)) (lump_within contents _ _ within c.requires.lump) (c.read_at.ensures.steady steady)
