use Rattle.art_rules.proofs.Common.{list_any, ◌==◌}
use Rattle.art_rules.specs.Words.{book_lumps}
use Rattle.sound_scene.specs.Views.{lump_numbers}
use Rattle.sound_scene.proofs.{MarkLemmas.adds_same, PictureLemmas.any_same}
use Rattle.wad_trim.proofs.parts.mark_pictures.Goals as goal

pub returns-clause-marked : goal.returns-clause-marked
returns-clause-marked c =
    adds_same c.args.marks.now c.mark_lumps.new.marks (λ n. list_any (λ m. m == n) (lump_numbers c.pictures.result.now)) (λ n. list_any (λ m. m == n) (book_lumps c.args.book.now))
    (λ n l. any_same (lump_numbers c.pictures.result.now) (book_lumps c.args.book.now) n c.pictures.ensures.lumps) c.mark_lumps.ensures.marked
