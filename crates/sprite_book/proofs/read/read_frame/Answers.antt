use Rattle.std.proofs.Common.{◌≡◌, Ok, sym, ◌∙◌}
use Rattle.art_rules.specs.Words.{frame_of, mentions, pictures_of}
use Rattle.sprite_book.proofs.CallLemmas.{reads_nothing, reads_refused, reads_more, reads_stop, reads_same}
use Rattle.sprite_book.proofs.PictureLemmas.{passed, refused}
use Rattle.sprite_book.proofs.FrameLemmas.{frame_refused, frame_stop, frame_made, outline_made, pictures_there}
use Rattle.sprite_book.proofs.read.read_frame.Goals as goal

pub returns-in_err-pictures-clause-tells : goal.returns-in_err-pictures-clause-tells
returns-in_err-pictures-clause-tells g c =
    let all_mentions = mentions c.args.dir.now.lumps in
    let judged = refused c.find_pictures.result c.map_err.result c.in_err-pictures.field-0.0 c.map_err.ensures.cases c.in_err-pictures.was in
    reads_same c.from_residual.result _ (λ bytes. frame_of bytes c.args.dir.now.lumps c.args.need.now) c.from_residual.ensures.1
    (reads_refused (g.S.Shelf.view c.args.shelf.now) c.args.dir.now c.args.cache.now c.args.patches.now c.in_err-pictures.field-0.0 judged.0 judged.2
    (λ bytes. frame_refused bytes c.args.dir.now.lumps c.args.need.now c.find_pictures.result judged.0 (c.find_pictures.ensures all_mentions c.requires.indexed) judged.1))

pub fill_shapes-requires-clause-there : goal.fill_shapes-requires-clause-there
fill_shapes-requires-clause-there g c = pictures_there c.args.dir.now.lumps c.args.need.now c.in_ok-pictures.pictures (sym (c.find_pictures.ensures (mentions c.args.dir.now.lumps) c.requires.indexed) ∙ passed c.find_pictures.result c.map_err.result c.in_ok-pictures.pictures c.map_err.ensures.cases c.in_ok-pictures.was)

pub returns-in_err-fill_shapes-clause-tells : goal.returns-in_err-fill_shapes-clause-tells
returns-in_err-fill_shapes-clause-tells g c =
    let pictures = c.in_ok-pictures.pictures in
    let pictures_are : pictures_of (mentions c.args.dir.now.lumps c.args.need.now.sprite) c.args.need.now ≡ Ok pictures = sym (c.find_pictures.ensures (mentions c.args.dir.now.lumps) c.requires.indexed) ∙ passed c.find_pictures.result c.map_err.result c.in_ok-pictures.pictures c.map_err.ensures.cases c.in_ok-pictures.was in
    reads_same c.from_residual-in_err-fill_shapes.result c.in_err-fill_shapes.field-0.0 (λ bytes. frame_of bytes c.args.dir.now.lumps c.args.need.now) c.from_residual-in_err-fill_shapes.ensures.1
    (reads_stop (λ bytes. frame_of bytes c.args.dir.now.lumps c.args.need.now) c.in_err-fill_shapes.field-0.0
    (reads_nothing (g.S.Shelf.view c.args.shelf.now) c.args.dir.now c.args.cache.now c.args.patches.now _) c.fill_shapes.result c.fill_shapes.ensures.tells c.in_err-fill_shapes.was
    (λ lump among. record { pictures = pictures; are = pictures_are; among = among }) (λ bytes e one two. frame_stop bytes c.args.dir.now.lumps c.args.need.now pictures e pictures_are two))

pub returns-clause-tells : goal.returns-clause-tells
returns-clause-tells g c =
    let pictures = c.in_ok-pictures.pictures in
    let pictures_are : pictures_of (mentions c.args.dir.now.lumps c.args.need.now.sprite) c.args.need.now ≡ Ok pictures = sym (c.find_pictures.ensures (mentions c.args.dir.now.lumps) c.requires.indexed) ∙ passed c.find_pictures.result c.map_err.result c.in_ok-pictures.pictures c.map_err.ensures.cases c.in_ok-pictures.was in
    reads_more (λ bytes. frame_of bytes c.args.dir.now.lumps c.args.need.now) tt _
    (reads_nothing (g.S.Shelf.view c.args.shelf.now) c.args.dir.now c.args.cache.now c.args.patches.now _) c.fill_shapes.result c.fill_shapes.ensures.tells c.in_ok-fill_shapes.was
    (λ lump among. record { pictures = pictures; are = pictures_are; among = among }) (λ bytes one two. frame_made bytes c.args.dir.now.lumps c.args.need.now pictures c.fill_shapes.new.shapes pictures_are two)

pub returns-clause-outline : goal.returns-clause-outline
returns-clause-outline g c = outline_made c.args.dir.now.lumps c.args.need.now c.in_ok-pictures.pictures c.fill_shapes.new.shapes (sym (c.find_pictures.ensures (mentions c.args.dir.now.lumps) c.requires.indexed) ∙ passed c.find_pictures.result c.map_err.result c.in_ok-pictures.pictures c.map_err.ensures.cases c.in_ok-pictures.was) c.in_ok-fill_shapes.ensures.outlines
