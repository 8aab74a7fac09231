use Rattle.std.proofs.Common.{List, ap, subst, ◌∙◌}
use Rattle.level_audit.specs.Rules.{Frame, SceneValue, book_lumps, needed_lumps, zone_sizes}
use Rattle.sound_scene.specs.{Views.lump_numbers, Sound.art_with}
use Rattle.sound_scene.proofs.PictureLemmas.{HaveSame, books_same, with_book_is}
use Rattle.level_audit.proofs.weapons.audit_weapons.Goals as goal

pub returns-clause-scene : goal.returns-clause-scene
returns-clause-scene g c =
    let lumps = c.args.dir.now.lumps in
    let pictures = lump_numbers c.deref.result.now in
    let book_same = subst (λ (book : List Frame). HaveSame (lump_numbers c.pictures.result.now) (book_lumps book)) c.sprites.ensures c.pictures.ensures.lumps in
    let lumps_same = books_same c.pictures.result.now c.pictures-2.result.now c.deref.result.now c.args.scene.now.scene.book c.in_ok-book.book (c.deref.ensures.value ∙ c.in_ok-pictures.ensures) book_same c.pictures-2.ensures.lumps in
    c.set_needed.ensures
    ∙ with_book_is lumps c.in_ok-book.book c.args.scene.now pictures _ _ lumps_same
    (c.in_ok-needed.ensures.lumps ∙ ap (λ (scene : SceneValue). needed_lumps lumps (art_with scene pictures)) c.read.ensures)
    (c.in_ok-needed.ensures.sizes ∙ ap (λ (scene : SceneValue). zone_sizes lumps (art_with scene pictures)) c.read.ensures)
