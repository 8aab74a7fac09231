use Rattle.std.proofs.Common.{length, map, Ok, Err, refl, ap, arith}
use Rattle.texture_build.proofs.CallLemmas.{reads_more, reads_same, reads_stop, reads_stop_first}
use Rattle.sprite_book.specs.Calls.{IsWanted}
use Rattle.level_audit.specs.{Faults.above_scene, Rules.need_of, Rules.scene_over}
use Rattle.sound_scene.specs.{Bases.base_of, Scenes.faces_of}
use Rattle.level_audit.proofs.{PartLemmas.checks_told, WholeLemmas.middles_told}
use Rattle.level_audit.proofs.StepLemmas.{scene_over-sound, scene_over-unread, scene_over-unsound}
use Rattle.level_audit.proofs.scene.read_things.Goals as goal

pub returns-in_err-book-clause-tells : goal.returns-in_err-book-clause-tells
returns-in_err-book-clause-tells g c =
    let lumps = c.args.dir.now.lumps in
    let base_value = base_of c.args.base in
    let faces = faces_of c.args.faces in
    let prepared = c.args.base.textures.prepared in
    reads_stop_first (λ bytes. scene_over bytes lumps base_value faces c.args.placed prepared) c.read_book.result c.in_err-book.field-0.0 c.from_residual.result
    c.read_book.ensures.tells c.in_err-book.was c.from_residual.ensures.1 (λ lump wanted. wanted) (λ bytes refusal e. scene_over-unread bytes lumps base_value faces c.args.placed prepared refusal e)

pub check_scene-requires-clause-few : goal.check_scene-requires-clause-few
check_scene-requires-clause-few g c = omega (arith, c.segs.ensures.sound.counts.sides, c.requires.sides, ap length c.deref.ensures.value)

pub returns-in-Err-clause-tells : goal.returns-in-Err-clause-tells
returns-in-Err-clause-tells g c =
    let dir = c.args.dir.now in
    let fault = above_scene c.in-Err.fault in
    reads_same (Err c.above_scene.result) fault _ c.above_scene.ensures
    (reads_stop _ fault c.in_ok-book.ensures.tells (Err fault)
    (checks_told (g.S.Shelf.view c.read_book.new.shelf) dir c.read_book.new.cache (IsWanted dir.lumps (map need_of c.args.placed)) c.args.placed _ _ c.segs.result.now _ c.deref.result.now (Err c.in-Err.fault)
    c.segs.ensures.value c.deref.ensures.value c.in-Err.ensures.value)
    refl (λ lump wanted. wanted) (λ bytes refusal read stopped. scene_over-unsound bytes dir.lumps _ _ c.args.placed _ c.in_ok-book.book refusal read stopped))

pub returns-in-Ok-clause-tells : goal.returns-in-Ok-clause-tells
returns-in-Ok-clause-tells g c =
    let dir = c.args.dir.now in
    reads_more _ tt (record { base = c.args.base; faces = c.args.faces; placed = c.args.placed; book = c.in_ok-book.book })
    c.in_ok-book.ensures.tells (Ok tt)
    (checks_told (g.S.Shelf.view c.read_book.new.shelf) dir c.read_book.new.cache (IsWanted dir.lumps (map need_of c.args.placed)) c.args.placed _ _ c.segs.result.now _ c.deref.result.now (Ok tt)
    c.segs.ensures.value c.deref.ensures.value c.in-Ok.ensures.value)
    refl (λ lump wanted. wanted) (λ bytes read sound. scene_over-sound bytes dir.lumps _ _ c.args.placed _ c.in_ok-book.book read sound)

pub returns-in-Ok-clause-middles : goal.returns-in-Ok-clause-middles
returns-in-Ok-clause-middles g c = middles_told c.args.base.textures c.args.base.level.segs c.segs.result.now c.args.faces.sides.items c.deref.result.now c.segs.ensures.value c.deref.ensures.value c.in-Ok.ensures.middles
