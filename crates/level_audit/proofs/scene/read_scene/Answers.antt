use Rattle.art_rules.proofs.Common.{All, ap, Err, IfOk-weaker, inl, inr, length, List, map, Ok, refl, subst, sym, ◌∙◌}
use Rattle.level_audit.specs.Rules.{OutOfMemory, Placed, SideTextures, TextureLists, need_of, scene_on}
use Rattle.texture_build.proofs.CallLemmas.{reads_same, reads_short, reads_stop_first, reads_then}
use Rattle.level_audit.specs.{Faults.above_scene, Asked.IsOfScene}
use Rattle.sprite_book.specs.Calls.{IsWanted}
use Rattle.sound_scene.specs.{Bases.base_of, declared.parts.ReadBase.ReadBase}
use Rattle.sound_scene.specs.{declared.parts.ReadFaces.ReadFaces, Whole.AreSidePrepared}
use Rattle.sound_scene.specs.Scenes.{faces_of}
use Rattle.level_audit.proofs.{ArtLemmas.sides_told, PartLemmas.faces_told, PartLemmas.of_scene}
use Rattle.level_audit.proofs.StepLemmas.{scene_on-stop, scene_with-more, scene_with-stop}
use Rattle.level_audit.proofs.WholeLemmas.{art_after, faces_over, middles_prepared, scene_after}
use Rattle.level_audit.proofs.scene.read_scene.Goals as goal

pub returns-in-Err-clause-tells : goal.returns-in-Err-clause-tells
returns-in-Err-clause-tells g c =
    let dir = c.args.dir.now in
    let name = c.args.request.now.name.now in
    let base_value = base_of c.args.base in
    let fault = above_scene c.in-Err.fault in
    reads_stop_first (λ bytes. scene_on bytes dir.lumps c.args.request.now.things.now c.args.request.now.skill name base_value) (Err fault) fault (Err c.above_scene.result)
    (faces_told (g.S.Shelf.view c.args.shelf.now) dir c.args.cache.now (IsOfScene dir.lumps c.args.request.now.things.now c.args.request.now.skill name base_value) name base_value.level base_value.lists c.lists.result.now (Err c.in-Err.fault) c.lists.ensures c.in-Err.ensures.answers)
    refl c.above_scene.ensures (λ lump wanted. wanted) (λ bytes refusal e. scene_on-stop bytes dir.lumps c.args.request.now.things.now c.args.request.now.skill name base_value refusal e)

pub returns-in_err-prepare_faces-clause-tells : goal.returns-in_err-prepare_faces-clause-tells
returns-in_err-prepare_faces-clause-tells g c =
    let base_value = base_of c.args.base in
    let faces = faces_of c.in-Ok.faces in
    of_scene c.lists.ensures c.in-Ok.ensures.answers.ok
    (reads_stop_first _ c.prepare_faces.result c.in_err-prepare_faces.field-0.0 c.from_residual.result
    (sides_told base_value.lists faces.sides c.deref.result.now faces.sky c.prepare_faces.result c.deref.ensures.value c.prepare_faces.ensures.tells)
    c.in_err-prepare_faces.was c.from_residual.ensures.1 (λ lump wanted. inl wanted)
    (λ bytes refusal e. scene_with-stop bytes c.args.dir.now.lumps base_value faces c.args.request.now.things.now c.args.request.now.skill refusal e))

pub returns-in_err-placed-clause-tells : goal.returns-in_err-placed-clause-tells
returns-in_err-placed-clause-tells g c =
    let faces = faces_of c.in-Ok.faces in
    of_scene c.lists.ensures c.in-Ok.ensures.answers.ok
    (reads_same c.from_residual-in_err-placed.result OutOfMemory _ c.from_residual-in_err-placed.ensures.1
    (reads_short OutOfMemory refl (λ lump wanted. inl wanted)
    (sides_told (base_of c.args.base).lists faces.sides c.deref.result.now faces.sky (Ok c.in_ok-prepare_faces.field-0) c.deref.ensures.value c.in_ok-prepare_faces.ensures.tells)))

pub returns-clause-tells : goal.returns-clause-tells
returns-clause-tells g c =
    let lumps = c.args.dir.now.lumps in
    let base_value = base_of c.args.base in
    let faces = faces_of c.in-Ok.faces in
    of_scene c.lists.ensures c.in-Ok.ensures.answers.ok
    (reads_then _ c.read_things.result
    (sides_told base_value.lists faces.sides c.deref.result.now faces.sky (Ok c.in_ok-prepare_faces.field-0) c.deref.ensures.value c.in_ok-prepare_faces.ensures.tells)
    c.read_things.ensures.tells (λ lump wanted. inl wanted)
    (λ lump wanted. inr (subst (λ (placed : List Placed). IsWanted lumps (map need_of placed) lump) c.in_ok-placed.ensures wanted))
    (λ bytes prepared. scene_with-more bytes lumps base_value faces c.args.request.now.things.now c.args.request.now.skill c.prepare_faces.new.textures.prepared c.prepare_faces.new.textures.lists c.in_ok-placed.placed prepared c.in_ok-prepare_faces.ensures.lists c.in_ok-placed.ensures))

pub read_things-requires-clause-middles : goal.read_things-requires-clause-middles
read_things-requires-clause-middles g c =
    middles_prepared c.prepare_faces.new.textures c.deref.result.now c.in-Ok.faces.sides.items (sym c.deref.ensures.value) c.in_ok-prepare_faces.ensures.sides

pub returns-clause-flats : goal.returns-clause-flats
returns-clause-flats g c =
    IfOk-weaker c.read_things.result _ _ (λ scene same. ap (λ (f : ReadFaces). length f.flats.items) same ∙ c.in-Ok.ensures.flats) c.read_things.ensures.faces

pub returns-clause-whole : goal.returns-clause-whole
returns-clause-whole g c = λ few.
    let lumps = c.args.dir.now.lumps in
    let lines = c.args.request.now.things.now in
    let skill = c.args.request.now.skill in let name = c.args.request.now.name.now in
    let faces_are = c.in-Ok.ensures in
    let things_read = c.read_things.ensures in
    let prepared = c.in_ok-prepare_faces.ensures in
    let base : ReadBase = record c.args.base { textures = c.prepare_faces.new.textures } in
    scene_after lumps lines name skill c.args.base c.in-Ok.faces c.read_things.result
    (faces_over lumps lines name skill c.args.base c.in-Ok.faces c.lists.result.now c.lists.ensures
    faces_are.answers.ok faces_are.sides faces_are.flats faces_are.there faces_are.below few)
    (IfOk-weaker c.read_things.result _ _ (λ scene same. ap base_of same ∙ ap (λ (lists : TextureLists). record (base_of c.args.base) { lists = lists }) prepared.lists) things_read.base)
    things_read.faces
    (art_after lumps lines skill base c.in-Ok.faces c.in_ok-placed.placed c.read_things.result things_read.base things_read.faces things_read.placed
    c.in_ok-placed.ensures (record {
      sides = subst (λ (sides : List SideTextures). All (AreSidePrepared c.prepare_faces.new.textures) sides) c.deref.ensures.value prepared.sides;
      sky = prepared.sky;
      patches = prepared.there;
      listed = prepared.listed;
    })
    things_read.middles things_read.pictures)
