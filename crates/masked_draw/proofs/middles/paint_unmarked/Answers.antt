-- A column that is marked has no strip, and another one its own.
use Rattle.picture_rules.proofs.Common.{◌≡◌, ◌∙◌, ◌∷◌, Bool, true, false, List, [], sym, subst, ap}
use Rattle.std.proofs.lemmas.List.Elements.{Contains-push}
use Rattle.receiver_rules.proofs.ReceiverLemmas.{receives-none, receives-same}
use Rattle.brush.specs.Strips.{Middle, Strip}
use Rattle.brush.specs.declared.brush.MiddleStrip.{MiddleStrip}
use Rattle.masked_draw.specs.Marks.{if_unmarked, mark_of}
use Rattle.masked_draw.specs.Scenes.{scene_drawseg}
use Rattle.masked_draw.specs.Strips.{masked_column_strip, masked_column_strips}
use Rattle.masked_draw.proofs.middles.paint_unmarked.Goals as goal

where_marked : (marked : Bool) (strips : List Strip) → marked ≡ true → [] ≡ if_unmarked marked strips
where_marked marked strips e = sym (ap (λ (b : Bool). if_unmarked b strips) e)

where_not : (marked : Bool) (strips : List Strip) → marked ≡ false → strips ≡ if_unmarked marked strips
where_not marked strips e = sym (ap (λ (b : Bool). if_unmarked b strips) e)

pub returns-then-marks-at-clause-asks : goal.returns-then-marks-at-clause-asks
returns-then-marks-at-clause-asks g c =
    let scene = c.args.scene.now in
    receives-same _ (where_marked (mark_of c.args.marks.now c.args.note.now c.args.middle.place c.args.x) (masked_column_strips scene.view.now c.args.middle.number (scene_drawseg scene c.args.note.now) c.args.x) c.if-marks-at.true) (receives-none _)

pub middle-requires : goal.middle-requires
unfolding masked_column_strips
middle-requires g c =
    let scene = c.args.scene.now in
    let strip = masked_column_strip scene.view.now c.args.middle.number (scene_drawseg scene c.args.note.now) c.args.x in
    subst (λ (s : MiddleStrip). g.B.Brush.takes c.args.brush.now (Middle s)) (sym c.masked_column_strip.ensures)
    (c.requires.takes.each (Middle strip) (Contains-push [] (Middle strip)))

pub returns-clause-asks : goal.returns-clause-asks
unfolding masked_column_strips
returns-clause-asks g c =
    let scene = c.args.scene.now in
    receives-same _ (ap (λ (s : MiddleStrip). Middle s ∷ []) c.masked_column_strip.ensures
    ∙ where_not (mark_of c.args.marks.now c.args.note.now c.args.middle.place c.args.x) (masked_column_strips scene.view.now c.args.middle.number (scene_drawseg scene c.args.note.now) c.args.x) c.if-marks-at.false)
    c.middle.ensures
