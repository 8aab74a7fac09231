-- One fragment after the other, from the last down.
use Rattle.std.proofs.Common.{◌≡◌, ◌∙◌, ◌+◌, ◌-◌, ◌<◌, Err, ap, length, refl, arith}
use Rattle.picture_rules.proofs.Common.{err_from_is_err_and}
use Rattle.masked_draw.proofs.LoopLemmas.{leaves-end, leaves-more, leaves-start, leaves-stop, note-get}
use Rattle.masked_draw.proofs.SceneLemmas.{can_show-later, columns-later, note-listed, note-taken, scene-apart, scene-whole, still-then}
use Rattle.masked_draw.proofs.pass.draw_middles.Goals as goal

pub loop-k-init : goal.loop-k-init
loop-k-init g c = record {
  room = refl;
  takes_on = record { each = λ strip h. h };
  leaves = λ es h. leaves-start c.args.scene.now c.args.notes.now es _ _ h;
}

pub paint_middle-requires-clause-whole : goal.paint_middle-requires-clause-whole
paint_middle-requires-clause-whole g c =
    scene-whole (c.loop-k.k - 1) _ c.requires.ready.noted (note-get c.args.notes.now (c.loop-k.k - 1) _ (omega arith))

pub paint_middle-requires-clause-listed : goal.paint_middle-requires-clause-listed
paint_middle-requires-clause-listed g c =
    let note_is_there : c.loop-k.k - 1 < length c.args.notes.now = omega arith in
    note-listed (c.loop-k.k - 1) _ c.requires.ready (note-get c.args.notes.now (c.loop-k.k - 1) _ note_is_there) note_is_there

pub paint_middle-requires-clause-marks : goal.paint_middle-requires-clause-marks
paint_middle-requires-clause-marks g c = (can_show-later c.loop-k.invariant.room c.requires.ready).room

pub paint_middle-requires-clause-ordered : goal.paint_middle-requires-clause-ordered
paint_middle-requires-clause-ordered g c =
    (scene-whole (c.loop-k.k - 1) _ c.requires.ready.noted (note-get c.args.notes.now (c.loop-k.k - 1) _ (omega arith))).ordered

pub paint_middle-requires-clause-takes : goal.paint_middle-requires-clause-takes
paint_middle-requires-clause-takes g c =
    columns-later c.loop-k.invariant.takes_on
    (note-taken c.args.scene.now c.args.notes.now (c.loop-k.k - 1) _ (note-get c.args.notes.now (c.loop-k.k - 1) _ (omega arith)) c.requires.takes)

pub loop-k-preserved : goal.loop-k-preserved
loop-k-preserved g c =
    let invariant = c.loop-k.invariant in
    let painted = c.in_ok-paint_middle.ensures in
    record {
      room = painted.marks ∙ invariant.room;
      takes_on = still-then invariant.takes_on painted.asks.takes_on;
      leaves = λ es h.
          let number_is_next : c.loop-k.k ≡ c.loop-k.k - 1 + 1 = omega arith in
          let note_is_there : c.loop-k.k - 1 < length c.args.notes.now = omega arith in
          leaves-more c.args.scene.now c.args.notes.now es c.loop-k.k (c.loop-k.k - 1) _ _ _ (scene-apart c.requires.ready.noted) note_is_there (note-get c.args.notes.now (c.loop-k.k - 1) _ note_is_there) number_is_next (invariant.leaves es h) painted.asks painted.marked;
    }

pub returns-in_err-paint_middle-clause-asks : goal.returns-in_err-paint_middle-clause-asks
returns-in_err-paint_middle-clause-asks g c = λ es h.
    let number_is_next : c.loop-k.k ≡ c.loop-k.k - 1 + 1 = omega arith in
    let note_is_there : c.loop-k.k - 1 < length c.args.notes.now = omega arith in
    let failure_is = err_from_is_err_and c.from_residual.result c.from_residual.ensures.1 in
    leaves-stop c.args.scene.now c.args.notes.now es _ c.loop-k.k (c.loop-k.k - 1) _ _ note_is_there (note-get c.args.notes.now (c.loop-k.k - 1) _ note_is_there) number_is_next (c.loop-k.invariant.leaves es h) c.paint_middle.ensures.asks
    c.in_err-paint_middle.was (failure_is.1 ∙ ap Err failure_is.2)

pub returns-clause-asks : goal.returns-clause-asks
returns-clause-asks g c = λ es h. leaves-end c.args.scene.now c.args.notes.now es c.loop-k.k _ (omega arith) (c.loop-k.invariant.leaves es h)
