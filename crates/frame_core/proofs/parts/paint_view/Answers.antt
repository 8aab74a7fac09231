-- The walls, and then the rest, where the whole walk is in the bench.
use Rattle.picture_rules.proofs.Common.{Err, Ok, ap, err_from_is_err_and, inl, inr, length, subst, sym, ℕ, ◌≤◌, ◌∙◌}
use Rattle.frame_core.specs.Rules.{Limits}
use Rattle.frame_core.proofs.PartLemmas.{view-asked, view-later, walls-failed}
use Rattle.frame_core.proofs.parts.paint_view.Goals as goal

pub paint_walls-requires-clause-strips : goal.paint_walls-requires-clause-strips
paint_walls-requires-clause-strips g c = λ sound. c.requires.takes.walls

pub paint_rest-requires : goal.paint_rest-requires
paint_rest-requires g c = record {
  walked = c.in_ok-paint_walls.ensures.walked;
  marks = subst (λ (n : ℕ). n ≤ length c.args.marks.now) (sym (ap (λ (l : Limits). l.openings) c.in_ok-paint_walls.ensures.limits)) c.requires.marks;
  listed = c.requires.listed c.paint_walls.new.bench c.in_ok-paint_walls.ensures.walked;
  takes = view-later c.in_ok-paint_walls.ensures.asks.asks.by.takes_on c.requires.takes;
}

pub returns-in_err-paint_walls-clause-asks : goal.returns-in_err-paint_walls-clause-asks
returns-in_err-paint_walls-clause-asks g c =
    let failure_is = err_from_is_err_and c.from_residual.result c.from_residual.ensures.1 in
    inl (c.from_residual.ensures.0, walls-failed c.from_residual.result c.in_err-paint_walls.field-0.0 (failure_is.1 ∙ ap Err failure_is.2) c.in_err-paint_walls.ensures.asks)

pub returns-in-Ok-clause-asks : goal.returns-in-Ok-clause-asks
returns-in-Ok-clause-asks g c =
    inr (c.in_ok-paint_walls.ensures.walked, view-asked c.args.view.now c.args.scene.now.scene (Ok tt) c.in_ok-paint_walls.ensures.asks (record { by = c.in-Ok.ensures.asks }))

pub returns-in-Err-clause-asks : goal.returns-in-Err-clause-asks
returns-in-Err-clause-asks g c =
    inr (c.in_ok-paint_walls.ensures.walked, view-asked c.args.view.now c.args.scene.now.scene _ c.in_ok-paint_walls.ensures.asks (record { by = c.in-Err.ensures.asks }))

pub returns-in_err-paint_walls-clause-over : goal.returns-in_err-paint_walls-clause-over
returns-in_err-paint_walls-clause-over g c = λ bytes.
    let failure_is = err_from_is_err_and c.from_residual.result c.from_residual.ensures.1 in
    rw (failure_is.1 ∙ ap Err failure_is.2) (c.in_err-paint_walls.ensures.over bytes)
