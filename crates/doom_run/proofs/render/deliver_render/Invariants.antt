-- The views below the number are written, and none of them is over a limit; what they are painted from
-- stands beside COLORMAP, and the canvas has the form that it had.
use Rattle.std.proofs.Common.{◌≡◌, ◌<◌, ℕ, List}
use Rattle.job_files.specs.declared.status.Status.TheVariants.{Done}
use Rattle.doom_run.specs.Frames.{form_of}
use Rattle.doom_run.specs.Renders.{FitsAt, HoldsReady, RendersReady, ready_bytes, ready_views}
use Rattle.doom_run.proofs.FrameLemmas.{Rendered}
use Rattle.doom_run.proofs.render.deliver_render.Given as goal

abbrev pub invariant-loop-number : goal.invariant-loop-number
invariant-loop-number g l = record {
  renders : RendersReady (g.S.Shelf.view l.initial.shelf) (g.S.Shelf.view l.shelf) l.initial.ready l.ready (g.K.Sink.faults l.initial.out) (g.K.Sink.faults l.out) Done;
  form : form_of l.canvas ≡ form_of l.initial.canvas;
  rendered : (contents : List (List ℕ)) (count : ℕ) → HoldsReady (g.S.Shelf.view l.initial.shelf) l.initial.ready contents count →
      Rendered (form_of l.initial.canvas) (ready_views (ready_bytes contents l.initial.ready) l.initial.ready) l.number (g.K.Sink.written l.initial.out) (g.K.Sink.written l.out);
  fits : (contents : List (List ℕ)) (count : ℕ) → HoldsReady (g.S.Shelf.view l.initial.shelf) l.initial.ready contents count →
      (k : ℕ) → k < l.number → FitsAt (ready_bytes contents l.initial.ready) count l.initial.ready k;
}
