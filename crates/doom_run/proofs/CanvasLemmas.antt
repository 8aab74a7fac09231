-- What a canvas has of a view of a path.
use Rattle.picture_rules.proofs.Common.{ap, Err, List, Ok, on_ok_weaker, OnOk, option_map, Result, slice_get, Some, sym, ℕ, ◌∙◌, ◌≡◌}
use Rattle.doom_run.specs.Rules.{AreInView, Eye, Index, IsWithinFrame, Painter, Ppm, ShelfView, overlaid_paints, overlaid_picture, view_of}
use Rattle.pixel_strips.specs.{Canvases.CanvasView, Canvases.marked_by_colour, Dotted.HasDots}
use Rattle.frame_writer.specs.Ppm.{ppm}
use Rattle.pixel_trace.specs.Records.{trace_mark}
use Rattle.pixel_trace.proofs.SeenLemmas.{IsCleared, seen-picture, seen-trace}
use Rattle.level_audit.specs.scene_load.Loads.{loaded_value}
use Rattle.frame_core.specs.{declared.fault.ViewFault.ViewFault, Ends.EndsOver, Ends.EndsWithin}
use Rattle.sound_scene.specs.Pictures.{scene_of}
use Rattle.frame_core.specs.Views.{placed_for}
use Rattle.doom_run.specs.declared.canvas.ViewCanvas.{ViewCanvas}
use Rattle.doom_run.specs.declared.canvas.ViewCanvas.TheVariants as canvas
use Rattle.doom_run.specs.declared.form.ViewForm.TheVariants as form
use Rattle.doom_run.specs.{declared.render.ReadyViews.ReadyViews, Drawn.DrawsLayered}
use Rattle.doom_run.specs.{Frames.IsDrawnAt, Layers.SeenView, Layers.layers_of, Layers.seen_view}
use Rattle.doom_run.specs.Renders.{DrawsAt, ready_bytes, ready_views}
use Rattle.doom_run.specs.Views.{ViewsValue, view_bytes}
use Rattle.doom_run.proofs.{FitLemmas.fits_at, FrameLemmas.over_at-eye, FrameLemmas.view_get}

-- View number k is there, it lies in the frame, and all that it shows in it; a canvas that is placed where it
-- lies was given that, and then its layers.
pub record HasView (mark : Painter → ℕ → ℕ) (r : ViewsValue) (k : ℕ) (before now : CanvasView) : Type 0 where
  pub seen : SeenView
  pub is : slice_get r.views k ≡ Some seen
  pub window : IsWithinFrame seen.view.shape
  pub in_view : AreInView seen.view.shape (overlaid_paints seen.view r.scene seen.layers)
  pub painted : HasDots mark (overlaid_paints seen.view r.scene seen.layers) (placed_for seen.view before) now

-- two facts of a call that was Ok
on_ok_both : {A E P Q R : Type 0} (r : Result A E) → (P → Q → R) → OnOk r P → OnOk r Q → OnOk r R
on_ok_both (Ok x) f p q = f p q
on_ok_both (Err e) f p q = tt

-- what a canvas was given of a viewpoint is the view of the number
has_view : {mark : Painter → ℕ → ℕ} {before now : CanvasView} (bytes : ℕ → List ℕ) (ready : ReadyViews) (k : ℕ) (eye : Eye) → slice_get ready.loaded.files.path k ≡ Some eye →
    IsWithinFrame (view_of ready.loaded.files.tables eye).shape → AreInView (view_of ready.loaded.files.tables eye).shape (overlaid_paints (view_of ready.loaded.files.tables eye) (scene_of bytes ready.loaded.scene.scene) (layers_of (loaded_value ready.loaded) k eye)) →
    HasDots mark (overlaid_paints (view_of ready.loaded.files.tables eye) (scene_of bytes ready.loaded.scene.scene) (layers_of (loaded_value ready.loaded) k eye)) (placed_for (view_of ready.loaded.files.tables eye) before) now →
    HasView mark (ready_views bytes ready) k before now
unfolding ready_views
has_view bytes ready k eye at window inside dots = record {
  seen = seen_view (loaded_value ready.loaded) k eye;
  is = view_get bytes ready k eye at;
  window = window;
  in_view = inside;
  painted = dots;
}

-- what a call drew of a viewpoint is told of the view of the number
pub draws_at : {mark : Painter → ℕ → ℕ} {view after : ShelfView} {before now : CanvasView} {result : Result (Unit {0}) ViewFault} (k : ℕ) (eye : Eye) (old new : ReadyViews) (canvas : ViewCanvas) →
    slice_get old.loaded.files.path k ≡ Some eye → EndsWithin (view_of old.loaded.files.tables eye) old.loaded.scene.scene old.shop.limits result →
    EndsOver (view_of old.loaded.files.tables eye) old.loaded.scene.scene old.shop.limits result → DrawsLayered mark k eye view after old.loaded new.loaded before now result →
    new.shop.limits ≡ old.shop.limits → ((r : ViewsValue) → HasView mark r k before now → IsDrawnAt r k canvas) → DrawsAt k view after old new canvas result
draws_at {result = result} k eye old new canvas at within over paints limits shows = record {
  drawn = λ contents count holds.
      let bytes = ready_bytes contents old in
      on_ok_both result (λ inside dots. shows (ready_views bytes old) (has_view bytes old k eye at paints.window inside dots)) (paints.in_view bytes) (paints.painted contents count holds);
  fits = λ contents count holds. on_ok_weaker result (λ fits. fits_at (ready_bytes contents old) count old k eye at fits) (paints.fits contents count holds);
  within = λ bytes. on_ok_weaker result (λ none. over_at-eye bytes old k eye at ∙ none) (within bytes);
  over = λ bytes. rw (over_at-eye bytes old k eye at) (over bytes);
  draws = paints.draws;
  keeps = record { files = paints.keeps.files; scene = paints.keeps.scene; weapons = paints.keeps.weapons; limits = limits; art = paints.draws.keeps };
}

module _ {r : ViewsValue} {k : ℕ} {before now : CanvasView} (clear : IsCleared before) where
  picture_of : (has : HasView marked_by_colour r k before now) → now.cells ≡ overlaid_picture has.seen.view r.scene has.seen.layers
  picture_of has = seen-picture has.seen.view r.scene has.seen.layers before now clear (record { columns = has.window.width; rows = has.window.height }) has.in_view has.painted

  -- a frame that was cleared and given it has what is to be written
  pub index_drawn : HasView marked_by_colour r k before now → IsDrawnAt r k (canvas.Index now)
  index_drawn has = ap (option_map (view_bytes (form.Frame Index) r.palette r.scene)) has.is ∙ ap (λ (xs : List ℕ). Some xs) (sym (picture_of has))

  pub ppm_drawn : HasView marked_by_colour r k before now → IsDrawnAt r k (canvas.Ppm now)
  ppm_drawn has = ap (option_map (view_bytes (form.Frame Ppm) r.palette r.scene)) has.is ∙ ap (λ (xs : List ℕ). Some (ppm xs r.palette)) (sym (picture_of has))

  -- and so has a frame of records
  pub trace_drawn : HasView trace_mark r k before now → IsDrawnAt r k (canvas.Trace now)
  trace_drawn has =
      ap (option_map (view_bytes form.Trace r.palette r.scene)) has.is
      ∙ ap (λ (xs : List ℕ). Some xs) (sym (seen-trace has.seen.view r.scene has.seen.layers before now clear (record { columns = has.window.width; rows = has.window.height }) has.in_view has.painted))
