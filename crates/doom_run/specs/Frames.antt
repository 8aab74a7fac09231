-- One view of a path, drawn and written.
use Rattle.std.specs.Prelude.{◌≡◌, ℕ, Bool, IsTrue, List, [], Some, None, option_map, slice_get}
use Rattle.std.specs.Option.{option_map_or}
use Rattle.doom_run.specs.Rules.{Grew, GrewByPrefix, Index, Ppm, ShelfView}
use Rattle.texture_build.specs.Draws.{KeepsArt}
use Rattle.sound_scene.specs.Sound.{textures_view}
use Rattle.frame_writer.specs.Ppm.{ppm}
use Rattle.pixel_trace.specs.Traces.{cells_bytes}
use Rattle.frame_core.specs.declared.fault.ViewFault.{ViewFault}
use Rattle.frame_core.specs.declared.fault.ViewFault.TheVariants as fault
use Rattle.job_files.specs.declared.status.Status.{Status}
use Rattle.job_files.specs.declared.status.Status.TheVariants.{Done, Usage, Refused, ReadFault, WriteFault, Limit, ZoneFull, OutOfMemory}
use Rattle.doom_run.specs.declared.render.ReadyViews.{ReadyViews}
use Rattle.doom_run.specs.{declared.canvas.ViewCanvas.ViewCanvas, declared.form.ViewForm.ViewForm}
use Rattle.doom_run.specs.declared.canvas.ViewCanvas.TheVariants as canvas
use Rattle.doom_run.specs.declared.form.ViewForm.TheVariants as form
use Rattle.doom_run.specs.Views.{ViewsValue, over_at, view_bytes}

-- what is written of a canvas
abbrev pub canvas_bytes : List ℕ → ViewCanvas → List ℕ
canvas_bytes palette (canvas.Index frame) = frame.cells
canvas_bytes palette (canvas.Ppm frame) = ppm frame.cells palette
canvas_bytes palette (canvas.Trace frame) = cells_bytes frame.cells

-- the form of the views that are drawn on it
abbrev pub form_of : ViewCanvas → ViewForm
form_of (canvas.Index frame) = form.Frame Index
form_of (canvas.Ppm frame) = form.Frame Ppm
form_of (canvas.Trace frame) = form.Trace

-- it has what is to be written of view number k, which is there
abbrev pub IsDrawnAt : ViewsValue → ℕ → ViewCanvas → Type 0
IsDrawnAt r k c = option_map (view_bytes (form_of c) r.palette r.scene) (slice_get r.views k) ≡ Some (canvas_bytes r.palette c)

-- what is written of view number k, nothing where there is no such view
unfoldable pub frame_at : ViewForm → ViewsValue → ℕ → List ℕ
frame_at f r k = option_map_or (view_bytes f r.palette r.scene) (slice_get r.views k) []

-- the status of a fault of a view
abbrev pub status_of_view : ℕ → ViewFault → Status
status_of_view view (fault.Limit kind count) = Limit view kind count
status_of_view view (fault.ZoneFull wanted widest) = ZoneFull wanted widest
status_of_view view fault.ReadFault = ReadFault

-- View number k of these, by the status of drawing and writing it: its frame was written, and it is not over a
-- limit; or it is, or a fault came, and nothing was written, or of its frame only a prefix.
abbrev pub ViewEnds : Bool → ViewForm → ViewsValue → ℕ → (List ℕ → Type 0) → (List ℕ → Type 0) → Status → Type 0
ViewEnds steady format r k old new Done = (over_at r k ≡ None) × Grew old new (frame_at format r k)
ViewEnds steady format r k old new Usage = ⊥
ViewEnds steady format r k old new (Refused refusal) = ⊥
ViewEnds steady format r k old new ReadFault = (IsTrue steady → ⊥) × Grew old new []
ViewEnds steady format r k old new WriteFault = (over_at r k ≡ None) × GrewByPrefix old new (frame_at format r k)
ViewEnds steady format r k old new (Limit view kind count) =
    (view ≡ k) × (over_at r k ≡ Some (record { kind = kind; count = count })) × Grew old new []
ViewEnds steady format r k old new (ZoneFull wanted widest) = Grew old new []
ViewEnds steady format r k old new OutOfMemory = ⊥

-- all that stays while views are drawn: what was loaded and the limits; and of the cache its art
pub record KeepsReady (view after : ShelfView) (old new : ReadyViews) : Type 0 where
  pub files : new.loaded.files ≡ old.loaded.files
  pub scene : new.loaded.scene ≡ old.loaded.scene
  pub weapons : new.loaded.weapons ≡ old.loaded.weapons
  pub limits : new.shop.limits ≡ old.shop.limits
  pub art : KeepsArt view after old.loaded.files.dir (textures_view old.loaded.scene.scene) old.loaded.cache new.loaded.cache
