-- The views of a path over a level: their frames and counts, and the first that is over a limit.
use Rattle.std.specs.Prelude.{ℕ, ◌++◌, List, [], length, take, codes, Option, Some, None, is_some, unwrap_or, slice_get, option_and_then}
use Rattle.std.specs.Option.{option_map_or}
use Rattle.doom_run.specs.Rules.{Counts, Format, Index, Limits, OverLimit, Ppm, Scene, Settings, joined_lists, least, listed, overlaid_picture, overlaid_trace, view_counts, view_over}
use Rattle.frame_writer.specs.Ppm.{ppm}
use Rattle.refusals.specs.Lines.{labelled}
use Rattle.level_audit.specs.scene_load.Loads.{LoadedValue}
use Rattle.sound_scene.specs.Pictures.{scene_of}
use Rattle.pixel_trace.specs.Traces.{trace_bytes}
use Rattle.doom_run.specs.{declared.form.ViewForm.ViewForm, Layers.SeenView, Layers.seen_views}
use Rattle.doom_run.specs.declared.form.ViewForm.TheVariants.{Frame, Trace}
use Rattle.job_files.specs.{declared.status.Status.Status, Lines.limit_label}
use Rattle.job_files.specs.declared.status.Status.TheVariants.{Done, Limit}

-- what is seen: a scene, the views of a path with their layers, how much a view may have, and the palette
pub record ViewsValue : Type 0 where
  pub scene : Scene
  pub views : List SeenView
  pub limits : Limits
  pub palette : List ℕ

abbrev pub limits_of_settings : Settings → Limits
limits_of_settings settings = record { planes = settings.planes; openings = settings.openings }

-- the views of a path over a level that is loaded, whose lumps have these bytes
unfoldable pub views_of : (ℕ → List ℕ) → Settings → LoadedValue → ViewsValue
views_of bytes settings loaded = record {
  scene = scene_of bytes loaded.scene;
  views = seen_views loaded;
  limits = limits_of_settings settings;
  palette = loaded.scene.base.palette;
}

-- the first count of view number k that passes its limit, if any
unfoldable pub over_at : ViewsValue → ℕ → Option OverLimit
over_at r k = option_and_then (λ s. view_over s.view r.scene r.limits) (slice_get r.views k)

-- the least number of a view that is over
unfoldable pub first_over : ViewsValue → Option ℕ
first_over r = least (λ k. is_some (over_at r k)) (length r.views)

-- the views whose frames are due: those before the first that is over
unfoldable pub due_views : ViewsValue → List SeenView
due_views r = take (unwrap_or (first_over r) (length r.views)) r.views

-- a frame as it is written
abbrev pub frame_bytes : Format → List ℕ → List ℕ → List ℕ
frame_bytes Index palette frame = frame
frame_bytes Ppm palette frame = ppm frame palette

-- what is written of a view: its frame, or its trace
abbrev pub view_bytes : ViewForm → List ℕ → Scene → SeenView → List ℕ
view_bytes (Frame format) palette scene s = frame_bytes format palette (overlaid_picture s.view scene s.layers)
view_bytes Trace palette scene s = trace_bytes (overlaid_trace s.view scene s.layers)

-- the same of these views, one after the other
unfoldable pub frames_of : ViewForm → ViewsValue → List SeenView → List ℕ
frames_of form r views = joined_lists (view_bytes form r.palette r.scene) views

abbrev pub rendered_bytes : ViewForm → ViewsValue → List ℕ
rendered_bytes form r = frames_of form r (due_views r)

-- how a rendering ends: at the first view that is over, with its number, or with the last view
abbrev pub limit_at : ℕ → Option OverLimit → Status
limit_at view None = Done
limit_at view (Some over) = Limit view over.kind over.count

abbrev pub end_at : ViewsValue → Option ℕ → Status
end_at r None = Done
end_at r (Some view) = limit_at view (over_at r view)

abbrev pub rendered_end : ViewsValue → Status
rendered_end r = end_at r (first_over r)

-- the line of a view's counts
abbrev pub counts_line : ℕ → Counts → List ℕ
counts_line view counts =
    labelled (codes "view ") view
    ++ (labelled (codes " planes ") counts.planes
    ++ (labelled (codes " openings ") counts.openings
    ++ (labelled (codes " fragments ") counts.fragments
    ++ (labelled (codes " sprites ") counts.sprites ++ codes "\n"))))

abbrev pub view_line : Scene → ℕ → SeenView → List ℕ
view_line scene view s = counts_line view (view_counts s.view scene)

-- the line of its first count past a limit
abbrev pub over_line : ℕ → OverLimit → List ℕ
over_line view over =
    labelled (codes "view ") view ++ (codes " over" ++ (labelled (limit_label over.kind) over.count ++ codes "\n"))

-- these lines, or of a view that is over a limit the line of that
abbrev pub unless_over : ℕ → List ℕ → Option OverLimit → List ℕ
unless_over view lines None = lines
unless_over view lines (Some over) = over_line view over

-- the lines of view number k, by those of a view that is within its limits
unfoldable pub lines_at : (Scene → ℕ → SeenView → List ℕ) → ViewsValue → ℕ → List ℕ
lines_at lines r k = unless_over k (option_map_or (lines r.scene k) (slice_get r.views k) []) (over_at r k)

-- those of all views
unfoldable pub view_lines : (Scene → ℕ → SeenView → List ℕ) → ViewsValue → List ℕ
view_lines lines r = joined_lists (lines_at lines r) (listed (λ k. k) (length r.views))

abbrev pub counted_bytes : ViewsValue → List ℕ
counted_bytes r = view_lines view_line r
