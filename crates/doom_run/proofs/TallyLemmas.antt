-- The bytes of frames, counted.
use Rattle.picture_rules.proofs.Common.{[], ap, arith, codes, flat_map, is_some, length, length-append, length-map, List, None, Option, refl, Some, sym, take-length, true, ℕ, ◌%◌, ◌*◌, ◌++◌, ◌+◌, ◌/◌, ◌^◌, ◌∙◌, ◌∷◌, ◌≡◌, ◌≤◌}
use Rattle.doom_run.specs.Rules.{FRAME_CELLS, Format, Grew, Index, IsTallyOf, LimitKind, OverLimit, Ppm, Scene, Tally, frame_dots, joined_lists, overlaid_picture}
use Rattle.picture_rules.specs.Words.{frame_of}
use Rattle.picture_rules.proofs.Laws.{least-is, length-listed}
use Rattle.doom_run.specs.{declared.form.ViewForm.TheVariants.Frame, Layers.SeenView}
use Rattle.csv_tables.specs.declared.path.TheConstants.{MAX_VIEWS}
use Rattle.frame_writer.specs.Ppm.{colour, ppm, ppm_header}
use Rattle.refusals.specs.Lines.{labelled}
use Rattle.job_files.specs.declared.status.Status.TheVariants.{Done, Limit}
use Rattle.doom_run.specs.Exercises.{exercise_line, exercised_bytes, frame_size, line_unless, summary_line}
use Rattle.doom_run.specs.Views.{ViewsValue, due_views, end_at, first_over, frame_bytes, frames_of, limit_at, over_at, rendered_bytes, rendered_end}

-- a picture has a byte for each cell
length_picture : (v : SeenView) (scene : Scene) → length (overlaid_picture v.view scene v.layers) ≡ FRAME_CELLS
unfolding overlaid_picture frame_of frame_dots
length_picture v scene = length-map _ _ ∙ length-listed _ FRAME_CELLS

-- three bytes for each index
length_colours : (palette frame : List ℕ) → length (flat_map (colour palette) frame) ≡ length frame * 3
length_colours palette [] = refl
length_colours palette (index ∷ frame) =
    let rest_length = length_colours palette frame in
    let joined_length = length-append (colour palette index) (flat_map (colour palette) frame) in omega (arith, rest_length, joined_length)

length_header : length ppm_header ≡ 15
unfolding ppm_header
length_header = refl

length_ppm : (frame palette : List ℕ) → length (ppm frame palette) ≡ 15 + length frame * 3
unfolding ppm
length_ppm frame palette =
    let joined_length = length-append ppm_header (flat_map (colour palette) frame) in
    let header_length = length_header in
    let colours_length = length_colours palette frame in omega (arith, joined_length, header_length, colours_length)

-- the bytes of a frame as it is written
length_frame : (format : Format) (palette : List ℕ) (v : SeenView) (scene : Scene) → length (frame_bytes format palette (overlaid_picture v.view scene v.layers)) ≡ frame_size format
length_frame Index palette v scene = length_picture v scene
length_frame Ppm palette v scene =
    let ppm_size = length_ppm (overlaid_picture v.view scene v.layers) palette in let cell_count = length_picture v scene in omega (arith, ppm_size, cell_count)

-- the bytes of frames
length_frames : (format : Format) (r : ViewsValue) (views : List SeenView) → length (frames_of (Frame format) r views) ≡ length views * frame_size format
unfolding frames_of joined_lists
length_frames format r [] = omega arith
length_frames Index r (v ∷ views) =
    let rest_length = length_frames Index r views in let frame_length = length_frame Index r.palette v r.scene in
    let joined_length = length-append (frame_bytes Index r.palette (overlaid_picture v.view r.scene v.layers)) (frames_of (Frame Index) r views) in
    omega (arith, rest_length, frame_length, joined_length)
length_frames Ppm r (v ∷ views) =
    let rest_length = length_frames Ppm r views in let frame_length = length_frame Ppm r.palette v r.scene in
    let joined_length = length-append (frame_bytes Ppm r.palette (overlaid_picture v.view r.scene v.layers)) (frames_of (Frame Ppm) r views) in
    omega (arith, rest_length, frame_length, joined_length)

-- all views are due where none is over
due_all : (r : ViewsValue) → first_over r ≡ None → due_views r ≡ r.views
unfolding due_views
due_all r none = rw none (take-length r.views)

limit_not_done : (view : ℕ) (over : Option OverLimit) → is_some over ≡ true → limit_at view over ≡ Done → ⊥
limit_not_done view None some e = cc
limit_not_done view (Some over) some e = cc

over_not_done : (r : ViewsValue) (view : ℕ) → first_over r ≡ Some view → end_at r (Some view) ≡ Done → ⊥
unfolding first_over
over_not_done r view found e = limit_not_done view (over_at r view) (least-is (λ k. is_some (over_at r k)) (length r.views) view found).1 e

none_over : (r : ViewsValue) (first : Option ℕ) → first_over r ≡ first → end_at r first ≡ Done → first_over r ≡ None
none_over r None is e = is
none_over r (Some view) is e = absurd (over_not_done r view is e)

none_written_over : (n : ℕ) (format : Format) (r : ViewsValue) (first : Option ℕ) (view : ℕ) (kind : LimitKind) (count : ℕ) → end_at r first ≡ Limit view kind count → line_unless n format r first ≡ []
none_written_over n format r None view kind count e = absurd (cc)
none_written_over n format r (Some over) view kind count e = refl

-- a tally that took bytes after none is one of these bytes
pub tally_of : {old new : Tally} {bytes : List ℕ} → old ≡ record { count = 0; sum = 0 } → Grew (IsTallyOf old) (IsTallyOf new) bytes → IsTallyOf new bytes
tally_of {new} {bytes} e grew =
    let grew_from_none : Grew (IsTallyOf (record { count = 0; sum = 0 })) (IsTallyOf new) bytes = rw e at grew in
    grew_from_none.each [] (record { count = refl; sum = refl })

-- a number of frames of that size, counted by their bytes
whole_frames : (format : Format) (frames : ℕ) → frames * frame_size format / frame_size format ≡ frames
whole_frames Index frames = omega arith
whole_frames Ppm frames = omega arith

few_bytes : (format : Format) (frames : ℕ) → frames ≤ MAX_VIEWS → frames * frame_size format % 2 ^ 64 ≡ frames * frame_size format
few_bytes Index frames few = omega (arith, few)
few_bytes Ppm frames few = omega (arith, few)

-- all frames of views that are not too many were rendered, and this is the summary
module _ (n : ℕ) (format : Format) (r : ViewsValue) (tally : Tally) (few : length r.views ≤ MAX_VIEWS) (end : rendered_end r ≡ Done) (counted : IsTallyOf tally (rendered_bytes (Frame format) r)) where
  none_is_over : first_over r ≡ None
  none_is_over = none_over r (first_over r) refl end

  frames_due : length (due_views r) ≡ length r.views
  frames_due = ap (λ (vs : List SeenView). length vs) (due_all r none_is_over)

  bytes_due : length (rendered_bytes (Frame format) r) ≡ length r.views * frame_size format
  bytes_due = length_frames format r (due_views r) ∙ ap (λ k. k * frame_size format) frames_due

  count_is : tally.count ≡ length r.views * frame_size format
  count_is = sym counted.count ∙ ap (λ k. k % 2 ^ 64) bytes_due ∙ few_bytes format (length r.views) few

  frames_are : tally.count / frame_size format ≡ length r.views
  frames_are = ap (λ k. k / frame_size format) count_is ∙ whole_frames format (length r.views)

  -- the line is that of the rule
  pub tallied_line : summary_line (record { sectors = 4 * n * n; views = 3 * n; frames = tally.count / frame_size format; bytes = tally.count; sum = tally.sum }) ≡ exercised_bytes n format r
  unfolding exercise_line
  tallied_line =
      let line : ℕ → ℕ → ℕ → List ℕ = λ f b s.
      labelled (codes "sectors ") (4 * n * n)
      ++ (labelled (codes " views ") (3 * n)
      ++ (labelled (codes " frames ") f
      ++ (labelled (codes " bytes ") b
      ++ (labelled (codes " sum ") s ++ codes "\n")))) in
      ap (λ f. line f tally.count tally.sum) (frames_are ∙ sym frames_due)
      ∙ ap (λ b. line (length (due_views r)) b tally.sum) (count_is ∙ sym bytes_due)
      ∙ ap (λ s. line (length (due_views r)) (length (rendered_bytes (Frame format) r)) s) (sym counted.sum)
      ∙ sym (ap (line_unless n format r) none_is_over)

-- nothing is written where a view is over a limit
pub over_unwritten : (n : ℕ) (format : Format) (r : ViewsValue) (view : ℕ) (kind : LimitKind) (count : ℕ) → rendered_end r ≡ Limit view kind count → exercised_bytes n format r ≡ []
over_unwritten n format r view kind count e = none_written_over n format r (first_over r) view kind count e
