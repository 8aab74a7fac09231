-- An exercise, by what rendering its made files into a tally came to.
use Rattle.std.proofs.Common.{false, ◌≡◌, ◌≤◌, ◌*◌, ◌/◌, ℕ, Bool, Some, IsTrue, List, length, Result, Ok, Err, refl, arith, ap, sym, subst, ◌∙◌}
use Rattle.doom_run.specs.Rules.{FaultsRose, File, Format, Grew, IsTallyOf, LevelJob, LevelJobValue, LimitKind, Settings, ShelfView, Stop, Tally, and_then, exercise, from_below, level_job_value}
use Rattle.art_rules.specs.Stops as files
use Rattle.art_rules.proofs.Laws.{grew_none}
use Rattle.csv_tables.specs.declared.path.TheConstants.{MAX_VIEWS}
use Rattle.refusals.specs.declared.refusal.Refusal.{Refusal}
use Rattle.job_files.specs.{Statuses.DeliversBytes, declared.status.Status.Status}
use Rattle.job_files.specs.declared.status.Status.TheVariants.{Done, Usage, Refused, ReadFault, WriteFault, Limit, ZoneFull, OutOfMemory}
use Rattle.level_audit.specs.scene_load.Loads.{LoadedValue, load_in, loaded_sizes, wad_bytes}
use Rattle.doom_run.specs.declared.form.ViewForm.TheVariants.{Frame}
use Rattle.doom_run.specs.declared.summary.Summary.{Summary}
use Rattle.doom_run.specs.{Ends.DeliversAt, Ends.EndsAt, Ends.EndsWith, Layers.seen_view}
use Rattle.doom_run.specs.Exercises.{exercised_bytes, frame_size, made_files, made_level, made_wads, summary_line}
use Rattle.doom_run.specs.Jobs.{Job, Written, done, drawing, exercised, job_of, job_over, level_work, made_work, rendered}
use Rattle.doom_run.specs.Leasts.{delivery_least, least_loading, work_least}
use Rattle.doom_run.specs.Performs.{Performs, Tells}
use Rattle.doom_run.specs.Steps.{RunStop, absent, at_step, refused, usage}
use Rattle.doom_run.specs.Verdict.{Accepted, accepted_in, job_verdict}
use Rattle.doom_run.specs.Views.{ViewsValue, rendered_bytes, rendered_end, views_of}
use Rattle.doom_run.proofs.EndLemmas.{bytes_deliver, delivers_all, delivers_render, none_stops, renders_end}
use Rattle.doom_run.proofs.MadeLemmas.{loaded_few, made_found}
use Rattle.doom_run.proofs.PerformLemmas.{due_behaves, takes_none}
use Rattle.doom_run.proofs.SeenLemmas.{seen_from-length}
use Rattle.doom_run.proofs.TallyLemmas.{over_unwritten, tallied_line, tally_of}

-- as many views as rows of the path
views_rows : (bytes : ℕ → List ℕ) (settings : Settings) (loaded : LoadedValue) → length (views_of bytes settings loaded).views ≡ length loaded.files.path
unfolding views_of
views_rows bytes settings loaded = seen_from-length (seen_view loaded) 0 loaded.files.path

-- what a job that draws determines, by what loading comes to
module _ (views : LoadedValue → ViewsValue) where
  abbrev drawn_by : (ViewsValue → Written) → Result LoadedValue (Stop Refusal) → Result Accepted RunStop
  drawn_by writes loading = from_below at_step (and_then loading (λ loaded. Ok (accepted_in (loaded_sizes loaded).enough (writes (views loaded)))))

  -- one that is refused is refused as another is
  refused_alike : (writes tells : ViewsValue → Written) (loading : Result LoadedValue (Stop Refusal)) (stop : RunStop) → drawn_by writes loading ≡ Err stop → drawn_by tells loading ≡ Err stop
  refused_alike writes tells (Ok loaded) stop e = absurd (cc)
  refused_alike writes tells (Err found) stop e = e

  absent_alike : (writes : ViewsValue → Written) (loading : Result LoadedValue (Stop Refusal)) → drawn_by writes loading ≡ Err absent → loading ≡ Err files.absent
  absent_alike writes (Ok loaded) e = absurd (cc)
  absent_alike writes (Err files.absent) e = refl
  absent_alike writes (Err (files.stopped refusal)) e = absurd (cc)

  accepted_by : (writes : ViewsValue → Written) (loading : Result LoadedValue (Stop Refusal)) (accepted : Accepted) → drawn_by writes loading ≡ Ok accepted →
      (loaded : LoadedValue) × (loading ≡ Ok loaded) × (accepted_in (loaded_sizes loaded).enough (writes (views loaded)) ≡ accepted)
  accepted_by writes (Ok loaded) accepted e = (loaded, refl, cc)
  accepted_by writes (Err found) accepted e = absurd (cc)

no_rise : {P : Type 0} → FaultsRose 0 0 → P
no_rise rose = absurd (omega (arith, rose))

module _ (n zone : ℕ) (format : Format) where
  abbrev made_views : LoadedValue → ViewsValue
  made_views loaded = views_of (wad_bytes made_wads (made_files n) loaded.files.lumps) (made_level zone).settings loaded

  abbrev loading : Result LoadedValue (Stop Refusal)
  loading = load_in (made_level zone) made_wads (made_files n)

  -- rendering the made files, and the exercise
  abbrev render_job : Job
  render_job = job_over (made_level zone) made_wads (drawing (made_level zone) (rendered (Frame format)))

  abbrev exercise_job : Job
  exercise_job = job_of (exercise n zone format)

  least_of : (l : Result LoadedValue (Stop Refusal)) → least_loading (level_work (made_level zone) made_wads (drawing (made_level zone) (rendered (Frame format)))) (made_files n) l ≡ least_loading (made_work n zone format) (made_files n) l
  unfolding delivery_least
  least_of (Ok loaded) = refl
  least_of (Err stop) = refl

  least_alike : work_least (level_work (made_level zone) made_wads (drawing (made_level zone) (rendered (Frame format)))) (made_files n) ≡ work_least (made_work n zone format) (made_files n)
  unfolding work_least
  least_alike = least_of loading

  -- what an exercise comes to whose rendering came to this, and which has written nothing
  over_end : (steady : Bool) (old : List ℕ → Type 0) (view : ℕ) (kind : LimitKind) (count : ℕ) (t0 t1 : List ℕ → Type 0) → EndsWith (job_verdict render_job (made_files n)) t0 t1 (Limit view kind count) → (held : List File) →
      EndsAt steady (job_verdict exercise_job held) old old (Limit view kind count)
  over_end steady old view kind count t0 t1 ends held =
      let accepted_load = accepted_by made_views (rendered (Frame format)) loading ends.accepted ends.is in
      let views_value = made_views accepted_load.0 in
      let limit : rendered_end views_value ≡ Limit view kind count = ap (λ (a : Accepted). a.end) accepted_load.2 ∙ ends.due in
      record {
        accepted = accepted_in (loaded_sizes accepted_load.0).enough (exercised n format views_value);
        is = ap (λ (l : Result LoadedValue (Stop Refusal)). drawn_by made_views (exercised n format) l) accepted_load.1;
        due = limit;
        written = subst (λ (bytes : List ℕ). Grew old old bytes) (sym (over_unwritten n format views_value view kind count limit)) (grew_none old);
      }

  stopped_end : (steady : Bool) (old t0 t1 : List ℕ → Type 0) (status : Status) → IsTrue steady → (status ≡ Done → ⊥) → (status ≡ WriteFault → ⊥) → EndsAt steady (job_verdict render_job (made_files n)) t0 t1 status → (held : List File) →
      EndsAt steady (job_verdict exercise_job held) old old status
  stopped_end steady old t0 t1 Done on done failed ends held = absurd (done refl)
  stopped_end steady old t0 t1 Usage on done failed ends held = refused_alike made_views (rendered (Frame format)) (exercised n format) loading usage ends
  stopped_end steady old t0 t1 (Refused refusal) on done failed ends held = refused_alike made_views (rendered (Frame format)) (exercised n format) loading (refused refusal) ends
  stopped_end steady old t0 t1 ReadFault on done failed ends held = absurd (made_found n zone (absent_alike made_views (rendered (Frame format)) loading (ends.0 on)))
  stopped_end steady old t0 t1 WriteFault on done failed ends held = absurd (failed refl)
  stopped_end steady old t0 t1 (Limit view kind count) on done failed ends held = over_end steady old view kind count t0 t1 ends held
  stopped_end steady old t0 t1 (ZoneFull wanted widest) on done failed ends held = none_stops _ old old (grew_none old)
  stopped_end steady old t0 t1 OutOfMemory on done failed ends held = tt

  no_read : (steady : Bool) (t0 t1 : List ℕ → Type 0) → IsTrue steady → EndsAt steady (job_verdict render_job (made_files n)) t0 t1 ReadFault → ⊥
  no_read steady t0 t1 on ends = made_found n zone (absent_alike made_views (rendered (Frame format)) loading (ends.0 on))

  module _ (before after : ShelfView) (t0 t1 : Tally) (on : IsTrue before.steady) (held_by : before.all_files ≡ Some (made_files n)) where
    abbrev Rendered : Status → Type 0
    Rendered status = Performs render_job before after (IsTallyOf t0) (IsTallyOf t1) 0 0 status

    said : (status : Status) → Rendered status → Tells render_job (made_files n) before after (IsTallyOf t0) (IsTallyOf t1) status
    said status rendering = rendering.tells (made_files n) (λ asks. held_by)

    not_read : (status : Status) → Rendered status → status ≡ ReadFault → ⊥
    not_read status rendering e = no_read before.steady (IsTallyOf t0) (IsTallyOf t1) on (rw e at (said status rendering).ends)

    -- rendering has stopped
    pub exercise_stops : (view : ShelfView) (old : List ℕ → Type 0) (faults : ℕ) (status : Status) → (status ≡ Done → ⊥) → Rendered status → Performs exercise_job view view old old faults faults status
    exercise_stops view old faults status done rendering =
        let no_write_fault : status ≡ WriteFault → ⊥ = λ e. no_rise (rendering.behaves.write_fault e) in
        let reads = not_read status rendering in
        let render_tells = said status rendering in
        record {
          behaves = record {
            unwritten = λ is. grew_none old;
            unread = λ none is. grew_none old;
            not_usage = rendering.behaves.not_usage;
            read_fault = λ e. absurd (reads e);
            write_fault = λ e. absurd (no_write_fault e);
            read_settled = λ other. refl;
            write_settled = λ other. refl;
          };
          asked = λ e. absurd (reads e);
          zoned = λ wanted widest e. refl;
          tells = λ held holds. record {
            ends = steady_end view.steady before.steady status old held on reads
                (stopped_end before.steady old (IsTallyOf t0) (IsTallyOf t1) status on done no_write_fault render_tells.ends held);
            zone_full = render_tells.zone_full;
            least = λ end. subst (λ k. k ≤ zone) least_alike (render_tells.least end);
            reads = λ calm. takes_none exercise_job.task held view.taken;
          };
        }
      where
        steady_end : (steady other : Bool) (status : Status) (old : List ℕ → Type 0) (held : List File) → IsTrue other → (status ≡ ReadFault → ⊥) → EndsAt other (job_verdict exercise_job held) old old status → EndsAt steady (job_verdict exercise_job held) old old status
        steady_end steady other Done old held on reads ends = ends
        steady_end steady other Usage old held on reads ends = ends
        steady_end steady other (Refused refusal) old held on reads ends = ends
        steady_end steady other ReadFault old held on reads ends = absurd (reads refl)
        steady_end steady other WriteFault old held on reads ends = ends
        steady_end steady other (Limit view kind count) old held on reads ends = ends
        steady_end steady other (ZoneFull wanted widest) old held on reads ends = ends
        steady_end steady other OutOfMemory old held on reads ends = ends

    -- all frames were rendered, and their summary is written
    pub exercise_done : (view : ShelfView) (old new : List ℕ → Type 0) (faults later : ℕ) (status : Status) (summary : Summary) → t0 ≡ record { count = 0; sum = 0 } → Rendered Done →
        summary ≡ record { sectors = 4 * n * n; views = 3 * n; frames = t1.count / frame_size format; bytes = t1.count; sum = t1.sum } →
        DeliversBytes (summary_line summary) old new status → (status ≡ WriteFault → FaultsRose faults later) → ((status ≡ WriteFault → ⊥) → later ≡ faults) → Performs exercise_job view view old new faults later status
    exercise_done view old new faults later status summary first rendering summed writes failed passed =
        let render_tells = said Done rendering in
        let accepted_load = accepted_by made_views (rendered (Frame format)) loading render_tells.ends.accepted render_tells.ends.is in
        let views_value = made_views accepted_load.0 in
        let end : rendered_end views_value ≡ Done = ap (λ (a : Accepted). a.end) accepted_load.2 ∙ render_tells.ends.due in
        let grew_by_frames : Grew (IsTallyOf t0) (IsTallyOf t1) (rendered_bytes (Frame format) views_value) = subst (λ (a : Accepted). Grew (IsTallyOf t0) (IsTallyOf t1) a.output) (sym accepted_load.2) render_tells.ends.written in
        let views_few : length views_value.views ≤ MAX_VIEWS = subst (λ k. k ≤ MAX_VIEWS) (sym (views_rows (wad_bytes made_wads (made_files n) accepted_load.0.files.lumps) (made_level zone).settings accepted_load.0)) (loaded_few (made_level zone) made_wads (made_files n) accepted_load.0 accepted_load.1) in
        let line : summary_line summary ≡ exercised_bytes n format views_value = ap (λ (s : Summary). summary_line s) summed ∙ tallied_line n format views_value t1 views_few end (tally_of first grew_by_frames) in
        let line_is_due : done (summary_line summary) ≡ exercised n format views_value =
        ap (λ (bytes : List ℕ). record { output = bytes; end = Done }) line ∙ ap (λ (e : Status). record { output = exercised_bytes n format views_value; end = e }) (sym end) in
        let delivers : DeliversAt (done (summary_line summary)) old new status = bytes_deliver (summary_line summary) old new status writes in
        record {
          behaves = due_behaves false view view (done (summary_line summary)) old new faults later status (record { ends = delivers; write_fault = failed; write_settled = passed }) refl;
          asked = λ e. absurd (delivers_all (done (summary_line summary)) old new status delivers (rw e tt));
          zoned = λ wanted widest e. refl;
          tells = λ held holds. record {
            ends = renders_end view.steady _ (loaded_sizes accepted_load.0).enough (exercised n format views_value) old new status
                (ap (λ (l : Result LoadedValue (Stop Refusal)). drawn_by made_views (exercised n format) l) accepted_load.1)
                (delivers_render view.steady _ old new status (subst (λ (w : Written). DeliversAt w old new status) line_is_due delivers));
            zone_full = λ wanted widest e. absurd (delivers_all (done (summary_line summary)) old new status delivers (rw e tt));
            least = λ is. subst (λ k. k ≤ zone) least_alike (render_tells.least tt);
            reads = λ calm. takes_none exercise_job.task held view.taken;
          };
        }

-- rendering a level that is the made one is rendering that
pub over_made : (zone : ℕ) (format : Format) (before after : ShelfView) (old new : List ℕ → Type 0) (status : Status) (level : LevelJob) → level_job_value level ≡ made_level zone →
    Performs (job_over (level_job_value level) made_wads (drawing (level_job_value level) (rendered (Frame format)))) before after old new 0 0 status →
    Performs (job_over (made_level zone) made_wads (drawing (made_level zone) (rendered (Frame format)))) before after old new 0 0 status
over_made zone format before after old new status level same performs =
    subst (λ (l : LevelJobValue). Performs (job_over l made_wads (drawing l (rendered (Frame format)))) before after old new 0 0 status) same performs
