-- What a trimmed file is for: rendering it comes to the same as rendering the WADs that it was made of.
use Rattle.std.proofs.Common.{◌≡◌, ℕ, List, [], ◌∷◌, Some, Result, Ok, Err, ap, refl, subst, sym, ◌∙◌}
use Rattle.doom_run.specs.Rules.{File, Format, LevelJobValue, Stop, TrimPart, and_then, from_below, level_job, no_file, trim_plan, trimmed_file}
use Rattle.art_rules.proofs.Laws.{and_then-ok}
use Rattle.job_rules.specs.declared.command.LevelTask.TheVariants.{Trim as TrimTask}
use Rattle.command_line.specs.Commands.{command_of}
use Rattle.refusals.specs.declared.refusal.Refusal.{Refusal}
use Rattle.refusals.specs.declared.refusal.Refusal.TheVariants.{Trim}
use Rattle.sound_scene.specs.Sound.{art_with}
use Rattle.level_audit.specs.scene_load.Loads.{LoadedValue, load_in, loaded_pictures, loaded_sizes, wad_bytes}
use Rattle.doom_run.specs.declared.form.ViewForm.TheVariants as form
use Rattle.doom_run.specs.Alike.{EndAlike, RendersAlike, StandsForWads, render_verdict, with_spans}
use Rattle.doom_run.specs.Jobs.{Written, done, drawing, job_of, level_work, rendered, trimming}
use Rattle.doom_run.specs.{Steps.at_step, Steps.else_usage, Trims.plan_in, Views.views_of}
use Rattle.doom_run.specs.Verdict.{Accepted, accepted_in, delivered, job_verdict, verdict, work_verdict}
use Rattle.doom_run.proofs.alike.RenderLemmas.{trimmed-views}
use Rattle.doom_run.proofs.alike.SpansLemmas.{load-with, loaded_with}
use Rattle.doom_run.proofs.alike.StepLemmas.{below, ok_of}

no_file_ok : {A R : Type 0} (r : Result A R) (x : A) → no_file r ≡ Ok x → r ≡ Ok x
no_file_ok (Ok y) x e = let value_same : y ≡ x = cc in ap Ok value_same
no_file_ok (Err reason) x e = cc

-- what rendering determines of a level that is loaded
render_is : (format : Format) (level : LevelJobValue) (wads : List (List ℕ)) (files : List File) (loaded : LoadedValue) (bytes : ℕ → List ℕ) → load_in level wads files ≡ Ok loaded → wad_bytes wads files loaded.files.lumps ≡ bytes →
    render_verdict format level wads files ≡ Ok (accepted_in (loaded_sizes loaded).enough (rendered (form.Frame format) (views_of bytes level.settings loaded)))
render_is format level wads files loaded bytes is same =
    ap (λ (l : Result LoadedValue (Stop Refusal)). from_below at_step (and_then {B = Accepted} l (λ x. delivered (drawing level (rendered (form.Frame format))) (wad_bytes wads files x.files.lumps) x))) is
    ∙ ap (λ b. Ok (accepted_in (loaded_sizes loaded).enough (rendered (form.Frame format) (views_of b level.settings loaded)))) same

-- With the spans of the level, rendering the bytes of a trimmed file comes to what rendering the WADs does.
trimmed-ends : (format : Format) (level : LevelJobValue) (wads : List (List ℕ)) (files : List File) (loaded : LoadedValue) (parts : List TrimPart) → load_in level wads files ≡ Ok loaded →
    trim_plan loaded.files.lumps (art_with loaded.scene (loaded_pictures loaded)) level.map_name ≡ Ok parts →
    (others : List File) (name : List ℕ) → StandsForWads level.files (trimmed_file (wad_bytes wads files loaded.files.lumps) loaded.files.lumps parts) name files others →
    EndAlike (render_verdict format level wads files) (render_verdict format level (name ∷ []) others)
trimmed-ends format level wads files loaded parts is plan others name stands =
    let views = trimmed-views level wads files loaded is parts plan name others stands in
    record {
      first = accepted_in (loaded_sizes loaded).enough (rendered (form.Frame format) (views_of (wad_bytes wads files loaded.files.lumps) level.settings loaded));
      second = accepted_in (loaded_sizes views.moved).enough (rendered (form.Frame format) (views_of views.bytes level.settings views.moved));
      is = render_is format level wads files loaded (wad_bytes wads files loaded.files.lumps) is refl;
      is_too = render_is format level (name ∷ []) others views.moved views.bytes views.loads views.same;
      end = views.end;
      written = views.rendered format;
    }

-- The bytes of a trimmed file render as the WADs do, whatever the spans: its parts do not depend on them.
trimmed-renders : (level : LevelJobValue) (wads : List (List ℕ)) (files : List File) (loaded : LoadedValue) (parts : List TrimPart) → load_in level wads files ≡ Ok loaded →
    trim_plan loaded.files.lumps (art_with loaded.scene (loaded_pictures loaded)) level.map_name ≡ Ok parts →
    RendersAlike level wads files (trimmed_file (wad_bytes wads files loaded.files.lumps) loaded.files.lumps parts)
trimmed-renders level wads files loaded parts is plan = record {
  alike = λ format spans others name stands.
      trimmed-ends format (with_spans spans level) wads files (loaded_with spans loaded) parts (load-with spans level wads files loaded is) plan others name stands;
}

-- what is accepted of a job that trims is the bytes of its parts
trim_accepted : (level : LevelJobValue) (bytes : ℕ → List ℕ) (loaded : LoadedValue) (accepted : Accepted) → delivered (trimming level) bytes loaded ≡ Ok accepted →
    (parts : List TrimPart) × (trim_plan loaded.files.lumps (art_with loaded.scene (loaded_pictures loaded)) level.map_name ≡ Ok parts) × (trimmed_file bytes loaded.files.lumps parts ≡ accepted.output)
trim_accepted level bytes loaded accepted e =
    let accepted_written = and_then-ok (no_file (and_then (plan_in level loaded) (λ parts. Ok (done (trimmed_file bytes loaded.files.lumps parts))))) (λ written. Ok (accepted_in (loaded_sizes loaded).enough written)) accepted e in
    let planned = and_then-ok (plan_in level loaded) (λ parts. Ok (done (trimmed_file bytes loaded.files.lumps parts))) accepted_written.0
    (no_file_ok _ accepted_written.0 accepted_written.1) in
    let file_as_written : done (trimmed_file bytes loaded.files.lumps planned.0) ≡ accepted_written.0 = ok_of {R = Refusal} (done (trimmed_file bytes loaded.files.lumps planned.0)) accepted_written.0 planned.2 in
    let accepted_is : accepted_in (loaded_sizes loaded).enough accepted_written.0 ≡ accepted = ok_of {R = Stop Refusal} (accepted_in (loaded_sizes loaded).enough accepted_written.0) accepted accepted_written.2 in
    (planned.0, below Trim (trim_plan loaded.files.lumps (art_with loaded.scene (loaded_pictures loaded)) level.map_name) planned.0 planned.1, ap (λ (w : Written). w.output) file_as_written ∙ ap (λ (a : Accepted). a.output) accepted_is)

-- What a run that trims writes renders as the WADs do.
pub trimmed-run : (words : List (List ℕ)) (files : List File) (level : LevelJobValue) (wads : List (List ℕ)) (accepted : Accepted)
    → command_of words ≡ Some (level_job TrimTask level wads) → verdict words files ≡ Ok accepted → RendersAlike level wads files accepted.output
trimmed-run words files level wads accepted is e =
    let trims : job_verdict (job_of (level_job TrimTask level wads)) files ≡ Ok accepted = ap (λ o. and_then {B = Accepted} (else_usage o) (λ command. job_verdict (job_of command) files)) (sym is) ∙ e in
    let load = and_then-ok (load_in level wads files) (λ loaded. delivered (trimming level) (wad_bytes wads files loaded.files.lumps) loaded) accepted (below at_step (work_verdict (level_work level wads (trimming level)) files) accepted trims) in
    let parts_ok = trim_accepted level (wad_bytes wads files load.0.files.lumps) load.0 accepted load.2 in
    subst (λ bytes. RendersAlike level wads files bytes) parts_ok.2 (trimmed-renders level wads files load.0 parts_ok.0 load.1 parts_ok.1)
