use Rattle.std.proofs.Common.{ap, sym, arith, length, subst}
use Rattle.doom_run.specs.Rules.{AreSettings, LevelJobValue, memory_view}
use Rattle.doom_run.specs.Exercises.{made_files}
use Rattle.job_files.specs.declared.status.Status.TheVariants.{Done}
use Rattle.doom_run.proofs.ExerciseLemmas.{exercise_done, exercise_stops, over_made}
use Rattle.doom_run.proofs.MadeLemmas.{made_count, memory_holds, memory_steady, settings_made}
use Rattle.doom_run.proofs.exercise.exercise_files.Goals as goal

pub new-shelf-requires : goal.new-shelf-requires
new-shelf-requires g c = let count_same = ap (λ files. length files) c.requires.files in let is_four = made_count c.args.n in omega (arith, count_same, is_four)

pub perform_level-requires : goal.perform_level-requires
perform_level-requires g c = subst (λ (l : LevelJobValue). AreSettings l.settings) (sym c.made_level-level.ensures) (settings_made c.args.zone c.requires.zone)

pub returns-in-Done : goal.returns-in-Done
returns-in-Done g c view =
    exercise_done c.args.n c.args.zone c.args.format (memory_view c.new-shelf.result) (memory_view c.perform_level.new.shelf) c.new-tally.result c.perform_level.new.out
    (memory_steady c.new-shelf.result _ _ c.new-shelf.ensures c.new.ensures.items)
    (memory_holds c.new-shelf.result _ (made_files c.args.n) _ c.new-shelf.ensures c.requires.files)
    view _ _ _ _ c.deliver_exercise.result c.summary_of.result c.new-tally.ensures (over_made c.args.zone c.args.format _ _ _ _ Done c.made_level-level.result c.made_level-level.ensures c.in-Done.ensures) c.summary_of.ensures c.deliver_exercise.ensures.ends c.deliver_exercise.ensures.write_fault c.deliver_exercise.ensures.write_settled

pub returns : goal.returns
returns g c view =
    exercise_stops c.args.n c.args.zone c.args.format (memory_view c.new-shelf.result) (memory_view c.perform_level.new.shelf) c.new-tally.result c.perform_level.new.out
    (memory_steady c.new-shelf.result _ _ c.new-shelf.ensures c.new.ensures.items)
    (memory_holds c.new-shelf.result _ (made_files c.args.n) _ c.new-shelf.ensures c.requires.files)
    view _ _ c.perform_level.result c.in_default.not-Done (over_made c.args.zone c.args.format _ _ _ _ c.perform_level.result c.made_level-level.result c.made_level-level.ensures c.perform_level.ensures)
