use Rattle.std.proofs.Common.{inl, refl}
use Rattle.art_rules.proofs.Laws.{grew_none}
use Rattle.command_line.specs.Commands.{command_of}
use Rattle.doom_run.specs.{Rules.IsExercise, Words.texts}
use Rattle.doom_run.proofs.PerformLemmas.{command_runs, memory_runs}
use Rattle.doom_run.proofs.top.perform.Goals as goal

pub returns-in-Flat-clause-runs : goal.returns-in-Flat-clause-runs
returns-in-Flat-clause-runs g c = command_runs _ (rw c.in-Flat.is at c.in-Ok.ensures.ok) (λ idle. absurd (cc)) c.perform_flat.ensures

pub returns-in-Make-clause-runs : goal.returns-in-Make-clause-runs
returns-in-Make-clause-runs g c = command_runs _ (rw c.in-Make.is at c.in-Ok.ensures.ok) (λ idle. refl) (c.perform_make.ensures (g.S.Shelf.view c.args.shelf.now))

pub returns-in-Level-clause-runs : goal.returns-in-Level-clause-runs
returns-in-Level-clause-runs g c = command_runs _ (rw c.in-Level.is at c.in-Ok.ensures.ok) (λ idle. absurd (cc)) (rw c.deref.ensures.value at c.perform_level.ensures)

pub perform_exercise-requires-clause-count : goal.perform_exercise-requires-clause-count
perform_exercise-requires-clause-count g c =
    let count_is_sound : IsExercise c.in-Exercise.count c.in-Exercise.zone = rw c.in-Exercise.is at c.in-Ok.ensures.counted in count_is_sound.count

pub perform_exercise-requires-clause-zone : goal.perform_exercise-requires-clause-zone
perform_exercise-requires-clause-zone g c =
    let count_is_sound : IsExercise c.in-Exercise.count c.in-Exercise.zone = rw c.in-Exercise.is at c.in-Ok.ensures.counted in
    (count_is_sound.zone.least, count_is_sound.zone.most, count_is_sound.zone.step)

pub returns-in-Ok-clause-runs : goal.returns-in-Ok-clause-runs
returns-in-Ok-clause-runs g c = command_runs _ (rw c.in-Exercise.is at c.in-Ok.ensures.ok) (λ idle. refl) (c.perform_exercise.ensures (g.S.Shelf.view c.args.shelf.now))

pub returns-in-Err-Usage-clause-runs : goal.returns-in-Err-Usage-clause-runs
returns-in-Err-Usage-clause-runs g c = rw (c.in-Err-Usage.ensures.usage (let error_is_usage = c.in-Err-Usage.is in cc))
    (record { runs = (inl refl, grew_none _, refl); untouched = λ idle. refl })

pub returns-clause-runs : goal.returns-clause-runs
returns-clause-runs g c = memory_runs (command_of (texts c.args.words.now)) (g.S.Shelf.view c.args.shelf.now) _ _
