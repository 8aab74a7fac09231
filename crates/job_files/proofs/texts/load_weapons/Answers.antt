use Rattle.std.proofs.Common.{Some, Ok, refl}
use Rattle.job_files.specs.Files.{in_optional_file}
use Rattle.art_rules.proofs.Laws.{all_passed, step_stops}
use Rattle.job_files.proofs.texts.load_weapons.Goals as goal

pub returns-in_err-load_layers-in-Some-clause-answers : goal.returns-in_err-load_layers-in-Some-clause-answers
unfolding in_optional_file
returns-in_err-load_layers-in-Some-clause-answers g c files holds =
    rw c.in-Some.is
    (step_stops (λ value. Ok (Some value)) _ c.from_residual.result
    (c.load_layers.ensures.answers files holds) c.in_err-load_layers-in-Some.was refl c.from_residual.ensures.1)

pub returns-in-None-clause-answers : goal.returns-in-None-clause-answers
unfolding in_optional_file
returns-in-None-clause-answers g c files holds = all_passed _ _ (rw c.in-None.is refl)

pub returns-in_ok-load_layers-in-Some-clause-answers : goal.returns-in_ok-load_layers-in-Some-clause-answers
unfolding in_optional_file
returns-in_ok-load_layers-in-Some-clause-answers g c files holds =
    all_passed _ _ (rw (c.in-Some.is, (c.in_ok-load_layers-in-Some.ensures.answers files holds).ok) refl)

pub returns-in_err-load_layers-in-Some-clause-taken_of : goal.returns-in_err-load_layers-in-Some-clause-taken_of
returns-in_err-load_layers-in-Some-clause-taken_of g c files holds = rw c.in-Some.is (c.load_layers.ensures.taken_of files holds)

pub returns-in_ok-load_layers-in-Some-clause-taken_of : goal.returns-in_ok-load_layers-in-Some-clause-taken_of
returns-in_ok-load_layers-in-Some-clause-taken_of g c files holds = rw c.in-Some.is (c.load_layers.ensures.taken_of files holds)
