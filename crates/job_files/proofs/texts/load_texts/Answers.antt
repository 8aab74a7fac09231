use Rattle.std.proofs.Common.{◌∙◌, refl, arith, rules}
use Rattle.art_rules.proofs.Laws.{all_passed, follows_then, step_passed, step_stops}
use Rattle.job_files.specs.{Files.texts_in, Sizes.texts_size}
use Rattle.job_files.proofs.texts.load_texts.Goals as goal

pub returns-in_err-things : goal.returns-in_err-things
unfolding texts_in texts_size
returns-in_err-things g c =
    record {
      answers = λ files holds. step_stops _ _ c.from_residual.result (c.load_things.ensures.answers files holds) c.in_err-things.was refl c.from_residual.ensures.1;
      full = search rules;
      follows = c.load_things.ensures.follows;
      causes = search rules;
      taken = search rules;
      taken_of = λ files holds. omega (arith, c.load_things.ensures.taken_of files holds);
    }

pub returns-in_err-path : goal.returns-in_err-path
unfolding texts_in texts_size
returns-in_err-path g c =
    let things_loaded = c.load_things.ensures in
    record {
      answers = λ files holds. step_passed _ _ c.in_ok-things.things (c.in_ok-things.ensures.answers files holds).ok things_loaded.follows.steady
          (step_stops _ _ c.from_residual-in_err-path.result (c.load_path.ensures.answers files (things_loaded.follows.all_files ∙ holds)) c.in_err-path.was refl c.from_residual-in_err-path.ensures.1);
      full = search rules;
      follows = follows_then things_loaded.follows c.load_path.ensures.follows;
      causes = search rules;
      taken = search rules;
      taken_of = λ files holds. omega (arith, things_loaded.taken_of files holds, c.load_path.ensures.taken_of files (things_loaded.follows.all_files ∙ holds));
    }

pub returns-in_err-weapons : goal.returns-in_err-weapons
unfolding texts_in texts_size
returns-in_err-weapons g c =
    let things_loaded = c.load_things.ensures in
    let path_loaded = c.load_path.ensures in
    let both_follow = follows_then things_loaded.follows path_loaded.follows in
    record {
      answers = λ files holds. step_passed _ _ c.in_ok-things.things (c.in_ok-things.ensures.answers files holds).ok things_loaded.follows.steady
          (step_passed _ _ c.in_ok-path.path (c.in_ok-path.ensures.answers files (things_loaded.follows.all_files ∙ holds)).ok path_loaded.follows.steady
          (step_stops _ _ c.from_residual-in_err-weapons.result (c.load_weapons.ensures.answers files (both_follow.all_files ∙ holds)) c.in_err-weapons.was refl c.from_residual-in_err-weapons.ensures.1));
      full = search rules;
      follows = follows_then both_follow c.load_weapons.ensures.follows;
      causes = search rules;
      taken = search rules;
      taken_of = λ files holds. omega (arith, things_loaded.taken_of files holds, path_loaded.taken_of files (things_loaded.follows.all_files ∙ holds), c.load_weapons.ensures.taken_of files (both_follow.all_files ∙ holds));
    }

pub returns : goal.returns
unfolding texts_in texts_size
returns g c =
    let things_loaded = c.in_ok-things.ensures in
    let path_loaded = c.in_ok-path.ensures in
    let both_follow = follows_then things_loaded.follows path_loaded.follows in
    record {
      answers = λ files holds. step_passed _ _ c.in_ok-things.things (c.in_ok-things.ensures.answers files holds).ok things_loaded.follows.steady
          (step_passed _ _ c.in_ok-path.path (c.in_ok-path.ensures.answers files (things_loaded.follows.all_files ∙ holds)).ok path_loaded.follows.steady
          (step_passed _ _ c.in_ok-weapons.weapons (c.in_ok-weapons.ensures.answers files (both_follow.all_files ∙ holds)).ok c.load_weapons.ensures.follows.steady (all_passed _ _ refl)));
      full = search rules;
      follows = follows_then both_follow c.load_weapons.ensures.follows;
      causes = search rules;
      taken = search rules;
      taken_of = λ files holds. omega (arith, things_loaded.taken_of files holds, path_loaded.taken_of files (things_loaded.follows.all_files ∙ holds), c.load_weapons.ensures.taken_of files (both_follow.all_files ∙ holds));
    }
