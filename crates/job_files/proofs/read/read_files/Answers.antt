use Rattle.std.proofs.Common.{Bor, ℕ, List, map, ◌∙◌, refl, arith}
use Rattle.art_rules.proofs.Laws.{all_passed, follows_then, step_passed, step_stops}
use Rattle.job_files.specs.{Files.files_in, Sizes.files_size}
use Rattle.job_files.proofs.TakenLemmas.{listed_taken}
use Rattle.job_files.proofs.read.read_files.Goals as goal

pub returns-in_err-tables-clause-answers : goal.returns-in_err-tables-clause-answers
unfolding files_in
returns-in_err-tables-clause-answers g c files holds =
    step_stops _ _ c.from_residual.result (c.load_tables.ensures.answers files holds) c.in_err-tables.was refl c.from_residual.ensures.1

pub returns-in_err-texts-clause-answers : goal.returns-in_err-texts-clause-answers
unfolding files_in
returns-in_err-texts-clause-answers g c files holds =
    let files_hold = c.load_tables.ensures.follows.all_files ∙ holds in
    step_passed _ _ c.in_ok-tables.tables (c.in_ok-tables.ensures.answers files holds).ok c.load_tables.ensures.follows.steady
    (step_stops _ _ c.from_residual-in_err-texts.result (c.load_texts.ensures.answers files files_hold) c.in_err-texts.was refl c.from_residual-in_err-texts.ensures.1)

pub returns-in_err-texts-clause-follows : goal.returns-in_err-texts-clause-follows
returns-in_err-texts-clause-follows g c = follows_then c.in_ok-tables.ensures.follows c.in_err-texts.ensures.follows

pub returns-in_err-dir-clause-answers : goal.returns-in_err-dir-clause-answers
unfolding files_in
returns-in_err-dir-clause-answers g c files holds =
    let files_hold = c.load_tables.ensures.follows.all_files ∙ holds in
    let all_hold = c.load_texts.ensures.follows.all_files ∙ files_hold in
    step_passed _ _ c.in_ok-tables.tables (c.in_ok-tables.ensures.answers files holds).ok c.load_tables.ensures.follows.steady
    (step_passed _ _ c.in_ok-texts.texts (c.in_ok-texts.ensures.answers files files_hold).ok c.load_texts.ensures.follows.steady
    (step_stops _ _ c.from_residual-in_err-dir.result (c.load_wads.ensures.answers files all_hold) c.in_err-dir.was refl c.from_residual-in_err-dir.ensures.1))

pub returns-clause-answers : goal.returns-clause-answers
unfolding files_in
returns-clause-answers g c files holds =
    let files_hold = c.load_tables.ensures.follows.all_files ∙ holds in
    let all_hold = c.load_texts.ensures.follows.all_files ∙ files_hold in
    step_passed _ _ c.in_ok-tables.tables (c.in_ok-tables.ensures.answers files holds).ok c.load_tables.ensures.follows.steady
    (step_passed _ _ c.in_ok-texts.texts (c.in_ok-texts.ensures.answers files files_hold).ok c.load_texts.ensures.follows.steady
    (step_passed _ _ c.in_ok-dir.dir.lumps (c.in_ok-dir.ensures.answers files all_hold).ok c.load_wads.ensures.follows.steady (all_passed _ _ refl)))

pub returns-clause-contents : goal.returns-clause-contents
returns-clause-contents g c files contents holds named =
    c.in_ok-dir.ensures.contents files contents (c.load_texts.ensures.follows.all_files ∙ (c.load_tables.ensures.follows.all_files ∙ holds)) named

pub returns-clause-follows : goal.returns-clause-follows
returns-clause-follows g c = follows_then (follows_then c.load_tables.ensures.follows c.load_texts.ensures.follows) c.load_wads.ensures.follows

pub returns-in_err-tables-clause-taken_of : goal.returns-in_err-tables-clause-taken_of
unfolding files_size
returns-in_err-tables-clause-taken_of g c files contents holds named = omega (arith, c.load_tables.ensures.taken_of files holds)

pub returns-in_err-texts-clause-taken_of : goal.returns-in_err-texts-clause-taken_of
unfolding files_size
returns-in_err-texts-clause-taken_of g c files contents holds named =
    let files_hold = c.load_tables.ensures.follows.all_files ∙ holds in
    omega (arith, c.load_tables.ensures.taken_of files holds, c.load_texts.ensures.taken_of files files_hold)

pub returns-in_err-dir-clause-taken_of : goal.returns-in_err-dir-clause-taken_of
unfolding files_size
returns-in_err-dir-clause-taken_of g c files contents holds named =
    let files_hold = c.load_tables.ensures.follows.all_files ∙ holds in
    let all_hold = c.load_texts.ensures.follows.all_files ∙ files_hold in
    let wads_are_listed = listed_taken (map (λ (wad : Bor (List ℕ)). wad.now) c.args.wads.now) files contents named in
    omega (arith, wads_are_listed, c.load_tables.ensures.taken_of files holds, c.load_texts.ensures.taken_of files files_hold, c.load_wads.ensures.taken files contents all_hold named)

pub returns-clause-taken_of : goal.returns-clause-taken_of
unfolding files_size
returns-clause-taken_of g c files contents holds named =
    let files_hold = c.load_tables.ensures.follows.all_files ∙ holds in
    let all_hold = c.load_texts.ensures.follows.all_files ∙ files_hold in
    let wads_are_listed = listed_taken (map (λ (wad : Bor (List ℕ)). wad.now) c.args.wads.now) files contents named in
    omega (arith, wads_are_listed, c.load_tables.ensures.taken_of files holds, c.load_texts.ensures.taken_of files files_hold, c.load_wads.ensures.taken files contents all_hold named)
