use Rattle.std.proofs.Common.{arith}
use Rattle.art_rules.specs.Words.{NameFiles}
use Rattle.art_rules.proofs.Laws.{all_stand_later, follows_then, no_file_agrees}
use Rattle.job_files.specs.Files.{wad_files}
use Rattle.job_files.proofs.WadLemmas.{wads_unfound, wads_stand, lumps_found, stand_named}
use Rattle.job_files.proofs.wads.load_wads.Goals as goal

pub returns-in_err-numbers-clause-answers : goal.returns-in_err-numbers-clause-answers
returns-in_err-numbers-clause-answers g c files holds =
    wads_unfound _ files _ c.from_residual.result (c.in_err-numbers.ensures.stops files holds) c.from_residual.ensures.1

pub returns-clause-answers : goal.returns-clause-answers
returns-clause-answers g c files holds =
    let numbers_stand = c.in_ok-numbers.ensures.found files holds in
    let all_stand : NameFiles (g.S.Shelf.view c.find_all.new.shelf) c.deref.result.now numbers_stand.contents = rw c.deref.ensures.value numbers_stand.stand in
    rw (lumps_found _ files numbers_stand.contents numbers_stand.lookup, ← c.find_all.ensures.follows.steady)
    (no_file_agrees (wad_files numbers_stand.contents) c.load_dir.result (c.load_dir.ensures.answers numbers_stand.contents all_stand))

pub returns-clause-contents : goal.returns-clause-contents
returns-clause-contents g c files contents holds named =
    let all_stand = stand_named _ _ c.deref.result.now _ files contents (c.in_ok-numbers.ensures.found files holds) c.deref.ensures.value named in
    wads_stand (g.S.Shelf.view c.load_dir.new.shelf) c.deref.result.now contents c.load_dir.result (all_stand_later _ _ c.deref.result.now contents c.load_dir.ensures.follows all_stand) c.load_dir.ensures.files (c.load_dir.ensures.within contents all_stand)

pub returns-clause-taken : goal.returns-clause-taken
returns-clause-taken g c files contents holds named =
    let all_stand = stand_named _ _ c.deref.result.now _ files contents (c.in_ok-numbers.ensures.found files holds) c.deref.ensures.value named in
    omega (arith, c.load_dir.ensures.taken contents all_stand)

pub returns-clause-follows : goal.returns-clause-follows
returns-clause-follows g c = follows_then c.find_all.ensures.follows c.load_dir.ensures.follows
