use Rattle.std.proofs.Common.{◌∷◌, [], arith, refl}
use Rattle.art_rules.specs.Words.{directory, NameFiles}
use Rattle.art_rules.proofs.Laws.{all_stand_later, follows_then, step}
use Rattle.job_files.specs.{Files.wad_files, Flats.picture_in, Sizes.flat_sizes}
use Rattle.job_files.proofs.{StepLemmas.stop_same, TakenLemmas.art_known}
use Rattle.job_files.proofs.flat.load_flat.Goals as goal

pub returns-in_err-dir-clause-answers : goal.returns-in_err-dir-clause-answers
returns-in_err-dir-clause-answers g c bytes stands =
    stop_same (picture_in (bytes ∷ []) c.args.name.now) _ c.from_residual.result
    (c.load_dir.ensures.answers (bytes ∷ []) (stands, tt)) c.in_err-dir.was refl c.from_residual.ensures.1

pub returns-clause-answers : goal.returns-clause-answers
returns-clause-answers g c bytes stands =
    let lump_file_stands : NameFiles (g.S.Shelf.view c.load_dir.new.shelf) (c.args.number ∷ []) (bytes ∷ []) =
    all_stand_later _ _ (c.args.number ∷ []) (bytes ∷ []) c.load_dir.ensures.follows (stands, tt) in
    step (wad_files (bytes ∷ [])) (picture_in (bytes ∷ []) c.args.name.now) c.in_ok-dir.dir.lumps
    (c.in_ok-dir.ensures.answers (bytes ∷ []) (stands, tt)).ok c.load_dir.ensures.follows.steady
    (c.draw_flat.ensures.answers (bytes ∷ []) (rw c.in_ok-dir.ensures.files lump_file_stands) (c.in_ok-dir.ensures.within (bytes ∷ []) (stands, tt)))

pub returns-clause-follows : goal.returns-clause-follows
returns-clause-follows g c = follows_then c.load_dir.ensures.follows c.draw_flat.ensures.follows

pub returns-in_err-dir-clause-taken : goal.returns-in_err-dir-clause-taken
unfolding flat_sizes
returns-in_err-dir-clause-taken g c bytes stands = omega (arith, c.load_dir.ensures.taken (bytes ∷ []) (stands, tt))

pub returns-clause-taken : goal.returns-clause-taken
unfolding flat_sizes
returns-clause-taken g c bytes stands =
    omega (
      arith,
      c.load_dir.ensures.taken (bytes ∷ []) (stands, tt),
      c.draw_flat.ensures.taken,
      art_known c.args.name.now (directory (bytes ∷ [])) c.in_ok-dir.dir.lumps (c.in_ok-dir.ensures.answers (bytes ∷ []) (stands, tt)).ok,
    )
