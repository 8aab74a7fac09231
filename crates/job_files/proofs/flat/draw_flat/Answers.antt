use Rattle.std.proofs.Common.{refl}
use Rattle.art_rules.proofs.Laws.{all_stand_later, step}
use Rattle.job_files.proofs.{FlatLemmas.picture_is, StepLemmas.stop_same}
use Rattle.job_files.proofs.flat.draw_flat.Goals as goal

pub returns-in_err-flat-clause-answers : goal.returns-in_err-flat-clause-answers
returns-in_err-flat-clause-answers g c contents stand within =
    step _ _ _ (c.in_ok-playpal.ensures.answers contents stand within).ok c.read_palette.ensures.follows.steady
    (stop_same _ _ c.from_residual-in_err-flat.result
    (c.read_flat.ensures.answers contents (all_stand_later _ _ _ _ c.read_palette.ensures.follows stand) within)
    c.in_err-flat.was refl c.from_residual-in_err-flat.ensures.1)

pub returns-clause-answers : goal.returns-clause-answers
returns-clause-answers g c contents stand within =
    picture_is _ contents c.args.name.now c.args.dir.now.lumps c.in_ok-playpal.playpal.items c.in_ok-flat.flat.items c.deref.result.now c.in_ok-tile.field-0.items c.new.result
    (c.in_ok-playpal.ensures.answers contents stand within).ok
    (c.in_ok-flat.ensures.answers contents (all_stand_later _ _ _ _ c.read_palette.ensures.follows stand) within).ok
    c.deref.ensures.value c.in_ok-tile.ensures.pixels c.new.ensures
