-- A brush that leaves nothing takes each strip, and what is told of the walk is a count.
use Rattle.frame_core.proofs.PainterLemmas.{some-told}
use Rattle.frame_core.proofs.painter.count_walls.Goals as goal

pub paint_walls-requires-clause-strips : goal.paint_walls-requires-clause-strips
paint_walls-requires-clause-strips c = λ sound. record { each = λ state facts sector seg first last are inside there height open_in. record { each = λ strip among. tt } }

pub returns-in-Err : goal.returns-in-Err
returns-in-Err c = record {
  walked = tt;
  over = λ bytes. some-told _ _ c.over_limit.ensures (c.in-Err.ensures.over bytes);
  limits = c.in-Err.ensures.limits;
}
