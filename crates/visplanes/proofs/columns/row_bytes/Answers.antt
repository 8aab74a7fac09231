use Rattle.std.proofs.lemmas.List.{get_or-replicate}
use Rattle.picture_rules.specs.Words.{FRAME_WIDTH}
use Rattle.visplanes.proofs.columns.row_bytes.Goals as goal

pub returns-clause-each : goal.returns-clause-each
returns-clause-each c = λ x l. get_or-replicate FRAME_WIDTH x c.args.value 0 l
