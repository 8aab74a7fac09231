use Rattle.view_rules.proofs.ShapeLemmas.{within_frame}
use Rattle.angle_tables.proofs.tables.Tables.shape.Goals as goal

-- the shape is one of the nine
pub returns-clause-frame : goal.returns-clause-frame
returns-clause-frame c = within_frame c.self.inside.shape c.self.invariant.sound.shaped
