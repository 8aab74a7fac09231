use Rattle.view_frame.proofs.view.View.range_between.Goals as goal

-- both ends are less than a quarter turn off
pub column_at_angle-x1-requires : goal.column_at_angle-x1-requires
column_at_angle-x1-requires c = (c.requires c.in-Some.left c.in-Some-right.right c.in-Some.is c.in-Some-right.is).0

pub column_at_angle-x2-requires : goal.column_at_angle-x2-requires
column_at_angle-x2-requires c = (c.requires c.in-Some.left c.in-Some-right.right c.in-Some.is c.in-Some-right.is).1
