use Rattle.frame_core.proofs.walked.walk_view.Goals as goal

pub returns : goal.returns
returns g c = rw c.walked_scene-walked.ensures.lists at c.walk.ensures.visits
