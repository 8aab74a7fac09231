use Rattle.level_scene.proofs.sides.add_side.Goals as goal

pub returns-clause-below : goal.returns-clause-below
returns-clause-below c = λ count side before.
    c.add_texture-3.ensures.below count side.middle (c.in_ok-add_texture-2.ensures.below count side.bottom (c.in_ok-add_texture.ensures.below count side.top before))
