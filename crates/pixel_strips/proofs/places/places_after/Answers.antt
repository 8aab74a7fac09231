use Rattle.pixel_strips.proofs.PlaceLemmas.{texel_place_steps}
use Rattle.pixel_strips.proofs.places.places_after.Goals as goal

pub returns : goal.returns
returns c = λ a b p s. texel_place_steps a b c.args.place c.args.step c.args.count p s
