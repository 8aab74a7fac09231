use Rattle.pixel_strips.proofs.PlaceLemmas.{span_place_steps}
use Rattle.pixel_strips.proofs.places.place_after.Goals as goal

pub returns : goal.returns
returns c = λ spans x y a b n h p s. span_place_steps spans x y a b n c.args.place c.args.step c.args.count h p s
