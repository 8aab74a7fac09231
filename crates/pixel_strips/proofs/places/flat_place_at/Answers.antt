use Rattle.pixel_strips.proofs.PlaceLemmas.{flat_of_span}
use Rattle.pixel_strips.proofs.places.flat_place_at.Goals as goal

pub returns-clause-place : goal.returns-clause-place
returns-clause-place c = λ spans x y a b n few p. flat_of_span spans x y a b n c.args.place few p
