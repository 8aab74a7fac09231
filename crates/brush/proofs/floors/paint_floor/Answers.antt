-- The flat is made live, and then painted with.
use Rattle.std.proofs.Common.{ap}
use Rattle.texture_build.proofs.{LiveLemmas.draws-fetch}
use Rattle.texture_build.proofs.PaintLemmas.{paints-live, paints-missed}
use Rattle.brush.proofs.floors.paint_floor.Goals as goal

pub returns-in_err-fetch-clause-paints : goal.returns-in_err-fetch-clause-paints
returns-in_err-fetch-clause-paints g c =
    paints-missed _ _ _ _ _ c.in_err-fetch.was c.from_residual.ensures.1
    (draws-fetch c.args.strip.now.lump.0 c.requires.lump c.fetch.ensures.fetches)

pub returns-clause-paints : goal.returns-clause-paints
returns-clause-paints g c =
    paints-live c.in_ok-fetch.field-0
    (draws-fetch c.args.strip.now.lump.0 c.requires.lump c.in_ok-fetch.ensures.fetches)
    (λ view contents count q hold is. c.fill_floor.ensures.painted view contents count hold)
    (λ view contents count q hold is. c.fill_floor.ensures.fits view contents count hold)
    c.fill_floor.ensures.place (ap g.S.Shelf.view c.fill_floor.ensures.shelf) c.fill_floor.ensures.cache
