-- The picture is made live, and then painted with.
use Rattle.std.proofs.Common.{refl}
use Rattle.texture_build.proofs.LiveLemmas.{draws-fetch}
use Rattle.texture_build.proofs.PaintLemmas.{paints-live, paints-missed}
use Rattle.brush.proofs.LayerLemmas.{draws-by, there-by}
use Rattle.brush.proofs.LendLemmas.{holds-lumps}
use Rattle.brush.proofs.layers.paint_picture.Goals as goal

pub returns-in_err-fetch : goal.returns-in_err-fetch
returns-in_err-fetch g c = λ t is_dir is_colormap.
    paints-missed _ _ _ _ _ c.in_err-fetch.was c.from_residual.ensures.1
    (draws-by t is_dir (draws-fetch c.args.strip.now.lump.0 c.requires.lump c.fetch.ensures.fetches))

pub returns : goal.returns
returns g c = λ t is_dir is_colormap.
    paints-live tt (draws-by t is_dir (draws-fetch c.args.strip.now.lump.0 c.requires.lump c.in_ok-fetch.ensures.fetches))
    (λ view contents count q hold is. c.fill_picture.ensures.painted view t contents count is_colormap (there-by t c.args.colormap.0 is_dir c.requires.colormap) (there-by t c.args.strip.now.lump.0 is_dir c.requires.lump) (holds-lumps t contents count view _ hold))
    (λ view contents count q hold is. c.fill_picture.ensures.fits view t contents count is_colormap (there-by t c.args.colormap.0 is_dir c.requires.colormap) (there-by t c.args.strip.now.lump.0 is_dir c.requires.lump) (holds-lumps t contents count view _ hold))
    c.fill_picture.ensures.place refl refl
