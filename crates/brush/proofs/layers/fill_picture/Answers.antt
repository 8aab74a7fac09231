-- The bytes that are lent are those of the picture and of the colormap.
use Rattle.std.proofs.Common.{ap, sym, ◌∙◌}
use Rattle.brush.specs.Rules.{lump_bytes, lump_source}
use Rattle.texture_build.specs.Paints.{painted_art}
use Rattle.texture_build.proofs.{StaticLemmas.rest_static, LentLemmas.lent_lump-fits}
use Rattle.brush.specs.Values.{picture_value}
use Rattle.brush.proofs.LendLemmas.{lent_lump}
use Rattle.brush.proofs.LayerLemmas.{fit-picture, picture-painted}
use Rattle.brush.proofs.layers.fill_picture.Goals as goal

pub returns-in-Some-clause-painted : goal.returns-in-Some-clause-painted
returns-in-Some-clause-painted g c = λ view t contents count is there picture hold.
    let strip = picture_value c.args.strip.now in
    let own = lent_lump contents t.dir.lumps c.args.cache.now strip.lump c.in-Some.art.bytes.now hold.files.faithful picture c.in-Some.ensures.bytes in
    let shades = lent_lump contents t.dir.lumps c.args.cache.now c.args.colormap.0 c.in-Some.art.colormap.now hold.files.faithful there c.in-Some.ensures.colormap in
    picture-painted (lump_bytes contents t.dir.lumps) t.textures t.colormap strip _ _ _ _ _ own (shades ∙ ap (lump_bytes contents t.dir.lumps) (sym is)) c.begin.ensures c.fill_columns.ensures

pub returns-in-Some-clause-fits : goal.returns-in-Some-clause-fits
unfolding lump_source
returns-in-Some-clause-fits g c = λ view t contents count is there picture hold.
    let strip = picture_value c.args.strip.now in
    fit-picture t.dir.lumps t.textures t.colormap count c.args.cache.now.size (painted_art contents t) strip
    (lent_lump-fits hold.files strip.kind strip.number strip.lump c.in-Some.art.bytes.now picture (sym c.in-Some.ensures.bytes) (λ apart. c.in-Some.ensures.fits t.colormap count (rest_static hold.rest) apart))
