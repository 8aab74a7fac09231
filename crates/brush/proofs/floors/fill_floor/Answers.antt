-- The bytes that are lent are those of the flat and of the colormap.
use Rattle.picture_rules.proofs.Common.{some-same, sym}
use Rattle.picture_rules.specs.Words.{PLANE, lump_source}
use Rattle.art_rules.specs.Words.{lump_bytes}
use Rattle.texture_build.specs.{Paints.painted_art, Strips.art_tools}
use Rattle.texture_build.proofs.{FetchLemmas.live_faithful, StaticLemmas.rest_static}
use Rattle.texture_build.proofs.LentLemmas.{colormap_lent, fits-lump}
use Rattle.brush.specs.Values.{floor_value}
use Rattle.brush.proofs.FloorLemmas.{fit-floor, floor-key, floor-painted, floor-placed}
use Rattle.brush.proofs.floors.fill_floor.Goals as goal

pub draw_plane-requires-clause-floor : goal.draw_plane-requires-clause-floor
draw_plane-requires-clause-floor g c = floor-key (floor_value c.args.strip.now).plane c.args.strip.now.lump.0 c.requires.flat

pub returns-in-Some-bytes-clause-painted : goal.returns-in-Some-bytes-clause-painted
returns-in-Some-bytes-clause-painted g c = λ view contents count hold.
    let art = c.args.art.now in
    let strip = c.args.strip.now in
    let flat_bytes_are = some-same _ _ _ c.in-Some.ensures.value (live_faithful contents art.dir.now c.args.hands.now.cache.now strip.lump.0 c.requires.lump hold.files.faithful c.requires.live) in
    let shades = some-same _ _ _ c.in-Some-bytes.ensures.value (colormap_lent hold c.requires.colormap) in
    floor-painted g.C.Canvas.mark _ (lump_bytes contents art.dir.now.lumps) art.textures.now art.colormap.0 (floor_value strip) _ _ _ _
    c.requires.flat flat_bytes_are shades c.draw_plane.ensures

pub returns-in-Some-bytes-clause-fits : goal.returns-in-Some-bytes-clause-fits
unfolding lump_source
returns-in-Some-bytes-clause-fits g c = λ view contents count hold.
    let art = c.args.art.now in
    let strip = c.args.strip.now in
    fit-floor art.dir.now.lumps art.textures.now art.colormap.0 count c.args.hands.now.cache.now.size (painted_art contents (art_tools art)) (floor_value strip)
    (fits-lump hold PLANE strip.plane.0 strip.lump.0 c.in-Some.flat.now c.requires.lump (sym c.in-Some.ensures.value) (λ apart. c.in-Some.ensures.fits art.colormap.0 count (rest_static hold.rest) apart))

pub returns-in-Some-bytes-clause-place : goal.returns-in-Some-bytes-clause-place
returns-in-Some-bytes-clause-place g c =
    floor-placed g.C.Canvas.mark _ (floor_value c.args.strip.now) _ _ _ _ c.draw_plane.ensures
