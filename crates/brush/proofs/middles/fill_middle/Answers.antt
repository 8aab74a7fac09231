-- The posts that are painted are those of the lump that the column is read from.
use Rattle.picture_rules.proofs.Common.{w32, sym, rules, arith, to_z-of_z}
use Rattle.picture_rules.specs.Words.{MIDDLE}
use Rattle.art_rules.specs.Words.{lump_bytes}
use Rattle.texture_build.proofs.{StaticLemmas.rest_static, LentLemmas.fits-lump}
use Rattle.texture_build.specs.Views.{prepared_texture}
use Rattle.brush.proofs.LendLemmas.{art-lent, lent_lump}
use Rattle.brush.proofs.MiddleLemmas.{middle-fits, middle-painted, read-live, single-column}
use Rattle.brush.proofs.middles.fill_middle.Goals as goal

pub posts_place-place-requires-clause-single : goal.posts_place-place-requires-clause-single
posts_place-place-requires-clause-single g c = single-column (prepared_texture c.args.art.now.textures.now c.args.strip.now.tex.0) _ c.requires.single

pub lend_art-requires-clause-lump : goal.lend_art-requires-clause-lump
lend_art-requires-clause-lump g c =
    let read = read-live {lumps = c.args.art.now.dir.now.lumps} {textures = c.args.art.now.textures.now} {tex = c.args.strip.now.tex.0} c.args.hands.now.cache.now (to_z-of_z w32 c.args.strip.now.column (search rules)) c.requires.there c.requires.live c.posts_place-place.ensures in
    omega (arith, read.there, c.requires.slots)

pub returns-in-Some-clause-painted : goal.returns-in-Some-clause-painted
returns-in-Some-clause-painted g c = λ view contents count hold.
    let art = c.args.art.now in
    let read = read-live {lumps = c.args.art.now.dir.now.lumps} {textures = c.args.art.now.textures.now} {tex = c.args.strip.now.tex.0} c.args.hands.now.cache.now (to_z-of_z w32 c.args.strip.now.column (search rules)) c.requires.there c.requires.live c.posts_place-place.ensures in
    middle-painted (lump_bytes contents art.dir.now.lumps) art.textures.now art.colormap.0 c.args.strip.now c.posts_place-place.result.0.0 c.posts_place-place.result.1 read.is g.C.Canvas.mark
    c.in-Some.column.bytes.now c.in-Some.column.colormap.now c.in-Some.column.map (g.C.Canvas.view c.args.hands.now.canvas.now) (g.C.Canvas.view c.begin.new.self) (g.C.Canvas.view c.paint_posts.new.canvas)
    c.begin.ensures c.paint_posts.ensures
    (lent_lump contents art.dir.now.lumps c.args.hands.now.cache.now c.posts_place-place.result.0.0 c.in-Some.column.bytes.now hold.files.faithful read.there c.in-Some.ensures.bytes)
    (lent_lump contents art.dir.now.lumps c.args.hands.now.cache.now art.colormap.0 c.in-Some.column.colormap.now hold.files.faithful c.requires.colormap c.in-Some.ensures.colormap)
    c.in-Some.ensures.map

pub returns-in-Some-clause-fits : goal.returns-in-Some-clause-fits
returns-in-Some-clause-fits g c = λ view contents count hold.
    let art = c.args.art.now in
    let read = read-live {lumps = c.args.art.now.dir.now.lumps} {textures = c.args.art.now.textures.now} {tex = c.args.strip.now.tex.0} c.args.hands.now.cache.now (to_z-of_z w32 c.args.strip.now.column (search rules)) c.requires.there c.requires.live c.posts_place-place.ensures in
    middle-fits (lump_bytes contents art.dir.now.lumps) art.textures.now art.colormap.0 c.args.strip.now c.posts_place-place.result.0.0 c.posts_place-place.result.1 read.is
    art.dir.now.lumps count c.args.hands.now.cache.now.size
    (fits-lump hold MIDDLE c.args.strip.now.number c.posts_place-place.result.0.0 c.in-Some.column.bytes.now read.there (sym c.in-Some.ensures.bytes)
    (c.in-Some.ensures.fits art.colormap.0 count (rest_static hold.rest)))

pub returns-in_default-clause-painted : goal.returns-in_default-clause-painted
returns-in_default-clause-painted g c = λ view contents count hold.
    let read = read-live {lumps = c.args.art.now.dir.now.lumps} {textures = c.args.art.now.textures.now} {tex = c.args.strip.now.tex.0} c.args.hands.now.cache.now (to_z-of_z w32 c.args.strip.now.column (search rules)) c.requires.there c.requires.live c.posts_place-place.ensures in
    art-lent _ _ c.lend_art.result hold.rest read.live c.in_default.is c.lend_art.ensures.live

pub returns-in_default-clause-fits : goal.returns-in_default-clause-fits
returns-in_default-clause-fits g c = λ view contents count hold.
    let read = read-live {lumps = c.args.art.now.dir.now.lumps} {textures = c.args.art.now.textures.now} {tex = c.args.strip.now.tex.0} c.args.hands.now.cache.now (to_z-of_z w32 c.args.strip.now.column (search rules)) c.requires.there c.requires.live c.posts_place-place.ensures in
    art-lent _ _ c.lend_art.result hold.rest read.live c.in_default.is c.lend_art.ensures.live
