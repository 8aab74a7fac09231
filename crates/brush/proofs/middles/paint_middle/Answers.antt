-- The column is made live, and then its posts are painted.
use Rattle.picture_rules.proofs.Common.{ℤ, ◌∙◌, ap, of_z, refl, rules, to_z, to_z-of_z, w32}
use Rattle.texture_build.specs.{Sources.column_in, Views.prepared_texture}
use Rattle.texture_build.proofs.{DrawLemmas.draws-wider, LiveLemmas.draws-ready, PaintLemmas.paints-live, PaintLemmas.paints-missed}
use Rattle.brush.proofs.middles.paint_middle.Goals as goal

pub returns-in_err-ready-clause-paints : goal.returns-in_err-ready-clause-paints
returns-in_err-ready-clause-paints g c =
    let strip = c.args.strip.now in
    let textures = c.args.art.now.textures.now in
    let col : ℤ = to_z w32 (of_z w32 strip.column) in
    let ready = c.ready.ensures in
    paints-missed _ _ _ _ _ c.in_err-ready.was c.from_residual.ensures.1
    (draws-wider (λ n own h. (h.0, h.1 ∙ to_z-of_z w32 strip.column (search rules))) (λ lump k. k)
    (draws-ready strip.tex.0 col (column_in (prepared_texture textures strip.tex.0) col) refl ready.keeps ready.readies))

pub returns-clause-paints : goal.returns-clause-paints
returns-clause-paints g c =
    let strip = c.args.strip.now in
    let textures = c.args.art.now.textures.now in
    let col : ℤ = to_z w32 (of_z w32 strip.column) in
    let ready = c.in_ok-ready.ensures in
    paints-live tt
    (draws-wider (λ n own h. (h.0, h.1 ∙ to_z-of_z w32 strip.column (search rules))) (λ lump k. k)
    (draws-ready strip.tex.0 col (column_in (prepared_texture textures strip.tex.0) col) refl ready.keeps ready.readies))
    (λ view contents count q hold is. c.fill_middle.ensures.painted view contents count hold)
    (λ view contents count q hold is. c.fill_middle.ensures.fits view contents count hold)
    c.fill_middle.ensures.place (ap g.S.Shelf.view c.fill_middle.ensures.shelf) c.fill_middle.ensures.cache
