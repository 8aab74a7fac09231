-- The column is made live, and then the strip is painted with the bytes that are lent: those of the column and of the colormap.
use Rattle.art_rules.proofs.Common.{ap, of_z, refl, rules, some-same, sym, to_z, w32, ℕ, ◌+◌, ◌∙◌, ◌≡◌, to_z-of_z}
use Rattle.texture_build.specs.Rules.{byte_at, lump_bytes, row_fraction}
use Rattle.texture_build.specs.{Sources.ColumnView, Sources.column_in, Strips.art_tools, Views.prepared_texture}
use Rattle.texture_build.proofs.ColumnLemmas.{single_slot}
use Rattle.texture_build.proofs.LentLemmas.{colormap_is_lent, colormap_lent, fits-column, live_is_lent}
use Rattle.texture_build.proofs.{LiveLemmas.draws-ready, PaintLemmas.paints-live, StripLemmas.texture-fits, StripLemmas.texture-painted}
use Rattle.texture_build.proofs.strip.paint_texture.Goals as goal
use Rattle.texture_build.proofs.strip.paint_texture.Goals.{in_default-via-in-None-1, in_default-via-in-Some+in-None-1}

pub column_at-requires-clause-lumps : goal.column_at-requires-clause-lumps
column_at-requires-clause-lumps g c =
    let lumps = c.args.art.now.dir.now.lumps in
    single_slot lumps c.ready_at.new.cache.lumps c.lookup-lookup.result (search rules) (c.lookup-lookup.ensures.there lumps c.requires.texture.there)

pub returns-in-Some-column_at-clause-paints : goal.returns-in-Some-column_at-clause-paints
returns-in-Some-column_at-clause-paints g c =
    let art = c.args.art.now in
    let strip = c.args.strip.now in
    let ready = c.in_ok-ready_at.ensures in
    let texels = c.texels.inside in
    let lookup_at = column_in (prepared_texture art.textures.now strip.tex.0) in
    let lookup_is : c.lookup-lookup.result ≡ lookup_at strip.column = c.lookup-lookup.ensures.value ∙ ap lookup_at (to_z-of_z w32 strip.column (search rules)) in
    let first_fraction : to_z w32 (of_z w32 c.row_fraction.result) ≡ row_fraction strip.centre strip.mid strip.step strip.first = search (rules, to_z-of_z) in
    paints-live tt (draws-ready strip.tex.0 strip.column c.lookup-lookup.result lookup_is ready.keeps ready.readies)
    (λ view contents count q hold is.
    texture-painted (lump_bytes contents art.dir.now.lumps) art.textures.now art.colormap.0 strip texels.bytes.now c.in-Some.colormap.now texels.first _ _
    c.begin.ensures c.paint_column.ensures c.painter_at-painter.ensures lookup_is (to_z-of_z w32 strip.step (search rules)) first_fraction
    (some-same c.in-Some.colormap.now _ _ c.in-Some.ensures.value (colormap_lent hold c.requires.colormap))
    (λ r. ap (λ (v : ColumnView). byte_at v.bytes (v.first + r)) c.texels.view_is
    ∙ c.in-Some-column_at.ensures.texel strip.column contents art.dir.now.lumps lookup_is c.requires.texture.there
    hold.files.faithful hold.composites hold.prepared r))
    (λ view contents count q hold is.
    texture-fits (art_tools art) count c.ready_at.new.cache.size (lump_bytes contents art.dir.now.lumps) strip c.lookup-lookup.result lookup_is
    (fits-column hold strip.kind strip.number strip.tex.0 c.lookup-lookup.result c.in-Some-column_at.texels c.requires.texture.prepared
    (c.lookup-lookup.ensures.there art.dir.now.lumps c.requires.texture.there)
    (sym c.in-Some-column_at.ensures.column) (c.in-Some-column_at.ensures.fits art.colormap.0 count hold.rest)))
    (search rules) refl refl

-- what is live is lent
pub returns-in_default-clause-paints : goal.returns-in_default-clause-paints
returns-in_default-clause-paints g c =
    let art = c.args.art.now in
    let strip = c.args.strip.now in
    let ready = c.in_ok-ready_at.ensures in
    let lookup_at = column_in (prepared_texture art.textures.now strip.tex.0) in
    let lookup_is : c.lookup-lookup.result ≡ lookup_at strip.column = c.lookup-lookup.ensures.value ∙ ap lookup_at (to_z-of_z w32 strip.column (search rules)) in
    let column_ready = draws-ready {pictures = λ (lump : ℕ). ⊥} strip.tex.0 strip.column c.lookup-lookup.result lookup_is ready.keeps ready.readies in
    elim c.in_default.branch [
      | in_default-via-in-None-1 w ↦
          paints-live tt column_ready
          (λ view contents count q hold is. absurd (colormap_is_lent hold c.requires.colormap (search rules)))
          (λ view contents count q hold is. absurd (colormap_is_lent hold c.requires.colormap (search rules)))
          (search rules) (ap (λ hands. g.S.Shelf.view hands.shelf.now) w.hands-is) (ap (λ hands. hands.cache.now) w.hands-is)
      | in_default-via-in-Some+in-None-1 w ↦
          let none_is_impossible : ⊥ = live_is_lent strip.tex.0 c.ready_at.new.cache c.lookup-lookup.result ready.readies.live (search rules) in
          paints-live tt column_ready (λ view contents count q hold is. absurd none_is_impossible) (λ view contents count q hold is. absurd none_is_impossible)
          (search rules) (ap (λ hands. g.S.Shelf.view hands.shelf.now) w.hands-is) (ap (λ hands. hands.cache.now) w.hands-is)
    ]
