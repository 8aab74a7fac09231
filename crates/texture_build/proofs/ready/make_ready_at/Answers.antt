use Rattle.std.proofs.Common.{sym, subst}
use Rattle.art_rules.specs.declared.ColumnLookup.{ColumnLookup}
use Rattle.texture_build.specs.{Ready.MakesColumnLive, Sources.IsColumnThere}
use Rattle.texture_build.proofs.ReadyLemmas.{readies_single}
use Rattle.texture_build.proofs.ready.make_ready_at.Goals as goal

pub returns-else-is_lump_live-clause-readies : goal.returns-else-is_lump_live-clause-readies
returns-else-is_lump_live-clause-readies g c =
    subst (λ (lookup : ColumnLookup). MakesColumnLive c.args.number c.args.texture.now lookup (g.S.Shelf.view c.args.shelf.now) (g.S.Shelf.view c.fetch.new.shelf) c.args.dir.now c.args.cache.now c.fetch.new.self c.fetch.result) (sym c.in-Single.is)
    (readies_single c.args.number c.args.texture.now c.in-Single.lump c.in-Single.place (subst (IsColumnThere c.args.dir.now.lumps) c.in-Single.is c.requires.listed) c.fetch.ensures.fetches c.fetch.ensures.live)

pub returns-else-is_composite_live-clause-readies : goal.returns-else-is_composite_live-clause-readies
returns-else-is_composite_live-clause-readies g c =
    subst (λ (lookup : ColumnLookup). MakesColumnLive c.args.number c.args.texture.now lookup (g.S.Shelf.view c.args.shelf.now) (g.S.Shelf.view c.build_composite.new.shelf) c.args.dir.now c.args.cache.now c.build_composite.new.cache c.build_composite.result) (sym c.in-Composed.is)
    (c.build_composite.ensures c.in-Composed.place)
