use Rattle.std.proofs.Common.{◌∙◌, sym, arith, ◌≤◌, ◌+◌, length}
use Rattle.lump_rules.specs.declared.names.TheConstants.{MAP_LUMPS}
use Rattle.wad_dir.proofs.MapLemmas.{named_within}
use Rattle.wad_dir.proofs.map.label_at.Goals as goal

pub returns-then-not-is_named_in-clause-there : goal.returns-then-not-is_named_in-clause-there
returns-then-not-is_named_in-clause-there c =
    let map_lumps_inside : c.args.label.0 + 1 + 8 ≤ length c.args.lumps.now =
    named_within c.args.lumps.now _ (c.args.label.0 + 1) MAP_LUMPS (omega arith) (sym c.are_named.ensures ∙ c.if-are_named.true) in
    omega arith
