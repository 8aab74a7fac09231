use Rattle.std.proofs.Common.{length, ap, ◌∙◌, arith}
use Rattle.wad_trim.specs.Rules.{MAX_LUMPS, called_lumps}
use Rattle.trim_rules.proofs.ThereLemmas.{called-there}
use Rattle.sound_scene.specs.Views.{lump_numbers}
use Rattle.wad_trim.proofs.{CalledLemmas.called-is, ListLemmas.all-numbers}
use Rattle.wad_trim.proofs.parts.called_lumps.Goals as goal

pub returns-clause-lumps : goal.returns-clause-lumps
returns-clause-lumps c =
    let items_same = c.in_ok-called.ensures.items_if_clones_equal (λ x y same. same) ∙ c.deref.ensures.value in
    called-is c.args.dir.now.lumps c.args.textures.now.prepared (lump_numbers c.in_ok-fixed.fixed.items) (lump_numbers c.in_ok-called.called.items) (lump_numbers c.deref-2.result.now) (lump_numbers c.patches.result.now) _
    c.count.result MAX_LUMPS c.count.ensures.count (omega (arith, c.count.ensures.few)) c.in_ok-fixed.ensures (ap lump_numbers items_same) (ap lump_numbers c.deref-2.ensures.value) c.patches.ensures c.in_ok-add_patches.ensures

pub returns-clause-there : goal.returns-clause-there
returns-clause-there c =
    let items_same = c.in_ok-called.ensures.items_if_clones_equal (λ x y same. same) ∙ c.deref.ensures.value in
    all-numbers (length c.args.dir.now.lumps) c.add_patches.new.called.items (called_lumps c.args.dir.now.lumps c.args.textures.now.prepared)
    (called-is c.args.dir.now.lumps c.args.textures.now.prepared (lump_numbers c.in_ok-fixed.fixed.items) (lump_numbers c.in_ok-called.called.items) (lump_numbers c.deref-2.result.now) (lump_numbers c.patches.result.now) _
    c.count.result MAX_LUMPS c.count.ensures.count (omega (arith, c.count.ensures.few)) c.in_ok-fixed.ensures (ap lump_numbers items_same) (ap lump_numbers c.deref-2.ensures.value) c.patches.ensures c.in_ok-add_patches.ensures)
    (called-there c.args.dir.now.lumps c.args.textures.now.prepared)
