use Rattle.std.proofs.Common.{◌≡◌, ◌<◌, ◌+◌, Ok, take, sym, ap, ◌∙◌, refl, arith}
use Rattle.scene_rules.specs.Words.{Things}
use Rattle.map_lumps.specs.Builders.{BuilderValue, empty_builder}
use Rattle.lump_cache.specs.Sizes.{StandsBeside}
use Rattle.lump_cache.proofs.SizeLemmas.{beside_earlier}
use Rattle.lump_cache.proofs.CallLemmas.{reads_known, reads_more, reads_stop, reads_same}
use Rattle.level_scene.specs.Lumps.{lumps_from}
use Rattle.level_scene.proofs.LumpLemmas.{lumps_from-none, lumps_from-next, lumps_from-stop, lumps_count, lump_numbered, next_absent, next_added, behind_label, is_behind_label, up_to_more}
use Rattle.level_scene.proofs.lumps.add_lumps.Goals as goal

pub loop-i-init : goal.loop-i-init
unfolding empty_builder
loop-i-init g c = record {
  tells = reads_known (g.S.Shelf.view c.args.shelf.now) c.args.dir.now c.args.cache.now tt (λ contents told. lumps_from-none _ c.args.label.0 1 c.args.lumps.now empty_builder ∙ ap Ok (sym c.new-builder.ensures));
  added = ap (λ (b : BuilderValue). b.added) c.new-builder.ensures;
  fits = λ lump above below. let impossible : ⊥ = omega (arith, above, below) in absurd impossible;
}

pub add_lump-requires-clause-absent : goal.add_lump-requires-clause-absent
add_lump-requires-clause-absent g c =
    let index_below_eight : c.loop-i.i < 8 = omega (arith, lumps_count c.args.lumps.now 8 c.requires.lumps) in
    next_absent c.loop-i.builder _ c.loop-i.i c.loop-i.invariant.added (lump_numbered c.args.lumps.now 8 c.requires.lumps c.loop-i.i Things index_below_eight)

pub loop-i-preserved : goal.loop-i-preserved
loop-i-preserved g c =
    let lumps = c.args.lumps.now in
    let lump_index = c.loop-i.i in
    let index_below_eight : lump_index < 8 = omega (arith, lumps_count lumps 8 c.requires.lumps) in
    record {
      tells = reads_more (λ bytes. lumps_from bytes c.args.label.0 1 (take (lump_index + 1) lumps) empty_builder) tt tt c.loop-i.invariant.tells c.add_lump.result c.add_lump.ensures.tells c.in_ok-add_lump.was
          (λ n e. behind_label c.args.label.0 n lump_index (omega (arith, e)) index_below_eight)
          (λ bytes one two. lumps_from-next bytes c.args.label.0 1 lumps lump_index (lump_index + 1) _ Things empty_builder c.loop-i.builder c.add_lump.new.builder refl (omega arith) (omega arith) one two);
      added = c.in_ok-add_lump.ensures.added ∙ next_added c.loop-i.builder.added _ lump_index (lump_index + 1) refl c.loop-i.invariant.added (lump_numbered lumps 8 c.requires.lumps lump_index Things index_below_eight) index_below_eight;
      fits = up_to_more (StandsBeside c.args.dir.now.lumps c.args.cache.now) c.args.label.0 lump_index (lump_index + 1) _ refl refl c.loop-i.invariant.fits
          (beside_earlier _ c.loop-i.invariant.tells.keeps c.in_ok-add_lump.ensures.fits);
    }

pub returns-in_err-add_lump-clause-tells : goal.returns-in_err-add_lump-clause-tells
returns-in_err-add_lump-clause-tells g c =
    let lumps = c.args.lumps.now in
    let lump_index = c.loop-i.i in
    let index_below_eight : lump_index < 8 = omega (arith, lumps_count lumps 8 c.requires.lumps) in
    reads_same c.from_residual.result c.in_err-add_lump.field-0.0 (λ bytes. lumps_from bytes c.args.label.0 1 lumps empty_builder) c.from_residual.ensures.1
    (reads_stop (λ bytes. lumps_from bytes c.args.label.0 1 lumps empty_builder) c.in_err-add_lump.field-0.0 c.loop-i.invariant.tells c.add_lump.result c.add_lump.ensures.tells c.in_err-add_lump.was
    (λ n e. behind_label c.args.label.0 n lump_index (omega (arith, e)) index_below_eight)
    (λ bytes e one two. lumps_from-stop bytes c.args.label.0 1 lumps lump_index _ Things empty_builder c.loop-i.builder e (omega arith) (omega arith) one two))

pub returns-clause-fits : goal.returns-clause-fits
returns-clause-fits g c = λ lump among.
    let index_is_eight : c.loop-i.i ≡ 8 = omega (arith, lumps_count c.args.lumps.now 8 c.requires.lumps) in
    let lies_behind = is_behind_label c.args.label.0 lump c.loop-i.i index_is_eight among in
    c.loop-i.invariant.fits lump lies_behind.0 lies_behind.1
