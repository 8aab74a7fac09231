-- One plane more, with its maker.
use Rattle.std.proofs.Common.{ℕ, ◌+◌, ◌++◌, ◌∷◌, [], List, take, refl, ap, ◌∙◌, arith}
use Rattle.picture_rules.specs.declared.list.ListedPlane.{ListedPlane}
use Rattle.visplanes.specs.Planes.{no_plane}
use Rattle.frame_core.specs.ViewLists.{listed_planes}
use Rattle.frame_core.proofs.ShownLemmas.{planes-end, planes-more, planes-none}
use Rattle.frame_core.proofs.list.list_planes.Goals as goal

pub loop-index-init : goal.loop-index-init
loop-index-init c = record {
  items = c.clear.ensures.items ∙ planes-none c.args.planes.now.planes c.args.makers.now 0 refl;
  count = c.clear.ensures.len;
  capacity = omega (arith, c.requires.capacity, c.clear.ensures.capacity);
}

pub loop-index-preserved : goal.loop-index-preserved
loop-index-preserved c =
    let planes = c.args.planes.now.planes in
    let makers = c.args.makers.now in
    let plane_index = c.loop-index.index in
    record {
      items = c.push_within.ensures.items
          ∙ ap (λ (ps : List ListedPlane). ps ++ c.listed_plane-plane.result ∷ []) c.loop-index.invariant.items
          ∙ ap (λ (p : ListedPlane). listed_planes planes (take plane_index makers) ++ p ∷ []) c.listed_plane-plane.ensures
          ∙ planes-more planes makers plane_index (plane_index + 1) no_plane _ refl c.loop-index-test.true c.requires.makers;
      count = c.push_within.ensures.count ∙ ap (λ (n : ℕ). n + 1) c.loop-index.invariant.count;
      capacity = omega (arith, c.loop-index.invariant.capacity, c.push_within.ensures.capacity);
    }

pub returns-clause-items : goal.returns-clause-items
returns-clause-items c = c.loop-index.invariant.items ∙ planes-end c.args.planes.now.planes c.args.makers.now c.loop-index.index c.loop-index-test.false
