-- The walk of a level whose flats have other numbers meets the same leaves and fragments.
use Rattle.picture_rules.proofs.Common.{ap, Bool, cond, false, List, None, Option, option_map, refl, Some, suc, true, zero, ℕ, ◌+◌, ◌∙◌, ◌≡◌}
use Rattle.alike_rules.specs.Rules.{Child, LevelLists, MAX_DEPTH, Node, Surface, ViewValue, WalkState, at_far, at_leaf, at_leaf_of, at_node, at_seg, at_seg_of, at_segs, back_of, box_passes, enters, far_box, far_child, leaf_at, middle_of, near_child, node_at, seg_at, sky_flat, surface_at, view_events, walk_child, walk_start}
use Rattle.picture_rules.specs.{Words.Node as NodeChild, Child.TheVariants.Leaf as LeafChild}
use Rattle.alike_rules.proofs.PlaneLemmas.{IsOneToOne}
use Rattle.alike_rules.proofs.SurfaceLemmas.{IsBackOf, IsSurfaceOf, moved_surface, pass-moved, solid-moved}

-- the same level with other surfaces
abbrev pub with_surfaces : LevelLists → List Surface → LevelLists
with_surfaces level surfaces = record {
  segs = level.segs;
  leaves = level.leaves;
  nodes = level.nodes;
  root = level.root;
  surfaces = surfaces;
  middles = level.middles;
}

-- The sectors of leaves, and those behind segs, are moved, and their flats pass.
pub record AreMoved (P : ℕ → Type 0) (σ : ℕ → ℕ) (level : LevelLists) (surfaces : List Surface) : Type 0 where
  pub leaf : (n : ℕ) → surface_at (with_surfaces level surfaces) (leaf_at level n).sector ≡ moved_surface σ (surface_at level (leaf_at level n).sector)
  pub leaf_flats : (n : ℕ) → IsSurfaceOf P (surface_at level (leaf_at level n).sector)
  pub back : (n : ℕ) → back_of (with_surfaces level surfaces) (seg_at level n) ≡ option_map (moved_surface σ) (back_of level (seg_at level n))
  pub back_flats : (n : ℕ) → IsBackOf P (back_of level (seg_at level n))

module _ (P : ℕ → Type 0) (σ : ℕ → ℕ) (one : IsOneToOne P σ) (sky : P sky_flat) (keeps : σ sky_flat ≡ sky_flat)
    (v : ViewValue) (level : LevelLists) (surfaces : List Surface) (moved : AreMoved P σ level surfaces) where
  seg-moved : (front : Surface) (n : ℕ) (w : WalkState) → IsSurfaceOf P front
      → at_seg v (with_surfaces level surfaces) (moved_surface σ front) n w ≡ at_seg v level front n w
  unfolding at_seg at_seg_of seg_at middle_of
  seg-moved front n w p =
      rw (
        moved.back n,
        solid-moved P σ one sky keeps front (back_of level (seg_at level n)),
        pass-moved P σ one sky keeps front (back_of level (seg_at level n)) (middle_of level (seg_at level n)) p (moved.back_flats n),
      ) refl

  segs-moved : (front : Surface) (first n : ℕ) (w : WalkState) → IsSurfaceOf P front
      → at_segs v (with_surfaces level surfaces) (moved_surface σ front) first n w ≡ at_segs v level front first n w
  unfolding at_segs
  segs-moved front first zero w p = refl
  segs-moved front first (suc n) w p =
      ap (at_seg v (with_surfaces level surfaces) (moved_surface σ front) (first + n)) (segs-moved front first n w p)
      ∙ seg-moved front (first + n) (at_segs v level front first n w) p

  leaf-moved : (n : ℕ) (w : WalkState) → at_leaf v (with_surfaces level surfaces) n w ≡ at_leaf v level n w
  unfolding at_leaf at_leaf_of leaf_at
  leaf-moved n w =
      ap (λ front. at_segs v (with_surfaces level surfaces) front (leaf_at level n).first (leaf_at level n).count (enters n w)) (moved.leaf n)
      ∙ segs-moved (surface_at level (leaf_at level n).sector) (leaf_at level n).first (leaf_at level n).count (enters n w) (moved.leaf_flats n)

  far_step : (f g : Child → WalkState → WalkState) → ((c : Child) (w : WalkState) → f c w ≡ g c w) → (b : Bool) (c : Child) (w : WalkState)
      → cond b (f c w) w ≡ cond b (g c w) w
  far_step f g same true c w = same c w
  far_step f g same false c w = refl

  node-moved : (f g : Child → WalkState → WalkState) → ((c : Child) (w : WalkState) → f c w ≡ g c w) → (o : Option Node) (w : WalkState)
      → at_node v f o w ≡ at_node v g o w
  unfolding at_node at_far
  node-moved f g same None w = refl
  node-moved f g same (Some node) w =
      ap (at_far v f node) (same (near_child v node) w)
      ∙ far_step f g same (box_passes v (g (near_child v node) w).covered (far_box v node)) (far_child v node) (g (near_child v node) w)

  child-moved : (depth : ℕ) (c : Child) (w : WalkState) → walk_child v (with_surfaces level surfaces) depth c w ≡ walk_child v level depth c w
  unfolding walk_child node_at
  child-moved zero (LeafChild n) w = leaf-moved n w
  child-moved zero (NodeChild n) w = refl
  child-moved (suc depth) (LeafChild n) w = leaf-moved n w
  child-moved (suc depth) (NodeChild n) w =
      node-moved (walk_child v (with_surfaces level surfaces) depth) (walk_child v level depth) (λ c u. child-moved depth c u) (node_at level n) w

  -- the events of a view are the same
  pub events-same : view_events v (with_surfaces level surfaces) ≡ view_events v level
  unfolding view_events
  events-same = ap (λ (w : WalkState). w.events) (child-moved MAX_DEPTH level.root (walk_start v.shape.width))
