-- Laws of the visits of a tree, for code that makes them.
use Rattle.word_rules.proofs.Common.{[], ap, arith, Bool, List, None, or_else-assoc, refl, slice_get, slice_set, Some, suc, sym, true, zero, ℕ, ◌++◌, ◌+◌, ◌-◌, ◌<◌, ◌∙◌, ◌∷◌, ◌≡◌}
use Rattle.word_rules.specs.Least.{or_else}
use Rattle.level_rules.specs.{declared.Node.Node, Levels.child_on}
use Rattle.level_rules.specs.declared.Child.TheVariants.{Node as NodeChild, Leaf as LeafChild}
use Rattle.level_rules.specs.maps.Trees.{Visit, preorder, reached_after, visit_refusal, visits_of, visits_refusal}

pub preorder-leaf : (nodes : List Node) (levels depth leaf : ℕ) → preorder nodes levels depth (LeafChild leaf) ≡ []
unfolding preorder
preorder-leaf nodes zero depth leaf = refl
preorder-leaf nodes (suc levels) depth leaf = refl

pub preorder-node : (nodes : List Node) (levels depth n : ℕ) → 0 < levels → preorder nodes levels depth (NodeChild n) ≡ (record { node = n; depth = depth }) ∷ visits_of (preorder nodes (levels - 1) (depth + 1)) (slice_get nodes n)
unfolding preorder
preorder-node nodes zero depth n l = absurd (omega arith)
preorder-node nodes (suc levels) depth n l = let one_less : suc levels - 1 ≡ levels = omega arith in rw one_less refl

-- visits one after the other
pub visits_refusal-append : (reached : List Bool) (xs ys : List Visit) →
    visits_refusal reached (xs ++ ys) ≡ or_else (visits_refusal reached xs) (visits_refusal (reached_after reached xs) ys)
unfolding visits_refusal reached_after
visits_refusal-append reached [] ys = refl
visits_refusal-append reached (v ∷ xs) ys =
    let rest_refusal = visits_refusal-append (slice_set reached v.node true) xs ys in
    rw rest_refusal (or_else-assoc (visit_refusal reached v) (visits_refusal (slice_set reached v.node true) xs) (visits_refusal (reached_after (slice_set reached v.node true) xs) ys))

pub reached_after-append : (reached : List Bool) (xs ys : List Visit) → reached_after reached (xs ++ ys) ≡ reached_after (reached_after reached xs) ys
unfolding reached_after
reached_after-append reached [] ys = refl
reached_after-append reached (v ∷ xs) ys = reached_after-append (slice_set reached v.node true) xs ys

-- one visit, and then others
pub visits_refusal-cons : (reached : List Bool) (v : Visit) (vs : List Visit) →
    visits_refusal reached (v ∷ vs) ≡ or_else (visit_refusal reached v) (visits_refusal (slice_set reached v.node true) vs)
unfolding visits_refusal
visits_refusal-cons reached v vs = refl

pub reached_after-cons : (reached : List Bool) (v : Visit) (vs : List Visit) → reached_after reached (v ∷ vs) ≡ reached_after (slice_set reached v.node true) vs
unfolding reached_after
reached_after-cons reached v vs = refl

-- no visit
pub visits_refusal-nil : (reached : List Bool) → visits_refusal reached [] ≡ None
unfolding visits_refusal
visits_refusal-nil reached = refl

pub reached_after-nil : (reached : List Bool) → reached_after reached [] ≡ reached
unfolding reached_after
reached_after-nil reached = refl

-- a node and all under its child 0 are not refused: what is refused under its child 1 is refused of all
pub visits_refusal-child_1 : (reached after : List Bool) (nodes : List Node) (levels below depth n : ℕ) (node : Node) → levels ≡ below + 1 → slice_get nodes n ≡ Some node → visit_refusal reached (record { node = n; depth = depth }) ≡ None → visits_refusal (slice_set reached n true) (preorder nodes below (depth + 1) (child_on node 0)) ≡ None → after ≡ reached_after (slice_set reached n true) (preorder nodes below (depth + 1) (child_on node 0)) → visits_refusal after (preorder nodes below (depth + 1) (child_on node 1)) ≡ visits_refusal reached (preorder nodes levels depth (NodeChild n))
unfolding visits_of
visits_refusal-child_1 reached after nodes levels below depth n node e found here first reach =
    let levels_below : levels - 1 ≡ below = omega arith in
    sym (ap (visits_refusal reached) (preorder-node nodes levels depth n (omega arith))
    ∙ visits_refusal-cons reached (record { node = n; depth = depth }) _
    ∙ rw (here, levels_below, found) (visits_refusal-append (slice_set reached n true) (preorder nodes below (depth + 1) (child_on node 0)) (preorder nodes below (depth + 1) (child_on node 1)) ∙ rw (first, ← reach) refl))

-- for `grind`: a walk that makes the visits
pub ruleset visiting = (preorder-leaf, preorder-node, visits_refusal-append, reached_after-append, visits_refusal-cons, visits_refusal-nil, reached_after-cons, reached_after-nil)
