-- Where no visit is refused, the nodes are a tree: no way is longer than the limit, and no node is visited twice.
use Rattle.word_rules.proofs.Common.{[], AllPass-from_list_all, and_parts, ap, ap₂, arith, Bool, cases_eq, cond, false, get_or-set_other, get_or-set_same, inl, inr, length, length-replicate, length-set, List, list_all, list_all-append, nat_lt, None, Option, option_map_or, or_else-none, refl, replicate, slice_get, slice_index_or, slice_set, Some, subst, suc, sym, true, zero, ℕ, ◌&&◌, ◌++◌, ◌+◌, ◌<◌, ◌∙◌, ◌∷◌, ◌≡◌, ◌≤◌}
use Rattle.level_rules.specs.{declared.Node.Node, declared.Child.Child}
use Rattle.level_rules.specs.declared.Child.TheVariants.{Node as NodeChild, Leaf as LeafChild}
use Rattle.level_rules.specs.{declared.TheConstants.MAX_DEPTH, Levels.child_on}
use Rattle.level_rules.specs.{declared.maps.refusal.MapRefusal.MapRefusal, maps.Ranges.is_there}
use Rattle.level_rules.specs.declared.maps.refusal.MapRefusal.TheVariants.{NodeTwice, TooDeep}
use Rattle.level_rules.specs.maps.Trees.{Visit, preorder, visit_refusal, AreOnce, is_within, root_of, tree_refusal, visits_of, visits_refusal}
use Rattle.level_rules.specs.maps.Sound.{IsTree}
use Rattle.level_rules.proofs.maps.VisitLemmas.{visits_refusal-append, visits_refusal-cons}

-- what both children pass, the child on a side passes
pub child_passes : (passes : Child → Bool) (node : Node) (side : ℕ) → side ≤ 1 → (passes (child_on node 0) && passes (child_on node 1)) ≡ true →
    passes (child_on node side) ≡ true
child_passes passes node side low both =
    let both_pass = and_parts (passes (child_on node 0)) (passes (child_on node 1)) both in
    elim (cases_eq side 0) [
      | inl front ↦ ap (λ (s : ℕ). passes (child_on node s)) front ∙ both_pass.0
      | inr behind ↦ (let side_is_back : side ≡ 1 = omega arith in ap (λ (s : ℕ). passes (child_on node s)) side_is_back ∙ both_pass.1)
    ]

-- a visit past the limit is refused
too-deep : (b : Bool) (n : ℕ) → cond b (Some (NodeTwice n)) (Some (TooDeep n)) ≡ None → ⊥
too-deep true n e = cc
too-deep false n e = cc

visit-deep : (reached : List Bool) (n depth : ℕ) → depth ≡ MAX_DEPTH + 1 → visit_refusal reached (record { node = n; depth = depth }) ≡ None → ⊥
unfolding visit_refusal
visit-deep reached n depth d e = too-deep (slice_index_or reached n false) n (rw d at e)

within-node : (nodes : List Node) (k : ℕ) (reached : List Bool) (visits : Child → List Visit) → ((c : Child) (r : List Bool) → visits_refusal r (visits c) ≡ None → is_within nodes k c ≡ true) → (found : Option Node) → visits_refusal reached (visits_of visits found) ≡ None → option_map_or (λ node. is_within nodes k (child_on node 0) && is_within nodes k (child_on node 1)) found true ≡ true
unfolding visits_of
within-node nodes k reached visits h None e = refl
within-node nodes k reached visits h (Some node) e =
    let neither_refused = or_else-none _ _ (sym (visits_refusal-append reached (visits (child_on node 0)) (visits (child_on node 1))) ∙ e) in
    rw (h (child_on node 0) reached neither_refused.0, h (child_on node 1) _ neither_refused.1) refl

-- where no visit is refused, no way is longer than the limit
pub within : (nodes : List Node) (k depth : ℕ) (c : Child) (reached : List Bool) → k + depth ≡ MAX_DEPTH + 1 →
    visits_refusal reached (preorder nodes (suc k) depth c) ≡ None → is_within nodes k c ≡ true
unfolding is_within preorder
within nodes zero depth (LeafChild leaf) reached d e = refl
within nodes (suc k) depth (LeafChild leaf) reached d e = refl
within nodes zero depth (NodeChild n) reached d e =
    let deep : depth ≡ MAX_DEPTH + 1 = omega (arith, d) in
    let neither_refused = or_else-none _ _ (sym (visits_refusal-cons reached (record { node = n; depth = depth }) _) ∙ e) in
    absurd (visit-deep reached n depth deep neither_refused.0)
within nodes (suc k) depth (NodeChild n) reached d e =
    let depth_step : k + (depth + 1) ≡ MAX_DEPTH + 1 = omega (arith, d) in
    let neither_refused = or_else-none _ _ (sym (visits_refusal-cons reached (record { node = n; depth = depth }) _) ∙ e) in
    within-node nodes k (slice_set reached n true) (preorder nodes (suc k) (depth + 1)) (λ c r h. within nodes k (depth + 1) c r depth_step h) (slice_get nodes n) neither_refused.1

more-node : (nodes : List Node) (k depth : ℕ) → ((c : Child) → is_within nodes k c ≡ true → preorder nodes (suc k) depth c ≡ preorder nodes k depth c) → (found : Option Node) → option_map_or (λ node. is_within nodes k (child_on node 0) && is_within nodes k (child_on node 1)) found true ≡ true → visits_of (preorder nodes (suc k) depth) found ≡ visits_of (preorder nodes k depth) found
unfolding visits_of
more-node nodes k depth h None e = refl
more-node nodes k depth h (Some node) e =
    let both_within = and_parts _ _ e in
    ap₂ ◌++◌ (h (child_on node 0) both_within.0) (h (child_on node 1) both_within.1)

-- in a tree that is no deeper, one level more shows no more
pub preorder-more : (nodes : List Node) (k depth : ℕ) (c : Child) → is_within nodes k c ≡ true → preorder nodes (suc k) depth c ≡ preorder nodes k depth c
unfolding preorder is_within
preorder-more nodes zero depth (LeafChild leaf) e = refl
preorder-more nodes (suc k) depth (LeafChild leaf) e = refl
preorder-more nodes zero depth (NodeChild n) e = cc
preorder-more nodes (suc k) depth (NodeChild n) e =
    ap (λ vs. (record { node = n; depth = depth }) ∷ vs) (more-node nodes k (depth + 1) (λ c h. preorder-more nodes k (depth + 1) c h) (slice_get nodes n) e)

true-false : true ≡ false → ⊥
true-false e = cc

new-go : (b : Bool) (n : ℕ) (rest : Option MapRefusal) → cond b (Some (NodeTwice n)) rest ≡ None → b ≡ false
new-go true n rest e = cc
new-go false n rest e = refl

-- a visit that is not refused is of a node that was not reached
visit-new : (reached : List Bool) (v : Visit) → visit_refusal reached v ≡ None → slice_index_or reached v.node false ≡ false
unfolding visit_refusal
visit-new reached v e = new-go (slice_index_or reached v.node false) v.node _ e

-- every visit is of a node that is there
abbrev pub AreInside : List Bool → List Visit → Type 0
AreInside reached vs = (v : Visit) (i : ℕ) → i < length vs → (slice_index_or vs i v).node < length reached

inside-rest : (reached : List Bool) (v : Visit) (vs : List Visit) → AreInside reached (v ∷ vs) → AreInside (slice_set reached v.node true) vs
inside-rest reached v vs inside w i l = rw (length-set reached v.node true) (inside w (suc i) (omega arith))

-- a node that is visited is reached from then on
set-mark : (reached : List Bool) (v : Visit) → v.node < length reached → slice_index_or (slice_set reached v.node true) v.node false ≡ true
set-mark reached v l = get_or-set_same reached v.node true false l

-- where no visit is refused, none is of a node that was reached before
pub unreached : (reached : List Bool) (vs : List Visit) → AreInside reached vs → visits_refusal reached vs ≡ None → (i : ℕ) (d : Visit) → i < length vs →
    slice_index_or reached (slice_index_or vs i d).node false ≡ false
unfolding visits_refusal
unreached reached [] inside e i d l = absurd (omega arith)
unreached reached (v ∷ vs) inside e zero d l = visit-new reached v (or_else-none _ _ e).0
unreached reached (v ∷ vs) inside e (suc i) d l =
    let node_marked = set-mark reached v (inside v zero (omega arith)) in
    let unreached_in_rest = unreached (slice_set reached v.node true) vs (inside-rest reached v vs inside) (or_else-none _ _ e).1 i d (omega arith) in
    elim (cases_eq (slice_index_or vs i d).node v.node) [
      | inl same ↦
          absurd (true-false (sym node_marked ∙ ap (λ q. slice_index_or (slice_set reached v.node true) q false) (sym same) ∙ unreached_in_rest))
      | inr other ↦ sym (get_or-set_other reached v.node (slice_index_or vs i d).node true false other) ∙ unreached_in_rest
    ]

-- and no two are of one node
pub once : (reached : List Bool) (vs : List Visit) → AreInside reached vs → visits_refusal reached vs ≡ None → AreOnce vs
unfolding visits_refusal
once reached [] inside e i j d l m = absurd (omega arith)
once reached (v ∷ vs) inside e i zero d l m = absurd (omega arith)
once reached (v ∷ vs) inside e zero (suc j) d l m = λ same.
    let node_marked = set-mark reached v (inside v zero (omega arith)) in
    let unreached_in_rest = unreached (slice_set reached v.node true) vs (inside-rest reached v vs inside) (or_else-none _ _ e).1 j d (omega arith) in
    true-false (sym node_marked ∙ ap (λ q. slice_index_or (slice_set reached v.node true) q false) same ∙ unreached_in_rest)
once reached (v ∷ vs) inside e (suc i) (suc j) d l m =
    once (slice_set reached v.node true) vs (inside-rest reached v vs inside) (or_else-none _ _ e).1 i j d (omega arith) (omega arith)

-- both children of a node are there
abbrev pub has_children : ℕ → ℕ → Node → Bool
has_children nodes leaves node = is_there nodes leaves (child_on node 0) && is_there nodes leaves (child_on node 1)

inside-found : (nodes leaves : ℕ) (visits : Child → List Visit) → ((c : Child) → is_there nodes leaves c ≡ true → list_all (λ v. nat_lt v.node nodes) (visits c) ≡ true) → (found : Option Node) → option_map_or (has_children nodes leaves) found true ≡ true → list_all (λ v. nat_lt v.node nodes) (visits_of visits found) ≡ true
unfolding visits_of
inside-found nodes leaves visits h None e = refl
inside-found nodes leaves visits h (Some node) e =
    let children_there = and_parts _ _ e in
    list_all-append (λ v. nat_lt v.node nodes) (visits (child_on node 0)) (visits (child_on node 1)) ∙ rw (h (child_on node 0) children_there.0, h (child_on node 1) children_there.1) refl

found-children : (count leaves : ℕ) (some : List Node) (n : ℕ) → list_all (has_children count leaves) some ≡ true →
    option_map_or (has_children count leaves) (slice_get some n) true ≡ true
found-children count leaves [] n e = refl
found-children count leaves (x ∷ xs) zero e = (and_parts _ _ e).0
found-children count leaves (x ∷ xs) (suc n) e = found-children count leaves xs n (and_parts _ _ e).1

-- where each child is there, so is each node that is visited
pub preorder-inside : (nodes : List Node) (count leaves levels depth : ℕ) (c : Child) → list_all (has_children count leaves) nodes ≡ true →
    is_there count leaves c ≡ true → list_all (λ v. nat_lt v.node count) (preorder nodes levels depth c) ≡ true
unfolding preorder is_there
preorder-inside nodes count leaves zero depth c e q = refl
preorder-inside nodes count leaves (suc levels) depth (LeafChild leaf) e q = refl
preorder-inside nodes count leaves (suc levels) depth (NodeChild n) e q =
    rw (q, inside-found count leaves (preorder nodes levels (depth + 1)) (λ c h. preorder-inside nodes count leaves levels (depth + 1) c e h) (slice_get nodes n) (found-children count leaves nodes n e)) refl

-- the root is there
pub root-there : (nodes : List Node) (leaves : ℕ) → 0 < leaves → is_there (length nodes) leaves (root_of nodes) ≡ true
unfolding is_there root_of
root-there [] leaves l = grind arith
root-there (n ∷ nodes) leaves l = grind arith

-- where no visit from the start is refused, no node is visited twice
once-all : (nodes : List Node) (reached : List Bool) (vs : List Visit) → length reached ≡ length nodes →
    list_all (λ v. nat_lt v.node (length nodes)) vs ≡ true → visits_refusal reached vs ≡ None → AreOnce vs
once-all nodes reached vs l e h = once reached vs (λ v i m. let is_number : nat_lt (slice_index_or vs i v).node (length nodes) ≡ true = AllPass-from_list_all (λ (v : Visit). nat_lt v.node (length nodes)) vs e i v m in rw l (grind (arith, is_number))) h

-- nodes whose children are there, and of which none is refused, are a tree
pub tree_refusal-none : (nodes : List Node) (leaves : ℕ) → 0 < leaves → list_all (has_children (length nodes) leaves) nodes ≡ true → tree_refusal nodes ≡ None →
    IsTree nodes (root_of nodes)
unfolding tree_refusal
tree_refusal-none nodes leaves l e h =
    let inside = preorder-inside nodes (length nodes) leaves (MAX_DEPTH + 1) 1 (root_of nodes) e (root-there nodes leaves l) in
    let limited : is_within nodes MAX_DEPTH (root_of nodes) ≡ true = within nodes MAX_DEPTH 1 (root_of nodes) (replicate (length nodes) false) refl h in
    let visits_same : preorder nodes (MAX_DEPTH + 1) 1 (root_of nodes) ≡ preorder nodes MAX_DEPTH 1 (root_of nodes) = preorder-more nodes MAX_DEPTH 1 (root_of nodes) limited in
    let visits_once = once-all nodes (replicate (length nodes) false) (preorder nodes (MAX_DEPTH + 1) 1 (root_of nodes)) (length-replicate (length nodes) false) inside h in
    record { within = limited; once = subst (λ vs. AreOnce vs) visits_same visits_once }
