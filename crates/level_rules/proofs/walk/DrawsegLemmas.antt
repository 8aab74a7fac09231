-- Laws of the fragments of a list of events to which one more is added.
use Rattle.word_rules.proofs.Common.{[], ap, append-nil, arith, length, length-take, length_push, List, refl, sym, take, take-append-le, take_all, ℕ, ◌++◌, ◌<◌, ◌∙◌, ◌∷◌, ◌≡◌, ◌≤◌}
use Rattle.level_rules.specs.{declared.walk.TheConstants.MAX_DRAWSEGS, walk.Events.Event}
use Rattle.level_rules.specs.walk.Events.Event.{LeafEvent, FragmentEvent}
use Rattle.level_rules.specs.walk.Drawsegs.{LeafFragment, last_leaf, leaf_fragments, drawsegs, leaves_entered}

pub leaf_fragments-append : (leaf : ℕ) (xs ys : List Event) → leaf_fragments leaf (xs ++ ys) ≡ leaf_fragments leaf xs ++ leaf_fragments (last_leaf leaf xs) ys
unfolding leaf_fragments last_leaf
leaf_fragments-append leaf [] ys = refl
leaf_fragments-append leaf (LeafEvent n ∷ xs) ys = leaf_fragments-append n xs ys
leaf_fragments-append leaf (FragmentEvent seg first last ∷ xs) ys = rw (leaf_fragments-append leaf xs ys) refl

pub last_leaf-append : (leaf : ℕ) (xs ys : List Event) → last_leaf leaf (xs ++ ys) ≡ last_leaf (last_leaf leaf xs) ys
unfolding last_leaf
last_leaf-append leaf [] ys = refl
last_leaf-append leaf (LeafEvent n ∷ xs) ys = last_leaf-append n xs ys
last_leaf-append leaf (FragmentEvent seg first last ∷ xs) ys = last_leaf-append leaf xs ys

pub leaves_entered-append : (xs ys : List Event) → leaves_entered (xs ++ ys) ≡ leaves_entered xs ++ leaves_entered ys
unfolding leaves_entered
leaves_entered-append [] ys = refl
leaves_entered-append (LeafEvent n ∷ xs) ys = rw (leaves_entered-append xs ys) refl
leaves_entered-append (FragmentEvent seg first last ∷ xs) ys = leaves_entered-append xs ys

-- a leaf adds no fragment
pub drawsegs-leaf : (es : List Event) (n : ℕ) → drawsegs (es ++ LeafEvent n ∷ []) ≡ drawsegs es
unfolding drawsegs leaf_fragments
drawsegs-leaf es n = ap (take MAX_DRAWSEGS) (leaf_fragments-append 0 es (LeafEvent n ∷ []) ∙ append-nil (leaf_fragments 0 es))

-- a fragment is added, seen from the leaf that was entered last, while there is room
pub drawsegs-room : (es : List Event) (seg first last : ℕ) → length (leaf_fragments 0 es) < MAX_DRAWSEGS →
    drawsegs (es ++ FragmentEvent seg first last ∷ []) ≡ drawsegs es ++ record { leaf = last_leaf 0 es; seg = seg; first = first; last = last } ∷ []
unfolding drawsegs leaf_fragments
drawsegs-room es seg first last h =
    let fragment : LeafFragment = record { leaf = last_leaf 0 es; seg = seg; first = first; last = last } in
    let fragment_added : leaf_fragments 0 (es ++ FragmentEvent seg first last ∷ []) ≡ leaf_fragments 0 es ++ (fragment ∷ []) = leaf_fragments-append 0 es (FragmentEvent seg first last ∷ []) in
    ap (take MAX_DRAWSEGS) fragment_added
    ∙ take_all MAX_DRAWSEGS (leaf_fragments 0 es ++ (fragment ∷ [])) (omega (arith, length_push (leaf_fragments 0 es) fragment))
    ∙ ap (λ (fs : List LeafFragment). fs ++ (fragment ∷ [])) (sym (take_all MAX_DRAWSEGS (leaf_fragments 0 es) (omega arith)))

-- past the most that a view keeps nothing is added
pub drawsegs-full : (es : List Event) (seg first last : ℕ) → MAX_DRAWSEGS ≤ length (leaf_fragments 0 es) →
    drawsegs (es ++ FragmentEvent seg first last ∷ []) ≡ drawsegs es
unfolding drawsegs leaf_fragments
drawsegs-full es seg first last h =
    let fragment : LeafFragment = record { leaf = last_leaf 0 es; seg = seg; first = first; last = last } in
    let fragment_added : leaf_fragments 0 (es ++ FragmentEvent seg first last ∷ []) ≡ leaf_fragments 0 es ++ (fragment ∷ []) = leaf_fragments-append 0 es (FragmentEvent seg first last ∷ []) in
    ap (take MAX_DRAWSEGS) fragment_added ∙ take-append-le MAX_DRAWSEGS (leaf_fragments 0 es) (fragment ∷ []) h

-- there is room exactly where fewer are drawn than a view keeps
pub room-drawsegs : (es : List Event) → length (drawsegs es) < MAX_DRAWSEGS → length (leaf_fragments 0 es) < MAX_DRAWSEGS
unfolding drawsegs
room-drawsegs es h = omega (arith, length-take MAX_DRAWSEGS (leaf_fragments 0 es))

pub full-drawsegs : (es : List Event) → MAX_DRAWSEGS ≤ length (drawsegs es) → MAX_DRAWSEGS ≤ length (leaf_fragments 0 es)
unfolding drawsegs
full-drawsegs es h = omega (arith, length-take MAX_DRAWSEGS (leaf_fragments 0 es))

pub drawsegs-within : (es : List Event) → length (drawsegs es) ≤ MAX_DRAWSEGS
unfolding drawsegs
drawsegs-within es = omega (arith, length-take MAX_DRAWSEGS (leaf_fragments 0 es))
