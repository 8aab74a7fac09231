-- A part of a walk adds its events behind those that are there, and covers the same columns whatever they are.
use Rattle.word_rules.proofs.Common.{[], ap, append-nil, append_assoc, arith, Bool, cases_eq, cond, false, false≢true, inl, inr, List, map, None, Option, refl, replicate, Some, suc, sym, true, zero, ℕ, ◌++◌, ◌+◌, ◌-◌, ◌<◌, ◌==◌, ◌∙◌, ◌∷◌, ◌≡◌, ◌≤◌, ◌⊎◌}
use Rattle.node_walk.specs.Rules.{Behind, Box4, Child, ColumnRange, Columns, Event, FragmentEvent, Leaf, LeafEvent, LevelLists, Node, Outside, Seg, Surface, ViewValue, WalkState, at_columns, at_far, at_leaf, at_leaf_of, at_node, at_range, at_seg, at_seg_of, at_segs, back_of, box_on, box_passes, child_on, cover, covers, enters, eye_side, far_box, far_child, fragments, is_pass, is_solid, leaf_at, middle_of, near_child, node_at, seg_at, seg_range, shows, surface_at, walk_child, walk_start}
use Rattle.level_rules.specs.declared.Child.TheVariants.{Node as NodeChild, Leaf as LeafChild}
use Rattle.level_rules.proofs.walk.WalkLemmas.{walk-leaf, walk-node, at_segs-more}
use Rattle.node_walk.specs.Lists.{part_start}

-- a state behind some events
abbrev pub behind : List Event → WalkState → WalkState
behind es w = record { events = es ++ w.events; covered = w.covered }

same_events : (c : List Bool) (xs ys : List Event) → xs ≡ ys → record { events = xs; covered = c } ≡ behind [] (record { events = ys; covered = c })
same_events c xs ys e = ap (λ (es : List Event). record { events = es; covered = c }) e

behind-shows : (seg first last : ℕ) (es : List Event) (w : WalkState) → shows seg first last (behind es w) ≡ behind es (shows seg first last w)
unfolding shows
behind-shows seg first last es w = same_events w.covered _ _ (append_assoc es w.events (map (λ r. FragmentEvent seg r.0 r.1) (fragments w.covered first last)))

behind-covers : (first last : ℕ) (es : List Event) (w : WalkState) → covers first last (behind es w) ≡ behind es (covers first last w)
unfolding covers
behind-covers first last es w = refl

behind-at_columns : (solid pass : Bool) (seg first last : ℕ) (es : List Event) (w : WalkState) → at_columns solid pass seg first last (behind es w) ≡ behind es (at_columns solid pass seg first last w)
unfolding at_columns
behind-at_columns true pass seg first last es w =
    ap (covers first last) (behind-shows seg first last es w) ∙ behind-covers first last es (shows seg first last w)
behind-at_columns false true seg first last es w = behind-shows seg first last es w
behind-at_columns false false seg first last es w = refl

behind_by : (b : Bool) (es : List Event) (x y w : WalkState) → x ≡ behind es y → cond b (behind es w) x ≡ behind es (cond b w y)
behind_by true es x y w e = refl
behind_by false es x y w e = e

behind-at_range : (solid pass : Bool) (seg : ℕ) (range : ColumnRange) (es : List Event) (w : WalkState) → at_range solid pass seg range (behind es w) ≡ behind es (at_range solid pass seg range w)
unfolding at_range
behind-at_range solid pass seg Behind es w = refl
behind-at_range solid pass seg Outside es w = refl
behind-at_range solid pass seg (Columns x1 x2) es w = behind_by (x1 == x2) es _ _ w (behind-at_columns solid pass seg x1 (x2 - 1) es w)

behind-at_seg : (v : ViewValue) (level : LevelLists) (front : Surface) (n : ℕ) (es : List Event) (w : WalkState) → at_seg v level front n (behind es w) ≡ behind es (at_seg v level front n w)
unfolding at_seg at_seg_of
behind-at_seg v level front n es w =
    let seg = seg_at level n in
    behind-at_range (is_solid front (back_of level seg)) (is_pass front (back_of level seg) (middle_of level seg)) n (seg_range v seg) es w

behind-at_segs : (v : ViewValue) (level : LevelLists) (front : Surface) (first n : ℕ) (es : List Event) (w : WalkState) → at_segs v level front first n (behind es w) ≡ behind es (at_segs v level front first n w)
unfolding at_segs
behind-at_segs v level front first zero es w = refl
behind-at_segs v level front first (suc n) es w =
    ap (at_seg v level front (first + n)) (behind-at_segs v level front first n es w) ∙ behind-at_seg v level front (first + n) es (at_segs v level front first n w)

behind-at_leaf : (v : ViewValue) (level : LevelLists) (n : ℕ) (es : List Event) (w : WalkState) → at_leaf v level n (behind es w) ≡ behind es (at_leaf v level n w)
unfolding at_leaf at_leaf_of enters
behind-at_leaf v level n es w =
    let leaf = leaf_at level n in
    ap (at_segs v level (surface_at level leaf.sector) leaf.first leaf.count) (same_events w.covered _ _ (append_assoc es w.events (LeafEvent n ∷ [])))
    ∙ behind-at_segs v level (surface_at level leaf.sector) leaf.first leaf.count es (enters n w)

behind_passed : (b : Bool) (es : List Event) (x y w : WalkState) → x ≡ behind es y → cond b x (behind es w) ≡ behind es (cond b y w)
behind_passed true es x y w e = e
behind_passed false es x y w e = refl

module _ (v : ViewValue) (walk : Child → WalkState → WalkState) (local : (child : Child) (es : List Event) (w : WalkState) → walk child (behind es w) ≡ behind es (walk child w)) where
  behind-at_far : (node : Node) (es : List Event) (w : WalkState) → at_far v walk node (behind es w) ≡ behind es (at_far v walk node w)
  unfolding at_far
  behind-at_far node es w = behind_passed (box_passes v w.covered (far_box v node)) es _ _ w (local (far_child v node) es w)

  behind-at_node : (found : Option Node) (es : List Event) (w : WalkState) → at_node v walk found (behind es w) ≡ behind es (at_node v walk found w)
  unfolding at_node
  behind-at_node None es w = refl
  behind-at_node (Some node) es w = ap (at_far v walk node) (local (near_child v node) es w) ∙ behind-at_far node es (walk (near_child v node) w)

behind-walk_child : (v : ViewValue) (level : LevelLists) (depth : ℕ) (child : Child) (es : List Event) (w : WalkState) → walk_child v level depth child (behind es w) ≡ behind es (walk_child v level depth child w)
unfolding walk_child
behind-walk_child v level zero (LeafChild n) es w = behind-at_leaf v level n es w
behind-walk_child v level zero (NodeChild n) es w = refl
behind-walk_child v level (suc depth) (LeafChild n) es w = behind-at_leaf v level n es w
behind-walk_child v level (suc depth) (NodeChild n) es w = behind-at_node v (walk_child v level depth) (behind-walk_child v level depth) (node_at level n) es w

-- a state is a part's start behind the events that are there
part_of : (w : WalkState) → w ≡ behind w.events (part_start w.covered)
part_of w = ap (λ (es : List Event). record { events = es; covered = w.covered }) (sym (append-nil w.events))

-- the part of a leaf: the leaf, and then its segs
leaf_part : (v : ViewValue) (level : LevelLists) (n : ℕ) (leaf : Leaf) (front : Surface) (columns : List Bool) → leaf ≡ leaf_at level n → front ≡ surface_at level leaf.sector →
    at_leaf v level n (part_start columns) ≡ behind (LeafEvent n ∷ []) (at_segs v level front leaf.first leaf.count (part_start columns))
unfolding at_leaf at_leaf_of enters
leaf_part v level n leaf front columns e f =
    let leaf_first : at_segs v level front leaf.first leaf.count (behind (LeafEvent n ∷ []) (part_start columns)) ≡ behind (LeafEvent n ∷ []) (at_segs v level front leaf.first leaf.count (part_start columns)) =
    behind-at_segs v level front leaf.first leaf.count (LeafEvent n ∷ []) (part_start columns) in
    ap (λ (l : Leaf). at_segs v level (surface_at level l.sector) l.first l.count (behind (LeafEvent n ∷ []) (part_start columns))) (sym e)
    ∙ ap (λ (s : Surface). at_segs v level s leaf.first leaf.count (behind (LeafEvent n ∷ []) (part_start columns))) (sym f)
    ∙ leaf_first

-- the part of a child that is a leaf
pub child_part : (v : ViewValue) (level : LevelLists) (depth : ℕ) (child : Child) (n : ℕ) (leaf : Leaf) (front : Surface) (columns : List Bool) →
    child ≡ LeafChild n → leaf ≡ leaf_at level n → front ≡ surface_at level leaf.sector →
    walk_child v level depth child (part_start columns) ≡ behind (LeafEvent n ∷ []) (at_segs v level front leaf.first leaf.count (part_start columns))
child_part v level depth child n leaf front columns is e f =
    ap (λ (d : Child). walk_child v level depth d (part_start columns)) is ∙ walk-leaf v level depth n (part_start columns) ∙ leaf_part v level n leaf front columns e f

-- the part of so many segs, and of one more
pub segs_part : (v : ViewValue) (level : LevelLists) (front : Surface) (first k : ℕ) (columns now : List Bool) → now ≡ (at_segs v level front first k (part_start columns)).covered →
    at_segs v level front first (k + 1) (part_start columns) ≡ behind (at_segs v level front first k (part_start columns)).events (at_seg v level front (first + k) (part_start now))
segs_part v level front first k columns now e =
    let state_after_segs : WalkState = at_segs v level front first k (part_start columns) in
    sym (at_segs-more v level front first k (k + 1) (part_start columns) refl)
    ∙ ap (at_seg v level front (first + k)) (part_of state_after_segs)
    ∙ behind-at_seg v level front (first + k) state_after_segs.events (part_start state_after_segs.covered)
    ∙ ap (λ (c : List Bool). behind state_after_segs.events (at_seg v level front (first + k) (part_start c))) (sym e)

-- the events of fewer segs are the front of those of more
segs_front : (v : ViewValue) (level : LevelLists) (front : Surface) (first j n : ℕ) (columns : List Bool) → j ≤ n →
    (rest : List Event) × ((at_segs v level front first j (part_start columns)).events ++ rest ≡ (at_segs v level front first n (part_start columns)).events)
segs_front v level front first j zero columns l =
    let is_first : j ≡ zero = omega arith in
    ([], append-nil _ ∙ ap (λ (m : ℕ). (at_segs v level front first m (part_start columns)).events) is_first)
segs_front v level front first j (suc n) columns l =
    elim (cases_eq j (suc n)) [
      | inl e ↦ ([], append-nil _ ∙ ap (λ (m : ℕ). (at_segs v level front first m (part_start columns)).events) e)
      | inr ne ↦
          let rest_of : (rest : List Event) × ((at_segs v level front first j (part_start columns)).events ++ rest ≡ (at_segs v level front first n (part_start columns)).events) = segs_front v level front first j n columns (omega arith) in
          let now : List Bool = (at_segs v level front first n (part_start columns)).covered in
          let seg_events : List Event = (at_seg v level front (first + n) (part_start now)).events in
          let next_is_suc : n + 1 ≡ suc n = omega arith in (
            rest_of.0 ++ seg_events,
            sym (append_assoc (at_segs v level front first j (part_start columns)).events rest_of.0 seg_events)
                ∙ ap (λ (es : List Event). es ++ seg_events) rest_of.1
                ∙ sym (ap (λ (w : WalkState). w.events) (segs_part v level front first n columns now refl))
                ∙ ap (λ (m : ℕ). (at_segs v level front first m (part_start columns)).events) next_is_suc,
          )
    ]

-- the events of some segs, of the next one, and of the rest
pub segs_left : (v : ViewValue) (level : LevelLists) (front : Surface) (first k n : ℕ) (columns now : List Bool) → k < n → now ≡ (at_segs v level front first k (part_start columns)).covered →
    (rest : List Event) × ((at_segs v level front first k (part_start columns)).events ++ ((at_seg v level front (first + k) (part_start now)).events ++ rest) ≡ (at_segs v level front first n (part_start columns)).events)
segs_left v level front first k n columns now l e =
    let rest_of : (rest : List Event) × ((at_segs v level front first (k + 1) (part_start columns)).events ++ rest ≡ (at_segs v level front first n (part_start columns)).events) = segs_front v level front first (k + 1) n columns (omega arith) in (
      rest_of.0,
      sym (append_assoc (at_segs v level front first k (part_start columns)).events (at_seg v level front (first + k) (part_start now)).events rest_of.0)
          ∙ ap (λ (es : List Event). es ++ rest_of.0) (sym (ap (λ (w : WalkState). w.events) (segs_part v level front first k columns now e)))
          ∙ rest_of.1,
    )

-- the part of a node: the near child, and then what its far child comes to
far_part : (v : ViewValue) (level : LevelLists) (depth n side : ℕ) (node : Node) (columns : List Bool) → ¬ (depth ≡ 0) → node_at level n ≡ Some node → side ≡ eye_side v node →
    let near = walk_child v level (depth - 1) (child_on node side) (part_start columns) in
    walk_child v level depth (NodeChild n) (part_start columns) ≡ behind near.events (at_far v (walk_child v level (depth - 1)) node (part_start near.covered))
unfolding at_node near_child
far_part v level depth n side node columns deep found e =
    let walk : Child → WalkState → WalkState = walk_child v level (depth - 1) in
    let near : WalkState = walk (child_on node side) (part_start columns) in
    walk-node v level depth n (part_start columns) deep
    ∙ ap (λ (f : Option Node). at_node v walk f (part_start columns)) found
    ∙ ap (λ (s : ℕ). at_far v walk node (walk (child_on node s) (part_start columns))) (sym e)
    ∙ ap (at_far v walk node) (part_of near)
    ∙ behind-at_far v walk (behind-walk_child v level (depth - 1)) node near.events (part_start near.covered)

passed_by : (b : Bool) (x w : WalkState) → b ≡ true → cond b x w ≡ x
passed_by b x w e = rw e

failed_by : (b : Bool) (x w : WalkState) → b ≡ false → cond b x w ≡ w
failed_by b x w e = rw e

-- a child that is a node, whose near child is walked first
module _ (v : ViewValue) (level : LevelLists) (depth n side : ℕ) (child near : Child) (node : Node) (columns : List Bool) (is : child ≡ NodeChild n) (deep : ¬ (depth ≡ 0)) (found : node_at level n ≡ Some node) (beside : side ≡ eye_side v node) (first : near ≡ child_on node side) where
  node_part :
      let at_near = walk_child v level (depth - 1) near (part_start columns) in
      walk_child v level depth child (part_start columns) ≡ behind at_near.events (at_far v (walk_child v level (depth - 1)) node (part_start at_near.covered))
  node_part =
      ap (λ (d : Child). walk_child v level depth d (part_start columns)) is
      ∙ far_part v level depth n side node columns deep found beside
      ∙ ap (λ (d : Child). behind (walk_child v level (depth - 1) d (part_start columns)).events (at_far v (walk_child v level (depth - 1)) node (part_start (walk_child v level (depth - 1) d (part_start columns)).covered))) (sym first)

  -- the near child's events are the front of the node's
  pub node_front : (rest : List Event) × ((walk_child v level (depth - 1) near (part_start columns)).events ++ rest ≡ (walk_child v level depth child (part_start columns)).events)
  node_front = (
    (at_far v (walk_child v level (depth - 1)) node (part_start (walk_child v level (depth - 1) near (part_start columns)).covered)).events,
    sym (ap (λ (w : WalkState). w.events) node_part),
  )

  node_now : (now : List Bool) (b : Box4) → now ≡ (walk_child v level (depth - 1) near (part_start columns)).covered → b ≡ box_on node (1 - side) →
      let walk = walk_child v level (depth - 1) in
      walk_child v level depth child (part_start columns) ≡ behind (walk near (part_start columns)).events (cond (box_passes v now b) (walk (child_on node (1 - side)) (part_start now)) (part_start now))
  unfolding at_far far_box far_child
  node_now now b c e =
      let walk : Child → WalkState → WalkState = walk_child v level (depth - 1) in
      let at_near : WalkState = walk near (part_start columns) in
      node_part
      ∙ ap (λ (d : List Bool). behind at_near.events (at_far v walk node (part_start d))) (sym c)
      ∙ ap (λ (s : ℕ). behind at_near.events (cond (box_passes v now (box_on node (1 - s))) (walk (child_on node (1 - s)) (part_start now)) (part_start now))) (sym beside)
      ∙ ap (λ (d : Box4). behind at_near.events (cond (box_passes v now d) (walk (child_on node (1 - side)) (part_start now)) (part_start now))) (sym e)

  -- where the far box is not seen, they are all
  pub node_near : (now : List Bool) (b : Box4) → now ≡ (walk_child v level (depth - 1) near (part_start columns)).covered → b ≡ box_on node (1 - side) → box_passes v now b ≡ false →
      walk_child v level depth child (part_start columns) ≡ record { events = (walk_child v level (depth - 1) near (part_start columns)).events; covered = now }
  node_near now b c e fails =
      let at_near : WalkState = walk_child v level (depth - 1) near (part_start columns) in
      node_now now b c e
      ∙ ap (behind at_near.events) (failed_by (box_passes v now b) (walk_child v level (depth - 1) (child_on node (1 - side)) (part_start now)) (part_start now) fails)
      ∙ ap (λ (es : List Event). record { events = es; covered = now }) (append-nil at_near.events)

  -- where it is, the far child's events follow
  pub node_both : (now : List Bool) (b : Box4) (far : Child) → now ≡ (walk_child v level (depth - 1) near (part_start columns)).covered → b ≡ box_on node (1 - side) → box_passes v now b ≡ true → far ≡ child_on node (1 - side) →
      walk_child v level depth child (part_start columns) ≡ behind (walk_child v level (depth - 1) near (part_start columns)).events (walk_child v level (depth - 1) far (part_start now))
  node_both now b far c e passes last =
      let at_near : WalkState = walk_child v level (depth - 1) near (part_start columns) in
      node_now now b c e
      ∙ ap (behind at_near.events) (passed_by (box_passes v now b) (walk_child v level (depth - 1) (child_on node (1 - side)) (part_start now)) (part_start now) passes)
      ∙ ap (λ (d : Child). behind at_near.events (walk_child v level (depth - 1) d (part_start now))) (sym last)

-- the columns of a seg that is solid or a pass: its runs, which a solid one covers
pub shown_part : (solid pass : Bool) (seg first last : ℕ) (columns now : List Bool) (runs : List (ℕ × ℕ)) → (solid ≡ true) ⊎ (pass ≡ true) →
    runs ≡ fragments columns first last → now ≡ cond solid (cover columns first last) columns →
    at_columns solid pass seg first last (part_start columns) ≡ record { events = map (λ r. FragmentEvent seg r.0 r.1) runs; covered = now }
unfolding at_columns shows covers
shown_part true pass seg first last columns now runs shown e f = rw (e, f)
shown_part false pass seg first last columns now runs (inl solid) e f = absurd (false≢true solid)
shown_part false pass seg first last columns now runs (inr passes) e f = rw (passes, e, f)

-- those of another
pub no_part : (solid pass : Bool) (seg first last : ℕ) (columns : List Bool) → solid ≡ false → pass ≡ false → at_columns solid pass seg first last (part_start columns) ≡ part_start columns
unfolding at_columns
no_part solid pass seg first last columns e f = rw (e, f)

-- a seg that was read, by its range
module _ (v : ViewValue) (level : LevelLists) (front : Surface) (n : ℕ) (columns : List Bool) (seg : Seg) (is : seg ≡ seg_at level n) where
  pub unseen_part : (range : ColumnRange) → range ≡ seg_range v seg → ((x1 x2 : ℕ) → ¬ (range ≡ Columns x1 x2)) → at_seg v level front n (part_start columns) ≡ part_start columns
  unfolding at_seg at_seg_of at_range
  unseen_part Behind e none = rw (sym is, sym e)
  unseen_part Outside e none = rw (sym is, sym e)
  unseen_part (Columns x1 x2) e none = absurd (none x1 x2 refl)

  pub no_columns_part : (x1 x2 : ℕ) → Columns x1 x2 ≡ seg_range v seg → x1 ≡ x2 → at_seg v level front n (part_start columns) ≡ part_start columns
  unfolding at_seg at_seg_of at_range
  no_columns_part x1 x2 e f =
      let same_column : (x1 == x2) ≡ true = grind arith in rw (sym is, sym e, same_column)

  pub columns_part : (x1 x2 : ℕ) → Columns x1 x2 ≡ seg_range v seg → ¬ (x1 ≡ x2) →
      at_seg v level front n (part_start columns) ≡ at_columns (is_solid front (back_of level seg)) (is_pass front (back_of level seg) (middle_of level seg)) n x1 (x2 - 1) (part_start columns)
  unfolding at_seg at_seg_of at_range
  columns_part x1 x2 e f =
      let other_column : (x1 == x2) ≡ false = grind arith in rw (sym is, sym e, other_column)

-- the whole walk is the part of the root, where no column is covered
pub root_part : (v : ViewValue) (lists level : LevelLists) (depth : ℕ) (root : Child) (columns : List Bool) → lists ≡ level → root ≡ lists.root → columns ≡ replicate v.shape.width false →
    walk_child v level depth level.root (walk_start v.shape.width) ≡ walk_child v lists depth root (part_start columns)
unfolding walk_start
root_part v lists level depth root columns e f h =
    ap (λ (l : LevelLists). walk_child v l depth l.root (part_start (replicate v.shape.width false))) (sym e)
    ∙ ap (λ (r : Child). walk_child v lists depth r (part_start (replicate v.shape.width false))) (sym f)
    ∙ ap (λ (d : List Bool). walk_child v lists depth root (part_start d)) (sym h)
