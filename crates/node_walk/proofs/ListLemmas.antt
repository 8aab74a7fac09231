-- The lists of a sound level are whole.
use Rattle.word_rules.proofs.Common.{All-weaker, arith, cases_eq, ForSome, inl, inr, length, List, ltb-true, subst, sym, true, ℕ, ◌<◌, ◌≡◌, ◌≤◌}
use Rattle.node_walk.specs.Rules.{Child, IsLeafIn, IsNodeIn, IsSegIn, IsSound, Leaf, LevelLists, LevelValue, Node, Seg, Surface, child_on, is_there}
use Rattle.level_rules.specs.declared.Child.TheVariants.{Node as NodeChild, Leaf as LeafChild}
use Rattle.node_walk.specs.Lists.{walk_lists, IsThere, IsSegOf, IsLeafOf, IsNodeOf, AreWhole}

there_child : (l : LevelLists) (child : Child) → is_there (length l.nodes) (length l.leaves) child ≡ true → IsThere l child
unfolding is_there
there_child l (NodeChild n) h = ltb-true n (length l.nodes) h
there_child l (LeafChild n) h = ltb-true n (length l.leaves) h

side_cases : (P : ℕ → Type 0) → P 0 → P 1 → (side : ℕ) → side ≤ 1 → P side
side_cases P zeroth first side h =
    elim (cases_eq side 0) [ inl e ↦ subst P (sym e) zeroth | inr n ↦ (let is_one : 1 ≡ side = omega arith in subst P is_one first) ]

module _ (level : LevelValue) (surfaces : List Surface) (middles : List ℕ) (sound : IsSound level) (es : length surfaces ≡ length level.sectors) (em : length middles ≡ length level.sides) where
  whole_seg : (seg : Seg) → IsSegIn level seg → IsSegOf (walk_lists level surfaces middles) seg
  whole_seg seg s = record {
    side = omega (arith, s.side);
    back = subst (λ (n : ℕ). ForSome seg.back (λ sector. sector < n)) (sym es) s.back;
  }

  whole_leaf : (leaf : Leaf) → IsLeafIn level leaf → IsLeafOf (walk_lists level surfaces middles) leaf
  whole_leaf leaf s = record { last = s.last; sector = omega (arith, s.sector) }

  whole_node : (node : Node) → IsNodeIn level node → IsNodeOf (walk_lists level surfaces middles) node
  whole_node node s = record {
    child = side_cases (λ side. IsThere (walk_lists level surfaces middles) (child_on node side))
        (there_child (walk_lists level surfaces middles) (child_on node 0) s.front)
        (there_child (walk_lists level surfaces middles) (child_on node 1) s.back);
  }

  pub lists-whole : AreWhole (walk_lists level surfaces middles)
  lists-whole = record {
    count = sound.counts.segs;
    segs = All-weaker (IsSegIn level) (IsSegOf (walk_lists level surfaces middles)) whole_seg level.segs sound.segs;
    leaves = All-weaker (IsLeafIn level) (IsLeafOf (walk_lists level surfaces middles)) whole_leaf level.leaves sound.leaves;
    nodes = All-weaker (IsNodeIn level) (IsNodeOf (walk_lists level surfaces middles)) whole_node level.nodes sound.nodes;
    root = there_child (walk_lists level surfaces middles) level.root sound.root;
    within = sound.tree.within;
  }

-- the lists as they are read one after the other
pub read_lists-whole : (level : LevelValue) (segs : List Seg) (leaves : List Leaf) (nodes : List Node) (root : Child) (surfaces : List Surface) (middles : List ℕ) → IsSound level →
    segs ≡ level.segs → leaves ≡ level.leaves → nodes ≡ level.nodes → root ≡ level.root → length surfaces ≡ length level.sectors → length middles ≡ length level.sides →
    AreWhole (record { segs = segs; leaves = leaves; nodes = nodes; root = root; surfaces = surfaces; middles = middles })
read_lists-whole level segs leaves nodes root surfaces middles sound a b c d es em =
    let lists_same : walk_lists level surfaces middles ≡ record { segs = segs; leaves = leaves; nodes = nodes; root = root; surfaces = surfaces; middles = middles } = cc in
    subst AreWhole lists_same (lists-whole level surfaces middles sound es em)
