-- What may be looked up by number for the segs and leaves of records that are not refused.
use Rattle.word_rules.proofs.Common.{arith, length, length-map, List, None, or_else-none, refl, slice_index_or, ℕ, ◌<◌, ◌≡◌}
use Rattle.level_rules.specs.{declared.Child.Child, declared.Leaf.Leaf, declared.Seg.Seg}
use Rattle.level_rules.specs.declared.maps.records.MapLine.{MapLine}
use Rattle.level_rules.specs.declared.maps.records.MapSeg.{MapSeg}
use Rattle.level_rules.specs.{declared.maps.records.MapLeaf.MapLeaf, maps.Firsts.first_refusal}
use Rattle.level_rules.specs.maps.Levels.{MapRecords, joined_leaves, joined_level, joined_segs, no_leaf_refusal, range_refusal, records_refusal, seg_of}
use Rattle.level_rules.specs.maps.Ranges.{leaf_refusal, line_by, line_field, line_refusal, no_line, node_refusal, seg_field, seg_refusal, side_refusal}
use Rattle.level_rules.specs.maps.Trees.{root_of, tree_refusal}
use Rattle.level_rules.proofs.maps.FirstLemmas.{first_refusal-none, or_else-five}
use Rattle.level_rules.proofs.maps.RangeLemmas.{leaf_refusal-none, line_refusal-none, seg_field-none, seg_refusal-none}

-- a line of a map is not refused
pub line_by-none : (sides : ℕ) (lines : List MapLine) (n : ℕ) → first_refusal (line_refusal sides) 0 lines ≡ None → n < length lines → line_field sides (line_by lines n) ≡ None
unfolding line_by
line_by-none sides lines n e l = line_refusal-none sides _ _ (first_refusal-none (line_refusal sides) 0 lines e n no_line l)

-- nor is a seg
pub seg_field-none_at : (vertexes : ℕ) (lines : List MapLine) (segs : List MapSeg) (k : ℕ) (d : MapSeg) → first_refusal (seg_refusal vertexes lines) 0 segs ≡ None → k < length segs → seg_field vertexes lines (slice_index_or segs k d) ≡ None
seg_field-none_at vertexes lines segs k d e l = seg_refusal-none vertexes lines _ _ (first_refusal-none (seg_refusal vertexes lines) 0 segs e k d l)

-- nor is the line of a seg
pub line_field-none_at : (sides vertexes : ℕ) (lines : List MapLine) (segs : List MapSeg) (k : ℕ) (d : MapSeg) → first_refusal (line_refusal sides) 0 lines ≡ None → first_refusal (seg_refusal vertexes lines) 0 segs ≡ None → k < length segs → line_field sides (line_by lines (slice_index_or segs k d).line) ≡ None
line_field-none_at sides vertexes lines segs k d e f l =
    line_by-none sides lines (slice_index_or segs k d).line e (seg_field-none vertexes lines (slice_index_or segs k d) (seg_field-none_at vertexes lines segs k d f l)).2

-- the first seg of a leaf is there
pub leaf_first-there : (segs : ℕ) (leaves : List MapLeaf) (k : ℕ) (d : MapLeaf) → first_refusal (leaf_refusal segs) 0 leaves ≡ None → k < length leaves → (slice_index_or leaves k d).first < segs
leaf_first-there segs leaves k d e l =
    let count_and_last = leaf_refusal-none segs _ (slice_index_or leaves k d) (first_refusal-none (leaf_refusal segs) 0 leaves e k d l) in
    omega (arith, count_and_last.0, count_and_last.1)

-- what holds of records of which nothing is refused
pub record AreRight (m : MapRecords) : Type 0 where
  pub leaf : no_leaf_refusal m.leaves ≡ None
  pub lines : first_refusal (line_refusal (length m.sides)) 0 m.lines ≡ None
  pub sides : first_refusal (side_refusal (length m.sectors)) 0 m.sides ≡ None
  pub segs : first_refusal (seg_refusal (length m.vertexes) m.lines) 0 m.segs ≡ None
  pub leaves : first_refusal (leaf_refusal (length m.segs)) 0 m.leaves ≡ None
  pub nodes : first_refusal (node_refusal (length m.nodes) (length m.leaves)) 0 m.nodes ≡ None
  pub tree : tree_refusal m.nodes ≡ None

pub records_refusal-none : (m : MapRecords) → records_refusal m ≡ None → AreRight m
unfolding records_refusal range_refusal
records_refusal-none m e =
    let leaf_and_others = or_else-none _ _ e in
    let lists_and_tree = or_else-none _ _ leaf_and_others.1 in
    let lists = or_else-five _ _ _ _ _ lists_and_tree.0 in
    record { leaf = leaf_and_others.0; lines = lists.0; sides = lists.1; segs = lists.2; leaves = lists.3; nodes = lists.4; tree = lists_and_tree.1 }

-- a level of these lists
pub joined_level-lists : (m : MapRecords) (segs : List Seg) (leaves : List Leaf) (root : Child) → segs ≡ joined_segs m → leaves ≡ joined_leaves m → root ≡ root_of m.nodes → record { things = m.things; sides = m.sides; segs = segs; leaves = leaves; nodes = m.nodes; sectors = m.sectors; root = root } ≡ joined_level m
unfolding joined_level
joined_level-lists m segs leaves root e f g = rw (e, f, g) refl

pub length-joined_segs : (m : MapRecords) → length (joined_segs m) ≡ length m.segs
unfolding joined_segs
length-joined_segs m = length-map m.segs (seg_of m.sides m.lines m.vertexes)

-- for `grind`: a loop over the segs or the leaves
pub ruleset joining = (seg_field-none_at, line_field-none_at, leaf_first-there)
