-- Where nothing is refused, the level is sound.
use Rattle.word_rules.proofs.Common.{[], All, and-true_true, and_parts, arith, bit_and, Bool, cond, false, ForSome, get_or, length, length-map, List, list_all, list_all-from_AllPass, map, None, not, pos, refl, slice_index_or, Some, subst, true, ℕ, ◌&&◌, ◌-◌, ◌<◌, ◌==◌, ◌∷◌, ◌≡◌, get_or-map}
use Rattle.level_rules.specs.{declared.Side.Side, declared.Node.Node}
use Rattle.level_rules.specs.{declared.TheConstants.TWO_SIDED, Levels.child_on, Levels.no_seg}
use Rattle.level_rules.specs.declared.maps.records.MapLine.{MapLine}
use Rattle.level_rules.specs.declared.maps.records.MapSeg.{MapSeg}
use Rattle.level_rules.specs.declared.maps.records.MapLeaf.{MapLeaf}
use Rattle.level_rules.specs.{declared.maps.lumps.TheConstants.NO_SIDE, maps.Firsts.first_refusal}
use Rattle.level_rules.specs.maps.Ranges.{is_there, leaf_refusal, line_by, line_field, line_refusal, node_refusal, seg_field, seg_refusal, side_on, side_refusal}
use Rattle.level_rules.specs.maps.Levels.{MapRecords, back_sector, has_back, joined_leaves, joined_level, joined_segs, leaf_of, no_leaf_refusal, records_refusal, sector_of, seg_between, seg_of}
use Rattle.level_rules.specs.maps.Sound.{HasCounts, HasFewRecords, IsLeafIn, IsNodeIn, IsSegIn, IsSound}
use Rattle.level_rules.proofs.maps.FirstLemmas.{first_refusal-none}
use Rattle.level_rules.proofs.maps.JoinLemmas.{length-joined_segs, line_by-none, records_refusal-none}
use Rattle.level_rules.proofs.maps.RangeLemmas.{has_side-parts, leaf_refusal-none, node_refusal-none, seg_field-none, seg_refusal-none, side_on-there, side_refusal-none}
use Rattle.level_rules.proofs.maps.TreeLemmas.{has_children, root-there, tree_refusal-none}

-- each side has a sector
abbrev AreSidesIn : ℕ → List Side → Type 0
AreSidesIn sectors sides = All (λ side. side.sector < sectors) sides

sector_of-there : (sectors : ℕ) (sides : List Side) (i : ℕ) → AreSidesIn sectors sides → i < length sides → sector_of sides i < sectors
unfolding sector_of
sector_of-there sectors sides i h l =
    let no_side : Side = record { x_offset = pos 0; y_offset = pos 0; top = []; bottom = []; middle = []; sector = 0 } in
    let sector_is : slice_index_or (map (λ (side : Side). side.sector) sides) i 0 ≡ (slice_index_or sides i no_side).sector = get_or-map (λ (side : Side). side.sector) sides i no_side 0 l in
    rw sector_is (h i no_side l)

not-true : (b : Bool) → not b ≡ true → b ≡ false
not-true true e = cc
not-true false e = refl

back-go : (sectors : ℕ) (b : Bool) (sector : ℕ) → (b ≡ true → sector < sectors) → ForSome (cond b (Some sector) None) (λ s. s < sectors)
back-go sectors true sector h s e = let sectors_same : sector ≡ s = cc in subst (λ n. n < sectors) sectors_same (h refl)
back-go sectors false sector h s e = cc

back_sector-there : (sectors : ℕ) (sides : List Side) (line : MapLine) (side : ℕ) → AreSidesIn sectors sides → line_field (length sides) line ≡ None →
    ForSome (back_sector sides line side) (λ s. s < sectors)
unfolding back_sector has_back
back_sector-there sectors sides line side h e =
    back-go sectors (not (bit_and line.flags TWO_SIDED == 0) && not (side_on line (1 - side) == NO_SIDE)) (sector_of sides (side_on line (1 - side))) (λ t.
    let side_there = side_on-there (length sides) (1 - side) line e (not-true _ (and_parts _ _ t).1) in
    sector_of-there sectors sides (side_on line (1 - side)) h side_there)

seg-in : (m : MapRecords) (seg : MapSeg) → AreSidesIn (length m.sectors) m.sides → first_refusal (line_refusal (length m.sides)) 0 m.lines ≡ None →
    seg_field (length m.vertexes) m.lines seg ≡ None → IsSegIn (joined_level m) (seg_of m.sides m.lines m.vertexes seg)
unfolding joined_level seg_of seg_between
seg-in m seg sides lines e =
    let seg_fields_right = seg_field-none (length m.vertexes) m.lines seg e in
    let line : line_field (length m.sides) (line_by m.lines seg.line) ≡ None = line_by-none (length m.sides) m.lines seg.line lines seg_fields_right.2 in
    let side : side_on (line_by m.lines seg.line) seg.side < length m.sides = side_on-there (length m.sides) seg.side (line_by m.lines seg.line) line (has_side-parts _ _ seg_fields_right.3).1 in
    record { side = side; front = sector_of-there (length m.sectors) m.sides _ sides side; back = back_sector-there (length m.sectors) m.sides (line_by m.lines seg.line) seg.side sides line }

segs-in : (m : MapRecords) → AreSidesIn (length m.sectors) m.sides → first_refusal (line_refusal (length m.sides)) 0 m.lines ≡ None →
    first_refusal (seg_refusal (length m.vertexes) m.lines) 0 m.segs ≡ None → All (IsSegIn (joined_level m)) (joined_segs m)
unfolding joined_segs
segs-in m sides lines segs k d l =
    let no_map_seg : MapSeg = record { start = 0; end = 0; angle = 0; line = 0; side = 0; offset = pos 0 } in
    let inside : k < length m.segs = simp length-map at l in
    let seg_is = get_or-map (seg_of m.sides m.lines m.vertexes) m.segs k no_map_seg d inside in
    rw seg_is (seg-in m (get_or m.segs k no_map_seg) sides lines (seg_refusal-none (length m.vertexes) m.lines _ _ (first_refusal-none (seg_refusal (length m.vertexes) m.lines) 0 m.segs segs k no_map_seg inside)))

length-joined_leaves : (m : MapRecords) → length (joined_leaves m) ≡ length m.leaves
unfolding joined_leaves
length-joined_leaves m = length-map m.leaves (leaf_of (joined_segs m))

leaf-in : (m : MapRecords) (leaf : MapLeaf) (n : ℕ) → All (IsSegIn (joined_level m)) (joined_segs m) → leaf_refusal (length m.segs) n leaf ≡ None →
    IsLeafIn (joined_level m) (leaf_of (joined_segs m) leaf)
unfolding joined_level leaf_of
leaf-in m leaf n segs e =
    let leaf_is_right = leaf_refusal-none (length m.segs) n leaf e in
    let segs_as_many = length-joined_segs m in
    let has_first : leaf.first < length (joined_segs m) = omega (arith, leaf_is_right.0, leaf_is_right.1, segs_as_many) in
    record { count = leaf_is_right.0; last = omega (arith, leaf_is_right.1, segs_as_many); sector = (segs leaf.first no_seg has_first).front }

leaves-in : (m : MapRecords) → All (IsSegIn (joined_level m)) (joined_segs m) → first_refusal (leaf_refusal (length m.segs)) 0 m.leaves ≡ None →
    All (IsLeafIn (joined_level m)) (joined_leaves m)
unfolding joined_leaves
leaves-in m segs leaves k d l =
    let no_leaf : MapLeaf = record { count = 0; first = 0 } in
    let inside : k < length m.leaves = simp length-map at l in
    let leaf_is = get_or-map (leaf_of (joined_segs m)) m.leaves k no_leaf d inside in
    rw leaf_is (leaf-in m (get_or m.leaves k no_leaf) _ segs (first_refusal-none (leaf_refusal (length m.segs)) 0 m.leaves leaves k no_leaf inside))

nodes-there : (nodes : List Node) (leaves : ℕ) → first_refusal (node_refusal (length nodes) leaves) 0 nodes ≡ None →
    All (λ node. (is_there (length nodes) leaves (child_on node 0) ≡ true) × (is_there (length nodes) leaves (child_on node 1) ≡ true)) nodes
nodes-there nodes leaves e k d l = node_refusal-none (length nodes) leaves _ _ (first_refusal-none (node_refusal (length nodes) leaves) 0 nodes e k d l)

nodes-children : (nodes : List Node) (leaves : ℕ) → first_refusal (node_refusal (length nodes) leaves) 0 nodes ≡ None →
    list_all (has_children (length nodes) leaves) nodes ≡ true
nodes-children nodes leaves e =
    list_all-from_AllPass (has_children (length nodes) leaves) nodes (λ k d l. let children_there = nodes-there nodes leaves e k d l in and-true_true _ _ children_there.0 children_there.1)

nodes-in : (m : MapRecords) → first_refusal (node_refusal (length m.nodes) (length m.leaves)) 0 m.nodes ≡ None → All (IsNodeIn (joined_level m)) m.nodes
unfolding joined_level
nodes-in m e k d l =
    let children_there = nodes-there m.nodes (length m.leaves) e k d l in
    record { front = rw (length-joined_leaves m) children_there.0; back = rw (length-joined_leaves m) children_there.1 }

some-leaf : (leaves : List MapLeaf) → no_leaf_refusal leaves ≡ None → 0 < length leaves
unfolding no_leaf_refusal
some-leaf [] e = cc
some-leaf (leaf ∷ leaves) e = omega arith

counts : (m : MapRecords) → HasFewRecords m → HasCounts (joined_level m)
unfolding joined_level
counts m few =
    record { things = few.things; sides = few.sides; segs = omega (arith, few.segs, length-joined_segs m); leaves = omega (arith, few.leaves, length-joined_leaves m); nodes = few.nodes; sectors = few.sectors }

-- the level of records that are not refused is sound
pub joined_level-sound : (m : MapRecords) → HasFewRecords m → records_refusal m ≡ None → IsSound (joined_level m)
unfolding joined_level
joined_level-sound m few e =
    let records_right = records_refusal-none m e in
    let sides_in : AreSidesIn (length m.sectors) m.sides = (λ k d l. side_refusal-none (length m.sectors) _ _ (first_refusal-none (side_refusal (length m.sectors)) 0 m.sides records_right.sides k d l)) in
    let segs_in = segs-in m sides_in records_right.lines records_right.segs in
    let has_leaf = some-leaf m.leaves records_right.leaf in
    record {
      counts = counts m few;
      sides = sides_in;
      segs = segs_in;
      leaves = leaves-in m segs_in records_right.leaves;
      nodes = nodes-in m records_right.nodes;
      root = rw (length-joined_leaves m) (root-there m.nodes (length m.leaves) has_leaf);
      tree = tree_refusal-none m.nodes (length m.leaves) has_leaf (nodes-children m.nodes (length m.leaves) records_right.nodes) records_right.tree;
    }
