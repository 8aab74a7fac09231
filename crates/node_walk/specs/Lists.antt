-- What the walk reads of a level, and what it may rely on there.
use Rattle.std.specs.Prelude.{◌≡◌, ℕ, ◌+◌, ◌<◌, ◌≤◌, Bool, true, List, [], length}
use Rattle.std.specs.List.{All}
use Rattle.std.specs.Option.{ForSome}
use Rattle.node_walk.specs.Rules.{Child, Leaf, LevelLists, LevelValue, MAX_DEPTH, MAX_RECORDS, Node, Seg, Surface, WalkState, child_on, is_within}
use Rattle.level_rules.specs.declared.Child.TheVariants.{Node as NodeChild, Leaf as LeafChild}
use Rattle.node_walk.specs.declared.scene.Lists.TheInside.{Inside}

-- the part of a level that the walk reads, with its surfaces and middle textures
abbrev pub walk_lists : LevelValue → List Surface → List ℕ → LevelLists
walk_lists level surfaces middles = record { segs = level.segs; leaves = level.leaves; nodes = level.nodes; root = level.root; surfaces = surfaces; middles = middles }

abbrev pub lists_value : Inside → LevelLists
lists_value l = record { segs = l.segs.now; leaves = l.leaves.now; nodes = l.nodes.now; root = l.root; surfaces = l.surfaces.now; middles = l.middles.now }

-- a node or a leaf that is there
abbrev pub IsThere : LevelLists → Child → Type 0
IsThere l (NodeChild n) = n < length l.nodes
IsThere l (LeafChild n) = n < length l.leaves

-- a seg has the middle texture of its side, and the surface behind it, where it has one
pub record IsSegOf (l : LevelLists) (seg : Seg) : Type 0 where
  pub side : seg.side < length l.middles
  pub back : ForSome seg.back (λ sector. sector < length l.surfaces)

-- the segs of a leaf are there, and so is its surface
pub record IsLeafOf (l : LevelLists) (leaf : Leaf) : Type 0 where
  pub last : leaf.first + leaf.count ≤ length l.segs
  pub sector : leaf.sector < length l.surfaces

-- both children of a node are there
pub record IsNodeOf (l : LevelLists) (node : Node) : Type 0 where
  pub child : (side : ℕ) → side ≤ 1 → IsThere l (child_on node side)

-- each number in the lists is in range, and no way from the root to a leaf is longer than the limit
pub record AreWhole (l : LevelLists) : Type 0 where
  pub count : length l.segs ≤ MAX_RECORDS
  pub segs : All (IsSegOf l) l.segs
  pub leaves : All (IsLeafOf l) l.leaves
  pub nodes : All (IsNodeOf l) l.nodes
  pub root : IsThere l l.root
  pub within : is_within l.nodes MAX_DEPTH l.root ≡ true

-- a part of the walk begins with no event of its own
abbrev pub part_start : List Bool → WalkState
part_start covered = record { events = []; covered = covered }
