-- A level in which each number names something that is there, and the nodes are a tree.
use Rattle.std.specs.Prelude.{◌≡◌, ◌+◌, ◌<◌, ◌≤◌, true, List, length, All}
use Rattle.std.specs.Option.{ForSome}
use Rattle.level_rules.specs.{declared.Seg.Seg, declared.Leaf.Leaf, declared.Node.Node}
use Rattle.level_rules.specs.{declared.Child.Child, declared.TheConstants.MAX_DEPTH}
use Rattle.level_rules.specs.{Levels.child_on, declared.maps.lumps.TheConstants.MAX_RECORDS}
use Rattle.level_rules.specs.{maps.Levels.LevelValue, maps.Levels.MapRecords, maps.Ranges.is_there}
use Rattle.level_rules.specs.maps.Trees.{AreOnce, is_within, preorder}

-- records of lumps none of which has too many
pub record HasFewRecords (m : MapRecords) : Type 0 where
  pub things : length m.things ≤ MAX_RECORDS
  pub lines : length m.lines ≤ MAX_RECORDS
  pub sides : length m.sides ≤ MAX_RECORDS
  pub vertexes : length m.vertexes ≤ MAX_RECORDS
  pub segs : length m.segs ≤ MAX_RECORDS
  pub leaves : length m.leaves ≤ MAX_RECORDS
  pub nodes : length m.nodes ≤ MAX_RECORDS
  pub sectors : length m.sectors ≤ MAX_RECORDS

-- of each list of a level at most so many, so that each entry has a number of two bytes
pub record HasCounts (level : LevelValue) : Type 0 where
  pub things : length level.things ≤ MAX_RECORDS
  pub sides : length level.sides ≤ MAX_RECORDS
  pub segs : length level.segs ≤ MAX_RECORDS
  pub leaves : length level.leaves ≤ MAX_RECORDS
  pub nodes : length level.nodes ≤ MAX_RECORDS
  pub sectors : length level.sectors ≤ MAX_RECORDS

-- a seg has a side and a sector in front, and where it has one behind, that is there too
pub record IsSegIn (level : LevelValue) (seg : Seg) : Type 0 where
  pub side : seg.side < length level.sides
  pub front : seg.front < length level.sectors
  pub back : ForSome seg.back (λ sector. sector < length level.sectors)

-- a leaf has at least one seg, the last of them is there, and it stands in a sector
pub record IsLeafIn (level : LevelValue) (leaf : Leaf) : Type 0 where
  pub count : 0 < leaf.count
  pub last : leaf.first + leaf.count ≤ length level.segs
  pub sector : leaf.sector < length level.sectors

-- a child is a node or a leaf that is there
abbrev pub IsChildIn : LevelValue → Child → Type 0
IsChildIn level child = is_there (length level.nodes) (length level.leaves) child ≡ true

pub record IsNodeIn (level : LevelValue) (node : Node) : Type 0 where
  pub front : IsChildIn level (child_on node 0)
  pub back : IsChildIn level (child_on node 1)

-- from the root no way to a leaf has more than so many nodes, and no node is reached twice
pub record IsTree (nodes : List Node) (root : Child) : Type 0 where
  pub within : is_within nodes MAX_DEPTH root ≡ true
  pub once : AreOnce (preorder nodes MAX_DEPTH 1 root)

pub record IsSound (level : LevelValue) : Type 0 where
  pub counts : HasCounts level
  pub sides : All (λ side. side.sector < length level.sectors) level.sides
  pub segs : All (IsSegIn level) level.segs
  pub leaves : All (IsLeafIn level) level.leaves
  pub nodes : All (IsNodeIn level) level.nodes
  pub root : IsChildIn level level.root
  pub tree : IsTree level.nodes level.root
