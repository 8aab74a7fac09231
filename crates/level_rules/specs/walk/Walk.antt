-- The walk of a level in a view (R_RenderBSPNode, R_Subsector, R_AddLine, r_bsp.c).
use Rattle.std.specs.Prelude.{ℕ, zero, suc, ◌+◌, ◌-◌, ◌==◌, Bool, false, cond, List, [], ◌∷◌, ◌++◌, map, replicate, Option, Some, None}
use Rattle.view_rules.specs.{View.ViewValue, declared.ColumnRange.ColumnRange}
use Rattle.view_rules.specs.declared.ColumnRange.TheVariants.{Behind, Outside, Columns}
use Rattle.level_rules.specs.{declared.Leaf.Leaf, declared.Node.Node, declared.Seg.Seg}
use Rattle.level_rules.specs.{declared.Surface.Surface, declared.Child.Child}
use Rattle.level_rules.specs.declared.Child.TheVariants.{Node as NodeChild, Leaf as LeafChild}
use Rattle.level_rules.specs.declared.TheConstants.{MAX_DEPTH}
use Rattle.level_rules.specs.Levels.{LevelLists, seg_at, leaf_at, node_at, surface_at}
use Rattle.level_rules.specs.walk.Covered.{fragments, cover}
use Rattle.level_rules.specs.walk.Boxes.{near_child, far_child, far_box, box_passes}
use Rattle.level_rules.specs.walk.Segs.{seg_range, back_of, middle_of, is_solid, is_pass}
use Rattle.level_rules.specs.walk.Events.{Event, WalkState}
use Rattle.level_rules.specs.walk.Events.Event.{LeafEvent, FragmentEvent}

-- before the walk no column is covered
unfoldable pub walk_start : ℕ → WalkState
walk_start width = record { events = []; covered = replicate width false }

-- the runs of columns first to last that are not covered are seen
unfoldable pub shows : ℕ → ℕ → ℕ → WalkState → WalkState
shows seg first last w =
    record { events = w.events ++ map (λ r. FragmentEvent seg r.0 r.1) (fragments w.covered first last); covered = w.covered }

unfoldable pub covers : ℕ → ℕ → WalkState → WalkState
covers first last w = record { events = w.events; covered = cover w.covered first last }

-- a solid seg is seen and covers, a pass is seen, another seg is nothing
unfoldable pub at_columns : Bool → Bool → ℕ → ℕ → ℕ → WalkState → WalkState
at_columns solid pass seg first last w =
    cond solid (covers first last (shows seg first last w)) (cond pass (shows seg first last w) w)

unfoldable pub at_range : Bool → Bool → ℕ → ColumnRange → WalkState → WalkState
at_range solid pass seg Behind w = w
at_range solid pass seg Outside w = w
at_range solid pass seg (Columns x1 x2) w = cond (x1 == x2) w (at_columns solid pass seg x1 (x2 - 1) w)

-- a seg of a leaf whose sector is front
unfoldable pub at_seg_of : ViewValue → LevelLists → Surface → ℕ → Seg → WalkState → WalkState
at_seg_of v level front n seg w =
    at_range (is_solid front (back_of level seg)) (is_pass front (back_of level seg) (middle_of level seg)) n (seg_range v seg) w

unfoldable pub at_seg : ViewValue → LevelLists → Surface → ℕ → WalkState → WalkState
at_seg v level front n w = at_seg_of v level front n (seg_at level n) w

-- n segs from number first on
unfoldable pub at_segs : ViewValue → LevelLists → Surface → ℕ → ℕ → WalkState → WalkState
at_segs v level front first zero w = w
at_segs v level front first (suc n) w = at_seg v level front (first + n) (at_segs v level front first n w)

unfoldable pub enters : ℕ → WalkState → WalkState
enters leaf w = record { events = w.events ++ LeafEvent leaf ∷ []; covered = w.covered }

-- a leaf is entered, and its segs are taken from first to last
unfoldable pub at_leaf_of : ViewValue → LevelLists → ℕ → Leaf → WalkState → WalkState
at_leaf_of v level n leaf w = at_segs v level (surface_at level leaf.sector) leaf.first leaf.count (enters n w)

unfoldable pub at_leaf : ViewValue → LevelLists → ℕ → WalkState → WalkState
at_leaf v level n w = at_leaf_of v level n (leaf_at level n) w

-- the far child is walked only if some column of its box is still open
unfoldable pub at_far : ViewValue → (Child → WalkState → WalkState) → Node → WalkState → WalkState
at_far v walk node w = cond (box_passes v w.covered (far_box v node)) (walk (far_child v node) w) w

-- the near child is walked first, and then the far one
unfoldable pub at_node : ViewValue → (Child → WalkState → WalkState) → Option Node → WalkState → WalkState
at_node v walk None w = w
at_node v walk (Some node) w = at_far v walk node (walk (near_child v node) w)

-- the walk of a child under which nodes are at most depth deep; a leaf costs no depth, so that the leaves under the deepest node are walked too
unfoldable pub walk_child : ViewValue → LevelLists → ℕ → Child → WalkState → WalkState
walk_child v level zero (LeafChild n) w = at_leaf v level n w
walk_child v level zero (NodeChild n) w = w
walk_child v level (suc depth) (LeafChild n) w = at_leaf v level n w
walk_child v level (suc depth) (NodeChild n) w = at_node v (walk_child v level depth) (node_at level n) w

-- the events of a view, in order; a sound level is never deeper than this
unfoldable pub view_events : ViewValue → LevelLists → List Event
view_events v level = (walk_child v level MAX_DEPTH level.root (walk_start v.shape.width)).events
