-- The level of the lists of all eight lumps.
use Rattle.std.proofs.Common.{◌≡◌, ◌∙◌, List, None, subst, sym, ap}
use Rattle.map_lumps.specs.Rules.{Child, HasFewRecords, IsSound, Leaf, LevelValue, MapRecords, Seg, joined_leaves, joined_level, joined_segs, records_refusal, root_of}
use Rattle.level_rules.proofs.maps.JoinLemmas.{joined_level-lists}
use Rattle.level_rules.proofs.maps.SoundLemmas.{joined_level-sound}
use Rattle.map_lumps.specs.{declared.lists.MapLists.TheInside.Inside, Views.listed_records}

-- the lists with these segs, leaves and root are the joined level
pub joined_level-inside : (l : Inside) (m : MapRecords) (segs : List Seg) (leaves : List Leaf) (root : Child) → listed_records l ≡ m → segs ≡ joined_segs m → leaves ≡ joined_leaves m → root ≡ root_of m.nodes → record { things = l.things.items; sides = l.sides.items; segs = segs; leaves = leaves; nodes = l.nodes.items; sectors = l.sectors.items; root = root } ≡ joined_level m
joined_level-inside l m segs leaves root same e f g =
    joined_level-lists (listed_records l) segs leaves root (e ∙ ap joined_segs (sym same)) (f ∙ ap joined_leaves (sym same)) (g ∙ ap (λ (r : MapRecords). root_of r.nodes) (sym same))
    ∙ ap joined_level same

-- and are sound, where nothing is refused
pub inside-sound : (l : Inside) (m : MapRecords) (level : LevelValue) → listed_records l ≡ m → HasFewRecords (listed_records l) → records_refusal m ≡ None → level ≡ joined_level m → IsSound level
inside-sound l m level same few none e =
    subst IsSound (sym e) (joined_level-sound m (subst HasFewRecords same few) none)
