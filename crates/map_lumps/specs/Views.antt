-- What a contract sees of the private fields of `Level`, `LevelBuilder` and the lists between them.
use Rattle.std.specs.Prelude.{Vec, List, [], ◌∷◌, Option, Some, None, is_some}
use Rattle.level_rules.specs.maps.Levels.{LevelValue, MapRecords}
use Rattle.map_lumps.specs.Builders.{BuilderValue}
use Rattle.map_lumps.specs.declared.builder.LevelBuilder.TheInside.{Inside as BuilderFields}
use Rattle.map_lumps.specs.declared.level.Level.TheInside.{Inside as LevelFields}
use Rattle.map_lumps.specs.declared.lists.MapLists.TheInside.{Inside as ListFields}

-- the entries, none where there is no list
abbrev pub items_of : {X Z : Type 0} → Option (Vec X Z) → List X
items_of None = []
items_of (Some v) = v.items

abbrev pub added_records : BuilderFields → MapRecords
added_records b = record { things = items_of b.things; lines = items_of b.lines; sides = items_of b.sides; vertexes = items_of b.vertexes; segs = items_of b.segs; leaves = items_of b.leaves; nodes = items_of b.nodes; sectors = items_of b.sectors }

abbrev pub builder_value : BuilderFields → BuilderValue
builder_value b = record { map_records = added_records b; added = is_some b.things ∷ is_some b.lines ∷ is_some b.sides ∷ is_some b.vertexes ∷ is_some b.segs ∷ is_some b.leaves ∷ is_some b.nodes ∷ is_some b.sectors ∷ [] }

abbrev pub listed_records : ListFields → MapRecords
listed_records l = record { things = l.things.items; lines = l.lines.items; sides = l.sides.items; vertexes = l.vertexes.items; segs = l.segs.items; leaves = l.leaves.items; nodes = l.nodes.items; sectors = l.sectors.items }

abbrev pub level_value : LevelFields → LevelValue
level_value l = record { things = l.things.items; sides = l.sides.items; segs = l.segs.items; leaves = l.leaves.items; nodes = l.nodes.items; sectors = l.sectors.items; root = l.root }
