-- Where the things of a level stand (P_SpawnMapThing, p_mobj.c; R_PointInSubsector, r_main.c).
use Rattle.std.specs.Prelude.{ℕ, zero, suc, ◌==◌, ◌&&◌, Bool, not, cond, nat_le, bit_and, ℤ, pos, int_div, List, [], ◌∷◌, ◌++◌, filter, map, reverse, Option, Some, None, slice_get, slice_index_or}
use Rattle.word_rules.specs.Words.{bits_of, minus, times, shl_word}
use Rattle.word_rules.specs.declared.TheConstants.{FRACTION_BITS, ANG45}
use Rattle.view_rules.specs.Sides.{side_of}
use Rattle.level_rules.specs.{declared.Thing.Thing, declared.Node.Node, declared.Sector.Sector}
use Rattle.level_rules.specs.{declared.Child.Child, declared.PlacedThing.PlacedThing}
use Rattle.level_rules.specs.declared.Child.TheVariants.{Node as NodeChild, Leaf as LeafChild}
use Rattle.level_rules.specs.{declared.TheConstants.MAX_DEPTH, Levels.child_on, Levels.no_leaf}
use Rattle.level_rules.specs.{walk.Boxes.partition_of, maps.Levels.LevelValue}
use Rattle.level_rules.specs.{declared.ThingRow.ThingRow, declared.ThingLine.ThingLine}
use Rattle.level_rules.specs.Types.{row_of}
use Rattle.art_rules.specs.declared.shapes.Need.{Need}
use Rattle.scene_rules.specs.declared.Placed.{Placed}
use Rattle.scene_rules.specs.declared.TheConstants.{EASY, NORMAL, HARD, NOT_ALONE, LAST_EASY, NORMAL_SKILL, EIGHTH_DEGREES}

-- the option of the things that stand in a skill of 1 to 5
unfoldable pub skill_option : ℕ → ℕ
skill_option skill = cond (nat_le skill LAST_EASY) EASY (cond (skill == NORMAL_SKILL) NORMAL HARD)

unfoldable pub is_in_skill : ℕ → ℕ → Bool
is_in_skill skill options = not (bit_and options (skill_option skill) == 0) && (bit_and options NOT_ALONE == 0)

-- how a thing looks that is placed; a type without a row is not
unfoldable pub placed_row : List ThingLine → ℕ → Thing → Option ThingRow
placed_row lines skill thing = cond (is_in_skill skill thing.options) (row_of lines thing.kind) None

-- the leaf to which the sides of the nodes' lines lead from a child on, over at most so many nodes
unfoldable pub leaf_below : (Child → ℕ) → Option Node → ℤ → ℤ → ℕ
leaf_below below None x y = 0
leaf_below below (Some node) x y = below (child_on node (side_of (partition_of node.line) x y))

unfoldable pub leaf_from : List Node → ℤ → ℤ → ℕ → Child → ℕ
leaf_from nodes x y levels (LeafChild leaf) = leaf
leaf_from nodes x y zero (NodeChild n) = 0
leaf_from nodes x y (suc levels) (NodeChild n) = leaf_below (leaf_from nodes x y levels) (slice_get nodes n) x y

-- the sector at a point
unfoldable pub sector_at : LevelValue → ℤ → ℤ → ℕ
sector_at level x y = (slice_index_or level.leaves (leaf_from level.nodes x y MAX_DEPTH level.root) no_leaf).sector

-- a thing is turned by whole eighths of a turn
unfoldable pub thing_angle : ℤ → ℕ
thing_angle degrees = bits_of (times (int_div degrees EIGHTH_DEGREES) (pos ANG45))

-- it stands on the floor, or hangs that many map units below the ceiling
abbrev pub no_sector : Sector
no_sector = record { floor = pos 0; ceiling = pos 0; floor_name = []; ceiling_name = []; light = pos 0 }

unfoldable pub thing_height : ℕ → Sector → ℤ
thing_height hang sector = cond (hang == 0) sector.floor (minus sector.ceiling (shl_word (pos hang) FRACTION_BITS))

unfoldable pub placed_thing : LevelValue → ℕ → Thing → ThingRow → ℕ → PlacedThing
placed_thing level number thing row sector = record {
  thing = number;
  x = thing.x;
  y = thing.y;
  z = thing_height row.hang (slice_index_or level.sectors sector no_sector);
  angle = thing_angle thing.angle;
  sprite = row.sprite;
  frame = row.frame;
  bright = row.bright;
}

unfoldable pub placed_in : LevelValue → ℕ → Thing → ThingRow → ℕ → Placed
placed_in level number thing row sector = record { sector = sector; row = row; thing = placed_thing level number thing row sector }

-- thing of that number, if it is placed
unfoldable pub placed_if : LevelValue → ℕ → Thing → Option ThingRow → List Placed
placed_if level number thing None = []
placed_if level number thing (Some row) = placed_in level number thing row (sector_at level thing.x thing.y) ∷ []

-- all placed things from a number on, in the order of their lump
unfoldable pub placed_from : LevelValue → List ThingLine → ℕ → ℕ → List Thing → List Placed
placed_from level lines skill number [] = []
placed_from level lines skill number (thing ∷ rest) =
    placed_if level number thing (placed_row lines skill thing) ++ placed_from level lines skill (suc number) rest

unfoldable pub placed_things : LevelValue → List ThingLine → ℕ → List Placed
placed_things level lines skill = placed_from level lines skill 0 level.things

-- those of a sector in drawing order: the last one first
unfoldable pub is_in_sector : ℕ → Placed → Bool
is_in_sector sector placed = placed.sector == sector

unfoldable pub things_of : List Placed → ℕ → List PlacedThing
things_of all sector = reverse (map (λ (placed : Placed). placed.thing) (filter (is_in_sector sector) all))

-- the frames that they need, in the order of their lump
unfoldable pub need_of : Placed → Need
need_of placed = record { thing = placed.thing.thing; sprite = placed.thing.sprite; frame = placed.thing.frame }

-- the number of the first that would be a shadow
unfoldable pub is_shadow : Placed → Bool
is_shadow placed = placed.row.shadow

unfoldable pub first_shadow : List Placed → Option ℕ
first_shadow [] = None
first_shadow (placed ∷ rest) = cond (is_shadow placed) (Some placed.thing.thing) (first_shadow rest)
