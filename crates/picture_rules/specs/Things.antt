-- The vissprites of a view: the things of each sector that is entered, once (R_AddSprites, r_things.c).
use Rattle.std.specs.Prelude.{ℕ, ◌==◌, pos, cond, Bool, List, [], ◌∷◌, map, Option, Some, None}
use Rattle.std.specs.List.{list_any}
use Rattle.picture_rules.specs.Rules.{Event, PlacedThing, ViewValue, leaves_entered, light_number, surface_at}
use Rattle.picture_rules.specs.{declared.sprite.Placed.Placed, declared.sprite.Seen.Seen}
use Rattle.picture_rules.specs.declared.sprite.Shape5.{Shape5}
use Rattle.picture_rules.specs.{declared.sprite.SpriteEntry.SpriteEntry, sprite.Projection.project}
use Rattle.picture_rules.specs.{sprite.Entries.add_entry, Scene.Scene, Scene.leaf_sector}

-- the numbers without those that came before
unfoldable pub first_mentions : List ℕ → List ℕ → List ℕ
first_mentions before [] = []
first_mentions before (n ∷ ns) = cond (list_any (λ m. m == n) before) (first_mentions before ns) (n ∷ first_mentions (n ∷ before) ns)

unfoldable pub sectors_entered : Scene → List Event → List ℕ
sectors_entered scene events = first_mentions [] (map (leaf_sector scene) (leaves_entered events))

-- a leaf of that sector was entered before
unfoldable pub is_entered : Scene → List Event → ℕ → Bool
is_entered scene events sector = list_any (λ m. m == sector) (map (leaf_sector scene) (leaves_entered events))

-- a thing with the light of its sector
unfoldable pub placed_of : ViewValue → Scene → ℕ → PlacedThing → Placed
placed_of v scene sector thing = record {
  x = thing.x;
  y = thing.y;
  z = thing.z;
  angle = thing.angle;
  bright = thing.bright;
  light = light_number v (surface_at scene.level sector).light (pos 0);
}

unfoldable pub with_shape : ViewValue → List SpriteEntry → Placed → Seen → Option Shape5 → List SpriteEntry
with_shape v entries thing seen None = entries
with_shape v entries thing seen (Some shape) = add_entry v entries thing seen shape

unfoldable pub with_seen : ViewValue → Scene → List SpriteEntry → PlacedThing → Placed → Option Seen → List SpriteEntry
with_seen v scene entries thing placed None = entries
with_seen v scene entries thing placed (Some seen) =
    with_shape v entries placed seen (scene.pick thing.sprite thing.frame seen.rotation)

unfoldable pub with_thing : ViewValue → Scene → ℕ → List SpriteEntry → PlacedThing → List SpriteEntry
with_thing v scene sector entries thing =
    with_seen v scene entries thing (placed_of v scene sector thing) (project v (placed_of v scene sector thing))

unfoldable pub with_things : ViewValue → Scene → ℕ → List SpriteEntry → List PlacedThing → List SpriteEntry
with_things v scene sector entries [] = entries
with_things v scene sector entries (t ∷ ts) = with_things v scene sector (with_thing v scene sector entries t) ts

unfoldable pub with_sectors : ViewValue → Scene → List SpriteEntry → List ℕ → List SpriteEntry
with_sectors v scene entries [] = entries
with_sectors v scene entries (n ∷ ns) = with_sectors v scene (with_things v scene n entries (scene.things_of n)) ns

-- in order of making
unfoldable pub view_entries : ViewValue → Scene → List Event → List SpriteEntry
view_entries v scene events = with_sectors v scene [] (sectors_entered scene events)
