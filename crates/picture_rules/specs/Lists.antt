-- What a view is made of, item by item: its drawn fragments, its planes with what made each, its vissprites with their things.
use Rattle.std.specs.Prelude.{◌≡◌, ℕ, ◌-◌, min, Bool, false, List, [], ◌∷◌, ◌++◌, count_by, filter, map, is_some, length, replicate, slice_get, Option, Some, None}
use Rattle.std.specs.List.{zip}
use Rattle.picture_rules.specs.Rules.{Event, FragmentEvent, LeafEvent, LeafFragment, PlacedThing, ViewValue, drawsegs, joined_lists, leaf_fragments, natural, view_events}
use Rattle.picture_rules.specs.declared.list.TheConstants.{MOST_TOLD}
use Rattle.picture_rules.specs.declared.list.ListedFragment.{ListedFragment}
use Rattle.picture_rules.specs.declared.list.ListedPlane.{ListedPlane}
use Rattle.picture_rules.specs.declared.list.ListedSprite.{ListedSprite}
use Rattle.picture_rules.specs.declared.list.PlaneMaker.{PlaneMaker}
use Rattle.picture_rules.specs.declared.list.PlaneMaker.TheVariants.{Leaf, Fragment}
use Rattle.picture_rules.specs.declared.sprite.TheConstants.{MAX_VISSPRITES}
use Rattle.picture_rules.specs.{declared.sprite.Placed.Placed, declared.sprite.Seen.Seen}
use Rattle.picture_rules.specs.declared.sprite.Shape5.{Shape5}
use Rattle.picture_rules.specs.{declared.sprite.SpriteEntry.SpriteEntry, plane.Planes.Plane}
use Rattle.picture_rules.specs.{sprite.Entries.entry_for, sprite.Projection.project, Scene.Scene}
use Rattle.picture_rules.specs.{Counts.view_steps, Planes.view_planes}
use Rattle.picture_rules.specs.Things.{placed_of, sectors_entered, view_entries}

-- the planes that the events of a view build
unfoldable pub event_planes : ViewValue → Scene → List Event → List Plane
event_planes v scene events = view_planes (view_steps v scene events)

-- what makes the planes of an event: its leaf, or its fragment, which has this number if it is drawn
unfoldable pub maker_of : ℕ → Event → PlaneMaker
maker_of fragment (LeafEvent leaf) = Leaf leaf
maker_of fragment (FragmentEvent seg first last) = Fragment fragment

-- by so many planes there are more after an event that follows these
unfoldable pub planes_made : ViewValue → Scene → List Event → Event → ℕ
planes_made v scene before e = length (event_planes v scene (before ++ e ∷ [])) - length (event_planes v scene before)

-- each event makes the planes that are there after it and not before: their makers in order, where these events come after those before
unfoldable pub makers_from : ViewValue → Scene → List Event → List Event → List PlaneMaker
makers_from v scene before [] = []
makers_from v scene before (e ∷ es) =
    replicate (planes_made v scene before e) (maker_of (length (drawsegs before)) e) ++ makers_from v scene (before ++ e ∷ []) es

unfoldable pub plane_makers : ViewValue → Scene → List Event → List PlaneMaker
plane_makers v scene events = makers_from v scene [] events

-- in so many columns a plane has a run
unfoldable pub marked_columns : Plane → ℕ
marked_columns p = count_by is_some p.runs

-- a thing makes an entry where it is seen, its picture is there, and the picture does not miss the view
unfoldable pub is_shown : ViewValue → Placed → Seen → Option Shape5 → Bool
is_shown v placed seen None = false
is_shown v placed seen (Some shape) = is_some (entry_for v 0 placed seen shape)

unfoldable pub is_seen : ViewValue → Scene → PlacedThing → Placed → Option Seen → Bool
is_seen v scene thing placed None = false
is_seen v scene thing placed (Some seen) = is_shown v placed seen (scene.pick thing.sprite thing.frame seen.rotation)

unfoldable pub makes_entry : ViewValue → Scene → ℕ → PlacedThing → Bool
makes_entry v scene sector thing = is_seen v scene thing (placed_of v scene sector thing) (project v (placed_of v scene sector thing))

-- the things that make an entry, were there no limit: of each sector that is entered, in the order of the sectors and of drawing
unfoldable pub shown_things : ViewValue → Scene → List Event → List PlacedThing
shown_things v scene events = joined_lists (λ sector. filter (makes_entry v scene sector) (scene.things_of sector)) (sectors_entered scene events)

unfoldable pub listed_fragment : LeafFragment → ListedFragment
listed_fragment s = record { seg = s.seg; first = s.first; last = s.last }

unfoldable pub listed_plane : Plane → PlaneMaker → ListedPlane
listed_plane p maker = record { key = p.key; maker = maker; columns = marked_columns p }

unfoldable pub listed_sprite : SpriteEntry → PlacedThing → ListedSprite
listed_sprite e thing = record { thing = thing.thing; lump = e.lump; first = natural e.first; last = natural e.last }

-- a count as a list says it: no more than the greatest that it has room for
unfoldable pub count_shown : ℕ → ℕ
count_shown n = min n MOST_TOLD

-- The list of a view. An item's number is its place, which is the number that a trace has.
pub record ViewListValue : Type 0 where
  pub fragments : List ListedFragment
  pub planes : List ListedPlane
  pub sprites : List ListedSprite
  -- of all fragments, drawn or past the most, and of all entries that the things would make
  pub all_fragments : ℕ
  pub all_sprites : ℕ

-- what the events of a view list
unfoldable pub event_list : ViewValue → Scene → List Event → ViewListValue
event_list v scene events = record {
  fragments = map listed_fragment (drawsegs events);
  planes = map (λ both. listed_plane both.0 both.1) (zip (event_planes v scene events) (plane_makers v scene events));
  sprites = map (λ both. listed_sprite both.0 both.1) (zip (view_entries v scene events) (shown_things v scene events));
  all_fragments = count_shown (length (leaf_fragments 0 events));
  all_sprites = count_shown (length (shown_things v scene events));
}

unfoldable pub view_list : ViewValue → Scene → ViewListValue
view_list v scene = event_list v scene (view_events v scene.level)

-- Vissprite number k is that of this thing: of the sector that it stands in, where it is seen, by the picture that it has there.
pub record IsEntryOf (v : ViewValue) (scene : Scene) (k : ℕ) (thing : PlacedThing) (e : SpriteEntry) : Type 0 where
  pub sector : ℕ
  pub seen : Seen
  pub shape : Shape5
  pub is_seen : project v (placed_of v scene sector thing) ≡ Some seen
  pub is_picked : scene.pick thing.sprite thing.frame seen.rotation ≡ Some shape
  pub is_made : entry_for v k (placed_of v scene sector thing) seen shape ≡ Some e

-- The vissprites are those of the first of these things, each of the thing of its number.
pub record AreEntriesOf (v : ViewValue) (scene : Scene) (entries : List SpriteEntry) (things : List PlacedThing) : Type 0 where
  pub count : length entries ≡ min MAX_VISSPRITES (length things)
  pub each : (k : ℕ) (e : SpriteEntry) (thing : PlacedThing) → slice_get entries k ≡ Some e → slice_get things k ≡ Some thing → IsEntryOf v scene k thing e
