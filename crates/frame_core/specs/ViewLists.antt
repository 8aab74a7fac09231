-- The list of a view as a walk makes it: what is listed with each event, and what a list is that the events of a view are in.
use Rattle.std.specs.Prelude.{◌≡◌, ℕ, ◌+◌, ◌-◌, min, nat_lt, Bool, true, false, cond, List, [], ◌∷◌, ◌++◌, length, map, replicate, Option, Some, None, option_map}
use Rattle.std.specs.List.{zip}
use Rattle.frame_core.specs.Rules.{Event, Fragment, Leaf, ListedFragment, ListedPlane, ListedSprite, MAX_DRAWSEGS, MAX_VISSPRITES, MOST_TOLD, Placed, PlacedThing, Plane, PlaneMaker, Scene, Seen, Shape5, SpriteEntry, ViewListValue, ViewValue, count_shown, drawsegs, entry_for, leaf_fragments, listed_fragment, listed_plane, listed_sprite, placed_of, plane_makers, project, shown_things, view_entries}

-- what is listed while a view is walked: its planes are known only when the walk has ended
pub record WalkListValue : Type 0 where
  pub fragments : List ListedFragment
  pub makers : List PlaneMaker
  pub sprites : List ListedSprite
  pub all_fragments : ℕ
  pub all_sprites : ℕ

abbrev pub nothing_listed : WalkListValue
nothing_listed = record { fragments = []; makers = []; sprites = []; all_fragments = 0; all_sprites = 0 }

abbrev pub empty_list : ViewListValue
empty_list = record { fragments = []; planes = []; sprites = []; all_fragments = 0; all_sprites = 0 }

-- so many planes are there now: those that are new were made by this maker
unfoldable pub with_makers : WalkListValue → PlaneMaker → ℕ → WalkListValue
with_makers list maker planes = record list { makers = list.makers ++ replicate (planes - length list.makers) maker }

-- a fragment more: it counts, and is listed while there is room
unfoldable pub with_fragment : WalkListValue → ListedFragment → WalkListValue
with_fragment list f = record list {
  fragments = cond (nat_lt (length list.fragments) MAX_DRAWSEGS) (list.fragments ++ f ∷ []) list.fragments;
  all_fragments = min (list.all_fragments + 1) MOST_TOLD;
}

-- a vissprite more, if there is one
unfoldable pub with_sprite : WalkListValue → Option ListedSprite → WalkListValue
with_sprite list None = list
with_sprite list (Some s) = record list {
  sprites = cond (nat_lt (length list.sprites) MAX_VISSPRITES) (list.sprites ++ s ∷ []) list.sprites;
  all_sprites = min (list.all_sprites + 1) MOST_TOLD;
}

-- the vissprite of a thing, were there no limit
unfoldable pub shape_sprite : ViewValue → PlacedThing → Placed → Seen → Option Shape5 → Option ListedSprite
shape_sprite v thing placed seen None = None
shape_sprite v thing placed seen (Some shape) = option_map (λ e. listed_sprite e thing) (entry_for v 0 placed seen shape)

unfoldable pub seen_sprite : ViewValue → Scene → PlacedThing → Placed → Option Seen → Option ListedSprite
seen_sprite v scene thing placed None = None
seen_sprite v scene thing placed (Some seen) = shape_sprite v thing placed seen (scene.pick thing.sprite thing.frame seen.rotation)

unfoldable pub thing_sprite : ViewValue → Scene → ℕ → PlacedThing → Option ListedSprite
thing_sprite v scene sector thing =
    seen_sprite v scene thing (placed_of v scene sector thing) (project v (placed_of v scene sector thing))

unfoldable pub with_sprites : ViewValue → Scene → ℕ → WalkListValue → List PlacedThing → WalkListValue
with_sprites v scene sector list [] = list
with_sprites v scene sector list (t ∷ ts) = with_sprites v scene sector (with_sprite list (thing_sprite v scene sector t)) ts

-- the things of a sector, where it was not entered before
unfoldable pub with_entered : ViewValue → Scene → Bool → ℕ → WalkListValue → WalkListValue
with_entered v scene true sector list = list
with_entered v scene false sector list = with_sprites v scene sector list (scene.things_of sector)

-- after a leaf, and after a fragment, when there are so many planes
unfoldable pub list_leaf : ViewValue → Scene → Bool → ℕ → ℕ → ℕ → WalkListValue → WalkListValue
list_leaf v scene is_known leaf sector planes list = with_entered v scene is_known sector (with_makers list (Leaf leaf) planes)

unfoldable pub list_fragment : ListedFragment → ℕ → WalkListValue → WalkListValue
list_fragment f planes list = with_fragment (with_makers list (Fragment (length list.fragments)) planes) f

-- planes with their makers
unfoldable pub listed_planes : List Plane → List PlaneMaker → List ListedPlane
listed_planes planes makers = map (λ both. listed_plane both.0 both.1) (zip planes makers)

-- vissprites with their things
unfoldable pub listed_sprites : List SpriteEntry → List PlacedThing → List ListedSprite
listed_sprites entries things = map (λ both. listed_sprite both.0 both.1) (zip entries things)

-- the vissprites are those of these entries and things
pub record HasSprites (entries : List SpriteEntry) (things : List PlacedThing) (list : WalkListValue) : Type 0 where
  pub count : length entries ≡ min MAX_VISSPRITES (length things)
  pub sprites : list.sprites ≡ listed_sprites entries things
  pub all : list.all_sprites ≡ count_shown (length things)

-- the list is that of the events
pub record HasListed (v : ViewValue) (scene : Scene) (events : List Event) (list : WalkListValue) : Type 0 where
  pub fragments : list.fragments ≡ map listed_fragment (drawsegs events)
  pub all : list.all_fragments ≡ count_shown (length (leaf_fragments 0 events))
  pub makers : list.makers ≡ plane_makers v scene events
  pub sprites : HasSprites (view_entries v scene events) (shown_things v scene events) list
