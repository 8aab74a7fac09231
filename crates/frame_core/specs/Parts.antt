-- What the parts of a view ask of a brush, and of the scene.
use Rattle.std.specs.Prelude.{◌⊎◌, List, All, IsErr, Result, length}
use Rattle.frame_core.specs.Rules.{SceneValue, ViewValue, view_notes}
use Rattle.brush.specs.Strips.{Strip}
use Rattle.masked_draw.specs.{Ready.IsInLists, Takes.TakesMasked}
use Rattle.plane_draw.specs.Strips.{planes_strips}
use Rattle.receiver_rules.specs.Receivers.{TakesEach}
use Rattle.wall_columns.specs.{Faults.ReceivesToLimit, declared.fault.WallStop.WallStop}
use Rattle.frame_core.specs.{declared.bench.Bench.Bench}
use Rattle.frame_core.specs.Painters.{AsksWalls, HasWalkedView, TakesWalls}
use Rattle.frame_core.specs.ViewStrips.{mask_lists, scene_entries, scene_noted, scene_planes, scene_sky, scene_walls, view_strips}

-- a brush takes all that a view may show: of its planes and its masked pass where the whole walk is in a bench
pub record TakesView {B : Type 0} (takes : B → Strip → Type 0) (brush : B) (v : ViewValue) (s : SceneValue) : Type 0 where
  pub walls : TakesWalls takes brush v s
  pub planes : (b : Bench) → HasWalkedView v s b → TakesEach takes brush (planes_strips v (scene_sky s) (scene_planes v s))
  pub masked : (b : Bench) → HasWalkedView v s b → TakesMasked takes brush v (scene_noted v s) (scene_entries v s)

-- the notes of a view have their segs, sides and sectors among the lists, and their middle textures too
abbrev pub AreNotesListed : ViewValue → SceneValue → Type 0
AreNotesListed v s = All (IsInLists (length s.base.lists.textures) (mask_lists s)) (view_notes v (scene_walls v s))

-- A brush was asked for the walls, and not for all of them; or the whole walk is in the bench, and it was asked for what the view
-- shows, up to where it stopped.
abbrev pub AsksView : {B A E : Type 0} → (B → Strip → Type 0) → (B → A → List Strip → Type 0) → (B → A → List Strip → E → Type 0) →
    ViewValue → SceneValue → Bench → B → B → Result (Unit {0}) (WallStop E) → Type 0
AsksView takes stands stopped v s bench old new result =
    (IsErr result × AsksWalls takes stands stopped v s old new result)
    ⊎ (HasWalkedView v s bench × ReceivesToLimit takes stands stopped old new (view_strips v s) result)
