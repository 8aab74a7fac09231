-- Who is given the walk of a view: a painter by its values, and what it has made of the events.
use Rattle.std.specs.Prelude.{◌≡◌, ◌<◌, ◌++◌, ℕ, List, [], All, Some, IfSome, IfErr, length, OnOk, Result}
use Rattle.frame_core.specs.Rules.{Counts, Dot, Event, FragmentEvent, IsSound, Limits, OverLimit, Scene, SceneValue, ViewValue, WallFacts, facts_of, seg_at, steps_over, surface_at, view_events, view_over, view_steps, walls_dots, walls_of}
use Rattle.pixel_strips.specs.{Canvases.CanvasView, Standing.StandsInFrame}
use Rattle.brush.specs.Strips.{Strip}
use Rattle.receiver_rules.specs.Receivers.{TakesEach}
use Rattle.wall_columns.specs.Built.{limits_of}
use Rattle.wall_columns.specs.Faults.{ReceivesToLimit, over_in}
use Rattle.wall_columns.specs.Strips.{AreOpenIn, range_strips, walls_strips}
use Rattle.wall_columns.specs.{Walls.WallsView, declared.fault.WallStop.WallStop}
use Rattle.frame_core.specs.{declared.bench.Bench.Bench, declared.painter.ViewPainter.ViewPainter}
use Rattle.sound_scene.specs.Pictures.{lists_of, scene_of}
use Rattle.frame_core.specs.Views.{CanCount}
use Rattle.frame_core.specs.ViewStrips.{seen_walls}
use Rattle.frame_core.specs.Walked.{CanTake, HasWalked, IsEventIn}

-- how much a bench has room for
abbrev pub limits_in : Bench → Limits
limits_in b = limits_of b.walls b.planes

-- what a bench counts
abbrev pub counts_in : Bench → Counts
counts_in b = record {
  planes = length b.planes.planes;
  openings = length b.walls.openings;
  fragments = length b.walls.notes;
  sprites = length b.sprites;
}

-- a painter: what stays, what is built, its brush, and the names of its references
pub record PainterNames : Type 0 where
  pub bench : ℕ
  pub brush : ℕ

pub record PainterValue (B : Type 0) : Type 0 where
  pub view : ViewValue
  pub scene : SceneValue
  pub bench : Bench
  pub brush : B
  pub names : PainterNames

abbrev pub painter_now : {B E : Type 0} → ViewPainter B E → PainterValue B
painter_now p = record {
  view = p.view.now;
  scene = p.scene.now.scene;
  bench = p.bench.now;
  brush = p.brush.now;
  names = record { bench = p.bench.ghost_name; brush = p.brush.ghost_name };
}

-- the view stands in the frame where the canvas has it
abbrev pub IsPlacedIn : ViewValue → CanvasView → Type 0
IsPlacedIn v canvas = StandsInFrame v.shape canvas

-- the facts are those of a seg, seen from a sector
abbrev pub AreFactsOf : SceneValue → ℕ → ℕ → WallFacts → Type 0
AreFactsOf scene sector seg facts =
    (bytes : ℕ → List ℕ) → facts ≡ facts_of (scene_of bytes scene) (surface_at (lists_of scene) sector) seg (seg_at (lists_of scene) seg)

-- a brush takes each strip that a fragment of the scene may show, whatever was drawn before it
pub record TakesWalls {B : Type 0} (takes : B → Strip → Type 0) (brush : B) (v : ViewValue) (scene : SceneValue) : Type 0 where
  pub each : (state : WallsView) (facts : WallFacts) (sector seg first last : ℕ) → AreFactsOf scene sector seg facts → sector < length scene.base.level.sectors →
      IsEventIn v scene (FragmentEvent seg first last) → state.height ≡ v.shape.height → AreOpenIn state → TakesEach takes brush (range_strips v state facts first last)

-- what a painter asks before an event
pub record CanPaintNext {B : Type 0} (takes : B → Strip → Type 0) (p : PainterValue B) (e : Event) : Type 0 where
  pub scene : CanCount p.scene
  pub next : CanTake p.view p.scene p.bench
  pub there : IsEventIn p.view p.scene e
  pub strips : IsSound p.scene.base.level → TakesWalls takes p.brush p.view p.scene

-- the dots of the walls of a list of events
abbrev pub drawn_walls : ViewValue → List Event → Scene → List Dot
drawn_walls v events scene = walls_dots v scene (walls_of v scene events)

-- From that start on a painter was given the events, and answered the last of them so.
pub record HasPainted {B A E : Type 0} (takes : B → Strip → Type 0) (stands : B → A → List Strip → Type 0) (stopped : B → A → List Strip → E → Type 0)
    (start now : PainterValue B) (events : List Event) (result : Result (Unit {0}) (WallStop E)) : Type 0 where
  pub view : now.view ≡ start.view
  pub scene : now.scene ≡ start.scene
  pub names : now.names ≡ start.names
  pub limits : limits_in now.bench ≡ limits_in start.bench
  pub there : All (IsEventIn start.view start.scene) events
  pub walked : OnOk result ((bytes : ℕ → List ℕ) →
      HasWalked start.view bytes start.scene (limits_in start.bench) events now.bench)
  pub over : IfErr result (λ stop. IfSome (over_in stop) (λ over. (bytes : ℕ → List ℕ) →
      steps_over (limits_in start.bench) (view_steps start.view (scene_of bytes start.scene) events) ≡ Some over))
  pub asks : ReceivesToLimit takes stands stopped start.brush now.brush (walls_strips start.view (seen_walls start.view start.scene events)) result

-- From that start on a brush was asked for the walls of a view: of all its events, or of those up to one at which it stopped or
-- a limit was passed. Each of these names what is there.
pub record AsksWalls {B A E : Type 0} (takes : B → Strip → Type 0) (stands : B → A → List Strip → Type 0) (stopped : B → A → List Strip → E → Type 0)
    (v : ViewValue) (scene : SceneValue) (old new : B) (result : Result (Unit {0}) (WallStop E)) : Type 0 where
  pub events : List Event
  pub rest : List Event
  pub joins : events ++ rest ≡ view_events v (lists_of scene)
  pub there : All (IsEventIn v scene) events
  pub asks : ReceivesToLimit takes stands stopped old new (walls_strips v (seen_walls v scene events)) result
  pub all : OnOk result (events ≡ view_events v (lists_of scene))

-- the whole walk of a view is in the bench
abbrev pub HasWalkedView : ViewValue → SceneValue → Bench → Type 0
HasWalkedView v scene b =
    (bytes : ℕ → List ℕ) → HasWalked v bytes scene (limits_in b) (view_events v (lists_of scene)) b

-- nothing of it is, before its first event
abbrev pub HasWalkedNothing : ViewValue → SceneValue → Bench → Type 0
HasWalkedNothing v scene b = (bytes : ℕ → List ℕ) → HasWalked v bytes scene (limits_in b) [] b

-- what is told of a bench that was lent for the walk: it has the whole, or a limit is told, the first that the view passes
pub record HasCountedView (v : ViewValue) (scene : SceneValue) (old new : Bench)
    (result : Result (Unit {0}) OverLimit) : Type 0 where
  pub walked : OnOk result (HasWalkedView v scene new)
  pub over : (bytes : ℕ → List ℕ) → IfErr result (λ over. view_over v (scene_of bytes scene) (limits_in old) ≡ Some over)
  pub limits : limits_in new ≡ limits_in old
