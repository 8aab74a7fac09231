-- Who lists a view while it is walked: the lister by its values, and what it has made of the events.
use Rattle.std.specs.Prelude.{◌≡◌, ℕ, List, OnOk, Result}
use Rattle.std.specs.declared.convert.Infallible.{Infallible}
use Rattle.frame_core.specs.Rules.{Event, SceneValue, ViewValue, view_events}
use Rattle.brush.specs.{Strips.Strip, declared.dry.DryBrush.DryBrush}
use Rattle.frame_core.specs.declared.lister.ViewLister.{ViewLister}
use Rattle.frame_core.specs.Painters.{HasPainted, PainterValue, painter_now}
use Rattle.sound_scene.specs.Pictures.{lists_of, scene_of}
use Rattle.wall_columns.specs.declared.fault.WallStop.{WallStop}
use Rattle.frame_core.specs.ViewLists.{HasListed, WalkListValue}

-- a painter whose brush leaves nothing, its list, and the name of the reference to the list
pub record ListerValue : Type 0 where
  pub painter : PainterValue DryBrush
  pub list : WalkListValue
  pub name : ℕ

abbrev pub lister_now : ViewLister → ListerValue
lister_now p = record { painter = painter_now p.painter; list = p.list.now; name = p.list.ghost_name }

-- such a brush takes each strip, and nothing is said of it
abbrev pub dry_takes : DryBrush → Strip → Type 0
dry_takes brush strip = Unit {0}

abbrev pub dry_stands : DryBrush → Unit {0} → List Strip → Type 0
dry_stands brush start strips = Unit {0}

abbrev pub dry_stopped : DryBrush → Unit {0} → List Strip → Infallible → Type 0
dry_stopped brush start strips stop = Unit {0}

-- the list is that of the events, in whatever way lumps are read
abbrev pub IsListed : ViewValue → SceneValue → List Event → WalkListValue → Type 0
IsListed v scene events list = (bytes : ℕ → List ℕ) → HasListed v (scene_of bytes scene) events list

-- From that start on a lister was given the events, and answered the last of them so.
pub record HasGathered (start now : ListerValue) (events : List Event) (result : Result (Unit {0}) (WallStop Infallible)) : Type 0 where
  pub painted : HasPainted dry_takes dry_stands dry_stopped start.painter now.painter events result
  pub name : now.name ≡ start.name
  pub listed : OnOk result (IsListed start.painter.view start.painter.scene events now.list)

-- the whole walk of a view is in the list
abbrev pub IsListedView : ViewValue → SceneValue → WalkListValue → Type 0
IsListedView v scene list = IsListed v scene (view_events v (lists_of scene)) list
