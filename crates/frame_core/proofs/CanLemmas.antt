-- What is asked to draw a view is enough to count it.
use Rattle.std.proofs.Common.{List}
use Rattle.frame_core.specs.Rules.{Heap, Lump, SceneValue}
use Rattle.frame_core.specs.Views.{CanCount, CanDrawView}
use Rattle.frame_core.proofs.SceneLemmas.{surface_flats}

-- a scene that can be drawn can be counted
pub can_count-drawable : (lumps : List Lump) (scene : SceneValue) (z : Heap) → CanDrawView lumps scene z → CanCount scene
can_count-drawable lumps scene z can = record {
  sides = can.drawable.sides;
  flats = can.drawable.flats;
  numbers = λ i d l.
      let flats_are_there = surface_flats lumps scene can.drawable can.few i d l in
      record { floor = flats_are_there.floor.number; ceiling = flats_are_there.ceiling.number };
}
