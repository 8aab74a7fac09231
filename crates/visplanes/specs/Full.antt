-- What a call that chooses a plane leaves, and a view that has no room for a further plane.
use Rattle.std.specs.Prelude.{◌≡◌, ◌+◌, ◌<◌, ◌↔◌, length, IfOk, IfErr, OnOk, OnErr, IsErr, Result}
use Rattle.picture_rules.specs.Words.{PlaneChoice}
use Rattle.visplanes.specs.{declared.planes.PlaneNo.PlaneNo, declared.planes.PlanesFull.PlanesFull}
use Rattle.visplanes.specs.Planes.{PlanesView, with_planes}

-- a refusal counts the room and one, and leaves the planes as they were
abbrev pub StaysFull : PlanesView → PlanesView → Result PlaneNo PlanesFull → Type 0
StaysFull old new result = IfErr result (λ e. e.count ≡ old.room + 1) × OnErr result (new ≡ old)

-- the choice is made exactly where there is room for its planes, and else nothing changes
pub record ChoosesPlane (choice : PlaneChoice) (old new : PlanesView) (result : Result PlaneNo PlanesFull) : Type 0 where
  pub ok : OnOk result (new ≡ with_planes choice.planes old)
  pub number : IfOk result (λ plane. plane.0 ≡ choice.number)
  pub within : IfOk result (λ plane. plane.0 < length new.planes)
  pub full : IsErr result ↔ (old.room < length choice.planes)
  pub refused : StaysFull old new result
