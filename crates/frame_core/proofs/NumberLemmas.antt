-- What is there of a scene that may be counted: the numbers of the flats of its sectors.
use Rattle.std.proofs.Common.{ℕ, ◌<◌, length, arith}
use Rattle.frame_core.specs.Rules.{SceneValue, no_surface, surface_at}
use Rattle.sound_scene.specs.Pictures.{lists_of}
use Rattle.frame_core.specs.Views.{AreFlatNumbers, CanCount}
use Rattle.sound_scene.proofs.SurfaceLemmas.{surface_counts}

-- the flats of a sector that is there
pub numbers_at : (scene : SceneValue) (sector : ℕ) → CanCount scene → sector < length scene.base.level.sectors → AreFlatNumbers (surface_at (lists_of scene) sector)
unfolding surface_at
numbers_at scene sector can l =
    let surfaces_count = surface_counts scene.base.level.sectors scene.faces.flats can.flats in
    can.numbers sector no_surface (omega arith)
