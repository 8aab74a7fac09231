-- Laws of the vissprites after a sector's things: where it was entered before, and where it was not.
use Rattle.std.proofs.Common.{◌≡◌, ℕ, Bool, true, false, not, List, refl}
use Rattle.frame_core.specs.Rules.{SceneValue, SpriteEntry, ViewValue, things_of, with_things}
use Rattle.sound_scene.specs.Pictures.{scene_of}
use Rattle.frame_core.specs.Walked.{with_sector}

-- not entered before
pub sector_new : (bytes : ℕ → List ℕ) (v : ViewValue) (scene : SceneValue) (sector : ℕ) (entries : List SpriteEntry) (is_new was : Bool) → is_new ≡ true → is_new ≡ not was →
    with_things v (scene_of bytes scene) sector entries (things_of scene.placed sector) ≡ with_sector v (scene_of bytes scene) was sector entries
unfolding with_sector scene_of
sector_new bytes v scene sector entries is_new true e f = absurd (cc)
sector_new bytes v scene sector entries is_new false e f = refl

-- entered before
pub sector_again : (bytes : ℕ → List ℕ) (v : ViewValue) (scene : SceneValue) (sector : ℕ) (entries : List SpriteEntry) (is_new was : Bool) → is_new ≡ false → is_new ≡ not was →
    entries ≡ with_sector v (scene_of bytes scene) was sector entries
unfolding with_sector
sector_again bytes v scene sector entries is_new true e f = refl
sector_again bytes v scene sector entries is_new false e f = absurd (cc)
