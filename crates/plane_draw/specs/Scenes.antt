-- What stays while planes are drawn, and what the call asks.
use Rattle.std.specs.Prelude.{◌≡◌, ◌≤◌, ◌<◌, ℕ, List, All, IfSome, length}
use Rattle.plane_draw.specs.Rules.{Art, Scene, lump_bytes}
use Rattle.texture_build.specs.Arts.{view_art}
use Rattle.pixel_strips.specs.Standing.{StandsInFrame}
use Rattle.texture_build.specs.Draws.{CanDraw}
use Rattle.texture_build.specs.Paints.{PaintState, PaintTools, paint_tools}
use Rattle.plane_draw.specs.declared.scene.PlaneScene.{PlaneScene}
use Rattle.plane_draw.specs.Planes.{CanDrawPlane}

-- the art of the scene, where the files have these contents
abbrev pub plane_art : List (List ℕ) → PlaneScene → Art
plane_art contents s = view_art (lump_bytes contents s.dir.now.lumps) s.textures.now s.colormap.0

-- a picture's scene, with the art of these contents
abbrev pub with_art : List (List ℕ) → PlaneScene → Scene → Scene
with_art contents s picture = record picture { art = plane_art contents s }

-- a picture's scene has the sky's texture, where there is one
abbrev pub HasSky : PlaneScene → Scene → Type 0
HasSky s picture = IfSome s.sky (λ tex. picture.sky ≡ tex.0)

-- what it paints with
abbrev pub plane_tools : PlaneScene → PaintTools
plane_tools s = paint_tools s.dir.now s.textures.now s.colormap.0

-- what the call asks
pub record CanDrawPlanes (s : PlaneScene) (st : PaintState) : Type 0 where
  pub slots : length s.dir.now.lumps ≤ st.cache.lumps
  pub colormap : s.colormap.0 < length s.dir.now.lumps
  pub placed : StandsInFrame s.view.now.shape st.canvas
  pub sky : IfSome s.sky (λ tex. CanDraw s.dir.now.lumps s.textures.now st.cache tex.0)
  pub planes : All (CanDrawPlane s.view.now.shape st.canvas.left st.canvas.top
      (length s.dir.now.lumps) s.sky) s.planes.now.planes
