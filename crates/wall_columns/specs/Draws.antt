-- Which textures a fragment is painted with, and what is left as it was where it is not drawn.
use Rattle.std.specs.Prelude.{◌≡◌, ◌≢◌, ◌≤◌, ◌⊎◌, ℕ, ℤ, Contains, Result, Ok}
use Rattle.wall_columns.specs.Rules.{ShelfView, ViewValue, Wall, WallFacts, WallStrip, texture_column, wall_edges, wall_of, wall_strips}
use Rattle.texture_build.specs.Zones.{Heap}
use Rattle.pixel_strips.specs.Canvases.{CanvasView}
use Rattle.visplanes.specs.Planes.{PlanesView}
use Rattle.wall_columns.specs.{Plans.IsStripTexture, Walls.WallsView, Walls.clip_at}

-- one of the textures of a fragment's facts, number 0 is none
abbrev pub IsWallTexture : WallFacts → ℕ → Type 0
IsWallTexture facts number =
    (number ≢ 0) × ((number ≡ facts.top.number)
    ⊎ ((number ≡ facts.bottom.number) ⊎ (number ≡ facts.middle.number)))

-- Column `own` of a texture is seen of the fragment of a seg: at one of its columns a strip has that texture, and rows
-- in what the walls before it leave open.
pub record IsSeenOf (v : ViewValue) (state : WallsView) (facts : WallFacts) (first last number : ℕ) (own : ℤ) : Type 0 where
  pub x : ℕ
  pub from : first ≤ x
  pub to : x ≤ last
  pub strip : WallStrip
  pub among : let w : Wall = wall_of v facts first last in
      Contains (wall_strips w.numbers (clip_at state x) (wall_edges v.shape w x)) strip
  pub texture : IsStripTexture strip number
  pub is : own ≡ texture_column v facts x

-- no lump is painted by itself
abbrev pub IsNoPicture : ℕ → Type 0
IsNoPicture lump = ⊥

-- nothing that a fragment is drawn with has changed
pub record IsUntouched (planes next_planes : PlanesView) (cache next_cache : Heap)
    (shelf next_shelf : ShelfView) (canvas next_canvas : CanvasView) : Type 0 where
  pub same_planes : next_planes ≡ planes
  pub same_cache : next_cache ≡ cache
  pub same_shelf : next_shelf ≡ shelf
  pub same_canvas : next_canvas ≡ canvas

-- a fragment that has no room for a note: nothing is done
pub record IsPast {B E : Type 0} (state next_state : WallsView) (planes next_planes : PlanesView) (brush next_brush : B)
    (result : Result (Unit {0}) E) : Type 0 where
  pub done : result ≡ Ok tt
  pub same_state : next_state ≡ state
  pub same_planes : next_planes ≡ planes
  pub same_brush : next_brush ≡ brush
