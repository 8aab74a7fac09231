-- What a list of strips does to cache, zone, shelf and canvas: the one place that says it.
use Rattle.std.specs.Prelude.{◌≡◌, ◌<◌, ◌≤◌, ℕ, List, length, Result}
use Rattle.art_rules.specs.Words.{Painter, ShelfView}
use Rattle.picture_rules.specs.declared.plane.Flat4.TheVariants.{Lump}
use Rattle.pixel_strips.specs.Canvases.{CanvasView}
use Rattle.texture_build.specs.{CacheFault.CacheFault, Caches.cache_fault}
use Rattle.texture_build.specs.Draws.{CanDraw}
use Rattle.texture_build.specs.Paints.{PaintState, PaintTools, Paints, paint_state, paint_tools, painted_art}
use Rattle.texture_build.specs.Strips.{IsTextureIn}
use Rattle.texture_build.specs.declared.strip.TextureStrip.{TextureStrip}
use Rattle.visplanes.specs.Spans.{IsSeen}
use Rattle.texture_build.specs.Views.{prepared_texture}
use Rattle.brush.specs.{Middles.IsSingle, Pictures.ArePictureColumns, Posts.HasClipsIn, Posts.IsColumnInFrame}
use Rattle.brush.specs.declared.brush.MiddleStrip.{MiddleStrip}
use Rattle.brush.specs.Strips.{Floor, FloorValue, IsStripColumn, IsStripLump, Middle, Picture, PictureStripValue, ShowsColumn, ShowsLump, Strip, Texture, dots_of_strip, strips_dots}
use Rattle.brush.specs.declared.live.LiveBrush.{LiveBrush}

-- a brush: what it paints with, what it writes, and the names of its references
pub record BrushNames : Type 0 where
  pub cache : ℕ
  pub shelf : ℕ
  pub canvas : ℕ

pub record BrushValue : Type 0 where
  pub tools : PaintTools
  pub state : PaintState
  pub names : BrushNames

abbrev pub brush_now : {S C : Type 0} → (S → ShelfView) → (C → CanvasView) → LiveBrush S C → BrushValue
brush_now shelf canvas p = record {
  tools = paint_tools p.art.dir.now p.art.textures.now p.art.colormap.0;
  state = paint_state (shelf p.shelf.now) p.cache.now (canvas p.canvas.now);
  names = record { cache = p.cache.ghost_name; shelf = p.shelf.ghost_name; canvas = p.canvas.ghost_name };
}

-- A call that paints these strips: its dots are theirs, and it asks the cache for what they show, for nothing else.
abbrev pub PaintsStrips : (Painter → ℕ → ℕ) → PaintTools → List Strip → PaintState → PaintState →
    Result (Unit {0}) CacheFault → Type 0
PaintsStrips mark t strips old new result = Paints cache_fault mark t (ShowsColumn strips) (ShowsLump strips)
    (λ (q : Unit {0}). Unit {0}) (λ contents q. strips_dots (painted_art contents t) strips) old new result

-- and one that paints one strip
abbrev pub PaintsStrip : (Painter → ℕ → ℕ) → PaintTools → Strip → PaintState → PaintState →
    Result (Unit {0}) CacheFault → Type 0
PaintsStrip mark t strip old new result = Paints cache_fault mark t (IsStripColumn strip) (IsStripLump strip)
    (λ (q : Unit {0}). Unit {0}) (λ contents q. dots_of_strip (painted_art contents t) strip) old new result

-- From that start on a brush was asked for the strips, and answered the last of them so.
pub record HasWorked (mark : Painter → ℕ → ℕ) (start now : BrushValue) (strips : List Strip)
    (result : Result (Unit {0}) CacheFault) : Type 0 where
  pub tools : now.tools ≡ start.tools
  pub names : now.names ≡ start.names
  pub works : PaintsStrips mark start.tools strips start.state now.state result

-- there is a slot for each lump, and COLORMAP is one of them
pub record HasSlots (p : BrushValue) : Type 0 where
  pub lumps : length p.tools.dir.lumps ≤ p.state.cache.lumps
  pub colormap : p.tools.colormap < length p.tools.dir.lumps

pub record CanTakeTexture (p : BrushValue) (s : TextureStrip) : Type 0 where
  pub slots : HasSlots p
  pub texture : CanDraw p.tools.dir.lumps p.tools.textures p.state.cache s.tex.0
  pub within : IsTextureIn s p.state.canvas

pub record CanTakeFloor (p : BrushValue) (s : FloorValue) : Type 0 where
  pub slots : HasSlots p
  pub lump : s.lump < length p.tools.dir.lumps
  pub flat : s.plane.key.flat ≡ Lump s.lump
  pub seen : IsSeen s.view.shape p.state.canvas.left p.state.canvas.top s.plane

pub record CanTakeMiddle (p : BrushValue) (s : MiddleStrip) : Type 0 where
  pub slots : HasSlots p
  pub texture : CanDraw p.tools.dir.lumps p.tools.textures p.state.cache s.tex.0
  pub single : IsSingle (prepared_texture p.tools.textures s.tex.0)
  pub column : IsColumnInFrame p.state.canvas s.shape s.x
  pub clips : HasClipsIn s.shape.height s.masked

pub record CanTakePicture (p : BrushValue) (s : PictureStripValue) : Type 0 where
  pub slots : HasSlots p
  pub lump : s.lump < length p.tools.dir.lumps
  pub columns : ArePictureColumns p.state.canvas s

-- what it asks before a strip
abbrev pub CanTake : BrushValue → Strip → Type 0
CanTake p (Texture s) = CanTakeTexture p s
CanTake p (Floor s) = CanTakeFloor p s
CanTake p (Middle s) = CanTakeMiddle p s
CanTake p (Picture s) = CanTakePicture p s
