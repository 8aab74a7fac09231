-- What walls are drawn with, by the values of their tools.
use Rattle.std.specs.Prelude.{◌≡◌, ℕ, List, length}
use Rattle.wall_columns.specs.Rules.{Dot, ShelfView, Wall, WallFacts, lump_bytes, wall_dots, wall_of}
use Rattle.pixel_strips.specs.Canvases.{CanvasView}
use Rattle.texture_build.specs.Arts.{view_art}
use Rattle.texture_build.specs.Paints.{PaintState, PaintTools, paint_state, paint_tools}
use Rattle.wall_columns.specs.declared.tools.WallTools.{WallTools}
use Rattle.wall_columns.specs.Built.{with_wall}

-- what a call paints with, and what it writes
abbrev pub wall_tools : {S C : Type 0} → WallTools S C → PaintTools
wall_tools t = paint_tools t.dir.now t.textures.now t.colormap.0

abbrev pub wall_state : {S C : Type 0} → (S → ShelfView) → (C → CanvasView) → WallTools S C → PaintState
wall_state shelf canvas t = paint_state (shelf t.shelf.now) t.cache.now (canvas t.canvas.now)

-- the dots of the fragment of a seg behind these, where the files have these contents
abbrev pub range_dots : {S C : Type 0} → WallTools S C → WallFacts → ℕ → ℕ → List Wall →
    List (List ℕ) → List Dot
range_dots t facts first last walls contents =
    let w : Wall = wall_of t.view.now facts first last in
    wall_dots t.view.now (view_art (lump_bytes contents t.dir.now.lumps) t.textures.now t.colormap.0)
    (with_wall walls w) (length walls) w

-- tools hold the references that others held, to the same view, textures, directory and colormap
abbrev pub AreSameWallTools : {S C : Type 0} → WallTools S C → WallTools S C → Type 0
AreSameWallTools old new = (new.view ≡ old.view) × ((new.textures ≡ old.textures)
    × ((new.dir ≡ old.dir) × ((new.colormap ≡ old.colormap)
    × ((new.cache.ghost_name ≡ old.cache.ghost_name) × ((new.shelf.ghost_name ≡ old.shelf.ghost_name)
    × ((new.planes.ghost_name ≡ old.planes.ghost_name)
    × (new.canvas.ghost_name ≡ old.canvas.ghost_name)))))))
