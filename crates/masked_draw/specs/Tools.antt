-- What the masked pass is drawn with, by the values of its tools.
use Rattle.std.specs.Prelude.{◌≡◌, ℕ, List}
use Rattle.masked_draw.specs.Rules.{Dot, FragmentNote, ShelfView, SpriteEntry, draw_order, lump_bytes, masked_dots}
use Rattle.pixel_strips.specs.Canvases.{CanvasView}
use Rattle.texture_build.specs.Arts.{view_art}
use Rattle.texture_build.specs.Paints.{PaintState, PaintTools, paint_state, paint_tools}
use Rattle.masked_draw.specs.declared.tools.MaskedTools.{MaskedTools}
use Rattle.masked_draw.specs.Lists.{MaskedLists, lists_of, noted_drawsegs}

-- the lists of the level
abbrev pub tools_lists : {S C : Type 0} → MaskedTools S C → MaskedLists
tools_lists t = lists_of t.segs.now t.sides.now t.sectors.now t.middles.now

-- the dots of the pass with these notes and sprites, where the files have these contents
abbrev pub tools_dots : {S C : Type 0} → MaskedTools S C → List FragmentNote → List SpriteEntry →
    List (List ℕ) → List Dot
tools_dots t notes sprites contents =
    masked_dots t.view.now (view_art (lump_bytes contents t.dir.now.lumps) t.textures.now t.colormap.0)
    (noted_drawsegs t.view.now t.textures.now (tools_lists t) t.openings.now notes) (draw_order sprites)

-- what the pass paints with, and what it writes
abbrev pub masked_tools : {S C : Type 0} → MaskedTools S C → PaintTools
masked_tools t = paint_tools t.dir.now t.textures.now t.colormap.0

abbrev pub masked_state : {S C : Type 0} → (S → ShelfView) → (C → CanvasView) → MaskedTools S C → PaintState
masked_state shelf canvas t = paint_state (shelf t.shelf.now) t.cache.now (canvas t.canvas.now)

-- tools hold the references that others held, to the same view, textures, directory, colormap, openings and lists
abbrev pub AreSameMaskTools : {S C : Type 0} → MaskedTools S C → MaskedTools S C → Type 0
AreSameMaskTools old new = (new.view ≡ old.view) × ((new.textures ≡ old.textures) × ((new.dir ≡ old.dir)
    × ((new.colormap ≡ old.colormap) × ((new.openings ≡ old.openings) × ((new.segs ≡ old.segs)
    × ((new.sides ≡ old.sides) × ((new.sectors ≡ old.sectors) × ((new.middles ≡ old.middles)
    × ((new.cache.ghost_name ≡ old.cache.ghost_name) × ((new.shelf.ghost_name ≡ old.shelf.ghost_name)
    × ((new.canvas.ghost_name ≡ old.canvas.ghost_name) × (new.marks.ghost_name ≡ old.marks.ghost_name))))))))))))
