-- What a call that paints writes, by the values of its hands.
use Rattle.std.specs.Prelude.{◌≡◌}
use Rattle.art_rules.specs.Words.{ShelfView}
use Rattle.pixel_strips.specs.Canvases.{CanvasView}
use Rattle.texture_build.specs.{Paints.PaintState, Paints.paint_state, declared.hands.Hands.Hands}

-- what is written by these hands, whose shelf and canvas have these views
abbrev pub hands_state : {S C : Type 0} → (S → ShelfView) → (C → CanvasView) → Hands S C → PaintState
hands_state shelf canvas h = paint_state (shelf h.shelf.now) h.cache.now (canvas h.canvas.now)

-- hands hold the references that others held
abbrev pub AreSameHands : {S C : Type 0} → Hands S C → Hands S C → Type 0
AreSameHands old new = (new.cache.ghost_name ≡ old.cache.ghost_name)
    × ((new.shelf.ghost_name ≡ old.shelf.ghost_name) × (new.canvas.ghost_name ≡ old.canvas.ghost_name))
