-- A call that paints a plane with its flat.
use Rattle.std.specs.Prelude.{◌≡◌, ℕ, Result}
use Rattle.picture_rules.specs.Words.{Painter}
use Rattle.texture_build.specs.{CacheFault.CacheFault, Caches.cache_fault}
use Rattle.texture_build.specs.Paints.{PaintState, PaintTools, Paints, painted_art}
use Rattle.brush.specs.Strips.{FloorValue, floor_strip_dots}

-- It shows its flat, and no texture.
abbrev pub PaintsFloor : (Painter → ℕ → ℕ) → PaintTools → FloorValue → PaintState → PaintState →
    Result (Unit {0}) CacheFault → Type 0
PaintsFloor mark t s old new result = Paints cache_fault mark t
    (λ number column. ⊥) (λ lump. lump ≡ s.lump)
    (λ (q : Unit {0}). Unit {0}) (λ contents q. floor_strip_dots (painted_art contents t) s)
    old new result
