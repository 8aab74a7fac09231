-- A call that paints a masked column of a texture.
use Rattle.std.specs.Prelude.{◌≡◌, ◌≤◌, ℕ, length, IsSome, Result}
use Rattle.art_rules.specs.Words.{PreparedTexture, mask_of, single_place}
use Rattle.picture_rules.specs.Words.{Painter}
use Rattle.texture_build.specs.{CacheFault.CacheFault, Caches.cache_fault, Sources.own_lookup}
use Rattle.texture_build.specs.Paints.{PaintState, PaintTools, Paints, painted_art}
use Rattle.brush.specs.declared.brush.MiddleStrip.{MiddleStrip}
use Rattle.brush.specs.Strips.{middle_dots}

-- exactly one patch is in each column that a texture column can stand for
abbrev pub IsSingle : PreparedTexture → Type 0
IsSingle t = (x : ℕ) → x ≤ mask_of (length t.columns) → IsSome (single_place (own_lookup t x))

-- It shows its column of its texture, and no lump by itself.
abbrev pub PaintsMiddle : (Painter → ℕ → ℕ) → PaintTools → MiddleStrip → PaintState → PaintState →
    Result (Unit {0}) CacheFault → Type 0
PaintsMiddle mark t s old new result = Paints cache_fault mark t
    (λ number column. (number ≡ s.tex.0) × (column ≡ s.column)) (λ lump. ⊥)
    (λ (q : Unit {0}). Unit {0}) (λ contents q. middle_dots (painted_art contents t) s)
    old new result
