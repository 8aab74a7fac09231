-- The composites that a cache holds.
use Rattle.std.specs.Prelude.{◌≡◌, ℕ, List, length, IfSome}
use Rattle.lump_cache.specs.{Zones.Heap, Zones.bytes_of, Caches.composite_owner}
use Rattle.art_rules.specs.Words.{composite, PreparedTexture}
use Rattle.texture_build.specs.Views.{TexturesView, prepared_at}

-- the composite of a prepared texture
abbrev pub composite_of : (ℕ → List ℕ) → PreparedTexture → List ℕ
composite_of bytes t = composite bytes t.patches (length t.columns) t.height

-- each live composite of a prepared texture has its bytes
pub record AreComposites (bytes : ℕ → List ℕ) (textures : TexturesView) (z : Heap) : Type 0 where
  pub at : (number : ℕ) →
      IfSome (prepared_at textures.prepared number)
      (λ t. IfSome (bytes_of (composite_owner number) z.blocks) (λ xs. xs ≡ composite_of bytes t))
