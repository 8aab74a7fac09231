-- What a cache lends of a lump and of the colormap, and what a painter of posts reads beside it.
use Rattle.picture_rules.proofs.Common.{[], IfSome, IsSome, List, None, Option, refl, Some, subst, sym, ℕ, ◌<◌, ◌∷◌, ◌≡◌}
use Rattle.std.specs.Prelude.{length, Bool, true, false}
use Rattle.brush.specs.Rules.{Lump, MaskedColumn, Painter, Post, ShelfView, ViewShape, joined_lists, lump_bytes, post_colour, post_dots, post_rows, posts_dots}
use Rattle.texture_build.specs.Zones.{Block, Heap, Holding, IsLive, Owner, bytes_of, owned_block}
use Rattle.texture_build.specs.Caches.{IsAtRest, IsFaithful, IsStatic, lump_owner}
use Rattle.texture_build.specs.Draws.{FitsBeside, FitBeside}
use Rattle.texture_build.specs.Paints.{Holds, HoldsIf, HoldsLumps, PaintTools}
use Rattle.texture_build.specs.Views.{TexturesView}
use Rattle.texture_build.proofs.BesideLemmas.{fit_beside-append, fit_beside-column_dots}

-- all dots of posts have one painter
pub fit_beside-posts : (lumps : List Lump) (textures : TexturesView) (colormap count zone : ℕ)
    (shape : ViewShape) (painter : Painter) (x : ℕ) (c : MaskedColumn) (byte shade_of : ℕ → ℕ)
    (ps : List Post) → FitsBeside lumps textures colormap count zone painter →
    FitBeside lumps textures colormap count zone (posts_dots shape painter x c byte shade_of ps)
unfolding posts_dots joined_lists post_dots
fit_beside-posts lumps textures colormap count zone shape painter x c byte shade_of [] fits = tt
fit_beside-posts lumps textures colormap count zone shape painter x c byte shade_of (p ∷ ps) fits =
    fit_beside-append lumps textures colormap count zone
    (post_dots shape painter x c byte shade_of p)
    (posts_dots shape painter x c byte shade_of ps)
    (fit_beside-column_dots lumps textures colormap count zone painter x
    (post_colour shape c byte shade_of p) (post_rows shape c p) fits)
    (fit_beside-posts lumps textures colormap count zone shape painter x c byte shade_of ps fits)

-- a lump that a faithful cache lends
pub lent_lump : (contents : List (List ℕ)) (lumps : List Lump) (z : Heap) (lump : ℕ)
    (bytes : List ℕ) → IsFaithful contents lumps z → lump < length lumps →
    Some bytes ≡ bytes_of (lump_owner lump) z.blocks → bytes ≡ lump_bytes contents lumps lump
lent_lump contents lumps z lump bytes faithful there is =
    subst (λ (x : Option (List ℕ)). IfSome x (λ xs. xs ≡ lump_bytes contents lumps lump)) (sym is)
    (faithful.at lump there)

-- a lump that is pinned for the whole run is live
static_live : (o : Owner) (z : Heap) (block : Block) (count : ℕ) → owned_block o z.blocks ≡ Some block → IsStatic count block.holding → IsLive z o
static_live o z block count is pinned = rw is (go block.holding pinned) where
  go : (h : Option Holding) → IsStatic count h → IsSome h
  go None k = absurd k
  go (Some h) k = refl

-- so the art of a live lump is lent, from a cache at rest
pub art-lent : {A : Type 0} {colormap count : ℕ} {z : Heap} (P : Type 0) (lump : ℕ) (result : Option A) → IsAtRest colormap count z →
    IsLive z (lump_owner lump) → result ≡ None → (IsLive z (lump_owner lump) → IsLive z (lump_owner colormap) → IsSome result) → P
art-lent {A} {colormap} {count} {z} P lump result rest live none some =
    let is_lent : IsSome result = some live (static_live (lump_owner colormap) z rest.block count rest.is rest.pinned) in
    absurd (go result none is_lent) where
      go : (o : Option A) → o ≡ None → IsSome o → ⊥
      go None e k = cc
      go (Some v) e k = cc

-- what a cache holds of lumps, whether textures are shown or not
lumps_by : (textured : Bool) (t : PaintTools) (contents : List (List ℕ)) (count : ℕ) (view : ShelfView) (z : Heap) → HoldsIf textured t contents count view z → HoldsLumps view t.dir contents t.colormap count z
lumps_by true t contents count view z hold = record { rest = hold.rest; files = hold.files }
lumps_by false t contents count view z hold = hold

pub holds-lumps : (t : PaintTools) (contents : List (List ℕ)) (count : ℕ) (view : ShelfView) (z : Heap) → Holds t contents count view z → HoldsLumps view t.dir contents t.colormap count z
holds-lumps t contents count view z hold = lumps_by t.textured t contents count view z hold
