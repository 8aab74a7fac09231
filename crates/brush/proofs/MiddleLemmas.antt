-- Laws of a masked column: whose bytes it has, and its dots by them.
use Rattle.picture_rules.proofs.Common.{and_le_r, ap, IsSome, length, List, Option, refl, Some, subst, sym, unwrap_or, ℕ, ℤ, ◌<◌, ◌∙◌, ◌≡◌, ◌≤◌}
use Rattle.art_rules.specs.declared.ColumnLookup.{ColumnLookup}
use Rattle.art_rules.specs.Words.{Lump, PreparedTexture, byte_at, mask_of, masked_column, posts, shade, single_place}
use Rattle.art_rules.specs.declared.ColumnLookup.TheVariants.{Composed, Empty, Single}
use Rattle.picture_rules.specs.Words.{LUMP, MIDDLE, Painter, bits_of, painter_of, posts_dots}
use Rattle.texture_build.specs.Zones.{Heap, IsLive}
use Rattle.texture_build.specs.Caches.{lump_owner}
use Rattle.texture_build.specs.{Arts.view_art, Views.TexturesView, Views.prepared_texture}
use Rattle.texture_build.specs.Sources.{IsColumnLive, IsColumnThere, column_in, column_index}
use Rattle.texture_build.specs.Draws.{FitsBeside, FitBeside}
use Rattle.texture_build.proofs.BesideLemmas.{fit_beside-as}
use Rattle.pixel_strips.specs.Canvases.{CanvasView, with_dots, with_painter}
use Rattle.pixel_strips.specs.Dotted.{HasDots}
use Rattle.pixel_strips.proofs.DottedLemmas.{has_dots-as, has_dots-painted}
use Rattle.brush.specs.{Middles.IsSingle, Strips.middle_dots}
use Rattle.brush.specs.declared.brush.MiddleStrip.{MiddleStrip}
use Rattle.brush.proofs.LendLemmas.{fit_beside-posts}

-- a texture column stands for one of the columns up to the mask
column_within : (t : PreparedTexture) (col : ℤ) → column_index t col ≤ mask_of (length t.columns)
unfolding masked_column
column_within t col = and_le_r (bits_of col) (mask_of (length t.columns))

pub single-column : (t : PreparedTexture) (col : ℤ) → IsSingle t → IsSome (single_place (column_in t col))
single-column t col single = single (column_index t col) (column_within t col)

-- what is read from one lump
single_lookup : (lookup : ColumnLookup) (lump place : ℕ) → single_place lookup ≡ Some (lump, place) → lookup ≡ Single lump place
unfolding single_place
single_lookup Empty lump place e = cc
single_lookup (Single l p) lump place e =
    ap (λ (o : Option (ℕ × ℕ)). Single (unwrap_or o (0, 0)).0 (unwrap_or o (0, 0)).1) e
single_lookup (Composed p) lump place e = cc

-- the column is read from this lump, and its posts begin at this byte; the lump is there and live
pub record IsReadLive (lumps : List Lump) (textures : TexturesView) (z : Heap) (tex : ℕ) (col : ℤ) (lump place : ℕ) : Type 0 where
  pub is : column_in (prepared_texture textures tex) col ≡ Single lump place
  pub there : lump < length lumps
  pub live : IsLive z (lump_owner lump)

pub read-live : {lumps : List Lump} {textures : TexturesView} {tex lump place : ℕ} {col asked : ℤ} (z : Heap) → asked ≡ col →
    IsColumnThere lumps (column_in (prepared_texture textures tex) col) → IsColumnLive tex z (column_in (prepared_texture textures tex) col) →
    single_place (column_in (prepared_texture textures tex) asked) ≡ Some (lump, place) → IsReadLive lumps textures z tex col lump place
read-live {lumps} {textures} {tex} {lump} {place} {col} z same there live asked =
    let lookup = single_lookup _ lump place (ap (λ (k : ℤ). single_place (column_in (prepared_texture textures tex) k)) (sym same) ∙ asked) in
    record { is = lookup; there = subst (IsColumnThere lumps) lookup there; live = subst (IsColumnLive tex z) lookup live }

module _ (bytes : ℕ → List ℕ) (textures : TexturesView) (colormap : ℕ) (s : MiddleStrip) (lump place : ℕ) (is : column_in (prepared_texture textures s.tex.0) s.column ≡ Single lump place) where
  -- the dots of a masked column by the lump that it is read from
  lump_dots : posts_dots s.shape (painter_of MIDDLE s.number (record { kind = LUMP; number = lump })) s.x s.masked (byte_at (bytes lump)) (shade (bytes colormap) s.map) (posts (bytes lump) place)
      ≡ middle_dots (view_art bytes textures colormap) s
  unfolding middle_dots view_art
  lump_dots = rw is refl

  -- a canvas on which its painter began, and its posts were painted
  pub middle-painted : (mark : Painter → ℕ → ℕ) (own shades : List ℕ) (m : ℕ) (a b c : CanvasView) →
      b ≡ with_painter (record { kind = MIDDLE; number = s.number; source_kind = LUMP; source = lump }) a →
      c ≡ with_dots mark (posts_dots s.shape b.painter s.x s.masked (byte_at own) (shade shades m) (posts own place)) b →
      own ≡ bytes lump → shades ≡ bytes colormap → m ≡ s.map → HasDots mark (middle_dots (view_art bytes textures colormap) s) a c
  unfolding painter_of
  middle-painted mark own shades m a b c began painted is_own is_shades is_map =
      let painter : Painter = painter_of MIDDLE s.number (record { kind = LUMP; number = lump }) in
      has_dots-as
      (ap (λ (canvas : CanvasView). posts_dots s.shape canvas.painter s.x s.masked (byte_at own) (shade shades m) (posts own place)) began
      ∙ ap (λ (xs : List ℕ). posts_dots s.shape painter s.x s.masked (byte_at xs) (shade shades m) (posts xs place)) is_own
      ∙ ap (λ (xs : List ℕ). posts_dots s.shape painter s.x s.masked (byte_at (bytes lump)) (shade xs m) (posts (bytes lump) place)) is_shades
      ∙ ap (λ (n : ℕ). posts_dots s.shape painter s.x s.masked (byte_at (bytes lump)) (shade (bytes colormap) n) (posts (bytes lump) place)) is_map
      ∙ lump_dots)
      (has_dots-painted began painted)

  -- and they fit beside the colormap where the lump does
  pub middle-fits : (lumps : List Lump) (count zone : ℕ) → FitsBeside lumps textures colormap count zone (painter_of MIDDLE s.number (record { kind = LUMP; number = lump })) →
      FitBeside lumps textures colormap count zone (middle_dots (view_art bytes textures colormap) s)
  middle-fits lumps count zone fits =
      fit_beside-as lumps textures colormap count zone lump_dots
      (fit_beside-posts lumps textures colormap count zone s.shape (painter_of MIDDLE s.number (record { kind = LUMP; number = lump })) s.x s.masked
      (byte_at (bytes lump)) (shade (bytes colormap) s.map) (posts (bytes lump) place) fits)
