-- What a cache that has the art lends: the colormap, texture columns, and what fits beside them.
use Rattle.art_rules.proofs.Common.{ap, false, IfSome, IsSome, length, List, ne_eqb, None, Option, option_map, refl, Some, subst, sym, ℕ, ◌+◌, ◌<◌, ◌∙◌, ◌≡◌, ◌≢◌, ◌≤◌}
use Rattle.texture_build.specs.Rules.{ColumnLookup, Composed, Empty, LUMP, POST_BYTES_AT, PreparedTexture, ShelfView, Single, lump_at, lump_bytes, painter_of}
use Rattle.lump_cache.specs.Zones.{Owner, Holding, Block, Heap, IsLive, bytes_of, block_size, holding_of, owned_block, same_owner}
use Rattle.lump_cache.specs.DirectoryView.{DirectoryView}
use Rattle.lump_cache.specs.Caches.{IsStatic, composite_owner, lump_owner}
use Rattle.lump_cache.specs.Calls.{HoldContents}
use Rattle.lump_cache.proofs.{FetchLemmas.live_faithful, SizeLemmas.sizes_told}
use Rattle.art_rules.proofs.LookupLemmas.{composite_size-length}
use Rattle.texture_build.specs.{Arts.lookup_source, Composites.composite_of, Asked.size_of}
use Rattle.texture_build.specs.Sources.{ColumnView, IsColumnLive, IsColumnThere, IsLentBeside, column_from, column_view}
use Rattle.texture_build.specs.Views.{TexturesView, IsPrepared, prepared_at, prepared_texture}
use Rattle.texture_build.specs.Draws.{HoldsArt, FitsBeside}
use Rattle.texture_build.proofs.TexelLemmas.{prepared_is}

-- a block that is pinned for the whole run is live
static_live : (o : Owner) (z : Heap) (block : Block) (count : ℕ) →
    owned_block o z.blocks ≡ Some block → IsStatic count block.holding → IsLive z o
static_live o z block count is pinned = rw is (go block.holding pinned) where
  go : (h : Option Holding) → IsStatic count h → IsSome h
  go None k = absurd k
  go (Some h) k = refl

apart : (colormap lump : ℕ) → lump ≢ colormap →
    same_owner (lump_owner colormap) (lump_owner lump) ≡ false
apart colormap lump other = ne_eqb colormap lump (λ e. other (sym e))

-- a cache that holds the files' bytes lends as many as the directory says
lump_size : (view : ShelfView) (dir : DirectoryView) (contents : List (List ℕ)) (z : Heap) →
    HoldContents view dir z contents → (lump : ℕ) (bytes : List ℕ) → lump < length dir.lumps →
    bytes_of (lump_owner lump) z.blocks ≡ Some bytes →
    length bytes ≡ (lump_at dir.lumps lump).size
lump_size view dir contents z files lump bytes there is =
    subst (λ (x : Option (List ℕ)). IfSome x (λ xs. length xs ≡ (lump_at dir.lumps lump).size)) is
    ((sizes_told view dir z contents files).at lump there)

-- a lump that is lent, as a painter's source, whatever the textures
pub lent_lump-fits : {view : ShelfView} {dir : DirectoryView} {textures : TexturesView}
    {contents : List (List ℕ)} {colormap count : ℕ} {z : Heap} → HoldContents view dir z contents →
    (kind number lump : ℕ) (bytes : List ℕ) → lump < length dir.lumps →
    bytes_of (lump_owner lump) z.blocks ≡ Some bytes →
    (same_owner (lump_owner colormap) (lump_owner lump) ≡ false →
    block_size count + block_size (length bytes) ≤ z.size) →
    FitsBeside dir.lumps textures colormap count z.size
    (painter_of kind number (record { kind = LUMP; number = lump }))
unfolding painter_of
lent_lump-fits {view} {dir} {contents = contents} {colormap} {count} {z} files kind number lump bytes there is fits = record {
  lump = λ source other. subst (λ (n : ℕ). block_size count + block_size n ≤ z.size)
      (lump_size view dir contents z files lump bytes there is) (fits (apart colormap lump other));
  composite = λ source. cc;
}

lent_if_held : (f : List ℕ → ColumnView) (h : Option Holding) → IsSome h →
    None ≡ option_map f (option_map (λ (x : Holding). x.bytes) h) → ⊥
lent_if_held f None live none = cc
lent_if_held f (Some h) live none = cc

-- a live column is lent
pub live_is_lent : (number : ℕ) (z : Heap) (lookup : ColumnLookup) →
    IsColumnLive number z lookup → None ≡ column_view number z lookup → ⊥
live_is_lent number z Empty live none = cc
live_is_lent number z (Single lump place) live none =
    lent_if_held (column_from (place + POST_BYTES_AT)) (holding_of (lump_owner lump) z.blocks) live none
live_is_lent number z (Composed place) live none =
    lent_if_held (column_from place) (holding_of (composite_owner number) z.blocks) live none

module _ {view : ShelfView} {dir : DirectoryView} {textures : TexturesView}
    {contents : List (List ℕ)} {colormap count : ℕ} {z : Heap}
    (hold : HoldsArt view dir textures contents colormap count z) where
  -- the colormap's bytes are lent
  pub colormap_lent : colormap < length dir.lumps →
      bytes_of (lump_owner colormap) z.blocks ≡ Some (lump_bytes contents dir.lumps colormap)
  colormap_lent there = live_faithful contents dir z colormap there hold.files.faithful
      (static_live (lump_owner colormap) z hold.rest.block count hold.rest.is hold.rest.pinned)

  pub colormap_is_lent : colormap < length dir.lumps →
      None ≡ bytes_of (lump_owner colormap) z.blocks → ⊥
  colormap_is_lent there none = go (none ∙ colormap_lent there) where
    go : {bytes : List ℕ} → None ≡ Some bytes → ⊥
    go e = cc

  composite_size : (number : ℕ) (bytes : List ℕ) → IsPrepared textures number →
      bytes_of (composite_owner number) z.blocks ≡ Some bytes →
      length bytes ≡ size_of (prepared_texture textures number)
  composite_size number bytes prepared is =
      let texture = prepared_texture textures number in
      let bytes_at_owner : IfSome (bytes_of (composite_owner number) z.blocks)
      (λ xs. xs ≡ composite_of (lump_bytes contents dir.lumps) texture) =
      subst (λ (p : Option PreparedTexture). IfSome p (λ u.
      IfSome (bytes_of (composite_owner number) z.blocks)
      (λ xs. xs ≡ composite_of (lump_bytes contents dir.lumps) u)))
      (prepared_is (prepared_at textures.prepared number) prepared)
      (hold.composites.at number) in
      let bytes_are : bytes ≡ composite_of (lump_bytes contents dir.lumps) texture =
      subst (λ (x : Option (List ℕ)). IfSome x
      (λ xs. xs ≡ composite_of (lump_bytes contents dir.lumps) texture)) is bytes_at_owner in
      ap length bytes_are ∙ composite_size-length (lump_bytes contents dir.lumps) texture.patches
      (length texture.columns) texture.height

  -- a lump that is lent, as a painter's source
  pub fits-lump : (kind number lump : ℕ) (bytes : List ℕ) → lump < length dir.lumps →
      bytes_of (lump_owner lump) z.blocks ≡ Some bytes →
      (same_owner (lump_owner colormap) (lump_owner lump) ≡ false →
      block_size count + block_size (length bytes) ≤ z.size) →
      FitsBeside dir.lumps textures colormap count z.size
      (painter_of kind number (record { kind = LUMP; number = lump }))
  fits-lump = lent_lump-fits hold.files

  -- so is a texture column
  pub fits-column : (kind k number : ℕ) (lookup : ColumnLookup) (column : ColumnView) →
      IsPrepared textures number → IsColumnThere dir.lumps lookup →
      column_view number z lookup ≡ Some column →
      IsLentBeside z.size colormap count lookup (length column.bytes) →
      FitsBeside dir.lumps textures colormap count z.size
      (painter_of kind k (lookup_source number lookup))
  unfolding painter_of
  fits-column kind k number Empty column prepared there is fits = record {
    lump = λ source. cc;
    composite = λ source. cc;
  }
  fits-column kind k number (Single lump place) column prepared there is fits =
      go (bytes_of (lump_owner lump) z.blocks) refl is where
        go : (x : Option (List ℕ)) → bytes_of (lump_owner lump) z.blocks ≡ x →
            option_map (column_from (place + POST_BYTES_AT)) x ≡ Some column →
            FitsBeside dir.lumps textures colormap count z.size
            (painter_of kind k (lookup_source number (Single lump place)))
        go None e same = cc
        go (Some bytes) e same =
            let is_bytes : bytes ≡ column.bytes = cc in
            fits-lump kind k lump bytes there e (λ other.
            subst (λ (xs : List ℕ). block_size count + block_size (length xs) ≤ z.size)
            (sym is_bytes) (fits other))
  fits-column kind k number (Composed place) column prepared there is fits =
      go (bytes_of (composite_owner number) z.blocks) refl is where
        go : (x : Option (List ℕ)) → bytes_of (composite_owner number) z.blocks ≡ x →
            option_map (column_from place) x ≡ Some column →
            FitsBeside dir.lumps textures colormap count z.size
            (painter_of kind k (lookup_source number (Composed place)))
        go None e same = cc
        go (Some bytes) e same =
            let is_bytes : bytes ≡ column.bytes = cc in record {
              lump = λ source. cc;
              composite = λ source. subst (λ (n : ℕ). block_size count + block_size n ≤ z.size)
                  (ap length (sym is_bytes) ∙ composite_size number bytes prepared e) fits;
            }
