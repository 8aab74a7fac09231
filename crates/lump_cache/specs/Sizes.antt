-- Sizes of live lumps, and what stands beside the colormap.
use Rattle.std.specs.Prelude.{◌≡◌, ◌≢◌, ◌<◌, ◌≤◌, ◌+◌, ◌*◌, ◌⊎◌, ℕ, List, length, IfSome}
use Rattle.lump_cache.specs.Rules.{Heap, Lump, MIN_FRAGMENT, block_size, bytes_of, lump_at, owned_block}
use Rattle.lump_cache.specs.Caches.{HasStatic, lump_owner}

-- each live lump has as many bytes as the directory says
pub record HasSizes (lumps : List Lump) (z : Heap) : Type 0 where
  pub at : (number : ℕ) → number < length lumps →
      IfSome (bytes_of (lump_owner number) z.blocks)
      (λ bytes. length bytes ≡ (lump_at lumps number).size)

-- where the colormap is pinned for the whole run, in a cache with these sizes: a block for the lump,
-- if it is another one, is together with the colormap's no larger than the zone
abbrev pub StandsBeside : List Lump → Heap → ℕ → Type 0
StandsBeside lumps z lump = (colormap count : ℕ) →
    HasStatic count (owned_block (lump_owner colormap) z.blocks) →
    HasSizes lumps z → lump ≢ colormap →
    block_size count + block_size (lump_at lumps lump).size ≤ z.size

-- The widest gap of a zone with one pinned block, for which so many bytes were asked: all that is left
-- beside it. A block has up to `MIN_FRAGMENT` bytes more than were asked for.
abbrev pub IsGapBeside : ℕ → ℕ → ℕ → Type 0
IsGapBeside zone pinned widest' =
    (pinned + widest' ≤ zone) × (zone ≤ pinned + widest' + MIN_FRAGMENT)

-- the wider of the two gaps at most of a zone with two pinned blocks
abbrev pub IsGapBesideTwo : ℕ → ℕ → ℕ → Type 0
IsGapBesideTwo zone pinned widest' =
    (pinned + widest' ≤ zone) × (zone ≤ pinned + 2 * widest' + 2 * MIN_FRAGMENT)

-- the widest gap where the colormap itself had no room in an empty zone, or where it is pinned
abbrev pub IsGapAround : ℕ → ℕ → ℕ → ℕ → Type 0
IsGapAround zone colormap wanted widest' =
    ((wanted ≡ colormap) × (widest' ≡ zone)) ⊎ IsGapBeside zone colormap widest'
