-- The lumps that a scene needs, and how large a zone has to be for them (R_PrecacheLevel, r_data.c).
use Rattle.std.specs.Prelude.{ℕ, ◌+◌, ◌*◌, ◌==◌, ◌||◌, ◌&&◌, Bool, false, cond, nat_lt, nat_le, max, List, [], ◌∷◌, length, filter, sum_by, Option, Some, None}
use Rattle.std.specs.List.{list_any, range_with_len}
use Rattle.std.specs.Option.{option_map_or}
use Rattle.lump_rules.specs.{declared.wad.Lump.Lump, declared.names.TheConstants.MAP_LUMPS}
use Rattle.lump_rules.specs.Lookups.{last_of, lump_at}
use Rattle.zone_rules.specs.{declared.TheConstants.MIN_FRAGMENT, Zones.block_size}
use Rattle.art_rules.specs.declared.TheConstants.{PNAMES, TEXTURE1, TEXTURE2}
use Rattle.art_rules.specs.{Columns.composite_size, Wanted.PreparedTexture, Wanted.is_patch_of_any}
use Rattle.scene_rules.specs.{declared.SectorFlats.SectorFlats, declared.ZoneSizes.ZoneSizes}
use Rattle.scene_rules.specs.SectorFlats.{flat_number}

-- what a scene takes from the directory: its lumps of colours, the label of its map, its prepared
-- textures, the flats of its sectors, and the lumps of its pictures
pub record SceneArt : Type 0 where
  pub colormap : ℕ
  pub playpal : ℕ
  pub label : ℕ
  pub prepared : List (Option PreparedTexture)
  pub flats : List SectorFlats
  pub pictures : List ℕ

-- the last lump of a name
unfoldable pub is_last : List Lump → List ℕ → ℕ → Bool
is_last lumps name lump = option_map_or (λ n. n == lump) (last_of lumps name) false

-- one of the lists of textures
unfoldable pub is_list : List Lump → ℕ → Bool
is_list lumps lump = is_last lumps PNAMES lump || is_last lumps TEXTURE1 lump || is_last lumps TEXTURE2 lump

-- one of the eight lumps behind a map's label
unfoldable pub is_map_lump : ℕ → ℕ → Bool
is_map_lump label lump = nat_lt label lump && nat_le lump (label + length MAP_LUMPS)

-- a sector has that flat; the sky has the number of no lump
unfoldable pub has_flat : ℕ → SectorFlats → Bool
has_flat lump flats = (flat_number flats.floor == lump) || (flat_number flats.ceiling == lump)

-- the lump is needed
unfoldable pub is_needed : List Lump → SceneArt → ℕ → Bool
is_needed lumps art lump =
    (art.colormap == lump) || (art.playpal == lump) || is_map_lump art.label lump || is_list lumps lump
    || is_patch_of_any art.prepared lump || list_any (has_flat lump) art.flats || list_any (λ n. n == lump) art.pictures

-- all that are needed, ascending and each once
unfoldable pub needed_lumps : List Lump → SceneArt → List ℕ
needed_lumps lumps art = filter (is_needed lumps art) (range_with_len 0 (length lumps))

-- the size of a lump's block, and of the block of a texture's composite, 0 where it has none
unfoldable pub lump_block : List Lump → ℕ → ℕ
lump_block lumps lump = block_size (lump_at lumps lump).size

unfoldable pub block_or_none : ℕ → ℕ
block_or_none size = cond (size == 0) 0 (block_size size)

unfoldable pub composite_block : Option PreparedTexture → ℕ
composite_block None = 0
composite_block (Some t) = block_or_none (composite_size t.patches (length t.columns) t.height)

-- the greatest that f gives of the items
unfoldable pub greatest_by : {X : Type 0} → (X → ℕ) → List X → ℕ
greatest_by f [] = 0
greatest_by f (x ∷ xs) = max (f x) (greatest_by f xs)

-- COLORMAP stands beside the greatest composite and two further lumps, each block with up to the rest
-- that is not split off
unfoldable pub enough : List Lump → SceneArt → ℕ
enough lumps art =
    lump_block lumps art.colormap + greatest_by composite_block art.prepared + 2 * greatest_by (lump_block lumps) (needed_lumps lumps art) + 2 * MIN_FRAGMENT

-- all stand beside each other
unfoldable pub roomy : List Lump → SceneArt → ℕ
roomy lumps art = sum_by (lump_block lumps) (needed_lumps lumps art) + sum_by composite_block art.prepared + MIN_FRAGMENT

unfoldable pub zone_sizes : List Lump → SceneArt → ZoneSizes
zone_sizes lumps art = record { enough = enough lumps art; roomy = roomy lumps art }
