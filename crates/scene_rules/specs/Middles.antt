-- Masked mid textures: each column of one has exactly one patch (R_RenderMaskedSegRange, r_segs.c).
use Rattle.std.specs.Prelude.{ℕ, ◌+◌, ◌==◌, ◌&&◌, Bool, not, is_some, List, length, Option, slice_index_or}
use Rattle.std.specs.List.{list_any, list_all, range_with_len}
use Rattle.word_rules.specs.Least.{least}
use Rattle.level_rules.specs.{declared.Seg.Seg, declared.SideTextures.SideTextures}
use Rattle.art_rules.specs.{Columns.is_single, Textures.mask_of, Wanted.PreparedTexture}
use Rattle.scene_rules.specs.Sides.{three_textures}

-- the side is that of a seg behind which there is a sector
unfoldable pub is_seen_through : ℕ → Seg → Bool
is_seen_through side seg = (seg.side == side) && is_some seg.back

-- each of a texture's columns from 0 to its mask has exactly one patch
unfoldable pub is_all_single : PreparedTexture → Bool
is_all_single t = list_all (is_single t.patches) (range_with_len 0 (mask_of (length t.columns) + 1))

-- side of that number: its middle is masked, is a texture, and is not all single; textures by number
unfoldable pub is_bad_middle : (ℕ → PreparedTexture) → ℕ → Bool
is_bad_middle texture middle = not (middle == 0) && not (is_all_single (texture middle))

abbrev pub middle_of : List SideTextures → ℕ → ℕ
middle_of sides side = (slice_index_or sides side (three_textures 0 0 0)).middle

unfoldable pub is_bad_side : (ℕ → PreparedTexture) → List Seg → List SideTextures → ℕ → Bool
is_bad_side texture segs sides side = list_any (is_seen_through side) segs && is_bad_middle texture (middle_of sides side)

-- the least side that is bad
unfoldable pub bad_middle : (ℕ → PreparedTexture) → List Seg → List SideTextures → Option ℕ
bad_middle texture segs sides = least (is_bad_side texture segs sides) (length sides)
