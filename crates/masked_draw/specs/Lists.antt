-- The drawn fragments as the masked pass sees them: by their notes, the openings, and the lists of the level (R_RenderMaskedSegRange, r_segs.c).
use Rattle.std.specs.Prelude.{ℕ, ◌+◌, ◌-◌, ◌==◌, bit_and, ℤ, pos, not, List, [], map, Option, Some, None, is_some, slice_index_or}
use Rattle.masked_draw.specs.Rules.{Drawseg, FragmentNote, SIL_BOTTOM, SIL_TOP, Sector, Seg, Side, Surface, ViewValue, clip_row_at, masked_mid, no_seg, no_side, seg_light, texture_at}
use Rattle.texture_build.specs.Views.{TexturesView}

-- the lists of a level, with the number of each side's middle texture
pub record MaskedLists : Type 0 where
  pub segs : List Seg
  pub sides : List Side
  pub sectors : List Sector
  pub middles : List ℕ

abbrev pub lists_of : List Seg → List Side → List Sector → List ℕ → MaskedLists
lists_of segs sides sectors middles =
    record { segs = segs; sides = sides; sectors = sectors; middles = middles }

-- an entry for a number that no sound level has
abbrev pub no_sector : Sector
no_sector = record { floor = pos 0; ceiling = pos 0; floor_name = []; ceiling_name = []; light = pos 0 }

-- the entries by number
unfoldable pub note_seg : MaskedLists → FragmentNote → Seg
note_seg lists d = slice_index_or lists.segs d.seg_no no_seg

unfoldable pub sector_by : MaskedLists → ℕ → Sector
sector_by lists n = slice_index_or lists.sectors n no_sector

unfoldable pub side_by : MaskedLists → ℕ → Side
side_by lists n = slice_index_or lists.sides n no_side

unfoldable pub middle_by : MaskedLists → FragmentNote → ℕ
middle_by lists d = slice_index_or lists.middles (note_seg lists d).side 0

-- a sector's heights and light: its flats are not asked for
abbrev pub heights_of : Sector → Surface
heights_of s = record { floor = s.floor; ceiling = s.ceiling; floor_flat = 0; ceiling_flat = 0; light = s.light }

-- the texel row of its middle texture at the view's centre row
unfoldable pub note_mid : ViewValue → TexturesView → MaskedLists → FragmentNote → Option ℕ → ℤ
note_mid v textures lists d None = pos 0
note_mid v textures lists d (Some back) =
    masked_mid v.eye.z (note_seg lists d) (heights_of (sector_by lists (note_seg lists d).front)) (heights_of (sector_by lists back))
    (texture_at textures.lists.textures (middle_by lists d)).height (side_by lists (note_seg lists d).side).y_offset

-- its saved texture column at a column of the view
unfoldable pub saved_column : List ℤ → ℕ → Option ℕ → ℕ → ℤ
saved_column openings first None x = pos 0
saved_column openings first (Some place) x = slice_index_or openings (place + (x - first)) (pos 0)

unfoldable pub noted_drawseg : ViewValue → TexturesView → MaskedLists → List ℤ → FragmentNote → Drawseg
noted_drawseg v textures lists openings d = record {
  seg = note_seg lists d;
  first = d.first;
  last = d.last;
  scale1 = d.scale1;
  scale2 = d.scale2;
  step = d.step;
  has_bottom = not (bit_and d.silhouette SIL_BOTTOM == 0);
  has_top = not (bit_and d.silhouette SIL_TOP == 0);
  bottom_height = d.bottom_height;
  top_height = d.top_height;
  bottom_clip = clip_row_at openings d.first d.bottom_clip;
  top_clip = clip_row_at openings d.first d.top_clip;
  masked = is_some d.masked;
  middle = middle_by lists d;
  mid = note_mid v textures lists d (note_seg lists d).back;
  light = seg_light v (note_seg lists d) (sector_by lists (note_seg lists d).front).light;
  column = saved_column openings d.first d.masked;
}

unfoldable pub noted_drawsegs : ViewValue → TexturesView → MaskedLists → List ℤ → List FragmentNote → List Drawseg
noted_drawsegs v textures lists openings notes = map (noted_drawseg v textures lists openings) notes
