-- What a picture is made from: the lists of a level, its textures and things, and the art.
use Rattle.std.specs.Prelude.{ℕ, pos, List, [], Option, slice_index_or}
use Rattle.picture_rules.specs.Rules.{Art, LeafFragment, LevelLists, PlacedThing, Seg, Side, SideTextures, Surface, back_of, leaf_at, seg_at, surface_at}
use Rattle.picture_rules.specs.{declared.sprite.Shape5.Shape5, declared.wall.WallFacts.WallFacts}
use Rattle.picture_rules.specs.declared.wall.WallTexture.{WallTexture}

pub record Scene : Type 0 where
  pub level : LevelLists
  pub sides : List Side
  pub side_textures : List SideTextures
  -- the height of a texture in texels
  pub texture_height : ℕ → ℕ
  -- the placed things of a sector, in drawing order
  pub things_of : ℕ → List PlacedThing
  -- the picture of a sprite's frame at a rotation
  pub pick : List ℕ → ℕ → ℕ → Option Shape5
  -- the sky's texture
  pub sky : ℕ
  pub art : Art

-- entries for numbers that no sound scene has
abbrev pub no_side : Side
no_side = record { x_offset = pos 0; y_offset = pos 0; top = []; bottom = []; middle = []; sector = 0 }

abbrev pub no_textures : SideTextures
no_textures = record { top = 0; bottom = 0; middle = 0 }

-- the entries by number
unfoldable pub side_at : Scene → ℕ → Side
side_at scene n = slice_index_or scene.sides n no_side

unfoldable pub textures_at : Scene → ℕ → SideTextures
textures_at scene n = slice_index_or scene.side_textures n no_textures

unfoldable pub wall_texture : Scene → ℕ → WallTexture
wall_texture scene n = record { number = n; height = scene.texture_height n }

-- the sector of a leaf
unfoldable pub leaf_sector : Scene → ℕ → ℕ
leaf_sector scene leaf = (leaf_at scene.level leaf).sector

unfoldable pub leaf_surface : Scene → ℕ → Surface
leaf_surface scene leaf = surface_at scene.level (leaf_sector scene leaf)

-- what a seg is drawn from, seen from a sector
unfoldable pub facts_of : Scene → Surface → ℕ → Seg → WallFacts
facts_of scene front n seg = record {
  seg_no = n;
  seg = seg;
  front = front;
  back = back_of scene.level seg;
  x_offset = (side_at scene seg.side).x_offset;
  y_offset = (side_at scene seg.side).y_offset;
  top = wall_texture scene (textures_at scene seg.side).top;
  bottom = wall_texture scene (textures_at scene seg.side).bottom;
  middle = wall_texture scene (textures_at scene seg.side).middle;
}

unfoldable pub fragment_facts : Scene → LeafFragment → WallFacts
fragment_facts scene s = facts_of scene (leaf_surface scene s.leaf) s.seg (seg_at scene.level s.seg)
