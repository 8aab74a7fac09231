-- A scene, or the first of all checks that refuses it.
use Rattle.std.specs.Prelude.{ℕ, ◌+◌, nat_le, cond, List, [], take, map, Option, Some, None, Result, Ok, unwrap_or, slice_index_or}
use Rattle.std.specs.Option.{option_and_then, ok_or}
use Rattle.outside.specs.Faults.{and_then, from_below}
use Rattle.lump_rules.specs.declared.wad.Lump.{Lump}
use Rattle.lump_rules.specs.{Lookups.last_of, Lookups.map_of, Lookups.lump_at, Contents.named_bytes}
use Rattle.level_rules.specs.declared.SideTextures.{SideTextures}
use Rattle.level_rules.specs.declared.maps.refusal.MapRefusal.{MapRefusal}
use Rattle.level_rules.specs.declared.maps.refusal.MapRefusal.TheVariants.{NoMap}
use Rattle.level_rules.specs.maps.Levels.{MapBytes, LevelValue, level_of}
use Rattle.level_rules.specs.declared.ThingLine.{ThingLine}
use Rattle.art_rules.specs.declared.TheConstants.{PNAMES, TEXTURE1, TEXTURE2}
use Rattle.art_rules.specs.declared.refusal.TexRefusal.{TexRefusal}
use Rattle.art_rules.specs.declared.refusal.SpriteRefusal.{SpriteRefusal}
use Rattle.art_rules.specs.Textures.{TextureLists, texture_lists}
use Rattle.art_rules.specs.Wanted.{PreparedTexture, prepared_textures}
use Rattle.art_rules.specs.declared.shapes.Frame.{Frame}
use Rattle.art_rules.specs.Books.{each_of, frame_of, first_needs, book_lumps}
use Rattle.scene_rules.specs.{declared.SectorFlats.SectorFlats, declared.Placed.Placed}
use Rattle.scene_rules.specs.{declared.ZoneSizes.ZoneSizes, declared.refusal.ArtRefusal.ArtRefusal}
use Rattle.scene_rules.specs.declared.TheConstants.{COLORMAP, COLORMAP_SIZE, PLAYPAL, PALETTE_SIZE}
use Rattle.scene_rules.specs.declared.refusal.ArtRefusal.TheVariants.{Colormap, Playpal}
use Rattle.scene_rules.specs.declared.refusal.SceneRefusal.{SceneRefusal}
use Rattle.scene_rules.specs.declared.refusal.SceneRefusal.TheVariants.{Shadow, Middle}
use Rattle.scene_rules.specs.{declared.refusal.AuditRefusal.AuditRefusal, Numbered.refuse_if}
use Rattle.scene_rules.specs.declared.refusal.AuditRefusal.TheVariants.{Art, Map, Texture, Sprite, Scene}
use Rattle.scene_rules.specs.SectorFlats.{sector_flats}
use Rattle.scene_rules.specs.Sides.{side_textures, sky_texture, is_wanted_texture}
use Rattle.scene_rules.specs.Places.{placed_things, need_of, first_shadow}
use Rattle.scene_rules.specs.{Middles.bad_middle, Sizes.SceneArt, Sizes.zone_sizes}

-- the lump of that number, where it has at least so many bytes
abbrev pub if_long : List Lump → ℕ → ℕ → Option ℕ
if_long lumps size number = cond (nat_le size (lump_at lumps number).size) (Some number) None

-- the last lump of a name, where it has at least so many bytes
abbrev pub long_lump : List Lump → List ℕ → ℕ → Option ℕ
long_lump lumps name size = option_and_then (if_long lumps size) (last_of lumps name)

-- the lumps COLORMAP and PLAYPAL
unfoldable pub colormap_of : List Lump → Result ℕ ArtRefusal
colormap_of lumps = ok_or (long_lump lumps COLORMAP COLORMAP_SIZE) Colormap

unfoldable pub playpal_of : List Lump → Result ℕ ArtRefusal
playpal_of lumps = ok_or (long_lump lumps PLAYPAL PALETTE_SIZE) Playpal

-- the label of a map
unfoldable pub label_of : List Lump → List ℕ → Result ℕ MapRefusal
label_of lumps name = ok_or (map_of lumps name) NoMap

-- the eight lumps behind it
unfoldable pub map_bytes : (ℕ → List ℕ) → ℕ → MapBytes
map_bytes bytes label = record {
  things = bytes (label + 1);
  lines = bytes (label + 2);
  sides = bytes (label + 3);
  vertexes = bytes (label + 4);
  segs = bytes (label + 5);
  leaves = bytes (label + 6);
  nodes = bytes (label + 7);
  sectors = bytes (label + 8);
}

-- what a level stands on, by the checks of single lumps: colours with the first palette, map, lists of
-- textures
pub record LevelBase : Type 0 where
  pub colormap : ℕ
  pub playpal : ℕ
  pub palette : List ℕ
  pub label : ℕ
  pub level : LevelValue
  pub lists : TextureLists

unfoldable pub lists_in : (ℕ → List ℕ) → List Lump → Result TextureLists TexRefusal
lists_in bytes lumps = texture_lists (named_bytes bytes lumps PNAMES) (named_bytes bytes lumps TEXTURE1) (named_bytes bytes lumps TEXTURE2)

unfoldable pub level_in : (ℕ → List ℕ) → List Lump → List ℕ → Result (ℕ × LevelValue) MapRefusal
level_in bytes lumps name = and_then (label_of lumps name) (λ label. and_then (level_of (map_bytes bytes label)) (λ level. Ok (label, level)))

-- the map and the lists, once the colours are there
unfoldable pub base_over : (ℕ → List ℕ) → List Lump → List ℕ → ℕ → ℕ → List ℕ → Result LevelBase AuditRefusal
base_over bytes lumps name colormap playpal palette =
    and_then (from_below Map (level_in bytes lumps name)) (λ map.
    and_then (from_below Texture (lists_in bytes lumps)) (λ lists.
    Ok (record { colormap = colormap; playpal = playpal; palette = palette; label = map.0; level = map.1; lists = lists })))

unfoldable pub base_in : (ℕ → List ℕ) → List Lump → List ℕ → Result LevelBase AuditRefusal
base_in bytes lumps name =
    and_then (from_below Art (colormap_of lumps)) (λ colormap.
    and_then (from_below Art (playpal_of lumps)) (λ playpal.
    base_over bytes lumps name colormap playpal (take PALETTE_SIZE (bytes playpal))))

-- what the names in a level mean: the textures of its sides, its sky, the flats of its sectors
pub record Faces : Type 0 where
  pub sides : List SideTextures
  pub sky : Option ℕ
  pub flats : List SectorFlats

unfoldable pub faces_in : List Lump → List ℕ → LevelValue → TextureLists → Result Faces SceneRefusal
faces_in lumps name level lists =
    and_then (side_textures lists.textures level.sides) (λ sides.
    and_then (sky_texture lists.textures name level.sectors) (λ sky.
    and_then (sector_flats lumps level.sectors) (λ flats.
    Ok (record { sides = sides; sky = sky; flats = flats }))))

-- a prepared texture by number
abbrev pub texture_by : List (Option PreparedTexture) → ℕ → PreparedTexture
texture_by prepared number = unwrap_or (slice_index_or prepared number None) (record { patches = []; height = 0; columns = [] })

-- the book of the frames that placed things need
unfoldable pub book_in : (ℕ → List ℕ) → List Lump → List Placed → Result (List Frame) SpriteRefusal
book_in bytes lumps placed = each_of (frame_of bytes lumps) (first_needs (map need_of placed))

-- the last two checks: no shadow, and masked mid textures of single columns
unfoldable pub checked : List Placed → Option ℕ → Result (Unit {0}) SceneRefusal
checked placed bad = and_then (refuse_if Shadow (first_shadow placed)) (λ done. refuse_if Middle bad)

-- a scene
pub record SceneValue : Type 0 where
  pub base : LevelBase
  pub faces : Faces
  pub prepared : List (Option PreparedTexture)
  pub placed : List Placed
  pub book : List Frame

-- the pictures, and the last checks, once the textures are prepared
unfoldable pub scene_over : (ℕ → List ℕ) → List Lump → LevelBase → Faces → List Placed → List (Option PreparedTexture) → Result SceneValue AuditRefusal
scene_over bytes lumps base faces placed prepared =
    and_then (from_below Sprite (book_in bytes lumps placed)) (λ book.
    and_then (from_below Scene (checked placed (bad_middle (texture_by prepared) base.level.segs faces.sides))) (λ done.
    Ok (record { base = base; faces = faces; prepared = prepared; placed = placed; book = book })))

-- the art, once it is known what the names in the level mean
unfoldable pub scene_with : (ℕ → List ℕ) → List Lump → List ThingLine → ℕ → LevelBase → Faces → Result SceneValue AuditRefusal
scene_with bytes lumps lines skill base faces =
    and_then (from_below Texture (prepared_textures (last_of lumps) bytes base.lists (is_wanted_texture faces.sides faces.sky))) (λ prepared.
    scene_over bytes lumps base faces (placed_things base.level lines skill) prepared)

unfoldable pub scene_on : (ℕ → List ℕ) → List Lump → List ThingLine → ℕ → List ℕ → LevelBase → Result SceneValue AuditRefusal
scene_on bytes lumps lines skill name base =
    and_then (from_below Scene (faces_in lumps name base.level base.lists)) (λ faces. scene_with bytes lumps lines skill base faces)

-- the scene of a map in a skill of 1 to 5, with things that look as the lines of the thing table say
unfoldable pub scene_in : (ℕ → List ℕ) → List Lump → List ThingLine → List ℕ → ℕ → Result SceneValue AuditRefusal
scene_in bytes lumps lines name skill = and_then (base_in bytes lumps name) (scene_on bytes lumps lines skill name)

-- what a scene takes from the directory, with the pictures of these lumps
abbrev pub art_with : SceneValue → List ℕ → SceneArt
art_with scene pictures = record {
  colormap = scene.base.colormap;
  playpal = scene.base.playpal;
  label = scene.base.label;
  prepared = scene.prepared;
  flats = scene.faces.flats;
  pictures = pictures;
}

-- what it takes from the directory
unfoldable pub art_of : SceneValue → SceneArt
art_of scene = art_with scene (book_lumps scene.book)

-- how large a zone has to be for it
unfoldable pub sizes_of : List Lump → SceneValue → ZoneSizes
sizes_of lumps scene = zone_sizes lumps (art_of scene)
