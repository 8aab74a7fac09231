-- The code of each refusal, by evaluation.
use Rattle.std.specs.Prelude.{◌≡◌, ℕ, List, [], ◌∷◌, map, refl}
use Rattle.art_rules.specs.TablesRefusal.TheVariants as tables
use Rattle.art_rules.specs.DirRefusal.TheVariants as wad
use Rattle.scene_rules.specs.declared.refusal.ArtRefusal.TheVariants as art
use Rattle.scene_rules.specs.MapRefusal.TheVariants as level
use Rattle.art_rules.specs.declared.refusal.TexRefusal.TheVariants as texture
use Rattle.art_rules.specs.declared.refusal.SpriteRefusal.TheVariants as sprite
use Rattle.scene_rules.specs.declared.refusal.SceneRefusal.TheVariants as scene
use Rattle.scene_rules.specs.declared.refusal.WeaponRefusal.TheVariants as weapon
use Rattle.job_rules.specs.declared.trim.TrimRefusal.TheVariants as trim
use Rattle.csv_tables.specs.declared.fault.CsvRefusal.TheVariants as csv
use Rattle.refusals.specs.{declared.refusal.Refusal.Refusal, Lines.numbers_of}
use Rattle.refusals.specs.declared.refusal.Refusal.TheVariants.{Tables, Things, Path, Weapons, Wad, Level, Trim}
use Rattle.scene_rules.specs.declared.refusal.AuditRefusal.TheVariants.{Art, Map, Texture, Sprite, Scene, WeaponArt}

abbrev pub codes_of : List Refusal → List (List ℕ)
codes_of = map numbers_of

pub tables_row : codes_of (Tables (tables.Length 65539) ∷ Tables (tables.Sine 7) ∷ Tables (tables.Tangent 8) ∷ Tables (tables.Angle 9) ∷ Tables tables.FieldOfView ∷ [])
    ≡ (101 ∷ 65539 ∷ []) ∷ (102 ∷ 7 ∷ []) ∷ (103 ∷ 8 ∷ []) ∷ (104 ∷ 9 ∷ []) ∷ (105 ∷ []) ∷ []
tables_row = refl

pub things_row : codes_of (Things (csv.TooLong 5) ∷ Things csv.Header ∷ Things (csv.Fields 1) ∷ Things (csv.Number 1 2) ∷ Things (csv.Range 3 4) ∷ Things (csv.Repeat 2) ∷ Things csv.TooMany ∷ [])
    ≡ (201 ∷ 5 ∷ []) ∷ (202 ∷ []) ∷ (203 ∷ 1 ∷ []) ∷ (204 ∷ 1 ∷ 2 ∷ []) ∷ (205 ∷ 3 ∷ 4 ∷ []) ∷ (206 ∷ 2 ∷ []) ∷ (207 ∷ []) ∷ []
things_row = refl

pub path_row : codes_of (Path (csv.TooLong 5) ∷ Path csv.Header ∷ Path (csv.Fields 1) ∷ Path (csv.Number 1 2) ∷ Path (csv.Range 3 4) ∷ Path csv.TooMany ∷ [])
    ≡ (301 ∷ 5 ∷ []) ∷ (302 ∷ []) ∷ (303 ∷ 1 ∷ []) ∷ (304 ∷ 1 ∷ 2 ∷ []) ∷ (305 ∷ 3 ∷ 4 ∷ []) ∷ (307 ∷ []) ∷ []
path_row = refl

pub weapons_row : codes_of (Weapons (csv.TooLong 5) ∷ Weapons csv.Header ∷ Weapons (csv.Fields 1) ∷ Weapons (csv.Number 1 2) ∷ Weapons (csv.Range 3 4) ∷ Weapons csv.TooMany ∷ [])
    ≡ (1001 ∷ 5 ∷ []) ∷ (1002 ∷ []) ∷ (1003 ∷ 1 ∷ []) ∷ (1004 ∷ 1 ∷ 2 ∷ []) ∷ (1005 ∷ 3 ∷ 4 ∷ []) ∷ (1007 ∷ []) ∷ []
weapons_row = refl

pub wads_row : codes_of (Wad (wad.NotWad 0) ∷ Wad (wad.Short 1) ∷ Wad (wad.Entry 2 17) ∷ Wad wad.TooMany ∷ Level (Art art.Colormap) ∷ Level (Art art.Playpal) ∷ [])
    ≡ (401 ∷ 0 ∷ []) ∷ (402 ∷ 1 ∷ []) ∷ (403 ∷ 2 ∷ 17 ∷ []) ∷ (404 ∷ []) ∷ (501 ∷ []) ∷ (502 ∷ []) ∷ []
wads_row = refl

pub maps_row : codes_of (Level (Map level.NoMap) ∷ Level (Map (level.Size 5)) ∷ Level (Map level.NoLeaf) ∷ Level (Map (level.Index 4 731 3)) ∷ Level (Map (level.EmptyLeaf 45)) ∷ Level (Map (level.NodeTwice 235)) ∷ Level (Map (level.TooDeep 1025)) ∷ [])
    ≡ (601 ∷ []) ∷ (602 ∷ 5 ∷ []) ∷ (603 ∷ []) ∷ (604 ∷ 4 ∷ 731 ∷ 3 ∷ []) ∷ (605 ∷ 45 ∷ []) ∷ (606 ∷ 235 ∷ []) ∷ (607 ∷ 1025 ∷ []) ∷ []
maps_row = refl

pub art_row : codes_of (Level (Texture texture.Pnames) ∷ Level (Texture (texture.Lump 1)) ∷ Level (Texture (texture.Entry 0)) ∷ Level (Texture (texture.MissingPatch 2)) ∷ Level (Texture (texture.TooBig 83)) ∷ Level (Sprite (sprite.NoFrame 52)) ∷ Level (Sprite (sprite.MissingRotation 7 3)) ∷ Level (Sprite (sprite.BadPatch 1204)) ∷ [])
    ≡ (701 ∷ []) ∷ (702 ∷ 1 ∷ []) ∷ (703 ∷ 0 ∷ []) ∷ (704 ∷ 2 ∷ []) ∷ (705 ∷ 83 ∷ []) ∷ (801 ∷ 52 ∷ []) ∷ (802 ∷ 7 ∷ 3 ∷ []) ∷ (803 ∷ 1204 ∷ []) ∷ []
art_row = refl

pub scenes_row : codes_of (Level (Scene (scene.SideTexture 648)) ∷ Level (Scene scene.SkyTexture) ∷ Level (Scene (scene.SectorFlat 87)) ∷ Level (Scene (scene.Shadow 0)) ∷ Level (Scene (scene.Middle 11)) ∷ Level (Scene scene.FlatName) ∷ Trim (trim.MarkName 26) ∷ Trim (trim.TrimTooMany 65540) ∷ Trim (trim.TrimTooLarge 4294967300) ∷ [])
    ≡ (901 ∷ 648 ∷ []) ∷ (902 ∷ []) ∷ (903 ∷ 87 ∷ []) ∷ (904 ∷ 0 ∷ []) ∷ (905 ∷ 11 ∷ []) ∷ (906 ∷ []) ∷ (907 ∷ 26 ∷ []) ∷ (908 ∷ 65540 ∷ []) ∷ (909 ∷ 4294967300 ∷ []) ∷ []
scenes_row = refl

pub layers_row : codes_of (Level (WeaponArt (weapon.NoFrame 1)) ∷ Level (WeaponArt (weapon.MissingRotation 9 1)) ∷ Level (WeaponArt (weapon.BadPatch 1204)) ∷ [])
    ≡ (1011 ∷ 1 ∷ []) ∷ (1012 ∷ 9 ∷ 1 ∷ []) ∷ (1013 ∷ 1204 ∷ []) ∷ []
layers_row = refl
