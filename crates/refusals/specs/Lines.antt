-- The code of a refusal, its numbers, and how they are written.
use Rattle.std.specs.Prelude.{ℕ, ◌+◌, List, [], ◌∷◌, ◌++◌, codes, decimal, ℤ}
use Rattle.std.specs.Fmt.{signed_decimal}
use Rattle.art_rules.specs.Words.{DirRefusal, TablesRefusal}
use Rattle.art_rules.specs.TablesRefusal.TheVariants as tables
use Rattle.art_rules.specs.DirRefusal.TheVariants as wad
use Rattle.scene_rules.specs.{declared.refusal.ArtRefusal.ArtRefusal, Words.MapRefusal}
use Rattle.scene_rules.specs.declared.refusal.ArtRefusal.TheVariants as art
use Rattle.scene_rules.specs.MapRefusal.TheVariants as map
use Rattle.art_rules.specs.declared.refusal.TexRefusal.{TexRefusal}
use Rattle.art_rules.specs.declared.refusal.TexRefusal.TheVariants as texture
use Rattle.art_rules.specs.declared.refusal.SpriteRefusal.{SpriteRefusal}
use Rattle.art_rules.specs.declared.refusal.SpriteRefusal.TheVariants as sprite
use Rattle.scene_rules.specs.declared.refusal.SceneRefusal.{SceneRefusal}
use Rattle.scene_rules.specs.declared.refusal.SceneRefusal.TheVariants as scene
use Rattle.scene_rules.specs.declared.refusal.WeaponRefusal.{WeaponRefusal}
use Rattle.scene_rules.specs.declared.refusal.WeaponRefusal.TheVariants as weapon
use Rattle.scene_rules.specs.declared.refusal.AuditRefusal.{AuditRefusal}
use Rattle.scene_rules.specs.declared.refusal.AuditRefusal.TheVariants.{Art, Map, Texture, Sprite, Scene, WeaponArt}
use Rattle.job_rules.specs.declared.trim.TrimRefusal.{TrimRefusal}
use Rattle.job_rules.specs.declared.trim.TrimRefusal.TheVariants as trim
use Rattle.csv_tables.specs.declared.fault.CsvRefusal.{CsvRefusal}
use Rattle.csv_tables.specs.declared.fault.CsvRefusal.TheVariants as csv
use Rattle.refusals.specs.declared.codes.TheConstants.{CODE_TABLES_LENGTH, CODE_SINE, CODE_TANGENT, CODE_ANGLE, CODE_FIELD_OF_VIEW, CODE_NOT_WAD, CODE_SHORT, CODE_ENTRY, CODE_TOO_MANY, CODE_COLORMAP, CODE_PLAYPAL, CODE_NO_MAP, CODE_MAP_SIZE, CODE_NO_LEAF, CODE_INDEX, CODE_EMPTY_LEAF, CODE_NODE_TWICE, CODE_TOO_DEEP, CODE_PNAMES, CODE_TEXTURE_LUMP, CODE_TEXTURE_ENTRY, CODE_MISSING_PATCH, CODE_TOO_BIG, CODE_NO_FRAME, CODE_MISSING_ROTATION, CODE_BAD_PATCH, CODE_SIDE_TEXTURE, CODE_SKY_TEXTURE, CODE_SECTOR_FLAT, CODE_SHADOW, CODE_MIDDLE, CODE_FLAT_NAME, CODE_MARK_NAME, CODE_TRIM_TOO_MANY, CODE_TRIM_TOO_LARGE, CODE_WEAPON_NO_FRAME, CODE_WEAPON_ROTATION, CODE_WEAPON_PATCH, GROUP_PATH, GROUP_THINGS, GROUP_WEAPONS}
use Rattle.refusals.specs.declared.refusal.Refusal.{Refusal}
use Rattle.refusals.specs.declared.refusal.Refusal.TheVariants.{Tables, Things, Path, Weapons, Wad, Level, Trim}

-- the code of a refusal, and its numbers
abbrev pub tables_numbers : TablesRefusal → List ℕ
tables_numbers (tables.Length count) = CODE_TABLES_LENGTH ∷ count ∷ []
tables_numbers (tables.Sine index) = CODE_SINE ∷ index ∷ []
tables_numbers (tables.Tangent index) = CODE_TANGENT ∷ index ∷ []
tables_numbers (tables.Angle index) = CODE_ANGLE ∷ index ∷ []
tables_numbers tables.FieldOfView = CODE_FIELD_OF_VIEW ∷ []

abbrev pub wad_numbers : DirRefusal → List ℕ
wad_numbers (wad.NotWad file) = CODE_NOT_WAD ∷ file ∷ []
wad_numbers (wad.Short file) = CODE_SHORT ∷ file ∷ []
wad_numbers (wad.Entry file index) = CODE_ENTRY ∷ file ∷ index ∷ []
wad_numbers wad.TooMany = CODE_TOO_MANY ∷ []

abbrev pub art_numbers : ArtRefusal → List ℕ
art_numbers art.Colormap = CODE_COLORMAP ∷ []
art_numbers art.Playpal = CODE_PLAYPAL ∷ []

abbrev pub map_numbers : MapRefusal → List ℕ
map_numbers map.NoMap = CODE_NO_MAP ∷ []
map_numbers (map.Size lump) = CODE_MAP_SIZE ∷ lump ∷ []
map_numbers map.NoLeaf = CODE_NO_LEAF ∷ []
map_numbers (map.Index lump record_no field) = CODE_INDEX ∷ lump ∷ record_no ∷ field ∷ []
map_numbers (map.EmptyLeaf leaf) = CODE_EMPTY_LEAF ∷ leaf ∷ []
map_numbers (map.NodeTwice node) = CODE_NODE_TWICE ∷ node ∷ []
map_numbers (map.TooDeep node) = CODE_TOO_DEEP ∷ node ∷ []

abbrev pub texture_numbers : TexRefusal → List ℕ
texture_numbers texture.Pnames = CODE_PNAMES ∷ []
texture_numbers (texture.Lump which) = CODE_TEXTURE_LUMP ∷ which ∷ []
texture_numbers (texture.Entry number) = CODE_TEXTURE_ENTRY ∷ number ∷ []
texture_numbers (texture.MissingPatch texture) = CODE_MISSING_PATCH ∷ texture ∷ []
texture_numbers (texture.TooBig texture) = CODE_TOO_BIG ∷ texture ∷ []

abbrev pub sprite_numbers : SpriteRefusal → List ℕ
sprite_numbers (sprite.NoFrame thing) = CODE_NO_FRAME ∷ thing ∷ []
sprite_numbers (sprite.MissingRotation thing rotation) = CODE_MISSING_ROTATION ∷ thing ∷ rotation ∷ []
sprite_numbers (sprite.BadPatch lump) = CODE_BAD_PATCH ∷ lump ∷ []

abbrev pub scene_numbers : SceneRefusal → List ℕ
scene_numbers (scene.SideTexture side) = CODE_SIDE_TEXTURE ∷ side ∷ []
scene_numbers scene.SkyTexture = CODE_SKY_TEXTURE ∷ []
scene_numbers (scene.SectorFlat sector) = CODE_SECTOR_FLAT ∷ sector ∷ []
scene_numbers (scene.Shadow thing) = CODE_SHADOW ∷ thing ∷ []
scene_numbers (scene.Middle side) = CODE_MIDDLE ∷ side ∷ []
scene_numbers scene.FlatName = CODE_FLAT_NAME ∷ []

abbrev pub weapon_numbers : WeaponRefusal → List ℕ
weapon_numbers (weapon.NoFrame row) = CODE_WEAPON_NO_FRAME ∷ row ∷ []
weapon_numbers (weapon.MissingRotation row rotation) = CODE_WEAPON_ROTATION ∷ row ∷ rotation ∷ []
weapon_numbers (weapon.BadPatch lump) = CODE_WEAPON_PATCH ∷ lump ∷ []

abbrev pub trim_numbers : TrimRefusal → List ℕ
trim_numbers (trim.MarkName lump) = CODE_MARK_NAME ∷ lump ∷ []
trim_numbers (trim.TrimTooMany count) = CODE_TRIM_TOO_MANY ∷ count ∷ []
trim_numbers (trim.TrimTooLarge bytes) = CODE_TRIM_TOO_LARGE ∷ bytes ∷ []

-- of a table of text, whose codes stand behind the number of its group
abbrev pub csv_numbers : ℕ → CsvRefusal → List ℕ
csv_numbers group (csv.TooLong bytes) = (group + 1) ∷ bytes ∷ []
csv_numbers group csv.Header = (group + 2) ∷ []
csv_numbers group (csv.Fields row) = (group + 3) ∷ row ∷ []
csv_numbers group (csv.Number row column) = (group + 4) ∷ row ∷ column ∷ []
csv_numbers group (csv.Range row column) = (group + 5) ∷ row ∷ column ∷ []
csv_numbers group (csv.Repeat row) = (group + 6) ∷ row ∷ []
csv_numbers group csv.TooMany = (group + 7) ∷ []

abbrev pub level_numbers : AuditRefusal → List ℕ
level_numbers (Art refusal) = art_numbers refusal
level_numbers (Map refusal) = map_numbers refusal
level_numbers (Texture refusal) = texture_numbers refusal
level_numbers (Sprite refusal) = sprite_numbers refusal
level_numbers (Scene refusal) = scene_numbers refusal
level_numbers (WeaponArt refusal) = weapon_numbers refusal

abbrev pub numbers_of : Refusal → List ℕ
numbers_of (Tables refusal) = tables_numbers refusal
numbers_of (Things refusal) = csv_numbers GROUP_THINGS refusal
numbers_of (Path refusal) = csv_numbers GROUP_PATH refusal
numbers_of (Weapons refusal) = csv_numbers GROUP_WEAPONS refusal
numbers_of (Wad refusal) = wad_numbers refusal
numbers_of (Level refusal) = level_numbers refusal
numbers_of (Trim refusal) = trim_numbers refusal

-- a number after some text
abbrev pub labelled : List ℕ → ℕ → List ℕ
labelled label number = label ++ decimal number

-- a signed number after some text
abbrev pub labelled_signed : List ℕ → ℤ → List ℕ
labelled_signed label number = label ++ signed_decimal number

-- a number after a space
abbrev pub spaced : ℕ → List ℕ
spaced = labelled (codes " ")
