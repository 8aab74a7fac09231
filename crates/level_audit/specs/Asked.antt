-- The lumps of a scene that are asked for, COLORMAP aside: those of its base, and those of its art.
use Rattle.std.specs.Prelude.{◌≡◌, ◌⊎◌, List, Ok, map, ℕ}
use Rattle.level_audit.specs.Rules.{Faces, LevelBase, Lump, ThingLine, faces_in, is_wanted_texture, need_of, placed_things, playpal_of}
use Rattle.level_scene.specs.Asked.{IsLumpOfMap}
use Rattle.texture_lists.specs.Asked.{IsListLump}
use Rattle.texture_build.specs.Asked.{IsWantedPatch}
use Rattle.sprite_book.specs.Calls.{IsWanted}

-- a lump of the map, or a list of textures
abbrev pub IsOfMap : List Lump → List ℕ → ℕ → Type 0
IsOfMap lumps name lump = IsLumpOfMap lumps name lump ⊎ IsListLump lumps lump

-- the same, or PLAYPAL
abbrev pub IsOfBase : List Lump → List ℕ → ℕ → Type 0
IsOfBase lumps name lump = (playpal_of lumps ≡ Ok lump) ⊎ IsOfMap lumps name lump

-- a patch of a wanted texture, or a picture of a needed frame
abbrev pub IsOfArt : List Lump → List ThingLine → ℕ → LevelBase → Faces → ℕ → Type 0
IsOfArt lumps lines skill base faces lump =
    IsWantedPatch lumps base.lists (is_wanted_texture faces.sides faces.sky) lump ⊎ IsWanted lumps (map need_of (placed_things base.level lines skill)) lump

-- the same, where the names in the level mean something
pub record IsOfScene (lumps : List Lump) (lines : List ThingLine) (skill : ℕ) (name : List ℕ) (base : LevelBase) (lump : ℕ) : Type 0 where
  pub faces : Faces
  pub are : faces_in lumps name base.level base.lists ≡ Ok faces
  pub asked : IsOfArt lumps lines skill base faces lump
