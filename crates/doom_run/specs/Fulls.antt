-- When a run ends with a full zone.
use Rattle.std.specs.Prelude.{◌≡◌, ◌≢◌, ◌≤◌, ◌<◌, ◌+◌, ◌*◌, ◌⊎◌, ℕ, true, IsTrue, IfSome, List, length, Option, Some, Ok, Contains}
use Rattle.doom_run.specs.Rules.{CommandValue, File, LevelJobValue, MIN_FRAGMENT, PlacedPatch, PreparedTexture, composite_block, is_needed, lump_block}
use Rattle.texture_build.specs.Sizes.{IsGapBeside, IsGapBesideTwo}
use Rattle.command_line.specs.Commands.{command_of}
use Rattle.sound_scene.specs.Sound.{art_with}
use Rattle.level_audit.specs.scene_load.Fulls.{IsFullLoad}
use Rattle.level_audit.specs.scene_load.Loads.{LoadedValue, load_in, loaded_pictures, loaded_sizes}
use Rattle.doom_run.specs.{Jobs.Task, Jobs.job_of, Jobs.over, Jobs.plain, Leasts.zone_of}
use Rattle.doom_run.specs.Verdict.{Accepted}

-- A block that drawing or trimming asks for: that of a lump of the directory that the scene needs, or of a prepared
-- texture's composite.
pub record IsDrawnBlock (loaded : LoadedValue) (wanted : ℕ) : Type 0 where
  pub is : ((lump : ℕ) × (lump < length loaded.files.lumps) × (is_needed loaded.files.lumps (art_with loaded.scene (loaded_pictures loaded)) lump ≡ true) × (wanted ≡ lump_block loaded.files.lumps lump))
      ⊎ ((t : Option PreparedTexture) × (Contains loaded.scene.prepared t) × (wanted ≡ composite_block t) × (wanted ≢ 0))

-- The zone does not hold it beside COLORMAP: the widest gap is all that is left there.
pub record IsBlockBeside (loaded : LoadedValue) (zone wanted widest' : ℕ) : Type 0 where
  pub small : zone < lump_block loaded.files.lumps loaded.scene.base.colormap + wanted + MIN_FRAGMENT
  pub gap : IsGapBeside zone (lump_block loaded.files.lumps loaded.scene.base.colormap) widest'

-- a patch of a texture whose composite is built, which has to stand beside it and COLORMAP
pub record IsPatchBeside (loaded : LoadedValue) (zone wanted widest' : ℕ) : Type 0 where
  pub texture : PreparedTexture
  pub prepared : Contains loaded.scene.prepared (Some texture)
  pub patch : PlacedPatch
  pub among : Contains texture.patches patch
  pub is : wanted ≡ lump_block loaded.files.lumps patch.lump
  pub built : composite_block (Some texture) ≢ 0
  pub small : zone < lump_block loaded.files.lumps loaded.scene.base.colormap
      + composite_block (Some texture) + 2 * wanted + 2 * MIN_FRAGMENT
  pub gap : IsGapBesideTwo zone (lump_block loaded.files.lumps loaded.scene.base.colormap
      + composite_block (Some texture)) widest'

-- No gap held a block that drawing asks for, or the block of a lump of a trimmed file. The zone does not hold
-- it beside COLORMAP, or it is a patch of a composite that is built; and the zone is smaller than enough.
-- The widest gap is what is left beside these.
pub record IsFullDraw (level : LevelJobValue) (wads : List (List ℕ)) (files : List File) (wanted widest' : ℕ) : Type 0 where
  pub loaded : LoadedValue
  pub is : load_in level wads files ≡ Ok loaded
  pub block : IsDrawnBlock loaded wanted
  pub narrow : widest' < wanted
  pub beside : IsBlockBeside loaded level.settings.zone wanted widest'
      ⊎ IsPatchBeside loaded level.settings.zone wanted widest'
  pub enough : level.settings.zone < (loaded_sizes loaded).enough

-- The files of a task with a zone are in order, and the zone is small: for what loading reads, or for what is
-- drawn or copied.
abbrev pub IsFullTask : Task → List File → ℕ → ℕ → Type 0
IsFullTask (plain writes reads) files wanted widest = ⊥
IsFullTask (over work) files wanted widest =
    IsFullLoad work.level work.wads (work.files files) wanted widest
    ⊎ (IsTrue work.delivery.reads × IsFullDraw work.level work.wads (work.files files) wanted widest)

-- the same of a command
abbrev pub IsFullRun : CommandValue → List File → ℕ → ℕ → Type 0
IsFullRun command files wanted widest = IsFullTask (job_of command).task files wanted widest

-- the zone of a command is large enough for what it accepts
abbrev pub HasRoom : List (List ℕ) → Accepted → Type 0
HasRoom words accepted = IfSome (command_of words) (λ command. accepted.enough ≤ zone_of (job_of command).task)
