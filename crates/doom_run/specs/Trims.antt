-- The parts of the trimmed file of a level, and what writing them comes to.
use Rattle.std.specs.Prelude.{◌≡◌, List, Result, Ok, Err}
use Rattle.doom_run.specs.Rules.{Fault, LevelJobValue, OutOfMemory, ReadFault, Refused, SceneArt, TrimPart, ZoneFull, from_below, trim_plan}
use Rattle.refusals.specs.declared.refusal.Refusal.{Refusal}
use Rattle.refusals.specs.declared.refusal.Refusal.TheVariants.{Trim}
use Rattle.sound_scene.specs.Sound.{art_with}
use Rattle.wad_trim.specs.declared.fault.TrimWrite.{TrimWrite}
use Rattle.wad_trim.specs.declared.fault.TrimWrite.TheVariants as write
use Rattle.job_files.specs.declared.status.Status.{Status}
use Rattle.job_files.specs.declared.status.Status.TheVariants as status
use Rattle.level_audit.specs.scene_load.Loads.{LoadedValue, loaded_pictures}

-- what a loaded level takes from the directory, the pictures of its weapon layers among it
abbrev pub loaded_art : LoadedValue → SceneArt
loaded_art loaded = art_with loaded.scene (loaded_pictures loaded)

-- its parts, or why there are none
abbrev pub plan_in : LevelJobValue → LoadedValue → Result (List TrimPart) Refusal
plan_in level loaded = from_below Trim (trim_plan loaded.files.lumps (loaded_art loaded) level.map_name)

-- a fault of the parts: their refusal, or no memory
abbrev pub IsPlanFault : Result (List TrimPart) Refusal → Fault Refusal → Type 0
IsPlanFault plan (Refused refusal) = plan ≡ Err refusal
IsPlanFault plan ReadFault = ⊥
IsPlanFault plan (ZoneFull wanted widest) = ⊥
IsPlanFault plan OutOfMemory = Unit {0}

-- the status of what writing came to
abbrev pub status_of_written : Result (Unit {0}) TrimWrite → Status
status_of_written (Ok done) = status.Done
status_of_written (Err write.ReadFault) = status.ReadFault
status_of_written (Err write.WriteFault) = status.WriteFault
status_of_written (Err (write.ZoneFull wanted widest)) = status.ZoneFull wanted widest
