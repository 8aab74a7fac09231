-- For which block that a loaded level needs its zone is full, and how small it is.
use Rattle.picture_rules.proofs.Common.{arith, inl, inr, List, Ok, Some, ℕ, ◌<◌, ◌≡◌, ◌⊎◌}
use Rattle.doom_run.specs.Rules.{File, LevelJobValue, SceneArt, lump_block, zone_sizes}
use Rattle.texture_build.specs.Sizes.{IsGapBeside}
use Rattle.sound_scene.specs.Sound.{art_with}
use Rattle.sound_scene.proofs.FullLemmas.{IsArtFull, full-small}
use Rattle.level_audit.specs.scene_load.Loads.{LoadedValue, load_in, loaded_pictures, loaded_sizes}
use Rattle.doom_run.specs.Fulls.{IsBlockBeside, IsDrawnBlock, IsFullDraw, IsPatchBeside}

-- what a zone that was full for what was loaded had no room for
module _ (loaded : LoadedValue) (zone wanted widest' : ℕ) where
  abbrev art_in : SceneArt
  art_in = art_with loaded.scene (loaded_pictures loaded)

  full_block : IsArtFull loaded.files.lumps art_in zone wanted widest' → IsDrawnBlock loaded wanted
  full_block (inl f) = record { is = inl (f.lump, f.there, f.needed, f.is) }
  full_block (inr (inl f)) = record { is = inr (Some f.texture, f.prepared, f.is, f.some) }
  full_block (inr (inr f)) = record { is = inl (f.patch.lump, f.there, f.needed, f.is) }

  gap_beside : widest' < wanted → IsGapBeside zone (lump_block loaded.files.lumps loaded.scene.base.colormap) widest' → IsBlockBeside loaded zone wanted widest'
  gap_beside narrow gap = record { small = omega (arith, narrow, gap.1); gap = gap }

  full_beside : widest' < wanted → IsArtFull loaded.files.lumps art_in zone wanted widest' → IsBlockBeside loaded zone wanted widest' ⊎ IsPatchBeside loaded zone wanted widest'
  full_beside narrow (inl f) = inl (gap_beside narrow f.gap)
  full_beside narrow (inr (inl f)) = inl (gap_beside narrow f.gap)
  full_beside narrow (inr (inr f)) = inr (record { texture = f.texture; prepared = f.prepared; patch = f.patch; among = f.among; is = f.is; built = f.built; small = omega (arith, narrow, f.gap.1); gap = f.gap })

-- no room for what is needed
pub art_draw : (level : LevelJobValue) (wads : List (List ℕ)) (files : List File) (loaded : LoadedValue) → load_in level wads files ≡ Ok loaded → (wanted widest' : ℕ) → widest' < wanted →
    IsArtFull loaded.files.lumps (art_with loaded.scene (loaded_pictures loaded)) level.settings.zone wanted widest' → IsFullDraw level wads files wanted widest'
unfolding loaded_sizes zone_sizes
art_draw level wads files loaded is wanted widest' narrow full = record {
  loaded = loaded;
  is = is;
  block = full_block loaded level.settings.zone wanted widest' full;
  narrow = narrow;
  beside = full_beside loaded level.settings.zone wanted widest' narrow full;
  enough = full-small loaded.files.lumps (art_with loaded.scene (loaded_pictures loaded)) level.settings.zone wanted widest' narrow full;
}
