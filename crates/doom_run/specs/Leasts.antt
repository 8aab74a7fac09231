-- How many bytes a zone has at least in which a job over a level comes to its end: no smaller one holds,
-- beside COLORMAP, each lump that is read and each that is painted from.
use Rattle.std.specs.Prelude.{ℕ, ◌+◌, ◌==◌, ◌||◌, Bool, cond, max, List, length, Result, Ok, Err}
use Rattle.std.specs.List.{range_with_len}
use Rattle.doom_run.specs.Rules.{COMPOSITE, CommandValue, Dot, File, LUMP, LevelBase, LevelJobValue, Lump, Painter, Scene, Stop, block_size, greatest_by, is_list, is_map_lump, lump_block, overlaid_paints}
use Rattle.texture_build.specs.{Asked.size_of, Views.TexturesView, Views.prepared_texture}
use Rattle.refusals.specs.declared.refusal.Refusal.{Refusal}
use Rattle.sound_scene.specs.Sound.{textures_view}
use Rattle.level_audit.specs.scene_load.Loads.{LoadedValue, load_in, wad_bytes}
use Rattle.doom_run.specs.Jobs.{Delivery, Task, Work, job_of, over, plain}
use Rattle.doom_run.specs.{Layers.SeenView, Views.views_of}

-- PLAYPAL, a lump of the map, or a list of textures
unfoldable pub is_base_lump : List Lump → LevelBase → ℕ → Bool
is_base_lump lumps base lump = (base.playpal == lump) || is_map_lump base.label lump || is_list lumps lump

-- the block of a lump that stands beside COLORMAP, 0 for COLORMAP itself
unfoldable pub block_beside : List Lump → ℕ → ℕ → ℕ
block_beside lumps colormap lump = cond (lump == colormap) 0 (lump_block lumps lump)

-- the greatest of those of the base
unfoldable pub base_block : List Lump → LevelBase → ℕ
base_block lumps base =
    greatest_by (λ lump. cond (is_base_lump lumps base lump) (block_beside lumps base.colormap lump) 0) (range_with_len 0 (length lumps))

-- the block of what a painter reads, 0 where it reads nothing
unfoldable pub source_block : List Lump → TexturesView → ℕ → Painter → ℕ
source_block lumps textures colormap painter =
    cond (painter.source_kind == LUMP) (block_beside lumps colormap painter.source)
    (cond (painter.source_kind == COMPOSITE) (block_size (size_of (prepared_texture textures painter.source))) 0)

-- the greatest of those of a view's paints, its layers' among them
unfoldable pub painted_block : List Lump → TexturesView → ℕ → Scene → SeenView → ℕ
painted_block lumps textures colormap scene s =
    greatest_by (λ (d : Dot). source_block lumps textures colormap d.painter) (overlaid_paints s.view scene s.layers)

-- COLORMAP, and beside it the greatest block of the base or of what these views are painted from
unfoldable pub least_over : LoadedValue → Scene → List SeenView → ℕ
least_over loaded scene views =
    lump_block loaded.files.lumps loaded.scene.base.colormap
    + max (base_block loaded.files.lumps loaded.scene.base)
    (greatest_by (painted_block loaded.files.lumps (textures_view loaded.scene) loaded.scene.base.colormap scene) views)

-- the least for what is done with a level that is loaded, whose lumps have these bytes
unfoldable pub delivery_least : LevelJobValue → Delivery → (ℕ → List ℕ) → LoadedValue → ℕ
delivery_least level delivery bytes loaded =
    let views = views_of bytes level.settings loaded in
    least_over loaded views.scene (delivery.drawn views)

-- the same, by what loading comes to: nothing is said where it stops
abbrev pub least_loading : Work → List File → Result LoadedValue (Stop Refusal) → ℕ
least_loading work files (Ok loaded) = delivery_least work.level work.delivery (wad_bytes work.wads files loaded.files.lumps) loaded
least_loading work files (Err stop) = 0

unfoldable pub work_least : Work → List File → ℕ
work_least work files = least_loading work files (load_in work.level work.wads files)

-- the least of a task, 0 where it has no zone
abbrev pub task_least : Task → List File → ℕ
task_least (plain writes reads) files = 0
task_least (over work) files = work_least work (work.files files)

-- how many bytes the zone of a task has
abbrev pub zone_of : Task → ℕ
zone_of (plain writes reads) = 0
zone_of (over work) = work.level.settings.zone

-- the same of a command
abbrev pub command_least : CommandValue → List File → ℕ
command_least command files = task_least (job_of command).task files

abbrev pub command_zone : CommandValue → ℕ
command_zone command = zone_of (job_of command).task
