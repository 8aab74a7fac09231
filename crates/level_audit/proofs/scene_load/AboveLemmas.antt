-- The audit of a level, with its faults as loading names them.
use Rattle.std.proofs.Common.{List, Option, Result}
use Rattle.level_audit.specs.Rules.{AuditRefusal, Fault, Frame, Heap, KeepsOrder, LevelJobValue, ShelfView, from_below, itself, lump_bytes}
use Rattle.art_rules.proofs.Laws.{ok_through}
use Rattle.refusals.specs.declared.refusal.Refusal.{Refusal}
use Rattle.refusals.specs.declared.refusal.Refusal.TheVariants.{Level}
use Rattle.job_files.specs.{Files.value_of, declared.read.SceneFiles.SceneFiles}
use Rattle.sound_scene.specs.Sound.{SoundValue}
use Rattle.level_audit.specs.{scene_load.Calls.AuditsLevel, scene_load.Fulls.IsFullOver}
use Rattle.level_audit.specs.{scene_load.Loads.audited_in, scene_load.Orders.loaded_items}
use Rattle.job_files.proofs.AboveLemmas.{IsNamedAbove, answers_above, causes_above, fulls_above, orders_above}

-- what an audit says of its answer is said of it with each refusal inside that of a run
pub audited_above : (level : LevelJobValue) (files : SceneFiles) {before after : ShelfView} {old new : Heap} (below : Result (SoundValue × Option (List Frame)) (Fault AuditRefusal))
    (above : Result (SoundValue × Option (List Frame)) (Fault Refusal)) → IsNamedAbove itself Level below above →
    AuditsLevel (λ audited. audited) level files before after old new below → AuditsLevel (from_below Level) level files before after old new above
audited_above level files {before} {after} {old} {new} below above named audits = record {
  answers = λ contents told. answers_above itself Level (audited_in (lump_bytes contents files.dir.lumps) level (value_of files)) below above named (audits.answers contents told);
  full = λ contents told. fulls_above itself Level (IsFullOver (lump_bytes contents files.dir.lumps) level (value_of files)) below above named (audits.full contents told);
  audited = ok_through _ _ below above named audits.audited;
  fresh = ok_through _ _ below above named audits.fresh;
  counts = audits.counts;
  faithful = audits.faithful;
  order = λ contents expected told accepted order.
      orders_above itself Level (KeepsOrder (loaded_items expected) old new before.taken after.taken) below above named (audits.order contents expected told accepted order);
  follows = audits.follows;
  causes = causes_above itself Level below above named audits.causes;
}
