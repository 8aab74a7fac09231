-- How many bytes are read while a zone stays in order.
use Rattle.picture_rules.proofs.Common.{arith, refl, ℕ, ◌+◌, ◌≡◌, ◌≤◌}
use Rattle.doom_run.specs.Rules.{Fault, Heap, KeepsOrder, live_sum, lump_size}
use Rattle.art_rules.specs.Fault.TheVariants as fault
use Rattle.texture_build.specs.Calls.{InOrderAt}
use Rattle.refusals.specs.declared.refusal.Refusal.{Refusal}
use Rattle.level_audit.specs.scene_load.Loads.{LoadedValue}
use Rattle.level_audit.specs.scene_load.Orders.{loaded_items, lumps_size}
use Rattle.level_audit.proofs.scene_load.OrderLemmas.{items_read}
use Rattle.job_files.specs.{Statuses.status_of, declared.status.Status.Status}
use Rattle.job_files.specs.declared.status.Status.TheVariants.{Done, Usage, Refused, ReadFault, WriteFault, Limit, ZoneFull, OutOfMemory}
use Rattle.doom_run.specs.Takes.{InOrderAfter}

-- what is said after a status, of more
pub after_all : {P Q : Type 0} (status : Status) → (P → Q) → InOrderAfter status P → InOrderAfter status Q
after_all Done f p = f p
after_all Usage f p = f p
after_all (Refused refusal) f p = f p
after_all ReadFault f p = tt
after_all WriteFault f p = f p
after_all (Limit view kind count) f p = f p
after_all (ZoneFull wanted widest) f p = p
after_all OutOfMemory f p = f p

-- what is said of a fault, where no read failed
pub calm_order : {P : Type 0} (f : Fault Refusal) → (status_of f ≡ ReadFault → ⊥) → InOrderAt f P → P
calm_order (fault.Refused refusal) calm order = order
calm_order fault.ReadFault calm order = absurd (calm refl)
calm_order (fault.ZoneFull wanted widest) calm order = absurd order
calm_order fault.OutOfMemory calm order = order

-- What is read in a zone in order, while a level is drawn or copied, is live afterwards, unless a read failed.
module _ (loaded : LoadedValue) (y z : Heap) (before after : ℕ) where
  abbrev ReadOnce : Type 0
  ReadOnce = after + live_sum lump_size (loaded_items loaded) y.blocks ≤ before + lumps_size loaded

  kept_once : KeepsOrder (loaded_items loaded) y z before after → ReadOnce
  kept_once keeps = omega (arith, keeps.taken, items_read loaded z.blocks)

  pub keeps_once : (status : Status) → InOrderAfter status (KeepsOrder (loaded_items loaded) y z before after) → (status ≡ ReadFault → ⊥) → ReadOnce
  keeps_once Done keeps read = kept_once keeps
  keeps_once Usage keeps read = kept_once keeps
  keeps_once (Refused refusal) keeps read = kept_once keeps
  keeps_once ReadFault keeps read = absurd (read refl)
  keeps_once WriteFault keeps read = kept_once keeps
  keeps_once (Limit view kind count) keeps read = kept_once keeps
  keeps_once (ZoneFull wanted widest) keeps read = absurd keeps
  keeps_once OutOfMemory keeps read = kept_once keeps
