-- What calls leave that draw views of a ready scene and write them, by their status.
use Rattle.picture_rules.proofs.Common.{arith, Err, Ok, List, refl, Result, subst, ℕ, ◌∙◌, ◌≡◌, ◌≤◌}
use Rattle.doom_run.specs.Rules.{FaultsRose, HasCauseAt, IsInOrder, Item, KeepsOrder, ShelfView}
use Rattle.art_rules.proofs.Laws.{causes_settled}
use Rattle.scene_rules.proofs.Laws.{order_none, order_then}
use Rattle.texture_build.specs.Calls.{IfFull, InOrderAt}
use Rattle.frame_core.specs.{declared.fault.ViewFault.ViewFault, Faults.view_fault}
use Rattle.frame_core.specs.declared.fault.ViewFault.TheVariants as fault
use Rattle.job_files.specs.declared.status.Status.{Status}
use Rattle.job_files.specs.declared.status.Status.TheVariants.{Done, WriteFault}
use Rattle.doom_run.specs.declared.canvas.ViewCanvas.{ViewCanvas}
use Rattle.doom_run.specs.declared.render.ReadyViews.{ReadyViews}
use Rattle.doom_run.specs.Frames.{KeepsReady, status_of_view}
use Rattle.doom_run.specs.Renders.{DrawsAt, HasReadyAsked, IsFullView, RendersReady}
use Rattle.doom_run.proofs.ReadyLemmas.{FullEither, full_view, full-first, keeps_ready-none, keeps_ready-then}
use Rattle.doom_run.proofs.{AskedLemmas.asked-later, AskedLemmas.both_asked, TakeLemmas.after_all}

-- no view was drawn
pub renders-none : (view : ShelfView) (ready : ReadyViews) (faults : ℕ) → RendersReady view view ready ready faults faults Done
renders-none view ready faults = record {
  answers = tt;
  order = λ items asked order. order_none items ready.loaded.cache view.taken order;
  read_fault = λ e. absurd (cc);
  write_fault = λ e. absurd (cc);
  read_settled = λ other. refl;
  write_settled = λ other. refl;
  zone_full = λ wanted widest' e. absurd (cc);
  rises = omega arith;
  keeps = keeps_ready-none view ready;
}

-- views are drawn after others
pub renders-then : {a b c : ShelfView} {x y z : ReadyViews} {i j k : ℕ} {status : Status} → RendersReady a b x y i j Done → RendersReady b c y z j k status → RendersReady a c x z i k status
renders-then {c = c} {k = k} {status = status} one two = record {
  answers = two.answers;
  order = λ items asked order.
      let order_kept = one.order items asked order in
      after_all status (λ more. order_then order_kept more) (two.order items (asked-later items one.keeps asked) order_kept.order);
  read_fault = λ e. subst (λ n. FaultsRose n c.faults) (one.read_settled (λ is. cc)) (two.read_fault e);
  write_fault = λ e. subst (λ n. FaultsRose n k) (one.write_settled (λ is. cc)) (two.write_fault e);
  read_settled = λ other. two.read_settled other ∙ one.read_settled (λ is. cc);
  write_settled = λ other. two.write_settled other ∙ one.write_settled (λ is. cc);
  zone_full = λ wanted widest' e. full-first wanted widest' one.keeps (two.zone_full wanted widest' e);
  rises = omega (arith, one.rises, two.rises);
  keeps = keeps_ready-then one.keeps two.keeps;
}

module _ (k : ℕ) (view after : ShelfView) (old new : ReadyViews) (keeps : KeepsReady view after old new) where
  fault_renders : (f : ViewFault) (faults : ℕ) → HasCauseAt view.faults after.faults (view_fault f) → IfFull (view_fault f) (FullEither old) →
      ((items : List Item) → HasReadyAsked items old → IsInOrder items old.loaded.cache → InOrderAt (view_fault f) (KeepsOrder items old.loaded.cache new.loaded.cache view.taken after.taken)) →
      RendersReady view after old new faults faults (status_of_view k f)
  fault_renders (fault.Limit kind count) faults cause full order =
      record { answers = tt; order = order; read_fault = λ e. absurd (cc); write_fault = λ e. absurd (cc); read_settled = λ other. cause; write_settled = λ other. refl; zone_full = λ wanted widest' e. absurd (cc); rises = omega arith; keeps = keeps }
  fault_renders (fault.ZoneFull wide gap) faults cause full order = record {
    answers = tt;
    order = order;
    read_fault = λ e. absurd (cc);
    write_fault = λ e. absurd (cc);
    read_settled = λ other. cause;
    write_settled = λ other. refl;
    zone_full = λ wanted widest' e.
        let wanted_same : wide ≡ wanted = cc in
        let widest_same : gap ≡ widest' = cc in
        subst (λ (n : ℕ). IsFullView old n widest') wanted_same (subst (λ (n : ℕ). IsFullView old wide n) widest_same (full_view old wide gap full));
    rises = omega arith;
    keeps = keeps;
  }
  fault_renders fault.ReadFault faults cause full order =
      record { answers = tt; order = order; read_fault = λ e. cause; write_fault = λ e. absurd (cc); read_settled = λ other. absurd (other refl); write_settled = λ other. refl; zone_full = λ wanted widest' e. absurd (cc); rises = omega arith; keeps = keeps }

-- one view, by what drawing it answers
module _ {k : ℕ} {view after : ShelfView} {old new : ReadyViews} {canvas : ViewCanvas} {drawn : Result (Unit {0}) ViewFault} (draws : DrawsAt k view after old new canvas drawn) where
  -- a fault ends it
  pub renders_fault : (f : ViewFault) (status : Status) (faults : ℕ) → drawn ≡ Err f → status ≡ status_of_view k f → RendersReady view after old new faults faults status
  renders_fault f status faults was is =
      rw is (fault_renders k view after old new draws.keeps f faults (rw was at draws.draws.causes.err) (rw was at draws.draws.full)
      (λ items asked order. rw was at (draws.draws.order items asked.textures (λ lump. both_asked old items asked lump) order)))

  module _ (unit : Unit {0}) (was : drawn ≡ Ok unit) where
    kept : (items : List Item) → HasReadyAsked items old → IsInOrder items old.loaded.cache → KeepsOrder items old.loaded.cache new.loaded.cache view.taken after.taken
    kept items asked order = rw was at (draws.draws.order items asked.textures (λ lump. both_asked old items asked lump) order)

    drawn_settled : after.faults ≡ view.faults
    drawn_settled = causes_settled unit draws.draws.causes was

    -- it is written
    pub renders_put : {faults later : ℕ} → faults ≤ later → later ≡ faults → RendersReady view after old new faults later Done
    renders_put rises settled =
        record { answers = tt; order = kept; read_fault = λ e. absurd (cc); write_fault = λ e. absurd (cc); read_settled = λ other. drawn_settled; write_settled = λ other. settled; zone_full = λ wanted widest' e. absurd (cc); rises = rises; keeps = draws.keeps }

    -- or writing it fails
    pub renders_failed : {faults later : ℕ} → faults ≤ later → FaultsRose faults later → RendersReady view after old new faults later WriteFault
    renders_failed rises rose =
        record { answers = tt; order = kept; read_fault = λ e. absurd (cc); write_fault = λ e. rose; read_settled = λ other. drawn_settled; write_settled = λ other. absurd (other refl); zone_full = λ wanted widest' e. absurd (cc); rises = rises; keeps = draws.keeps }

-- a fault is not the end of the path
pub fault_not_done : (k : ℕ) (f : ViewFault) → status_of_view k f ≡ Done → ⊥
fault_not_done k (fault.Limit kind count) e = cc
fault_not_done k (fault.ZoneFull wanted widest) e = cc
fault_not_done k fault.ReadFault e = cc
