-- What is done with the views of a ready scene, by what was written, read and painted.
use Rattle.picture_rules.proofs.Common.{ap, List, Ok, refl, subst, sym, ℕ, ◌≡◌}
use Rattle.doom_run.specs.Rules.{LevelJobValue, ShelfView, from_below, lump_at}
use Rattle.job_files.specs.declared.status.Status.{Status}
use Rattle.level_audit.specs.declared.scene_load.load.LoadedScene.{LoadedScene}
use Rattle.level_audit.specs.{scene_load.Calls.IsLoadedScene, scene_load.Orders.loaded_items}
use Rattle.level_audit.specs.scene_load.Loads.{LoadedValue, loaded_sizes, loaded_value}
use Rattle.doom_run.specs.{declared.form.ViewForm.ViewForm, declared.render.ReadyViews.ReadyViews}
use Rattle.doom_run.specs.Ends.{EndsAt, IsDelivered, IsEnd, RendersAt, WritesDue}
use Rattle.doom_run.specs.Jobs.{Written, drawing, rendered, telling}
use Rattle.doom_run.specs.{Performs.Delivers, Steps.at_step, Verdict.accepted_in, Verdict.delivered}
use Rattle.doom_run.specs.Renders.{FitDue, HoldsReady, IsDrawable, IsReady, RendersReady, ready_bytes, ready_views}
use Rattle.doom_run.specs.Views.{ViewsValue, limits_of_settings, views_of}
use Rattle.doom_run.proofs.{AskedLemmas.ready_asked, DrawnLemmas.drawable, DrawnLemmas.view_draw}
use Rattle.doom_run.proofs.ReadyLemmas.{ready_as}
use Rattle.doom_run.proofs.EndLemmas.{frames_more, loaded_named, renders_end}
use Rattle.doom_run.proofs.{FitLemmas.least_drawn, TakeLemmas.keeps_once}
use Rattle.doom_run.proofs.DeliverLemmas.{telling_delivers}

-- a scene that was loaded is drawable once it is ready
pub ready_drawable : (level : LevelJobValue) (loaded : LoadedScene) (ready : ReadyViews) → ready.loaded ≡ loaded → IsLoadedScene level loaded → IsDrawable ready.loaded
ready_drawable level loaded ready is stands =
    let loaded_stands : IsLoadedScene level ready.loaded = subst (IsLoadedScene level) (sym is) stands in
    (drawable level ready.loaded loaded_stands, loaded_stands.audited.layers)

-- a job that tells of the views of a ready scene
pub views_delivers : (level : LevelJobValue) (view : ShelfView) (loaded : LoadedScene) (ready : ReadyViews) (tells : ViewsValue → Written) (old new : List ℕ → Type 0) (faults later : ℕ) (status : Status) → ready.loaded ≡ loaded → ready.shop.limits ≡ limits_of_settings level.settings →
    IsLoadedScene level loaded → ((bytes : ℕ → List ℕ) → WritesDue (tells (ready_views bytes ready)) old new faults later status) →
    Delivers level (telling (λ bytes loaded. tells (views_of bytes level.settings loaded))) view view loaded old new faults later status
views_delivers level view loaded ready tells old new faults later status is limits stands writes =
    let loaded_stands : IsLoadedScene level ready.loaded = subst (IsLoadedScene level) (sym is) stands in
    subst (λ (l : LoadedScene). Delivers level (telling (λ bytes loaded. tells (views_of bytes level.settings loaded))) view view l old new faults later status) is
    (telling_delivers level view ready.loaded (λ bytes loaded. tells (views_of bytes level.settings loaded)) old new faults later status loaded_stands
    (λ bytes. subst (λ (r : ViewsValue). WritesDue (tells r) old new faults later status) (sym (ready_as bytes level ready (record { loaded = loaded_stands; limits = limits }))) (writes bytes)))

-- a job that draws: by what drawing and writing the views of a ready scene came to
module _ (level : LevelJobValue) (form : ViewForm) (ready left : ReadyViews) (view after : ShelfView) (old new : List ℕ → Type 0) (faults later : ℕ) (status : Status) where
  abbrev colours : ℕ
  colours = (lump_at ready.loaded.files.dir.lumps ready.loaded.scene.scene.base.colormap).size

  pub drawing_delivers : IsReady level ready →
      ((contents : List (List ℕ)) (count : ℕ) → HoldsReady view ready contents count → RendersAt view.steady (rendered form (ready_views (ready_bytes contents ready) ready)) old new status) →
      ((contents : List (List ℕ)) (count : ℕ) → HoldsReady view ready contents count → IsEnd status → FitDue (ready_bytes contents ready) count ready) → RendersReady view after ready left faults later status →
      Delivers level (drawing level (rendered form)) view after ready.loaded old new faults later status
  drawing_delivers stands ends fits renders = record {
    behaves = record {
      unwritten = λ is. absurd (frames_more status renders.answers is);
      unread = λ none is. absurd (cc);
      not_usage = λ e. subst IsDelivered e renders.answers;
      read_fault = renders.read_fault;
      write_fault = renders.write_fault;
      read_settled = renders.read_settled;
      write_settled = renders.write_settled;
    };
    tells = λ wads files of.
        let value : LoadedValue = loaded_value ready.loaded in
        let files_are_named = loaded_named level wads files value of.is in
        let art_held = (of.holds files_are_named.contents files_are_named.named).art in
        let bytes = ready_bytes files_are_named.contents ready in
        record {
          ends = subst (λ (contents : List (List ℕ)). EndsAt view.steady (from_below at_step (delivered (drawing level (rendered form)) (ready_bytes contents ready) value)) old new status) (sym files_are_named.are)
              (renders_end view.steady _ (loaded_sizes value).enough (rendered form (ready_views bytes ready)) old new status
              (ap (λ (r : ViewsValue). Ok (accepted_in (loaded_sizes value).enough (rendered form r))) (ready_as bytes level ready stands))
              (ends files_are_named.contents colours art_held));
          zone_full = λ wanted widest' e. (refl, view_draw level wads files ready stands of.is wanted widest' (renders.zone_full wanted widest' e));
          least = λ end. least_drawn level wads files (rendered form) ready of.is stands (subst (λ (contents : List (List ℕ)). FitDue
              (ready_bytes contents ready) colours ready) (sym files_are_named.are) (fits files_are_named.contents colours art_held end));
          reads = λ calm inside.
              keeps_once value ready.loaded.cache left.loaded.cache view.taken after.taken status
              (renders.order (loaded_items value) (ready_asked level wads files ready of.is stands) inside) calm;
        };
  }
