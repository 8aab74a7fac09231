-- What the frames that are due are painted from stands beside COLORMAP, and so the zone is no smaller than the least.
use Rattle.picture_rules.proofs.Common.{Bool, IfSome, length, List, None, Ok, Option, refl, slice_get, Some, subst, sym, unwrap_or, ℕ, ◌+◌, ◌<◌, ◌≡◌, ◌≤◌}
use Rattle.doom_run.specs.Rules.{Eye, File, LevelJobValue, OverLimit, ShelfView, lump_at, lump_block, lump_bytes, overlaid_paints, view_of}
use Rattle.texture_build.specs.Draws.{FitBeside}
use Rattle.sound_scene.specs.{Sound.SoundValue, Sound.textures_view, Pictures.scene_of}
use Rattle.doom_run.specs.{declared.form.ViewForm.ViewForm, declared.render.ReadyViews.ReadyViews}
use Rattle.job_files.specs.{declared.read.SceneFiles.SceneFiles, declared.status.Status.Status}
use Rattle.job_files.specs.declared.status.Status.TheVariants.{Done, Usage, Refused, ReadFault, WriteFault, Limit, ZoneFull, OutOfMemory}
use Rattle.doom_run.specs.{Ends.IsEnd, Frames.KeepsReady, Frames.ViewEnds}
use Rattle.doom_run.specs.Renders.{FitDue, FitsAt, IsReady, ready_views}
use Rattle.doom_run.specs.Views.{ViewsValue, due_views, first_over, over_at}
use Rattle.doom_run.specs.Layers.{SeenView, seen_view}
use Rattle.doom_run.proofs.FrameLemmas.{Rendered, view_get}
use Rattle.doom_run.proofs.DueLemmas.{none_over, some_over}
use Rattle.level_audit.specs.scene_load.Loads.{load_in, loaded_value, wad_bytes}
use Rattle.doom_run.proofs.ReadyLemmas.{ready_as, views-later}
use Rattle.doom_run.specs.Leasts.{delivery_least, least_over, painted_block}
use Rattle.doom_run.specs.Jobs.{Written, drawing}
use Rattle.doom_run.proofs.LeastLemmas.{loaded_room, over_room, taken_beside, view_beside}

-- what a viewpoint is painted from is that of the number's view
pub fits_at : (bytes : ℕ → List ℕ) (count : ℕ) (ready : ReadyViews) (k : ℕ) (eye : Eye) → slice_get ready.loaded.files.path k ≡ Some eye →
    FitBeside ready.loaded.files.dir.lumps (textures_view ready.loaded.scene.scene) ready.loaded.scene.scene.base.colormap count ready.loaded.cache.size (overlaid_paints (view_of ready.loaded.files.tables eye) (scene_of bytes ready.loaded.scene.scene) (seen_view (loaded_value ready.loaded) k eye).layers) →
    FitsAt bytes count ready k
unfolding ready_views
fits_at bytes count ready k eye at fits =
    subst (λ (o : Option SeenView). IfSome o (λ v. FitBeside ready.loaded.files.dir.lumps (textures_view ready.loaded.scene.scene) ready.loaded.scene.scene.base.colormap count ready.loaded.cache.size (overlaid_paints v.view (scene_of bytes ready.loaded.scene.scene) v.layers)))
    (sym (view_get bytes ready k eye at)) fits

fits_for : (contents : List (List ℕ)) (count k : ℕ) (files files' : SceneFiles) (scene scene' : SoundValue) (size size' : ℕ) (r r' : (ℕ → List ℕ) → ViewsValue) → files' ≡ files → scene' ≡ scene → size' ≡ size → ((bytes : ℕ → List ℕ) → r' bytes ≡ r bytes) →
    IfSome (slice_get (r' (lump_bytes contents files'.dir.lumps)).views k) (λ v. FitBeside files'.dir.lumps (textures_view scene'.scene) scene'.scene.base.colormap count size' (overlaid_paints v.view (r' (lump_bytes contents files'.dir.lumps)).scene v.layers)) →
    IfSome (slice_get (r (lump_bytes contents files.dir.lumps)).views k) (λ v. FitBeside files.dir.lumps (textures_view scene.scene) scene.scene.base.colormap count size (overlaid_paints v.view (r (lump_bytes contents files.dir.lumps)).scene v.layers))
fits_for contents count k files files' scene scene' size size' r r' f s z e fits =
    rw (← e (lump_bytes contents files.dir.lumps), ← f, ← s, ← z) fits

-- it is told of the views as they were first
pub fits_at-later : {a b : ShelfView} {x y : ReadyViews} (contents : List (List ℕ)) (count k : ℕ) → KeepsReady a b x y →
    FitsAt (lump_bytes contents y.loaded.files.dir.lumps) count y k → FitsAt (lump_bytes contents x.loaded.files.dir.lumps) count x k
fits_at-later {x = x} {y} contents count k keeps fits =
    fits_for contents count k x.loaded.files y.loaded.files x.loaded.scene y.loaded.scene x.loaded.cache.size y.loaded.cache.size (λ bytes. ready_views bytes x) (λ bytes. ready_views bytes y)
    keeps.files keeps.scene keeps.art.counts.0 (λ bytes. views-later bytes keeps) fits

module _ (r : ViewsValue) (Fits : ℕ → Type 0) where
  -- the last view was written
  pub due_done : ((k : ℕ) → k < length r.views → over_at r k ≡ None) → ((k : ℕ) → k < length r.views → Fits k) → (k : ℕ) → k < unwrap_or (first_over r) (length r.views) → Fits k
  due_done within fits =
      subst (λ (o : Option ℕ). (k : ℕ) → k < unwrap_or o (length r.views) → Fits k) (sym (none_over r within)) fits

  due_over : (n : ℕ) (over : OverLimit) → n < length r.views → ((k : ℕ) → k < n → over_at r k ≡ None) → over_at r n ≡ Some over → ((k : ℕ) → k < n → Fits k) → (k : ℕ) → k < unwrap_or (first_over r) (length r.views) → Fits k
  due_over n over below within is fits =
      subst (λ (o : Option ℕ). (k : ℕ) → k < unwrap_or o (length r.views) → Fits k) (sym (some_over r n over below within is)) fits

  -- the view of that number is the first that is over
  pub due_stops : {form : ViewForm} {n : ℕ} {old : List ℕ → Type 0} (mid new : List ℕ → Type 0) (steady : Bool) (status : Status) → Rendered form r n old mid → n < length r.views → ViewEnds steady form r n mid new status → (status ≡ Done → ⊥) → IsEnd status →
      ((k : ℕ) → k < n → Fits k) → (k : ℕ) → k < unwrap_or (first_over r) (length r.views) → Fits k
  due_stops mid new steady Done so_far below ends other is fits = absurd (other refl)
  due_stops mid new steady Usage so_far below ends other is fits = absurd is
  due_stops mid new steady (Refused refusal) so_far below ends other is fits = absurd is
  due_stops mid new steady ReadFault so_far below ends other is fits = absurd is
  due_stops mid new steady WriteFault so_far below ends other is fits = absurd is
  due_stops {n = n} mid new steady (Limit view kind count) so_far below ends other is fits = due_over n (record { kind = kind; count = count }) below so_far.within ends.1 fits
  due_stops mid new steady (ZoneFull wanted widest) so_far below ends other is fits = absurd is
  due_stops mid new steady OutOfMemory so_far below ends other is fits = absurd is

-- where what the views that are due are painted from stands beside COLORMAP
pub least_due : (level : LevelJobValue) (wads : List (List ℕ)) (files : List File) (ready : ReadyViews) → load_in level wads files ≡ Ok (loaded_value ready.loaded) → IsReady level ready →
    FitDue (wad_bytes wads files ready.loaded.files.dir.lumps) (lump_at ready.loaded.files.dir.lumps ready.loaded.scene.scene.base.colormap).size ready →
    least_over (loaded_value ready.loaded) (ready_views (wad_bytes wads files ready.loaded.files.dir.lumps) ready).scene (due_views (ready_views (wad_bytes wads files ready.loaded.files.dir.lumps) ready)) ≤ level.settings.zone
unfolding due_views
least_due level wads files ready is stands fit =
    let value_loaded = loaded_value ready.loaded in
    let views_value = ready_views (wad_bytes wads files ready.loaded.files.dir.lumps) ready in
    let audit_fits = stands.loaded.audited.fits in
    let room : lump_block ready.loaded.files.dir.lumps ready.loaded.scene.scene.base.colormap ≤ level.settings.zone = loaded_room level wads files value_loaded is audit_fits in
    over_room level wads files value_loaded is audit_fits views_value.scene (due_views views_value)
    (taken_beside (painted_block ready.loaded.files.dir.lumps (textures_view ready.loaded.scene.scene) ready.loaded.scene.scene.base.colormap views_value.scene) (lump_block ready.loaded.files.dir.lumps ready.loaded.scene.scene.base.colormap) level.settings.zone room
    (unwrap_or (first_over views_value) (length views_value.views)) views_value.views
    (λ k l. views_beside level ready stands room views_value (slice_get views_value.views k) (fit k l)))
  where
    views_beside : (level : LevelJobValue) (ready : ReadyViews) → IsReady level ready → lump_block ready.loaded.files.dir.lumps ready.loaded.scene.scene.base.colormap ≤ level.settings.zone → (r : ViewsValue) (o : Option SeenView) →
        IfSome o (λ v. FitBeside ready.loaded.files.dir.lumps (textures_view ready.loaded.scene.scene) ready.loaded.scene.scene.base.colormap (lump_at ready.loaded.files.dir.lumps ready.loaded.scene.scene.base.colormap).size ready.loaded.cache.size (overlaid_paints v.view r.scene v.layers)) →
        IfSome o (λ v. lump_block ready.loaded.files.dir.lumps ready.loaded.scene.scene.base.colormap + painted_block ready.loaded.files.dir.lumps (textures_view ready.loaded.scene.scene) ready.loaded.scene.scene.base.colormap r.scene v ≤ level.settings.zone)
    views_beside level ready stands room r None fits = tt
    views_beside level ready stands room r (Some v) fits =
        view_beside ready.loaded.files.dir.lumps (textures_view ready.loaded.scene.scene) ready.loaded.scene.scene.base.colormap level.settings.zone room r.scene v
        (subst (λ (n : ℕ). FitBeside ready.loaded.files.dir.lumps (textures_view ready.loaded.scene.scene) ready.loaded.scene.scene.base.colormap (lump_at ready.loaded.files.dir.lumps ready.loaded.scene.scene.base.colormap).size n (overlaid_paints v.view r.scene v.layers)) stands.loaded.zone fits)

-- the least of a job that draws these views
pub least_drawn : (level : LevelJobValue) (wads : List (List ℕ)) (files : List File) (writes : ViewsValue → Written) (ready : ReadyViews) → load_in level wads files ≡ Ok (loaded_value ready.loaded) → IsReady level ready →
    FitDue (wad_bytes wads files ready.loaded.files.dir.lumps) (lump_at ready.loaded.files.dir.lumps ready.loaded.scene.scene.base.colormap).size ready →
    delivery_least level (drawing level writes) (wad_bytes wads files ready.loaded.files.dir.lumps) (loaded_value ready.loaded) ≤ level.settings.zone
unfolding delivery_least
least_drawn level wads files writes ready is stands fit =
    subst (λ (r : ViewsValue). least_over (loaded_value ready.loaded) r.scene (due_views r) ≤ level.settings.zone)
    (sym (ready_as (wad_bytes wads files ready.loaded.files.dir.lumps) level ready stands)) (least_due level wads files ready is stands fit)
