-- One view of a path, and the views one after the other.
use Rattle.picture_rules.proofs.Common.{[], add-one, ap, append-nil, arith, Bool, cases_lt, Err, get_or, get_or_from_slice_get, IfSome, inl, inr, IsTrue, length, List, None, Ok, Option, option_and_then, option_map, option_map_or, refl, Result, slice_get, slice_get_within, Some, subst, suc, sym, take, take-suc, zero, ℕ, ◌++◌, ◌+◌, ◌<◌, ◌∙◌, ◌∷◌, ◌≡◌}
use Rattle.doom_run.specs.Rules.{Eye, Grew, GrewByPrefix, OverLimit, ShelfView, Writes, joined_lists, view_of, view_over}
use Rattle.picture_rules.proofs.Laws.{joined_lists-append}
use Rattle.art_rules.proofs.Laws.{grew_more, grew_none, grew_partly, grew_whole, prefix_of_more}
use Rattle.texture_build.specs.Draws.{IsNoReadFault}
use Rattle.sound_scene.specs.{Sound.SoundValue, Pictures.scene_of}
use Rattle.level_audit.specs.scene_load.Loads.{loaded_value}
use Rattle.frame_core.specs.declared.fault.ViewFault.{ViewFault}
use Rattle.frame_core.specs.declared.fault.ViewFault.TheVariants as fault
use Rattle.frame_core.specs.Faults.{limit_of_view, view_fault}
use Rattle.job_files.specs.declared.status.Status.{Status}
use Rattle.job_files.specs.declared.status.Status.TheVariants.{Done, Usage, Refused, ReadFault, WriteFault, Limit, ZoneFull, OutOfMemory}
use Rattle.doom_run.specs.{declared.render.ReadyViews.ReadyViews, Ends.RendersAt}
use Rattle.doom_run.specs.{declared.canvas.ViewCanvas.ViewCanvas, declared.form.ViewForm.ViewForm}
use Rattle.doom_run.specs.Frames.{IsDrawnAt, ViewEnds, canvas_bytes, form_of, frame_at, status_of_view}
use Rattle.doom_run.specs.{Layers.SeenView, Layers.seen_view, Jobs.rendered}
use Rattle.doom_run.specs.Renders.{DrawsAt, HoldsReady, ready_bytes, ready_views}
use Rattle.doom_run.specs.Views.{ViewsValue, end_at, first_over, limit_at, frames_of, over_at, rendered_bytes, view_bytes}
use Rattle.doom_run.proofs.SeenLemmas.{seen_at}
use Rattle.doom_run.proofs.DueLemmas.{due_by, due_front, none_over, some_over}

none_within : {X : Type 0} (xs : List X) (n : ℕ) → n < length xs → slice_get xs n ≡ None → ⊥
none_within [] n below e = absurd (omega (arith, below))
none_within (x ∷ xs) zero below e = cc
none_within (x ∷ xs) (suc n) below e = none_within xs n (omega (arith, below)) e

-- the view of a number is that of its viewpoint
pub view_get : (bytes : ℕ → List ℕ) (ready : ReadyViews) (k : ℕ) (eye : Eye) → slice_get ready.loaded.files.path k ≡ Some eye →
    slice_get (ready_views bytes ready).views k ≡ Some (seen_view (loaded_value ready.loaded) k eye)
unfolding ready_views
view_get bytes ready k eye e =
    seen_at (seen_view (loaded_value ready.loaded)) k ready.loaded.files.path
    ∙ ap (option_map (seen_view (loaded_value ready.loaded) k)) e

-- whether a viewpoint is over a limit is told of the number
pub over_at-eye : (bytes : ℕ → List ℕ) (ready : ReadyViews) (k : ℕ) (eye : Eye) → slice_get ready.loaded.files.path k ≡ Some eye →
    over_at (ready_views bytes ready) k ≡ view_over (view_of ready.loaded.files.tables eye) (scene_of bytes ready.loaded.scene.scene) ready.shop.limits
unfolding ready_views over_at
over_at-eye bytes ready k eye at =
    ap (λ (o : Option SeenView). option_and_then (λ s. view_over s.view (scene_of bytes ready.loaded.scene.scene) ready.shop.limits) o) (view_get bytes ready k eye at)

frame_from : (f : SeenView → List ℕ) (o : Option SeenView) (bytes : List ℕ) → option_map f o ≡ Some bytes → bytes ≡ option_map_or f o []
frame_from f None bytes e = absurd (cc)
frame_from f (Some v) bytes e = let bytes_same : f v ≡ bytes = cc in sym bytes_same

-- what is written is that of the number
pub frame_is : (r : ViewsValue) (k : ℕ) (c : ViewCanvas) → IsDrawnAt r k c → canvas_bytes r.palette c ≡ frame_at (form_of c) r k
unfolding frame_at
frame_is r k c at = frame_from (view_bytes (form_of c) r.palette r.scene) (slice_get r.views k) (canvas_bytes r.palette c) at

-- the same with the palette of the scene, and the form that the canvas had before
frame_of : (bytes : ℕ → List ℕ) (form : ViewForm) (ready : ReadyViews) (k : ℕ) (palette : List ℕ) (c : ViewCanvas) → form_of c ≡ form → palette ≡ ready.loaded.scene.scene.base.palette → IsDrawnAt (ready_views bytes ready) k c →
    canvas_bytes palette c ≡ frame_at form (ready_views bytes ready) k
unfolding ready_views
frame_of bytes form ready k palette c kept same at =
    ap (λ (p : List ℕ). canvas_bytes p c) same ∙ frame_is (ready_views bytes ready) k c at ∙ ap (λ (f : ViewForm). frame_at f (ready_views bytes ready) k) kept

-- a fault of drawing ends the view, and nothing was written
fails_by : (steady : Bool) (form : ViewForm) (r : ViewsValue) (k : ℕ) (old : List ℕ → Type 0) (f : ViewFault) →
    IfSome (limit_of_view f) (λ over. over_at r k ≡ Some over) → (IsTrue steady → IsNoReadFault (view_fault f)) → ViewEnds steady form r k old old (status_of_view k f)
fails_by steady form r k old (fault.Limit kind count) over read = (refl, over, grew_none old)
fails_by steady form r k old (fault.ZoneFull wanted widest) over read = grew_none old
fails_by steady form r k old fault.ReadFault over read = (read, grew_none old)

-- one view, by what drawing it answers
module _ {k : ℕ} {view after : ShelfView} {ready left : ReadyViews} {c : ViewCanvas} {drawn : Result (Unit {0}) ViewFault} {contents : List (List ℕ)} {count : ℕ}
    (draws : DrawsAt k view after ready left c drawn) (holds : HoldsReady view ready contents count) (form : ViewForm) where
  abbrev first_views : ViewsValue
  first_views = ready_views (ready_bytes contents ready) ready

  pub view_fails : (old : List ℕ → Type 0) (f : ViewFault) (status : Status) → drawn ≡ Err f → status ≡ status_of_view k f → ViewEnds view.steady form first_views k old old status
  view_fails old f status was is =
      let limit_is_over : IfSome (limit_of_view f) (λ over. over_at first_views k ≡ Some over) = rw was at (draws.over (ready_bytes contents ready)) in
      rw is (fails_by view.steady form first_views k old f limit_is_over (λ t. rw was at (draws.draws.steady contents holds.files.stand holds.files.within t)))

  -- it was drawn, and what was written is of its frame
  pub view_written : {F : Type 0} {old new : List ℕ → Type 0} {i j : ℕ} (palette : List ℕ) (put : Result (Unit {0}) F) (unit : Unit {0}) → drawn ≡ Ok unit → form_of c ≡ form → palette ≡ left.loaded.scene.scene.base.palette →
      Writes old new i j (canvas_bytes palette c) put → (over_at first_views k ≡ None) × Writes old new i j (frame_at form first_views k) put
  view_written {old = old} {new} {i} {j} palette put unit was kept same writes =
      let drawn_at : IsDrawnAt first_views k c = rw was at (draws.drawn contents count holds) in
      let not_over : over_at first_views k ≡ None = rw was at (draws.within (ready_bytes contents ready)) in
      let frame = frame_of (ready_bytes contents ready) form ready k palette c kept (same ∙ ap (λ (s : SoundValue). s.scene.base.palette) draws.keeps.scene) drawn_at in
      (not_over, subst (λ (bytes : List ℕ). Writes old new i j bytes put) frame writes)

-- the first n views were written, and none of them is over a limit
pub record Rendered (form : ViewForm) (r : ViewsValue) (n : ℕ) (old new : List ℕ → Type 0) : Type 0 where
  pub within : (k : ℕ) → k < n → over_at r k ≡ None
  pub written : Grew old new (frames_of form r (take n r.views))

-- none yet
pub rendered-none : (form : ViewForm) (r : ViewsValue) (old : List ℕ → Type 0) → Rendered form r 0 old old
unfolding frames_of joined_lists
rendered-none form r old = record { within = λ k below. absurd (omega (arith, below)); written = grew_none old }

joined_more : (f : SeenView → List ℕ) (views : List SeenView) (n : ℕ) (v : SeenView) → slice_get views n ≡ Some v → joined_lists f (take n views) ++ f v ≡ joined_lists f (take (n + 1) views)
unfolding joined_lists
joined_more f views n v at =
    let view_is : get_or views n v ≡ v = get_or_from_slice_get views n v v at in
    let taken_grows : take (n + 1) views ≡ take n views ++ (v ∷ []) = rw add-one (take-suc views n v (slice_get_within views n v at) ∙ ap (λ x. take n views ++ (x ∷ [])) view_is) in
    sym (ap (joined_lists f) taken_grows ∙ joined_lists-append f (take n views) (v ∷ []) ∙ ap (λ xs. joined_lists f (take n views) ++ xs) (append-nil (f v)))

joined_at : (f : SeenView → List ℕ) (views : List SeenView) (n : ℕ) (o : Option SeenView) → n < length views → slice_get views n ≡ o → joined_lists f (take n views) ++ option_map_or f o [] ≡ joined_lists f (take (n + 1) views)
joined_at f views n None below at = absurd (none_within views n below at)
joined_at f views n (Some v) below at = joined_more f views n v at

-- one frame more
frame_more : (form : ViewForm) (r : ViewsValue) (n : ℕ) → n < length r.views → frames_of form r (take n r.views) ++ frame_at form r n ≡ frames_of form r (take (n + 1) r.views)
unfolding frames_of frame_at
frame_more form r n below = joined_at (view_bytes form r.palette r.scene) r.views n (slice_get r.views n) below refl

within_more : (r : ViewsValue) (n k : ℕ) → ((k : ℕ) → k < n → over_at r k ≡ None) → over_at r n ≡ None → k < n + 1 → over_at r k ≡ None
within_more r n k within here below = elim (cases_lt k n) [ inl s ↦ within k s | inr s ↦ let number_same : k ≡ n = omega (arith, s, below) in ap (over_at r) number_same ∙ here ]

-- one view more
pub rendered-more : {form : ViewForm} {r : ViewsValue} {n : ℕ} {old mid new : List ℕ → Type 0} (steady : Bool) (status : Status) →
    Rendered form r n old mid → n < length r.views → ViewEnds steady form r n mid new status → status ≡ Done → Rendered form r (n + 1) old new
rendered-more {form} {r} {n} {old} {mid} {new} steady status so_far below ends is =
    let now : ViewEnds steady form r n mid new Done = rw is at ends in
    record {
      within = λ k b. within_more r n k so_far.within now.0 b;
      written = grew_more (frames_of form r (take (n + 1) r.views)) so_far.written now.1 (frame_more form r n below);
    }

-- the last view was written
pub render_done : {form : ViewForm} {r : ViewsValue} {old new : List ℕ → Type 0} (steady : Bool) (n : ℕ) → n ≡ length r.views → Rendered form r n old new → RendersAt steady (rendered form r) old new Done
render_done {form} {r} {old} {new} steady n all so_far =
    let never_over : (k : ℕ) → k < length r.views → over_at r k ≡ None = λ k below. so_far.within k (omega (arith, all, below)) in
    let nothing_over : first_over r ≡ None = none_over r never_over in
    let all_are_due : frames_of form r (take n r.views) ≡ rendered_bytes form r = ap (λ (m : ℕ). frames_of form r (take m r.views)) all
    ∙ due_by form r None nothing_over in (ap (end_at r) nothing_over, subst (Grew old new) all_are_due so_far.written)

-- a prefix of what is due was written, where the n-th view wrote nothing
stopped_before : {form : ViewForm} {r : ViewsValue} {n : ℕ} {old mid new : List ℕ → Type 0} → Rendered form r n old mid → n < length r.views → Grew mid new [] → GrewByPrefix old new (rendered_bytes form r)
stopped_before {form} {r} {n} so_far below none =
    let front = due_front form r n (omega (arith, below)) so_far.within in
    prefix_of_more front.0 (rendered_bytes form r) (grew_whole (grew_more (frames_of form r (take n r.views)) so_far.written none (append-nil _))) front.1

-- and where it wrote a prefix of its frame
stopped_within : {form : ViewForm} {r : ViewsValue} {n : ℕ} {old mid new : List ℕ → Type 0} → Rendered form r n old mid → n < length r.views → over_at r n ≡ None → GrewByPrefix mid new (frame_at form r n) → GrewByPrefix old new (rendered_bytes form r)
stopped_within {form} {r} {n} so_far below here part =
    let front = due_front form r (n + 1) (omega (arith, below)) (λ k b. within_more r n k so_far.within here b) in
    prefix_of_more front.0 (rendered_bytes form r) (grew_partly (frames_of form r (take (n + 1) r.views)) so_far.written part (frame_more form r n below)) front.1

-- the n-th view is the first that is over
stopped_over : {form : ViewForm} {r : ViewsValue} {n : ℕ} {old mid new : List ℕ → Type 0} (steady : Bool) (view : ℕ) (over : OverLimit) → Rendered form r n old mid → n < length r.views → view ≡ n → over_at r n ≡ Some over → Grew mid new [] →
    RendersAt steady (rendered form r) old new (Limit view over.kind over.count)
stopped_over {form} {r} {n} {old} {mid} {new} steady view over so_far below same is none =
    let first_over_is : first_over r ≡ Some n = some_over r n over below so_far.within is in (
      ap (end_at r) first_over_is ∙ ap (limit_at n) is ∙ ap (λ (k : ℕ). Limit k over.kind over.count) (sym same),
      grew_more (rendered_bytes form r) so_far.written none (append-nil _ ∙ due_by form r (Some n) first_over_is),
    )

-- the n-th view ends the rendering
pub render_stops : {form : ViewForm} {r : ViewsValue} {n : ℕ} {old : List ℕ → Type 0} (mid new : List ℕ → Type 0) (steady : Bool) (status : Status) → Rendered form r n old mid → n < length r.views →
    ViewEnds steady form r n mid new status → (status ≡ Done → ⊥) → RendersAt steady (rendered form r) old new status
render_stops mid new steady Done so_far below ends other = absurd (other refl)
render_stops mid new steady Usage so_far below ends other = absurd ends
render_stops mid new steady (Refused refusal) so_far below ends other = absurd ends
render_stops mid new steady ReadFault so_far below ends other = (ends.0, stopped_before so_far below ends.1)
render_stops mid new steady WriteFault so_far below ends other = stopped_within so_far below ends.0 ends.1
render_stops mid new steady (Limit view kind count) so_far below ends other = stopped_over steady view (record { kind = kind; count = count }) so_far below ends.0 ends.1 ends.2
render_stops mid new steady (ZoneFull wanted widest) so_far below ends other = stopped_before so_far below ends
render_stops mid new steady OutOfMemory so_far below ends other = absurd ends
