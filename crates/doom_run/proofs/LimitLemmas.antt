-- The lines of the views of a path, one after the other.
use Rattle.picture_rules.proofs.Common.{[], ap, arith, Err, length, List, None, Ok, option_map_or, Option, refl, Result, slice_get, Some, subst, sym, ℕ, ◌+◌, ◌<◌, ◌∙◌, ◌≡◌}
use Rattle.doom_run.specs.Rules.{Eye, Failed, Grew, Limits, OverLimit, Scene, Writes, view_of, view_over}
use Rattle.art_rules.proofs.Laws.{writes_then}
use Rattle.level_audit.specs.declared.scene_load.load.LoadedScene.{LoadedScene}
use Rattle.level_audit.specs.scene_load.Loads.{loaded_value}
use Rattle.sound_scene.specs.Pictures.{scene_of}
use Rattle.job_files.specs.declared.status.Status.TheVariants.{Done, WriteFault}
use Rattle.doom_run.specs.{declared.render.ReadyViews.ReadyViews, Ends.WritesDue, Jobs.done}
use Rattle.doom_run.specs.Layers.{SeenView, seen_view}
use Rattle.doom_run.specs.Renders.{PutsLines, ready_views}
use Rattle.doom_run.specs.Views.{ViewsValue, lines_at, over_line, unless_over, view_lines}
use Rattle.doom_run.proofs.FirstLemmas.{first-more, first_of, none_first, prefix_first}
use Rattle.doom_run.proofs.{FrameLemmas.over_at-eye, FrameLemmas.view_get, ReadyLemmas.views_count}

-- the same bytes, told otherwise
pub same_bytes : {E : Type 0} {a b : List ℕ → Type 0} {i j : ℕ} {xs ys : List ℕ} {result : Result (Unit {0}) E} → xs ≡ ys → Writes a b i j xs result → Writes a b i j ys result
same_bytes {E} {a} {b} {i} {j} {result} e writes = subst (λ (zs : List ℕ). Writes a b i j zs result) e writes

-- the views of a scene are those of its path, within its limits
ready_same : (bytes : ℕ → List ℕ) (a b : ReadyViews) → a.loaded ≡ b.loaded → a.shop.limits ≡ b.shop.limits → ready_views bytes a ≡ ready_views bytes b
unfolding ready_views
ready_same bytes a b e l =
    ap (λ (loaded : LoadedScene). ready_views bytes (record { loaded = loaded; shop = a.shop })) e
    ∙ ap (λ (limits : Limits). ready_views bytes (record { loaded = b.loaded; shop = record { limits = limits; frame = a.shop.frame } })) l

-- the lines of view number k, by its viewpoint
module _ (lines : Scene → ℕ → SeenView → List ℕ) (bytes : ℕ → List ℕ) (ready : ReadyViews) (k : ℕ) (eye : Eye) (at : slice_get ready.loaded.files.path k ≡ Some eye) where
  abbrev own : Option SeenView → List ℕ
  own o = option_map_or (lines (ready_views bytes ready).scene k) o []

  -- it is within its limits
  pub lines_within : view_over (view_of ready.loaded.files.tables eye) (scene_of bytes ready.loaded.scene.scene) ready.shop.limits ≡ None →
      lines (scene_of bytes ready.loaded.scene.scene) k (seen_view (loaded_value ready.loaded) k eye) ≡ lines_at lines (ready_views bytes ready) k
  unfolding ready_views lines_at
  lines_within none = sym (ap (unless_over k (own (slice_get (ready_views bytes ready).views k))) (over_at-eye bytes ready k eye at ∙ none) ∙ ap own (view_get bytes ready k eye at))

  -- it is over one
  pub lines_over : (over : OverLimit) → view_over (view_of ready.loaded.files.tables eye) (scene_of bytes ready.loaded.scene.scene) ready.shop.limits ≡ Some over →
      over_line k over ≡ lines_at lines (ready_views bytes ready) k
  unfolding lines_at
  lines_over over some = sym (ap (unless_over k (own (slice_get (ready_views bytes ready).views k))) (over_at-eye bytes ready k eye at ∙ some))

-- the line of a view that is over was written
pub puts-over : {a b : List ℕ → Type 0} {i j : ℕ} {result : Result (Unit {0}) Failed} (lines : Scene → ℕ → SeenView → List ℕ) (ready after : ReadyViews) (k : ℕ) (eye : Eye) → slice_get ready.loaded.files.path k ≡ Some eye → (over : OverLimit) →
    ((bytes : ℕ → List ℕ) → view_over (view_of ready.loaded.files.tables eye) (scene_of bytes ready.loaded.scene.scene) ready.shop.limits ≡ Some over) →
    after.loaded ≡ ready.loaded → after.shop.limits ≡ ready.shop.limits → Writes a b i j (over_line k over) result → PutsLines (λ r. lines_at lines r k) ready after a b i j result
puts-over lines ready after k eye at over some loaded limits writes = record {
  writes = λ bytes. same_bytes (lines_over lines bytes ready k eye at over (some bytes)) writes;
  loaded = loaded;
  limits = limits;
}

module _ (lines : Scene → ℕ → SeenView → List ℕ) where
  -- the lines of the first n views
  abbrev pub first_lines : ℕ → ViewsValue → List ℕ
  first_lines n r = first_of (lines_at lines r) n

  -- nothing was written of no view
  pub puts-none : (ready : ReadyViews) (old : List ℕ → Type 0) (faults : ℕ) → PutsLines (first_lines 0) ready ready old old faults faults (Ok tt)
  puts-none ready old faults = record { writes = λ bytes. none_first (lines_at lines (ready_views bytes ready)) old faults; loaded = refl; limits = refl }

  -- the lines of the first views were written, and then those of the next
  pub puts-more : {x y z : ReadyViews} {a b c : List ℕ → Type 0} {i j k : ℕ} {result : Result (Unit {0}) Failed} (n : ℕ) → PutsLines (first_lines n) x y a b i j (Ok tt) → PutsLines (λ r. lines_at lines r n) y z b c j k result →
      PutsLines (first_lines (n + 1)) x z a c i k result
  puts-more {x} {y} {b = b} {c} {j = j} {k} {result} n first next = record {
    writes = λ bytes.
        writes_then (first_lines (n + 1) (ready_views bytes x)) (first.writes bytes) tt refl
        (subst (λ (r : ViewsValue). Writes b c j k (lines_at lines r n) result) (ready_same bytes y x first.loaded first.limits) (next.writes bytes))
        (first-more (lines_at lines (ready_views bytes x)) n);
    loaded = next.loaded ∙ first.loaded;
    limits = next.limits ∙ first.limits;
  }

  -- those of a view were not written, or in part: a prefix of all lines was
  pub puts-stopped : {x z : ReadyViews} {a c : List ℕ → Type 0} {i k : ℕ} (n : ℕ) (failed : Failed) → PutsLines (first_lines (n + 1)) x z a c i k (Err failed) → n < length x.loaded.files.path →
      (bytes : ℕ → List ℕ) → WritesDue (done (view_lines lines (ready_views bytes x))) a c i k WriteFault
  unfolding view_lines
  puts-stopped {x = x} n failed puts below bytes = record {
    ends = prefix_first (lines_at lines (ready_views bytes x)) (n + 1) (length (ready_views bytes x).views) (omega (arith, views_count bytes x, below)) (puts.writes bytes).err;
    write_fault = λ e. (puts.writes bytes).failed;
    write_settled = λ other. absurd (other refl);
  }

  -- the lines of all views were written
  pub puts-all : {x z : ReadyViews} {a c : List ℕ → Type 0} {i k : ℕ} (n : ℕ) → PutsLines (first_lines n) x z a c i k (Ok tt) → n ≡ length x.loaded.files.path →
      (bytes : ℕ → List ℕ) → WritesDue (done (view_lines lines (ready_views bytes x))) a c i k Done
  unfolding view_lines
  puts-all {x = x} {a = a} {c} n puts all bytes =
      let whole : n ≡ length (ready_views bytes x).views = omega (arith, views_count bytes x, all) in
      record { ends = (refl, subst (λ (m : ℕ). Grew a c (first_lines m (ready_views bytes x))) whole (puts.writes bytes).ok); write_fault = λ e. absurd (cc); write_settled = λ other. (puts.writes bytes).settled }
