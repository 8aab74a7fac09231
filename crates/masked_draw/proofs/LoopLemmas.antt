-- What the loops of the masked pass have asked for and marked, and how one fragment more changes it.
use Rattle.picture_rules.proofs.Common.{ap, arith, Bool, Err, get_or, gets, length, List, None, Ok, OnOk, Option, refl, Result, slice_get, Some, subst, sym, true, ℕ, ◌++◌, ◌+◌, ◌-◌, ◌<◌, ◌∙◌, ◌≡◌}
use Rattle.receiver_rules.specs.Receivers.{Receives}
use Rattle.receiver_rules.proofs.FirstLemmas.{first_lists}
use Rattle.receiver_rules.proofs.ReceiverLemmas.{receives-after, receives-none, receives-same, receives-stop, receives-stopped}
use Rattle.masked_draw.specs.Rules.{FragmentNote, SpriteEntry, entry_has, gives_bottom, gives_top}
use Rattle.brush.specs.Strips.{Strip}
use Rattle.masked_draw.specs.declared.clips.SpriteClips.{SpriteClips}
use Rattle.masked_draw.specs.declared.scene.MaskScene.{MaskScene}
use Rattle.masked_draw.specs.Clipped.{TakesRows, row_in}
use Rattle.masked_draw.specs.Marks.{MarkedTo, MarksBy, is_between, is_passed, unmarked_strips}
use Rattle.masked_draw.specs.Passes.{ShowsSprite}
use Rattle.masked_draw.specs.Scenes.{scene_drawseg, scene_drawsegs}
use Rattle.masked_draw.specs.Strips.{bottom_taken, middles_strips, moment_strips, sprite_strips, step_strips, top_taken}
use Rattle.masked_draw.proofs.DownLemmas.{down-end, down-left, down-more, down-start, down_strips}
use Rattle.masked_draw.proofs.PassedLemmas.{ApartNotes, left-middles, marked-left, marked-pass, marked-turn, passed-middles, turn-here, turn_at, turns-end, turns-start}
use Rattle.masked_draw.proofs.RowLemmas.{RowsFrom, rows-end, rows-more, rows-start}
use Rattle.texture_lists.proofs.BesideLemmas.{on_ok}
use Rattle.masked_draw.proofs.SceneLemmas.{scene-columns, scene-get, scene-length}

pub note-get : (notes : List FragmentNote) (k : ℕ) (d : FragmentNote) → k < length notes → slice_get notes k ≡ Some (get_or notes k d)
note-get notes k d l = grind (arith, gets)

-- the columns that are left, from fragment m on, were asked for
pub record LeavesMiddles {S A E : Type 0} (takes : S → Strip → Type 0) (stands : S → A → List Strip → Type 0) (stopped : S → A → List Strip → E → Type 0)
    (s : MaskScene) (notes : List FragmentNote) (es : List SpriteEntry) (m : ℕ) (marks : List Bool) (start now : S) : Type 0 where
  pub asks : Receives takes stands stopped start now
      (first_lists (down_strips s.view.now (scene_drawsegs s notes) es None) (length (scene_drawsegs s notes) - m)) (Ok tt)
  pub marked : MarkedTo (scene_drawseg s) notes es m (λ k. length es) marks

-- the columns just before sprite i, from fragment m on
pub record PassesMiddles {S A E : Type 0} (takes : S → Strip → Type 0) (stands : S → A → List Strip → Type 0) (stopped : S → A → List Strip → E → Type 0)
    (s : MaskScene) (notes : List FragmentNote) (es : List SpriteEntry) (i m : ℕ) (marks : List Bool) (start now : S) : Type 0 where
  pub asks : Receives takes stands stopped start now
      (first_lists (down_strips s.view.now (scene_drawsegs s notes) es (Some i)) (length (scene_drawsegs s notes) - m)) (Ok tt)
  pub marked : MarkedTo (scene_drawseg s) notes es (length notes) (turn_at i m) marks

module _ (s : MaskScene) (notes : List FragmentNote) (es : List SpriteEntry) where
  -- the unmarked columns of a note, by its number among the fragments
  moment_is : (moment : Option ℕ) (m : ℕ) (d : FragmentNote) (strips : List Strip) → slice_get notes m ≡ Some d →
      strips ≡ moment_strips s.view.now es moment m (Some (scene_drawseg s d)) →
      strips ≡ moment_strips s.view.now es moment m (slice_get (scene_drawsegs s notes) m)
  moment_is moment m d strips g h = h ∙ ap (moment_strips s.view.now es moment m) (sym (scene-get s notes m d g))

  within : (m : ℕ) → m < length notes → m < length (scene_drawsegs s notes)
  within m l = let same = scene-length s notes in omega (arith, l, same)

  left_before : (from m : ℕ) (strips : List Strip) → from ≡ m + 1 →
      first_lists (down_strips s.view.now (scene_drawsegs s notes) es None) (length (scene_drawsegs s notes) - from) ++ strips
      ≡ first_lists (down_strips s.view.now (scene_drawsegs s notes) es None) (length (scene_drawsegs s notes) - (m + 1)) ++ strips
  left_before from m strips up = ap (λ (k : ℕ). first_lists (down_strips s.view.now (scene_drawsegs s notes) es None) (length (scene_drawsegs s notes) - k) ++ strips) up

  passed_before : (i from m : ℕ) (strips : List Strip) → from ≡ m + 1 →
      first_lists (down_strips s.view.now (scene_drawsegs s notes) es (Some i)) (length (scene_drawsegs s notes) - from) ++ strips
      ≡ first_lists (down_strips s.view.now (scene_drawsegs s notes) es (Some i)) (length (scene_drawsegs s notes) - (m + 1)) ++ strips
  passed_before i from m strips up = ap (λ (k : ℕ). first_lists (down_strips s.view.now (scene_drawsegs s notes) es (Some i)) (length (scene_drawsegs s notes) - k) ++ strips) up

module _ {S A E : Type 0} {takes : S → Strip → Type 0} {stands : S → A → List Strip → Type 0} {stopped : S → A → List Strip → E → Type 0}
    (s : MaskScene) (notes : List FragmentNote) (es : List SpriteEntry) where
  pub leaves-start : (marks : List Bool) (brush : S) → MarkedTo (scene_drawseg s) notes es (length notes) (λ k. length es) marks →
      LeavesMiddles takes stands stopped s notes es (length notes) marks brush brush
  leaves-start marks brush h = record {
    asks = receives-same _ (down-start s.view.now (scene_drawsegs s notes) es None (length notes) (scene-length s notes)) (receives-none brush);
    marked = h;
  }

  -- the strips of a note that is left
  left_is : (from m : ℕ) (d : FragmentNote) (marks : List Bool) {start now : S} → m < length notes → slice_get notes m ≡ Some d → from ≡ m + 1 → LeavesMiddles takes stands stopped s notes es from marks start now →
      unmarked_strips s.view.now marks d (is_between d.first d.last) m (scene_drawseg s d) ≡ moment_strips s.view.now es None m (slice_get (scene_drawsegs s notes) m)
  left_is from m d marks l g up later =
      let AtMarks : ℕ → Type 0 = λ k. MarkedTo (scene_drawseg s) notes es k (λ k. length es) marks in
      moment_is s notes es None m d _ g (left-middles s.view.now (scene_drawseg s) notes es (m + 1) (λ k. length es) marks m d (scene-columns s d) (subst AtMarks up later.marked) (omega arith) g refl)

  pub leaves-more : {start a b : S} (from m : ℕ) (d : FragmentNote) (old new : List Bool) → ApartNotes notes → m < length notes → slice_get notes m ≡ Some d → from ≡ m + 1 →
      LeavesMiddles takes stands stopped s notes es from old start a →
      Receives takes stands stopped a b (unmarked_strips s.view.now old d (is_between d.first d.last) m (scene_drawseg s d)) (Ok tt) →
      MarksBy d (is_between d.first d.last) old new → LeavesMiddles takes stands stopped s notes es m new start b
  leaves-more from m d old new apart l g up later call marks =
      let AtMarks : ℕ → Type 0 = λ k. MarkedTo (scene_drawseg s) notes es k (λ k. length es) old in
      record {
        asks = receives-after _ later.asks (receives-same _ (left_is from m d old l g up later) call)
            (left_before s notes es from m _ up ∙ down-more s.view.now (scene_drawsegs s notes) es None m (within s notes es m l));
        marked = marked-left (scene_drawseg s) notes es (λ k. length es) (is_between d.first d.last) old new m d apart g marks (subst AtMarks up later.marked);
      }

  pub leaves-stop : {start a b : S} {part whole : Result (Unit {0}) E} (stop : E) (from m : ℕ) (d : FragmentNote) (old : List Bool) → m < length notes → slice_get notes m ≡ Some d → from ≡ m + 1 →
      LeavesMiddles takes stands stopped s notes es from old start a →
      Receives takes stands stopped a b (unmarked_strips s.view.now old d (is_between d.first d.last) m (scene_drawseg s d)) part → part ≡ Err stop → whole ≡ Err stop →
      Receives takes stands stopped start b (middles_strips s.view.now (scene_drawsegs s notes) es None) whole
  leaves-stop {whole = whole} stop from m d old l g up later call was is =
      let left = down-left s.view.now (scene_drawsegs s notes) es None m (within s notes es m l) in
      receives-stopped whole left.0 _ later.asks tt refl (receives-same _ (left_is from m d old l g up later) call) stop was is (left_before s notes es from m _ up ∙ left.1)

  pub leaves-end : {start now : S} (m : ℕ) (marks : List Bool) → m ≡ 0 → LeavesMiddles takes stands stopped s notes es m marks start now →
      Receives takes stands stopped start now (middles_strips s.view.now (scene_drawsegs s notes) es None) (Ok tt)
  leaves-end m marks z h =
      receives-same _ (ap (λ (k : ℕ). first_lists (down_strips s.view.now (scene_drawsegs s notes) es None) (length (scene_drawsegs s notes) - k)) z ∙ down-end s.view.now (scene_drawsegs s notes) es None) h.asks

  pub passes-start : (i : ℕ) (marks : List Bool) (brush : S) → MarkedTo (scene_drawseg s) notes es (length notes) (λ k. i) marks →
      PassesMiddles takes stands stopped s notes es i (length notes) marks brush brush
  passes-start i marks brush h = record {
    asks = receives-same _ (down-start s.view.now (scene_drawsegs s notes) es (Some i) (length notes) (scene-length s notes)) (receives-none brush);
    marked = marked-turn (scene_drawseg s) notes es (length notes) (λ k. i) (turn_at i (length notes)) marks (λ k l. turns-start i (length notes) k l) h;
  }

  -- the strips of a note that sprite i passes
  passed_is : (e : SpriteEntry) (i from m : ℕ) (d : FragmentNote) (marks : List Bool) {start now : S} → m < length notes → slice_get notes m ≡ Some d → i < length es → slice_get es i ≡ Some e → from ≡ m + 1 →
      PassesMiddles takes stands stopped s notes es i from marks start now →
      unmarked_strips s.view.now marks d (is_passed e (scene_drawseg s d)) m (scene_drawseg s d) ≡ moment_strips s.view.now es (Some i) m (slice_get (scene_drawsegs s notes) m)
  passed_is e i from m d marks l g il ig up later =
      let AtMarks : ℕ → Type 0 = λ k. MarkedTo (scene_drawseg s) notes es (length notes) (turn_at i k) marks in
      moment_is s notes es (Some i) m d _ g (passed-middles s.view.now (scene_drawseg s) notes es (length notes) (turn_at i (m + 1)) marks m i d e (scene-columns s d) (subst AtMarks up later.marked) l g (turn-here i m) il ig)

  pub passes-more : {start a b : S} (e : SpriteEntry) (i from m : ℕ) (d : FragmentNote) (old new : List Bool) → ApartNotes notes → m < length notes → slice_get notes m ≡ Some d →
      i < length es → slice_get es i ≡ Some e → from ≡ m + 1 → PassesMiddles takes stands stopped s notes es i from old start a →
      Receives takes stands stopped a b (unmarked_strips s.view.now old d (is_passed e (scene_drawseg s d)) m (scene_drawseg s d)) (Ok tt) →
      MarksBy d (is_passed e (scene_drawseg s d)) old new → PassesMiddles takes stands stopped s notes es i m new start b
  passes-more e i from m d old new apart l g il ig up later call marks =
      let AtMarks : ℕ → Type 0 = λ k. MarkedTo (scene_drawseg s) notes es (length notes) (turn_at i k) old in
      record {
        asks = receives-after _ later.asks (receives-same _ (passed_is e i from m d old l g il ig up later) call)
            (passed_before s notes es i from m _ up ∙ down-more s.view.now (scene_drawsegs s notes) es (Some i) m (within s notes es m l));
        marked = marked-pass (scene_drawseg s) notes es (length notes) old new i m d e apart g l il ig marks (subst AtMarks up later.marked);
      }

  -- the brush stopped at one of them
  pub passes-stop : {start a b : S} {part whole : Result (Unit {0}) E} (stop : E) (e : SpriteEntry) (i from m : ℕ) (d : FragmentNote) (old new : List Bool) → m < length notes → slice_get notes m ≡ Some d →
      i < length es → slice_get es i ≡ Some e → from ≡ m + 1 → PassesMiddles takes stands stopped s notes es i from old start a →
      Receives takes stands stopped a b (unmarked_strips s.view.now old d (is_passed e (scene_drawseg s d)) m (scene_drawseg s d)) part → part ≡ Err stop → whole ≡ Err stop →
      ShowsSprite takes stands stopped s notes es i e new start b whole
  unfolding step_strips
  passes-stop {part = part} {whole} stop e i from m d old new l g il ig up later call was is =
      let left = down-left s.view.now (scene_drawsegs s notes) es (Some i) m (within s notes es m l) in
      let sprite = sprite_strips s.view.now (scene_drawsegs s notes) e in
      record {
        asks = receives-stop whole sprite _ (receives-stopped part left.0 _ later.asks tt refl (receives-same _ (passed_is e i from m d old l g il ig up later) call) stop was was (passed_before s notes es i from m _ up ∙ left.1)) stop was is refl;
        marked = subst (λ (r : Result (Unit {0}) E). OnOk r (MarkedTo (scene_drawseg s) notes es (length notes) (λ k. i + 1) new)) (sym is) tt;
      }

  -- the columns just before sprite i were asked for and are marked, and then the sprite was
  pub passes-end : {start a b : S} {result : Result (Unit {0}) E} (e : SpriteEntry) (i m : ℕ) (marks : List Bool) → m ≡ 0 → PassesMiddles takes stands stopped s notes es i m marks start a →
      Receives takes stands stopped a b (sprite_strips s.view.now (scene_drawsegs s notes) e) result → ShowsSprite takes stands stopped s notes es i e marks start b result
  unfolding step_strips
  passes-end {result = result} e i m marks z h sprite = record {
    asks = receives-after _ h.asks sprite
        (ap (λ (k : ℕ). first_lists (down_strips s.view.now (scene_drawsegs s notes) es (Some i)) (length (scene_drawsegs s notes) - k) ++ sprite_strips s.view.now (scene_drawsegs s notes) e) z
        ∙ ap (λ (xs : List Strip). xs ++ sprite_strips s.view.now (scene_drawsegs s notes) e) (down-end s.view.now (scene_drawsegs s notes) es (Some i)));
    marked = on_ok result (marked-turn (scene_drawseg s) notes es (length notes) (turn_at i m) (λ k. i + 1) marks (λ k l. ap (λ j. turn_at i j k) z ∙ turns-end i k) h.marked);
  }

-- the clips of a sprite, from fragment m on
pub record ClipsFrom (s : MaskScene) (notes : List FragmentNote) (e : SpriteEntry) (m : ℕ) (clips : SpriteClips) : Type 0 where
  pub tops : RowsFrom (λ x d. d.top_clip x) (gives_top e) (scene_drawsegs s notes) (entry_has e) m clips.tops
  pub bottoms : RowsFrom (λ x d. d.bottom_clip x) (gives_bottom e) (scene_drawsegs s notes) (entry_has e) m clips.bottoms

module _ (s : MaskScene) (notes : List FragmentNote) (e : SpriteEntry) where
  pub clips-start : (clips : SpriteClips) → ((x : ℕ) → entry_has e x ≡ true → row_in clips.tops x ≡ None) → ((x : ℕ) → entry_has e x ≡ true → row_in clips.bottoms x ≡ None) →
      ClipsFrom s notes e (length notes) clips
  clips-start clips t b =
      let drawsegs = scene_drawsegs s notes in
      subst (λ (m : ℕ). ClipsFrom s notes e m clips) (scene-length s notes) (record {
        tops = rows-start (λ x d. d.top_clip x) (gives_top e) drawsegs (entry_has e) clips.tops t;
        bottoms = rows-start (λ x d. d.bottom_clip x) (gives_bottom e) drawsegs (entry_has e) clips.bottoms b;
      })

  pub clips-more : (from m : ℕ) (d : FragmentNote) (old new : SpriteClips) → slice_get notes m ≡ Some d → ((x : ℕ) → entry_has e x ≡ true → TakesRows e (scene_drawseg s d) old new x) →
      from ≡ m + 1 → ClipsFrom s notes e from old → ClipsFrom s notes e m new
  clips-more from m d old new g takes up later =
      let from_next : ClipsFrom s notes e (m + 1) old = subst (λ (k : ℕ). ClipsFrom s notes e k old) up later in
      let drawsegs = scene_drawsegs s notes in
      let there = scene-get s notes m d g in
      record {
        tops = rows-more (λ x d. d.top_clip x) (gives_top e) drawsegs (entry_has e) m old.tops new.tops (scene_drawseg s d) there (λ x t. (takes x t).top) from_next.tops;
        bottoms = rows-more (λ x d. d.bottom_clip x) (gives_bottom e) drawsegs (entry_has e) m old.bottoms new.bottoms (scene_drawseg s d) there (λ x t. (takes x t).bottom) from_next.bottoms;
      }

  -- after all fragments they are those that the sprite takes
  pub clips-end : (m : ℕ) (clips : SpriteClips) → m ≡ 0 → ClipsFrom s notes e m clips → (x : ℕ) → entry_has e x ≡ true →
      (row_in clips.tops x ≡ top_taken (scene_drawsegs s notes) e x) × (row_in clips.bottoms x ≡ bottom_taken (scene_drawsegs s notes) e x)
  unfolding top_taken bottom_taken
  clips-end m clips z h x t =
      let from_start : ClipsFrom s notes e 0 clips = subst (λ (n : ℕ). ClipsFrom s notes e n clips) z h in
      let drawsegs = scene_drawsegs s notes in (
        rows-end (λ x d. d.top_clip x) (gives_top e) drawsegs (entry_has e) clips.tops from_start.tops x t,
        rows-end (λ x d. d.bottom_clip x) (gives_bottom e) drawsegs (entry_has e) clips.bottoms from_start.bottoms x t,
      )
