-- A fragment that misses the sprite, one behind it, and one in front of it.
use Rattle.picture_rules.proofs.Common.{ap, arith, Bool, false, List, max, min, on_ok_weaker, Option, pos, refl, rules, subst, sym, true, w32, ℕ, ℤ, ◌&&◌, ◌<ℤ◌, ◌^◌, ◌∙◌, ◌≡◌, ◌≤ℤ◌, ◌≤◌, to_z-of_z}
use Rattle.masked_draw.specs.Rules.{Drawseg, FragmentNote, SpriteEntry, ViewValue, is_behind}
use Rattle.receiver_rules.proofs.ReceiverLemmas.{receives-none, receives-same}
use Rattle.masked_draw.specs.Clipped.{clips_bottom, clips_top, row_after}
use Rattle.masked_draw.specs.Lists.{noted_drawseg, note_seg}
use Rattle.masked_draw.specs.Marks.{MarksBy, is_between, is_passed, unmarked_strips}
use Rattle.masked_draw.specs.Scenes.{scene_drawseg}
use Rattle.masked_draw.proofs.EntryLemmas.{behind-bottom, behind-strips, behind-marks, behind-top, entry-numbers, front-bottom, front-strips, front-marks, front-top, misses-bottom, misses-strips, misses-marks, misses-top, ordered-numbers}
use Rattle.masked_draw.proofs.SceneLemmas.{scene-seg}
use Rattle.masked_draw.proofs.pass.pass_fragment.Goals as goal

pub column_of-first-requires : goal.column_of-first-requires
column_of-first-requires g c =
    let entry = c.args.entry.now in
    let numbers =
    entry-numbers entry c.args.scene.now.view.now.shape.width (omega (arith, c.requires.width)) c.requires.within c.requires.ordered in
    let first_is = sym (to_z-of_z w32 entry.first (search rules)) in
    record { least = subst (λ z. pos 0 ≤ℤ z) first_is numbers.first_least; greatest = subst (λ (z : ℤ). z <ℤ pos (2 ^ 16)) first_is numbers.first_greatest }

pub column_of-last-requires-clause-greatest : goal.column_of-last-requires-clause-greatest
column_of-last-requires-clause-greatest g c =
    let entry = c.args.entry.now in
    let numbers =
    entry-numbers entry c.args.scene.now.view.now.shape.width (omega (arith, c.requires.width)) c.requires.within c.requires.ordered in
    subst (λ (z : ℤ). z <ℤ pos (2 ^ 16)) (sym (to_z-of_z w32 entry.last (search rules))) numbers.last_greatest

pub returns-then-not-counts-clause-marked : goal.returns-then-not-counts-clause-marked
returns-then-not-counts-clause-marked g c =
    let entry = c.args.entry.now in
    let first_is = sym (to_z-of_z w32 entry.first (search rules)) ∙ c.column_of-first.ensures in
    let last_is = sym (to_z-of_z w32 entry.last (search rules)) ∙ c.column_of-last.ensures in
    misses-marks entry c.args.note.now (scene_drawseg c.args.scene.now c.args.note.now) _ _ c.args.marks.now first_is last_is (c.counts.ensures.no c.if-not-counts.true)

pub returns-then-not-counts-clause-rows : goal.returns-then-not-counts-clause-rows
returns-then-not-counts-clause-rows g c = λ x t.
    let entry = c.args.entry.now in
    let note = c.args.note.now in
    let seg = scene_drawseg c.args.scene.now note in
    let is_seg = scene-seg c.args.scene.now note in
    let first_is = sym (to_z-of_z w32 entry.first (search rules)) ∙ c.column_of-first.ensures in
    let last_is = sym (to_z-of_z w32 entry.last (search rules)) ∙ c.column_of-last.ensures in
    let misses = c.counts.ensures.no c.if-not-counts.true in
    record {
      top = misses-top entry note seg _ _ x (seg.top_clip x) _ is_seg first_is last_is misses t;
      bottom = misses-bottom entry note seg _ _ x (seg.bottom_clip x) _ is_seg first_is last_is misses t;
    }

pub returns-then-not-counts-clause-asks : goal.returns-then-not-counts-clause-asks
returns-then-not-counts-clause-asks g c =
    let entry = c.args.entry.now in
    let scene = c.args.scene.now in
    let first_is = sym (to_z-of_z w32 entry.first (search rules)) ∙ c.column_of-first.ensures in
    let last_is = sym (to_z-of_z w32 entry.last (search rules)) ∙ c.column_of-last.ensures in
    let misses = c.counts.ensures.no c.if-not-counts.true in
    receives-same _ (sym (misses-strips scene.view.now c.args.number entry c.args.note.now (scene_drawseg scene c.args.note.now) _ _ c.args.marks.now first_is last_is misses)) (receives-none _)

-- the columns of both
both_ordered : (first last a b from to : ℕ) → first ≤ last → a ≤ b → a ≤ last → first ≤ b → from ≡ max first a → to ≡ min last b → from ≤ to
both_ordered first last a b from to h i j k e f = omega arith

-- by the numbers that the code makes
record AreShared (e : SpriteEntry) (d : FragmentNote) (first last from to : ℕ) : Type 0 where
  first_is : e.first ≡ pos first
  last_is : e.last ≡ pos last
  from_is : from ≡ max first d.first
  to_is : to ≡ min last d.last

columns_ordered : {e : SpriteEntry} {d : FragmentNote} {first last from to : ℕ} → AreShared e d first last from to → e.first ≤ℤ e.last → d.first ≤ d.last → (d.first ≤ last) × (first ≤ d.last) → from ≤ to
columns_ordered {e} {d} {first} {last} {from} {to} both o h meet = both_ordered first last d.first d.last from to (ordered-numbers e.first e.last first last both.first_is both.last_is o) h meet.0 meet.1 both.from_is both.to_is

pub paint_middle-requires-clause-ordered : goal.paint_middle-requires-clause-ordered
paint_middle-requires-clause-ordered g c =
    let columns_shared : AreShared c.args.entry.now c.args.note.now c.column_of-first.result c.column_of-last.result c.max-from.result c.min-to.result =
    record { first_is = search (rules, to_z-of_z); last_is = search (rules, to_z-of_z); from_is = c.max-from.ensures; to_is = c.min-to.ensures } in
    columns_ordered columns_shared c.requires.ordered c.requires.whole.ordered (c.counts.ensures.yes c.if-not-counts.false)

pub take-requires-clause-ordered : goal.take-requires-clause-ordered
take-requires-clause-ordered g c =
    let columns_shared : AreShared c.args.entry.now c.args.note.now c.column_of-first.result c.column_of-last.result c.max-from.result c.min-to.result =
    record { first_is = search (rules, to_z-of_z); last_is = search (rules, to_z-of_z); from_is = c.max-from.ensures; to_is = c.min-to.ensures } in
    columns_ordered columns_shared c.requires.ordered c.requires.whole.ordered (c.counts.ensures.yes c.if-not-counts.false)

-- where the fragment is behind, the columns that it is asked to paint are those that pass
marks_behind : {e : SpriteEntry} {d : FragmentNote} {first last from to : ℕ} {old new : List Bool} (seg : Drawseg) → AreShared e d first last from to → is_behind seg e ≡ true → MarksBy d (is_between from to) old new → MarksBy d (is_passed e seg) old new
marks_behind {e} {d} {first} {last} {to = to} {old} {new} seg both b h =
    behind-marks e d seg first last old new both.first_is both.last_is b
    (subst (λ (z : ℕ). MarksBy d (is_between (max first d.first) z) old new) both.to_is (subst (λ (z : ℕ). MarksBy d (is_between z to) old new) both.from_is h))

strips_behind : {e : SpriteEntry} {d : FragmentNote} {first last from to : ℕ} (v : ViewValue) (k : ℕ) (seg : Drawseg) (marks : List Bool) → AreShared e d first last from to → is_behind seg e ≡ true →
    unmarked_strips v marks d (is_between from to) k seg ≡ unmarked_strips v marks d (is_passed e seg) k seg
strips_behind {e} {d} {first} {last} {to = to} v k seg marks both b =
    ap (λ (z : ℕ). unmarked_strips v marks d (is_between z to) k seg) both.from_is ∙ ap (λ (z : ℕ). unmarked_strips v marks d (is_between (max first d.first) z) k seg) both.to_is
    ∙ behind-strips v k e d seg first last marks both.first_is both.last_is b

pub returns-then-is_behind : goal.returns-then-is_behind
unfolding noted_drawseg note_seg
returns-then-is_behind g c =
    let entry = c.args.entry.now in
    let seg = scene_drawseg c.args.scene.now c.args.note.now in
    let columns_shared : AreShared entry c.args.note.now c.column_of-first.result c.column_of-last.result c.max-from.result c.min-to.result =
    record { first_is = search (rules, to_z-of_z); last_is = search (rules, to_z-of_z); from_is = c.max-from.ensures; to_is = c.min-to.ensures } in
    let seg_behind : is_behind seg entry ≡ true = sym (c.is_behind.ensures _ refl refl refl) ∙ c.if-is_behind.true in
    record {
      marks = search rules;
      marked = on_ok_weaker c.paint_middle.result (λ h. marks_behind seg columns_shared seg_behind h) c.paint_middle.ensures.marked;
      rows = λ x t. record { top = behind-top entry seg x (seg.top_clip x) _ seg_behind; bottom = behind-bottom entry seg x (seg.bottom_clip x) _ seg_behind };
      asks = receives-same _ (strips_behind c.args.scene.now.view.now c.args.number seg c.args.marks.now columns_shared seg_behind) c.paint_middle.ensures.asks;
    }

pub returns-clause-marked : goal.returns-clause-marked
unfolding noted_drawseg note_seg
returns-clause-marked g c =
    let entry = c.args.entry.now in
    let note = c.args.note.now in
    let seg = scene_drawseg c.args.scene.now note in
    let in_front : is_behind seg entry ≡ false = sym (c.is_behind.ensures seg refl refl refl) ∙ c.if-is_behind.false in
    front-marks entry note seg c.args.marks.now in_front

-- where it is in front, the columns in which its clips are taken are those of both
rows_taken : {e : SpriteEntry} {d : FragmentNote} {first last from to : ℕ} (x : ℕ) (clips : Bool) (row : ℤ) (old new : Option ℤ) → AreShared e d first last from to →
    new ≡ row_after (is_between from to x && clips) row old → new ≡ row_after (is_between (max first d.first) (min last d.last) x && clips) row old
rows_taken {d = d} {first} {to = to} x clips row old new both h =
    h ∙ ap (λ (z : ℕ). row_after (is_between z to x && clips) row old) both.from_is ∙ ap (λ (z : ℕ). row_after (is_between (max first d.first) z x && clips) row old) both.to_is

pub returns-clause-rows : goal.returns-clause-rows
unfolding noted_drawseg note_seg
returns-clause-rows g c = λ x t.
    let entry = c.args.entry.now in
    let note = c.args.note.now in
    let columns_shared : AreShared entry note c.column_of-first.result c.column_of-last.result c.max-from.result c.min-to.result =
    record { first_is = search (rules, to_z-of_z); last_is = search (rules, to_z-of_z); from_is = c.max-from.ensures; to_is = c.min-to.ensures } in
    let is_seg = scene-seg c.args.scene.now note in
    let in_front : is_behind (scene_drawseg c.args.scene.now note) entry ≡ false = sym (c.is_behind.ensures _ refl refl refl) ∙ c.if-is_behind.false in
    record {
      top = front-top entry note _ _ _ x _ _ _ is_seg columns_shared.first_is columns_shared.last_is t in_front
          (rows_taken x (clips_top note entry) _ _ _ columns_shared (c.take.ensures.tops x));
      bottom = front-bottom entry note _ _ _ x _ _ _ is_seg columns_shared.first_is columns_shared.last_is t in_front
          (rows_taken x (clips_bottom note entry) _ _ _ columns_shared (c.take.ensures.bottoms x));
    }

pub returns-clause-asks : goal.returns-clause-asks
unfolding noted_drawseg note_seg
returns-clause-asks g c =
    let entry = c.args.entry.now in
    let note = c.args.note.now in
    let scene = c.args.scene.now in
    let seg = scene_drawseg scene note in
    let in_front : is_behind seg entry ≡ false = sym (c.is_behind.ensures seg refl refl refl) ∙ c.if-is_behind.false in
    receives-same _ (sym (front-strips scene.view.now c.args.number entry note seg c.args.marks.now in_front)) (receives-none _)
