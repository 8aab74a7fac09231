-- A sprite without a column, and one behind which the masked columns come first.
use Rattle.picture_rules.proofs.Common.{[], ◌∷◌, and_parts, ap, arith, Err, err_from_is_err_and, false, int_lt, ints, leb-true, length, List, ltb-true, nat_le, nat_lt, None, Option, pos, refl, rules, subst, sym, true, w32, ℕ, ℤ, ◌+◌, ◌-◌, ◌<ℤ◌, ◌<◌, ◌^◌, ◌∙◌, ◌≡◌, ◌≤ℤ◌, ◌≤◌, to_z-of_z}
use Rattle.receiver_rules.proofs.ReceiverLemmas.{receives-same}
use Rattle.brush.specs.Strips.{Picture, PictureStripValue}
use Rattle.masked_draw.specs.{Rules.SpriteEntry, Rules.entry_has, Clipped.row_in}
use Rattle.masked_draw.specs.Rules.{ViewShape}
use Rattle.masked_draw.specs.Scenes.{scene_drawsegs}
use Rattle.masked_draw.specs.Strips.{shown_sprite, sprite_strip}
use Rattle.masked_draw.proofs.EntryLemmas.{entry-between, entry-numbers, entry-within}
use Rattle.masked_draw.proofs.LoopLemmas.{clips-end, clips-more, clips-start, note-get, passes-end, passes-more, passes-start, passes-stop}
use Rattle.masked_draw.proofs.SceneLemmas.{can_show-later, columns-later, note-listed, note-taken, scene-apart, scene-whole, still-then}
use Rattle.masked_draw.proofs.SpriteLemmas.{has-column, sprite-none, sprite-one, strip-shown}
use Rattle.masked_draw.proofs.pass.draw_sprite.Goals as goal

-- the test of the columns, on plain values
ordered_by : (a b first last : ℤ) → a ≡ first → b ≡ last → int_lt b a ≡ false → first ≤ℤ last
ordered_by a b first last p q h = grind (arith, ints)

some_by : (a b first last : ℤ) → a ≡ first → b ≡ last → int_lt b a ≡ false → int_lt last first ≡ false
some_by a b first last p q h = sym (ap (λ (z : ℤ). int_lt z a) q ∙ ap (λ (z : ℤ). int_lt last z) p) ∙ h

empty_by : (a b first last : ℤ) → a ≡ first → b ≡ last → int_lt b a ≡ true → int_lt last first ≡ true
empty_by a b first last p q h = sym (ap (λ (z : ℤ). int_lt z a) q ∙ ap (λ (z : ℤ). int_lt last z) p) ∙ h

column_in : (e : SpriteEntry) (first last x : ℕ) → e.first ≡ pos first → e.last ≡ pos last → entry_has e x ≡ true → (first ≤ x) × (x < last + 1)
column_in e first last x p q t =
    let bounds = and_parts (nat_le first x) (nat_lt x (last + 1)) (sym (entry-between e first last x p q) ∙ t) in
    (leb-true first x bounds.0, ltb-true x (last + 1) bounds.1)

rows_in : (e : SpriteEntry) (rows : List (Option ℤ)) (first last : ℕ) → e.first ≡ pos first → e.last ≡ pos last → ((x : ℕ) → first ≤ x → x ≤ last → row_in rows x ≡ None) → (x : ℕ) → entry_has e x ≡ true → row_in rows x ≡ None
rows_in e rows first last p q h x t = let column = column_in e first last x p q t in h x column.0 (omega (arith, column.1))

pub returns-then-entry-clause-shows : goal.returns-then-entry-clause-shows
returns-then-entry-clause-shows g c = λ es i l f h.
    let entry = c.args.entry.now in
    sprite-none c.args.scene.now c.args.notes.now es i entry _ _ l f (empty_by _ _ entry.first entry.last (to_z-of_z w32 entry.first (search rules)) (to_z-of_z w32 entry.last (search rules)) c.if-entry.true) h

pub column_of-first-requires : goal.column_of-first-requires
column_of-first-requires g c =
    let entry = c.args.entry.now in
    let is_span = ordered_by _ _ entry.first entry.last (to_z-of_z w32 entry.first (search rules)) (to_z-of_z w32 entry.last (search rules)) c.if-entry.false in
    let numbers = entry-numbers entry c.args.scene.now.view.now.shape.width (omega (arith, c.requires.ready.width)) c.requires.within is_span in
    let first_is = sym (to_z-of_z w32 entry.first (search rules)) in
    record { least = subst (λ z. pos 0 ≤ℤ z) first_is numbers.first_least; greatest = subst (λ (z : ℤ). z <ℤ pos (2 ^ 16)) first_is numbers.first_greatest }

pub column_of-last-requires-clause-greatest : goal.column_of-last-requires-clause-greatest
column_of-last-requires-clause-greatest g c =
    let entry = c.args.entry.now in
    let is_span = ordered_by _ _ entry.first entry.last (to_z-of_z w32 entry.first (search rules)) (to_z-of_z w32 entry.last (search rules)) c.if-entry.false in
    let numbers = entry-numbers entry c.args.scene.now.view.now.shape.width (omega (arith, c.requires.ready.width)) c.requires.within is_span in
    subst (λ (z : ℤ). z <ℤ pos (2 ^ 16)) (sym (to_z-of_z w32 entry.last (search rules))) numbers.last_greatest

pub clear-requires-clause-within : goal.clear-requires-clause-within
clear-requires-clause-within g c =
    let entry = c.args.entry.now in
    let last_within =
    entry-within entry c.args.scene.now.view.now.shape.width _ c.requires.within (sym (to_z-of_z w32 entry.last (search rules)) ∙ c.column_of-last.ensures) in
    omega (arith, last_within, c.requires.ready.width)

pub loop-k-init : goal.loop-k-init
loop-k-init g c =
    let entry = c.args.entry.now in
    let first_is = sym (to_z-of_z w32 entry.first (search rules)) ∙ c.column_of-first.ensures in
    let last_is = sym (to_z-of_z w32 entry.last (search rules)) ∙ c.column_of-last.ensures in
    record {
      room = refl;
      takes_on = record { each = λ strip h. h };
      clips = clips-start c.args.scene.now c.args.notes.now entry _ (rows_in entry _ _ _ first_is last_is c.clear.ensures.tops)
          (rows_in entry _ _ _ first_is last_is c.clear.ensures.bottoms);
      passes = λ es i l f h. passes-start c.args.scene.now c.args.notes.now es i _ _ h;
    }

pub pass_fragment-requires-clause-whole : goal.pass_fragment-requires-clause-whole
pass_fragment-requires-clause-whole g c =
    scene-whole (c.loop-k.k - 1) _ c.requires.ready.noted (note-get c.args.notes.now (c.loop-k.k - 1) _ (omega arith))

pub pass_fragment-requires-clause-listed : goal.pass_fragment-requires-clause-listed
pass_fragment-requires-clause-listed g c =
    let note_is_there : c.loop-k.k - 1 < length c.args.notes.now = omega arith in
    note-listed (c.loop-k.k - 1) _ c.requires.ready (note-get c.args.notes.now (c.loop-k.k - 1) _ note_is_there) note_is_there

pub pass_fragment-requires-clause-marks : goal.pass_fragment-requires-clause-marks
pass_fragment-requires-clause-marks g c = (can_show-later c.loop-k.invariant.room c.requires.ready).room

pub pass_fragment-requires-clause-takes : goal.pass_fragment-requires-clause-takes
pass_fragment-requires-clause-takes g c =
    columns-later c.loop-k.invariant.takes_on
    (note-taken c.args.scene.now c.args.notes.now (c.loop-k.k - 1) _ (note-get c.args.notes.now (c.loop-k.k - 1) _ (omega arith)) c.requires.fragments)

pub loop-k-preserved : goal.loop-k-preserved
loop-k-preserved g c =
    let invariant = c.loop-k.invariant in
    let passed = c.in_ok-pass_fragment.ensures in
    let number_is_next : c.loop-k.k ≡ c.loop-k.k - 1 + 1 = omega arith in
    let note_is_there : c.loop-k.k - 1 < length c.args.notes.now = omega arith in
    let there = note-get c.args.notes.now (c.loop-k.k - 1) _ note_is_there in
    record {
      room = passed.marks ∙ invariant.room;
      takes_on = still-then invariant.takes_on passed.asks.takes_on;
      clips = clips-more c.args.scene.now c.args.notes.now c.args.entry.now c.loop-k.k (c.loop-k.k - 1) _ _ _ there passed.rows number_is_next invariant.clips;
      passes = λ es n l f h.
          passes-more c.args.scene.now c.args.notes.now es c.args.entry.now n c.loop-k.k (c.loop-k.k - 1) _ _ _ (scene-apart c.requires.ready.noted) note_is_there there l f number_is_next (invariant.passes es n l f h) passed.asks passed.marked;
    }

pub returns-in_err-pass_fragment-clause-shows : goal.returns-in_err-pass_fragment-clause-shows
returns-in_err-pass_fragment-clause-shows g c = λ es n l f h.
    let number_is_next : c.loop-k.k ≡ c.loop-k.k - 1 + 1 = omega arith in
    let note_is_there : c.loop-k.k - 1 < length c.args.notes.now = omega arith in
    let failure_is = err_from_is_err_and c.from_residual.result c.from_residual.ensures.1 in
    passes-stop c.args.scene.now c.args.notes.now es _ c.args.entry.now n c.loop-k.k (c.loop-k.k - 1) _ _ _ note_is_there (note-get c.args.notes.now (c.loop-k.k - 1) _ note_is_there) l f number_is_next (c.loop-k.invariant.passes es n l f h) c.pass_fragment.ensures.asks
    c.in_err-pass_fragment.was (failure_is.1 ∙ ap Err failure_is.2)

pub paint_sprite-requires-clause-within : goal.paint_sprite-requires-clause-within
paint_sprite-requires-clause-within g c =
    let entry = c.args.entry.now in
    let last_within = entry-within entry c.args.scene.now.view.now.shape.width _ c.requires.within (sym (to_z-of_z w32 entry.last (search rules)) ∙ c.column_of-last.ensures) in
    omega (arith, last_within, c.requires.ready.width)

pub paint_sprite-requires-clause-takes : goal.paint_sprite-requires-clause-takes
paint_sprite-requires-clause-takes g c =
    let entry = c.args.entry.now in
    let scene = c.args.scene.now in
    let first_is = sym (to_z-of_z w32 entry.first (search rules)) ∙ c.column_of-first.ensures in
    let last_is = sym (to_z-of_z w32 entry.last (search rules)) ∙ c.column_of-last.ensures in
    let some = some_by _ _ entry.first entry.last (to_z-of_z w32 entry.first (search rules)) (to_z-of_z w32 entry.last (search rules)) c.if-entry.false in
    subst (λ (strip : PictureStripValue). g.B.Brush.takes c.loop-k.brush (Picture strip))
    (sym (ap (λ (shape : ViewShape). sprite_strip shape entry c.column_of-first.result c.column_of-last.result (row_in c.loop-k.clips.tops) (row_in c.loop-k.clips.bottoms)) c.shape.ensures.value
    ∙ strip-shown scene.view.now (scene_drawsegs scene c.args.notes.now) entry _ _ _ _ first_is last_is
    (λ x from to. clips-end scene c.args.notes.now entry c.loop-k.k c.loop-k.clips (omega arith) c.loop-k.invariant.clips x (has-column entry _ _ x first_is last_is from to))))
    (c.loop-k.invariant.takes_on.each (Picture (shown_sprite scene.view.now (scene_drawsegs scene c.args.notes.now) entry)) (c.requires.sprite some))

pub returns-clause-shows : goal.returns-clause-shows
returns-clause-shows g c = λ es i l f h.
    let entry = c.args.entry.now in
    let scene = c.args.scene.now in
    let first_is = sym (to_z-of_z w32 entry.first (search rules)) ∙ c.column_of-first.ensures in
    let last_is = sym (to_z-of_z w32 entry.last (search rules)) ∙ c.column_of-last.ensures in
    let some = some_by _ _ entry.first entry.last (to_z-of_z w32 entry.first (search rules)) (to_z-of_z w32 entry.last (search rules)) c.if-entry.false in
    let is_shown = ap (λ (shape : ViewShape). sprite_strip shape entry c.column_of-first.result c.column_of-last.result (row_in c.loop-k.clips.tops) (row_in c.loop-k.clips.bottoms)) c.shape.ensures.value
    ∙ strip-shown scene.view.now (scene_drawsegs scene c.args.notes.now) entry _ _ _ _ first_is last_is
    (λ x from to. clips-end scene c.args.notes.now entry c.loop-k.k c.loop-k.clips (omega arith) c.loop-k.invariant.clips x (has-column entry _ _ x first_is last_is from to)) in
    passes-end scene c.args.notes.now es entry i c.loop-k.k _ (omega arith) (c.loop-k.invariant.passes es i l f h)
    (receives-same _ (ap (λ (strip : PictureStripValue). Picture strip ∷ []) is_shown ∙ sprite-one scene.view.now (scene_drawsegs scene c.args.notes.now) entry some) c.paint_sprite.ensures)
