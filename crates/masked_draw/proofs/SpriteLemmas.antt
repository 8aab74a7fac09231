-- Laws of the strip of a sprite, by the clips that the code took.
use Rattle.picture_rules.proofs.Common.{[], ap, arith, Bool, cond, false, int_lt, length, List, nat_le, nat_lt, nat_tests, None, Option, pos, slice_get, Some, sym, true, ℕ, ℤ, ◌&&◌, ◌+◌, ◌-◌, ◌<◌, ◌∙◌, ◌∷◌, ◌≡◌, ◌≤◌, Ok}
use Rattle.receiver_rules.proofs.ReceiverLemmas.{receives-none, receives-same}
use Rattle.picture_rules.proofs.Laws.{get_or-listed, length-listed, listed-all}
use Rattle.masked_draw.specs.Rules.{Drawseg, FragmentNote, SpriteEntry, ViewValue, entry_has, listed, natural}
use Rattle.brush.specs.Strips.{Picture, PictureStripValue, Strip}
use Rattle.brush.proofs.PictureLemmas.{natural_of}
use Rattle.masked_draw.specs.declared.scene.MaskScene.{MaskScene}
use Rattle.masked_draw.specs.{Marks.MarkedTo, Passes.ShowsSprite}
use Rattle.masked_draw.specs.Scenes.{scene_drawseg, scene_drawsegs}
use Rattle.masked_draw.specs.Strips.{bottom_taken, shown_sprite, sprite_strip, sprite_strips, top_taken}
use Rattle.masked_draw.proofs.DownLemmas.{marked-skip, step-none}
use Rattle.masked_draw.proofs.EntryLemmas.{entry-between}

between_true : (first last x : ℕ) → first ≤ x → x ≤ last → (nat_le first x && nat_lt x (last + 1)) ≡ true
between_true first last x l m = grind (arith, nat_tests)

pub has-column : (e : SpriteEntry) (first last x : ℕ) → e.first ≡ pos first → e.last ≡ pos last → first ≤ x → x ≤ last → entry_has e x ≡ true
has-column e first last x p q l m = entry-between e first last x p q ∙ between_true first last x l m

-- clips that are the same in its columns
listed_taken : (f g : ℕ → Option ℤ) (first last : ℕ) → ((x : ℕ) → first ≤ x → x ≤ last → f x ≡ g x) →
    listed (λ n. f (first + n)) (last + 1 - first) ≡ listed (λ n. g (first + n)) (last + 1 - first)
listed_taken f g first last same =
    let count : ℕ = last + 1 - first in
    listed-all (λ n. g (first + n)) (listed (λ n. f (first + n)) count) count None (length-listed (λ n. f (first + n)) count)
    (λ n l. get_or-listed (λ n. f (first + n)) count n None l ∙ same (first + n) (omega arith) (omega (arith, l)))

-- so the strip is that of the sprite
pub strip-shown : (v : ViewValue) (ds : List Drawseg) (e : SpriteEntry) (first last : ℕ) (top bottom : ℕ → Option ℤ) → e.first ≡ pos first → e.last ≡ pos last →
    ((x : ℕ) → first ≤ x → x ≤ last → (top x ≡ top_taken ds e x) × (bottom x ≡ bottom_taken ds e x)) → sprite_strip v.shape e first last top bottom ≡ shown_sprite v ds e
unfolding shown_sprite sprite_strip
strip-shown v ds e first last top bottom is_first is_last same =
    let tops = listed_taken top (top_taken ds e) first last (λ x from to. (same x from to).0) in
    let bottoms = listed_taken bottom (bottom_taken ds e) first last (λ x from to. (same x from to).1) in
    let here : PictureStripValue = record (sprite_strip v.shape e first last top bottom) { tops = listed (λ n. top_taken ds e (first + n)) (last + 1 - first); bottoms = listed (λ n. bottom_taken ds e (first + n)) (last + 1 - first) } in
    let with_clips : sprite_strip v.shape e first last top bottom ≡ here = λ i. record (sprite_strip v.shape e first last top bottom) { tops = tops i; bottoms = bottoms i } in
    with_clips
    ∙ ap (λ (a : ℕ). sprite_strip v.shape e a last (top_taken ds e) (bottom_taken ds e)) (sym (natural_of e.first first is_first))
    ∙ ap (λ (b : ℕ). sprite_strip v.shape e (natural e.first) b (top_taken ds e) (bottom_taken ds e)) (sym (natural_of e.last last is_last))

-- a sprite that has a column is one strip
pub sprite-one : (v : ViewValue) (ds : List Drawseg) (e : SpriteEntry) → int_lt e.last e.first ≡ false → Picture (shown_sprite v ds e) ∷ [] ≡ sprite_strips v ds e
unfolding sprite_strips
sprite-one v ds e some = sym (ap (λ (b : Bool). cond b [] (Picture (shown_sprite v ds e) ∷ [])) some)

-- a sprite without a column
pub sprite-none : {S A E : Type 0} {takes : S → Strip → Type 0} {stands : S → A → List Strip → Type 0} {stopped : S → A → List Strip → E → Type 0} (s : MaskScene) (notes : List FragmentNote) (es : List SpriteEntry) (i : ℕ) (e : SpriteEntry) (marks : List Bool) (brush : S) →
    i < length es → slice_get es i ≡ Some e → int_lt e.last e.first ≡ true → MarkedTo (scene_drawseg s) notes es (length notes) (λ k. i) marks →
    ShowsSprite takes stands stopped s notes es i e marks brush brush (Ok tt)
sprite-none s notes es i e marks brush l g none h = record {
  asks = receives-same _ (sym (step-none s.view.now (scene_drawsegs s notes) es i e l g none)) (receives-none brush);
  marked = marked-skip (scene_drawseg s) notes es (length notes) i marks e l g none h;
}
