-- Laws of the strip of a masked column of a fragment: its light, its texture and its column.
use Rattle.picture_rules.proofs.Common.{[], ap, arith, Contains, inl, inr, ints, negsuc, Option, pos, Some, subst, sym, unsigned_abs, ℕ, ℤ, ◌<◌, ◌∙◌, ◌∷◌, ◌≡◌, ◌≤ℤ◌, ◌≤◌, is_some, refl}
use Rattle.std.proofs.lemmas.List.Elements.{Contains-push_cases}
use Rattle.receiver_rules.specs.Receivers.{StillTakes, TakesEach}
use Rattle.masked_draw.specs.Rules.{FragmentNote, LIGHT_LEVELS, MaskedColumn, ViewShape, ViewValue, light_number, middle_masked, scale_map, seg_light}
use Rattle.picture_rules.proofs.Laws.{clamp_word-high, clamp_word-low}
use Rattle.brush.specs.Strips.{Middle, Strip}
use Rattle.masked_draw.specs.{declared.middles.Middle.Middle as MiddleValue, declared.scene.MaskScene.MaskScene}
use Rattle.masked_draw.specs.Clipped.{IsMiddleOf}
use Rattle.masked_draw.specs.Lists.{middle_by, noted_drawseg, saved_column}
use Rattle.masked_draw.specs.Scenes.{scene_drawseg, scene_lists}
use Rattle.masked_draw.specs.Strips.{masked_column_strip, masked_column_strips}
use Rattle.masked_draw.specs.Takes.{TakesColumns}
use Rattle.texture_build.specs.TexNo.{TexNo}

-- a strip among one is it
pub only-one : (own strip : Strip) → Contains (own ∷ []) strip → own ≡ strip
only-one own strip h = elim (Contains-push_cases [] own strip h) [
  | inl before ↦ absurd (omega (arith, before.1))
  | inr is ↦ is
]

small_number : (z : ℤ) → pos 0 ≤ℤ z → z ≤ℤ pos 15 → unsigned_abs z < 16
small_number (pos n) l h = omega (arith, ints)
small_number (negsuc n) l h = absurd (omega (arith, ints))

level_is : (v : ViewValue) (light change : ℤ) → light_number v light change < LIGHT_LEVELS
unfolding light_number
level_is v light change = small_number _ (clamp_word-low (pos 0) (pos 15) _ (omega (arith, ints)))
    (clamp_word-high (pos 0) (pos 15) _ (omega (arith, ints)))

-- the light of a fragment is one of the levels
pub middle-light : (s : MaskScene) (d : FragmentNote) → (scene_drawseg s d).light < LIGHT_LEVELS
unfolding noted_drawseg seg_light
middle-light s d = level_is _ _ _

pub drawseg-middle : (s : MaskScene) (d : FragmentNote) →
    (scene_drawseg s d).middle ≡ middle_by (scene_lists s) d
unfolding noted_drawseg
drawseg-middle s d = refl

-- the texture column that was saved is the fragment's
pub drawseg-column : (s : MaskScene) (d : FragmentNote) (middle : MiddleValue) (x : ℕ) →
    IsMiddleOf s d middle.number middle →
    saved_column s.openings.now d.first (Some middle.place) x ≡ (scene_drawseg s d).column x
unfolding noted_drawseg
drawseg-column s d middle x is =
    ap (λ (m : Option ℕ). saved_column s.openings.now d.first m x) (sym is.place)

-- the strip of a column is one that the brush takes
pub column-taken : {S : Type 0} {takes : S → Strip → Type 0} {start now : S} (s : MaskScene) (d : FragmentNote) (place number k x : ℕ) → d.masked ≡ Some place → number ≡ k → d.first ≤ x → x ≤ d.last →
    StillTakes takes start now → TakesColumns takes start s.view.now k (scene_drawseg s d) → TakesEach takes now (masked_column_strips s.view.now number (scene_drawseg s d) x)
unfolding masked_column_strips noted_drawseg
column-taken {takes = takes} {now = now} s d place number k x masked same from to still taken = record {
  each = λ strip h.
      let own = Middle (masked_column_strip s.view.now k (scene_drawseg s d) x) in
      let strip_is : own ≡ strip = ap (λ (n : ℕ). Middle (masked_column_strip s.view.now n (scene_drawseg s d) x)) (sym same) ∙ only-one (Middle (masked_column_strip s.view.now number (scene_drawseg s d) x)) strip h in
      subst (takes now) strip_is (still.each own (taken.each (ap is_some masked) x from to));
}

-- the strip that the code makes
pub strip-is : (s : MaskScene) (d : FragmentNote) (middle : MiddleValue) (x : ℕ) (col : ℤ) (shape : ViewShape) (masked : MaskedColumn) (map : ℕ) → IsMiddleOf s d middle.number middle →
    col ≡ (scene_drawseg s d).column x → shape ≡ s.view.now.shape → masked ≡ middle_masked (scene_drawseg s d) x → map ≡ scale_map s.view.now middle.light masked.scale →
    record { number = middle.number; tex = middle.tex; column = col; shape = shape; x = x; masked = masked; map = map } ≡ masked_column_strip s.view.now middle.number (scene_drawseg s d) x
unfolding masked_column_strip middle_masked
strip-is s d middle x col shape masked map is is_column is_shape is_masked is_map =
    let texture : ℕ → TexNo = λ n. record { 0 = n } in
    let tex = ap texture (is.tex ∙ sym (drawseg-middle s d)) in
    let shade = is_map ∙ ap (λ (n : ℕ). scale_map s.view.now n masked.scale) is.light ∙ ap (λ (m : MaskedColumn). scale_map s.view.now (scene_drawseg s d).light m.scale) is_masked in
    λ i. record { number = middle.number; tex = tex i; column = is_column i; shape = is_shape i; x = x; masked = is_masked i; map = shade i }
