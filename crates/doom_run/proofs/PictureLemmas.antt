-- The pictures of weapon layers are in the directory, and are needed.
use Rattle.picture_rules.proofs.Common.{[], All, All-head, All-tail, Contains, Contains-append_cases, eq-eqb, inl, inr, length, List, list_any, list_any-append, map, None, Option, or_right, refl, Some, subst, true, ℕ, ◌++◌, ◌<◌, ◌==◌, ◌∙◌, ◌∷◌, ◌≡◌}
use Rattle.doom_run.specs.Rules.{Frame, Lump, SceneValue, Shape, book_lumps, is_needed, joined_lists, shape_lumps}
use Rattle.sound_scene.specs.Sound.{art_with}
use Rattle.sound_scene.proofs.MemberLemmas.{among_cases, among_none, any_among}
use Rattle.level_audit.specs.{Weapons.AreThere, scene_load.Loads.weapon_lumps}

module _ (lumps : List Lump) where
  shape_there : (shapes : List Shape) (lump : ℕ) → All (λ (shape : Shape). shape.lump.0 < length lumps) shapes → Contains (map (λ (shape : Shape). shape.lump.0) shapes) lump → lump < length lumps
  shape_there [] lump all has = among_none lump has
  shape_there (shape ∷ shapes) lump all has = elim (among_cases shape.lump.0 (map (λ (shape : Shape). shape.lump.0) shapes) lump has) [
    | inl same ↦ subst (λ (n : ℕ). n < length lumps) same (All-head (λ (shape : Shape). shape.lump.0 < length lumps) shape shapes all)
    | inr later ↦ shape_there shapes lump (All-tail (λ (shape : Shape). shape.lump.0 < length lumps) shape shapes all) later
  ]

  frame_there : (frame : Frame) (lump : ℕ) → All (λ (shape : Shape). shape.lump.0 < length lumps) frame.shapes → Contains (shape_lumps frame) lump → lump < length lumps
  unfolding shape_lumps
  frame_there frame lump all has = shape_there frame.shapes lump all has

  book_there : (book : List Frame) (lump : ℕ) → All (λ (frame : Frame). All (λ (shape : Shape). shape.lump.0 < length lumps) frame.shapes) book → Contains (book_lumps book) lump → lump < length lumps
  unfolding book_lumps joined_lists
  book_there [] lump all has = among_none lump has
  book_there (frame ∷ book) lump all has = elim (Contains-append_cases (shape_lumps frame) (book_lumps book) lump has) [
    | inl here ↦ frame_there frame lump (All-head (λ (frame : Frame). All (λ (shape : Shape). shape.lump.0 < length lumps) frame.shapes) frame book all) here
    | inr later ↦ book_there book lump (All-tail (λ (frame : Frame). All (λ (shape : Shape). shape.lump.0 < length lumps) frame.shapes) frame book all) later
  ]

  -- the picture of a layer is a lump of the directory
  pub layer_there : (weapons : Option (List Frame)) (lump : ℕ) → AreThere lumps weapons → Contains (weapon_lumps weapons) lump → lump < length lumps
  layer_there None lump there has = among_none lump has
  layer_there (Some book) lump there has = book_there book lump there has

  -- it is needed
  pub layer_needed : (scene : SceneValue) (more : List ℕ) (lump : ℕ) → Contains more lump → is_needed lumps (art_with scene (book_lumps scene.book ++ more)) lump ≡ true
  unfolding is_needed
  layer_needed scene more lump has =
      or_right _ (list_any (λ (n : ℕ). n == lump) (book_lumps scene.book ++ more))
      (list_any-append (λ (n : ℕ). n == lump) (book_lumps scene.book) more
      ∙ or_right (list_any (λ (n : ℕ). n == lump) (book_lumps scene.book)) (list_any (λ (n : ℕ). n == lump) more) (any_among (λ (n : ℕ). n == lump) more lump has (eq-eqb lump lump refl)))
