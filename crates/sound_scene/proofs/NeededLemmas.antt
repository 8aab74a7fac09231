-- Why a scene needs a lump, and how large the block of a needed lump is.
use Rattle.art_rules.proofs.Common.{[], ap, arith, eqb-true, get_or_past, inl, inr, length, List, list_any, or-true, or_cases, refl, true, ℕ, ◌<◌, ◌==◌, ◌∙◌, ◌∷◌, ◌≡◌, ◌≤◌}
use Rattle.sound_scene.specs.Rules.{HEADER_SIZE, Lump, SceneArt, block_size, greatest_by, is_list, is_map_lump, is_needed, is_patch_of_any, lump_at, lump_block, needed_lumps, no_lump}
use Rattle.scene_rules.proofs.Laws.{block_least}
use Rattle.sound_scene.proofs.MarkLemmas.{any_passed}

-- the reasons for which a lump is needed
module _ (lumps : List Lump) (art : SceneArt) (lump : ℕ) where
  pub for_colormap : (art.colormap == lump) ≡ true → is_needed lumps art lump ≡ true
  unfolding is_needed
  for_colormap e = rw e refl

  pub for_palette : (art.playpal == lump) ≡ true → is_needed lumps art lump ≡ true
  unfolding is_needed
  for_palette e = rw (e, or-true) refl

  pub for_map : is_map_lump art.label lump ≡ true → is_needed lumps art lump ≡ true
  unfolding is_needed
  for_map e = rw (e, or-true) refl

  pub for_list : is_list lumps lump ≡ true → is_needed lumps art lump ≡ true
  unfolding is_needed
  for_list e = rw (e, or-true) refl

  pub for_patch : is_patch_of_any art.prepared lump ≡ true → is_needed lumps art lump ≡ true
  unfolding is_needed
  for_patch e = rw (e, or-true) refl

  pub for_picture : list_any (λ n. n == lump) art.pictures ≡ true → is_needed lumps art lump ≡ true
  unfolding is_needed
  for_picture e = rw (e, or-true) refl

-- none is greater than the greatest
among_greatest : (f : ℕ → ℕ) (xs : List ℕ) (k : ℕ) → list_any (λ n. n == k) xs ≡ true → f k ≤ greatest_by f xs
unfolding greatest_by
among_greatest f [] k on = cc
among_greatest f (x ∷ xs) k on = elim (or_cases (x == k) (list_any (λ n. n == k) xs) on) [
  | inl same ↦ let value_same : f x ≡ f k = ap f (eqb-true x k same) in omega (arith, value_same)
  | inr later ↦ omega (arith, among_greatest f xs k later)
]

-- a needed lump of the directory has no greater block than the greatest that is needed
pub needed_there : (lumps : List Lump) (art : SceneArt) (lump : ℕ) → is_needed lumps art lump ≡ true → lump < length lumps → lump_block lumps lump ≤ greatest_by (lump_block lumps) (needed_lumps lumps art)
unfolding needed_lumps
needed_there lumps art lump needed l = among_greatest (lump_block lumps) _ lump (any_passed (is_needed lumps art) 0 (length lumps) lump (omega arith) (omega (arith, l)) ∙ needed)

-- a number of no lump has the least block
pub past_block : (lumps : List Lump) (lump other : ℕ) → length lumps ≤ lump → lump_block lumps lump ≤ lump_block lumps other
unfolding lump_block
past_block lumps lump other l =
    let block_is_header : block_size (lump_at lumps lump).size ≡ HEADER_SIZE = ap (λ (one : Lump). block_size one.size) (get_or_past lumps lump no_lump l) in
    omega (arith, block_is_header, block_least (lump_at lumps other).size)
