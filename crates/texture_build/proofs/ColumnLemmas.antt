-- What a column is read from, by its texture's patches, and the mask of columns.
use Rattle.art_rules.proofs.Common.{[], All, All-filter, All-head, arith, cases_lt, get_or_past, IfSome, inl, inr, length, List, slice_index_or, subst, sym, ℕ, ◌<◌, ◌^◌, ◌∷◌, ◌≤◌, ◌⊎◌}
use Rattle.texture_build.specs.Rules.{AreColumnsOf, ColumnLookup, Composed, Empty, Lump, PlacedPatch, Single, column_lookup, composite_place, lookup_of, mask_of, patches_in, single_place, stands_in}
use Rattle.art_rules.proofs.MaskLemmas.{IsMask, mask_of-greatest}
use Rattle.texture_build.specs.Sources.{IsColumnThere}

module _ (lumps : List Lump) where
  abbrev there : PlacedPatch → Type 0
  there patch = patch.lump < length lumps

  -- the one patch of a column is of the directory
  standing_there : (bytes : ℕ → List ℕ) (start x : ℕ) (standing : List PlacedPatch) → All there standing → IsColumnThere lumps (lookup_of bytes start x standing)
  unfolding lookup_of
  standing_there bytes start x [] a = tt
  standing_there bytes start x (patch ∷ []) a = All-head there patch [] a
  standing_there bytes start x (first ∷ second ∷ rest) a = tt

  pub lookup_there : (bytes : ℕ → List ℕ) (patches : List PlacedPatch) (height x : ℕ) → All there patches → IsColumnThere lumps (column_lookup bytes patches height x)
  unfolding column_lookup patches_in
  lookup_there bytes patches height x a = standing_there bytes (composite_place patches height x) x (patches_in patches x) (All-filter (stands_in x) there patches a)

  -- so is the lump that any column is read from
  pub column_there : (patches : List PlacedPatch) (height : ℕ) (columns : List ColumnLookup) (x : ℕ) → AreColumnsOf patches height columns → All there patches → IsColumnThere lumps (slice_index_or columns x Empty)
  column_there patches height columns x are a = go (cases_lt x (length columns)) where
    go : (x < length columns) ⊎ (length columns ≤ x) → IsColumnThere lumps (slice_index_or columns x Empty)
    go (inl l) = let column_at_x = are.at x l in subst (IsColumnThere lumps) (sym column_at_x.is) (lookup_there column_at_x.bytes patches height x a)
    go (inr l) = subst (IsColumnThere lumps) (sym (get_or_past columns x Empty l)) tt

  -- and it has a slot in a cache of the directory
  pub single_slot : (slots : ℕ) (lookup : ColumnLookup) → length lumps ≤ slots → IsColumnThere lumps lookup → IfSome (single_place lookup) (λ s. s.0 < slots)
  unfolding single_place
  single_slot slots Empty l h = tt
  single_slot slots (Single lump place) l h = omega (arith, h)
  single_slot slots (Composed place) l h = tt

below_width : (width mask : ℕ) → 0 < width → IsMask width mask → mask < width
below_width width mask some m =
    let column_within = m.within in
    let column_is = m.is in
    omega arith

-- the mask of a texture's columns is one of them
pub mask_within : (width : ℕ) → 0 < width → width < 2 ^ 16 → mask_of width < width
mask_within width some few = below_width width (mask_of width) some (mask_of-greatest width some few)
