-- The texels of a column, by the bytes that a cache has.
use Rattle.art_rules.proofs.Common.{and_le_r, ap, arith, Bool, cond, false, IfSome, IsSome, length, List, nat_lt, nat_tests, None, Option, option_map, refl, slice_index_or, Some, subst, suc, sym, true, unwrap_or, zero, ℕ, ℤ, ◌+◌, ◌-◌, ◌<◌, ◌^◌, ◌∙◌, ◌≡◌}
use Rattle.texture_build.specs.Rules.{ColumnLookup, Composed, Empty, Lump, POST_BYTES_AT, PreparedTexture, Single, bits_of, byte_at, column_lookup, lump_bytes, mask_from, mask_of, masked_column, texel, texel_by}
use Rattle.lump_cache.specs.Zones.{Heap, bytes_of}
use Rattle.lump_cache.specs.Caches.{IsFaithful, composite_owner, lump_owner}
use Rattle.art_rules.proofs.LookupLemmas.{texel_by-texel, column_lookups-read}
use Rattle.texture_build.specs.Composites.{AreComposites, composite_of}
use Rattle.texture_build.specs.Sources.{ColumnView, IsColumnThere, column_from, column_in, column_view, column_index}
use Rattle.texture_build.specs.Views.{AreTexturesOf, ArePatchesThere, TexturesView, prepared_at, unprepared}
use Rattle.texture_build.proofs.ColumnLemmas.{lookup_there}
use Rattle.texture_build.proofs.ViewLemmas.{HasColumns, textures_columns}

-- the column that a texture column stands for is one of the texture
mask_within : (n width : ℕ) → 0 < width → mask_from n width < width
unfolding mask_from
mask_within zero width some = some
mask_within (suc n) width some = go (nat_lt width (2 ^ n)) refl (mask_within n width some) where
  go : (b : Bool) → nat_lt width (2 ^ n) ≡ b → mask_from n width < width → cond b (mask_from n width) (2 ^ n - 1) < width
  go true e k = k
  go false e k = grind (arith, nat_tests)

own_within : (width : ℕ) (column : ℤ) → 0 < width → masked_column (mask_of width) column < width
unfolding masked_column mask_of
own_within width column some = let mask_below = mask_within 16 width some in let and_within_mask = and_le_r (bits_of column) (mask_from 16 width) in omega arith

-- texels by a lookup
module _ (contents : List (List ℕ)) (lumps : List Lump) (number : ℕ) (t : PreparedTexture) (z : Heap) where
  abbrev its : ℕ → List ℕ
  its = lump_bytes contents lumps

  lent : (xs : Option (List ℕ)) (ys : List ℕ) (first : ℕ) (texel_at : ℕ → ℕ) → ((r : ℕ) → byte_at ys (first + r) ≡ texel_at r) → IfSome xs (λ bytes. bytes ≡ ys) → IfSome (option_map (column_from first) xs) (λ column. (r : ℕ) → byte_at column.bytes (column.first + r) ≡ texel_at r)
  lent None ys first texel_at at e = tt
  lent (Some xs) ys first texel_at at e = λ r. ap (λ (bytes : List ℕ). byte_at bytes (first + r)) e ∙ at r

  lent_by : (lookup : ColumnLookup) → IsColumnThere lumps lookup → IsFaithful contents lumps z → IfSome (bytes_of (composite_owner number) z.blocks) (λ xs. xs ≡ composite_of its t) → IfSome (column_view number z lookup) (λ column. (r : ℕ) → byte_at column.bytes (column.first + r) ≡ texel_by its (composite_of its t) lookup r)
  unfolding texel_by byte_at
  lent_by Empty there faithful built = λ r. refl
  lent_by (Single lump place) there faithful built = lent (bytes_of (lump_owner lump) z.blocks) (its lump) (place + POST_BYTES_AT) (λ r. byte_at (its lump) (place + POST_BYTES_AT + r)) (λ r. refl) (faithful.at lump there)
  lent_by (Composed place) there faithful built = lent (bytes_of (composite_owner number) z.blocks) (composite_of its t) place (λ r. byte_at (composite_of its t) (place + r)) (λ r. refl) built

  lent_texels : (col : ℤ) → HasColumns its t → ArePatchesThere lumps t → IsFaithful contents lumps z → IfSome (bytes_of (composite_owner number) z.blocks) (λ xs. xs ≡ composite_of its t) →
      IfSome (column_view number z (column_in t col)) (λ column. (r : ℕ) → byte_at column.bytes (column.first + r) ≡ texel its t.patches (length t.columns) t.height (column_index t col) r)
  lent_texels col has there faithful built =
      let index = column_index t col in
      let index_within = own_within (length t.columns) col has.some in
      let lookup_is : column_in t col ≡ column_lookup its t.patches t.height index = ap (λ (xs : List ColumnLookup). slice_index_or xs index Empty) has.are ∙ column_lookups-read its t.patches (length t.columns) t.height index Empty index_within in
      let lent_texels_are = lent_by (column_lookup its t.patches t.height index) (lookup_there lumps its t.patches t.height index there) faithful built in
      weaker (column_view number z (column_in t col)) (λ r. texel_by its (composite_of its t) (column_lookup its t.patches t.height index) r) (λ r. texel its t.patches (length t.columns) t.height index r)
      (λ r. sym (texel_by-texel its t.patches (length t.columns) t.height index r))
      (subst (λ (lookup : ColumnLookup). IfSome (column_view number z lookup) (λ column. (r : ℕ) → byte_at column.bytes (column.first + r) ≡ texel_by its (composite_of its t) (column_lookup its t.patches t.height index) r)) (sym lookup_is) lent_texels_are)
    where
      weaker : (c : Option ColumnView) (f g : ℕ → ℕ) → ((r : ℕ) → f r ≡ g r) → IfSome c (λ column. (r : ℕ) → byte_at column.bytes (column.first + r) ≡ f r) → IfSome c (λ column. (r : ℕ) → byte_at column.bytes (column.first + r) ≡ g r)
      weaker None f g same k = tt
      weaker (Some column) f g same k = λ r. k r ∙ same r

-- the texture of a number that is prepared
pub prepared_is : (prepared : Option PreparedTexture) → IsSome prepared → prepared ≡ Some (unwrap_or prepared unprepared)
prepared_is None some = cc
prepared_is (Some t) some = refl

-- a faithful cache whose composites are these textures' lends each column's texels
pub texels_lent : (contents : List (List ℕ)) (lumps : List Lump) (textures : TexturesView) (number : ℕ) (t : PreparedTexture) (z : Heap) (col : ℤ) → prepared_at textures.prepared number ≡ Some t → ArePatchesThere lumps t → IsFaithful contents lumps z → AreComposites (lump_bytes contents lumps) textures z → AreTexturesOf contents lumps textures →
    IfSome (column_view number z (column_in t col)) (λ column. (r : ℕ) → byte_at column.bytes (column.first + r) ≡ texel (lump_bytes contents lumps) t.patches (length t.columns) t.height (column_index t col) r)
texels_lent contents lumps textures number t z col is there faithful composites are =
    lent_texels contents lumps number t z col (textures_columns contents lumps textures number t are is) there faithful
    (subst (λ (prepared : Option PreparedTexture). IfSome prepared (λ u. IfSome (bytes_of (composite_owner number) z.blocks) (λ xs. xs ≡ composite_of (lump_bytes contents lumps) u))) is (composites.at number))
