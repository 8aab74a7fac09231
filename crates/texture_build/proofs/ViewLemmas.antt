-- Laws of `AreTexturesOf`: what is prepared of such textures has a column, and its columns are
-- those of its patches.
use Rattle.std.proofs.Common.{◌≡◌, ℕ, ◌<◌, List, length, Some, None, sym, ap, arith}
use Rattle.texture_build.specs.Rules.{Lump, PlacedPatch, PreparedTexture, Texture, column_lookups, list_count, lump_bytes, texture_in, texture_of, texture_place, wrong_record}
use Rattle.art_rules.proofs.LookupLemmas.{length-column_lookups}
use Rattle.texture_lists.proofs.PartLemmas.{width_within}
use Rattle.texture_build.specs.Views.{AreTexturesOf, TexturesView, prepared_at}
use Rattle.texture_build.proofs.AcceptedLemmas.{each_prepared}

-- each texture of accepted lists has a column
abbrev is_wide : Texture → Type 0
is_wide t = 0 < t.width

wide_at : (bytes : List ℕ) (i : ℕ) → wrong_record bytes ≡ None → i < list_count bytes → is_wide (texture_in bytes (texture_place bytes i))
unfolding texture_in
wide_at bytes i none within = width_within bytes i none within

-- its columns are those of its patches
pub record HasColumns (bytes : ℕ → List ℕ) (t : PreparedTexture) : Type 0 where
  pub are : t.columns ≡ column_lookups bytes t.patches (length t.columns) t.height
  pub some : 0 < length t.columns

made_columns : (bytes : ℕ → List ℕ) (texture : Texture) → is_wide texture → (patches : List PlacedPatch) → HasColumns bytes (texture_of bytes texture patches)
unfolding texture_of
made_columns bytes texture wide patches =
    let lookups_length = length-column_lookups bytes patches texture.width texture.height in
    record { are = ap (λ n. column_lookups bytes patches n texture.height) (sym lookups_length); some = omega arith }

pub textures_columns : (contents : List (List ℕ)) (lumps : List Lump) (textures : TexturesView) (number : ℕ) (t : PreparedTexture) → AreTexturesOf contents lumps textures → prepared_at textures.prepared number ≡ Some t → HasColumns (lump_bytes contents lumps) t
textures_columns contents lumps textures number t =
    each_prepared is_wide (HasColumns (lump_bytes contents lumps)) contents lumps textures number t wide_at (made_columns (lump_bytes contents lumps))
