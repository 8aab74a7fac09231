-- Each texture of accepted lists has a row, and so has what is prepared of it.
use Rattle.picture_rules.proofs.Common.{arith, Bool, cast_signed, false, false≢true, int_lt, List, None, pos, Some, suc, sym, true, w16, zero, ℕ, ◌+◌, ◌<◌, ◌||◌, ◌≡◌}
use Rattle.picture_rules.proofs.Laws.{none-below}
use Rattle.frame_core.specs.Rules.{Lump, PlacedPatch, PreparedTexture, TEXTURE_HEIGHT_AT, Texture, half_at, is_wrong, list_count, lump_bytes, signed_half_at, texture_in, texture_of, texture_place, wrong_record}
use Rattle.texture_build.specs.Views.{AreTexturesOf, TexturesView, prepared_at}
use Rattle.texture_build.proofs.AcceptedLemmas.{each_prepared}

last_false : (b c : Bool) → b || c ≡ false → c ≡ false
last_false true c e = absurd (false≢true (sym e))
last_false false c e = e

some_height : (n : ℕ) → int_lt (cast_signed w16 n) (pos 1) ≡ false → 0 < n
some_height zero e = absurd (false≢true (sym e))
some_height (suc n) e = omega arith

tall : (bytes : List ℕ) (place : ℕ) → is_wrong bytes place ≡ false → 0 < half_at bytes (place + TEXTURE_HEIGHT_AT)
unfolding is_wrong signed_half_at
tall bytes place e = some_height (half_at bytes (place + TEXTURE_HEIGHT_AT)) (last_false _ _ e)

-- each texture of accepted lists has a row
abbrev is_tall : Texture → Type 0
is_tall t = 0 < t.height

tall_at : (bytes : List ℕ) (i : ℕ) → wrong_record bytes ≡ None → i < list_count bytes → is_tall (texture_in bytes (texture_place bytes i))
unfolding texture_in wrong_record
tall_at bytes i none within = tall bytes (texture_place bytes i) (none-below (λ k. is_wrong bytes (texture_place bytes k)) (list_count bytes) none i within)

-- so has each that is prepared
abbrev has_row : PreparedTexture → Type 0
has_row t = 0 < t.height

made_high : (bytes : ℕ → List ℕ) (texture : Texture) → is_tall texture → (patches : List PlacedPatch) → has_row (texture_of bytes texture patches)
unfolding texture_of
made_high bytes texture high patches = high

-- a prepared texture of a directory has a row
pub textures_rows : (contents : List (List ℕ)) (lumps : List Lump) (textures : TexturesView) (number : ℕ) (t : PreparedTexture) → AreTexturesOf contents lumps textures → prepared_at textures.prepared number ≡ Some t → 0 < t.height
textures_rows contents lumps textures number t = each_prepared is_tall has_row contents lumps textures number t tall_at (made_high (lump_bytes contents lumps))
