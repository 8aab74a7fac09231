-- What holds of each texture of an accepted list holds of all textures of accepted lists, and what
-- is made of such textures is what is prepared of them.
use Rattle.art_rules.proofs.Common.{[], All, All-append, All-contains, All-from_get_or, All-nil, ap, arith, Bool, cond, Contains, Err, false, List, nat_lt, None, Ok, Option, option_map, refl, Result, Some, subst, suc, sym, true, zero, ℕ, ◌++◌, ◌+◌, ◌<◌, ◌∙◌, ◌∷◌, ◌≡◌}
use Rattle.texture_build.specs.Rules.{Lump, MAX_COMPOSITE, PlacedPatch, PreparedTexture, TexRefusal, Texture, TextureLists, TooBig, both_lists, composite_size, first_list, first_wrong, joined_textures, last_of, later_textures, later_wrong, list_count, lump_bytes, or_else, patch_names, placed_patches, prepared, prepared_from, prepared_if, prepared_textures, second_list, texture_in, texture_lists, texture_of, texture_place, textures_in, unless_missing, unless_too_big, unless_wrong, unlisted, wrong_record}
use Rattle.art_rules.proofs.Laws.{and_then-ok, get_or-listed, length-listed}
use Rattle.texture_build.specs.Views.{AreTexturesOf, TexturesView, prepared_at}

map_none : (f : ℕ → ℕ) (x : Option ℕ) → option_map f x ≡ None → x ≡ None
map_none f None e = refl
map_none f (Some n) e = cc

both_none : (x y : Option ℕ) → or_else x y ≡ None → (x ≡ None) × (y ≡ None)
both_none None y e = (refl, e)
both_none (Some n) y e = cc

-- P holds of each texture of an accepted list
module _ (P : Texture → Type 0) (each : (bytes : List ℕ) (i : ℕ) → wrong_record bytes ≡ None → i < list_count bytes → P (texture_in bytes (texture_place bytes i))) where
  all_first : (bytes : List ℕ) → wrong_record bytes ≡ None → All P (textures_in bytes)
  unfolding textures_in
  all_first bytes none = All-from_get_or P (textures_in bytes) unlisted (λ i lt.
      let record_at = λ (k : ℕ). texture_in bytes (texture_place bytes k) in
      let listed_length = length-listed record_at (list_count bytes) in
      let index_within : i < list_count bytes = omega arith in
      subst P (sym (get_or-listed record_at (list_count bytes) i unlisted index_within)) (each bytes i none index_within))

  all_later : (before : ℕ) (second : Option (List ℕ)) → later_wrong before second ≡ None → All P (later_textures second)
  unfolding later_wrong later_textures
  all_later before None none = All-nil P
  all_later before (Some bytes) none = all_first bytes (map_none (λ i. before + i) (wrong_record bytes) none)

  all_unless : (wrong : Option ℕ) (ts us : List Texture) → (wrong ≡ None → All P ts) → unless_wrong wrong ts ≡ Ok us → All P us
  unfolding unless_wrong
  all_unless None ts us all e = let lists_same : ts ≡ us = cc in subst (All P) lists_same (all refl)
  all_unless (Some n) ts us all e = cc

  all_joined : (first : List ℕ) (second : Option (List ℕ)) (us : List Texture) → joined_textures first second ≡ Ok us → All P us
  unfolding joined_textures first_wrong
  all_joined first second us e = all_unless (first_wrong first second) (textures_in first ++ later_textures second) us (λ none.
      let none_wrong = both_none (wrong_record first) (later_wrong (list_count first) second) none in
      All-append P (textures_in first) (later_textures second) (all_first first none_wrong.0) (all_later (list_count first) second none_wrong.1)) e

  all_both : (t1 t2 : Option (List ℕ)) (us : List Texture) → both_lists t1 t2 ≡ Ok us → All P us
  unfolding both_lists
  all_both t1 t2 us e =
      let first_list_read = and_then-ok (first_list t1) _ us e in
      let second_list_read = and_then-ok (second_list (list_count first_list_read.0) t2) _ us first_list_read.2 in
      all_joined first_list_read.0 second_list_read.0 us second_list_read.2

  all_lists : (p t1 t2 : Option (List ℕ)) (lists : TextureLists) → texture_lists p t1 t2 ≡ Ok lists → All P lists.textures
  unfolding texture_lists
  all_lists p t1 t2 lists e =
      let names_read = and_then-ok (patch_names p) _ lists e in let both_lists_read = and_then-ok (both_lists t1 t2) _ lists names_read.2 in
      let textures_are : both_lists_read.0 ≡ lists.textures = ap (λ (r : Result TextureLists TexRefusal). textures_of r) both_lists_read.2 in
      subst (All P) textures_are (all_both t1 t2 both_lists_read.0 both_lists_read.1)
    where
      textures_of : Result TextureLists TexRefusal → List Texture
      textures_of (Ok l) = l.textures
      textures_of (Err reason) = []

-- what is prepared is one of the listed textures, prepared
record IsPreparedOf (prepare : ℕ → Texture → Result PreparedTexture TexRefusal) (ts : List Texture) (t : PreparedTexture) : Type 0 where
  number : ℕ
  texture : Texture
  among : Contains ts texture
  is : prepare number texture ≡ Ok t

module _ (prepare : ℕ → Texture → Result PreparedTexture TexRefusal) (wanted : ℕ → Bool) where
  prepared_one : (b : Bool) (r : Result PreparedTexture TexRefusal) (t : PreparedTexture) → prepared_if b r ≡ Ok (Some t) → r ≡ Ok t
  unfolding prepared_if
  prepared_one false r t e = cc
  prepared_one true (Ok u) t e = let texture_is : u ≡ t = cc in ap Ok texture_is
  prepared_one true (Err reason) t e = cc

  behind : (x : Texture) (ts : List Texture) (t : PreparedTexture) → IsPreparedOf prepare ts t → IsPreparedOf prepare (x ∷ ts) t
  behind x ts t p = record { number = p.number; texture = p.texture; among = (suc p.among.0, omega (arith, p.among.1), p.among.2); is = p.is }

  prepared_in : (n k : ℕ) (ts : List Texture) (out : List (Option PreparedTexture)) (t : PreparedTexture) → prepared_from prepare wanted n ts ≡ Ok out → prepared_at out k ≡ Some t → IsPreparedOf prepare ts t
  unfolding prepared_from
  prepared_in n k [] out t e is = let out_is_empty : [] ≡ out = cc in
      absurd (nothing k (ap (λ (xs : List (Option PreparedTexture)). prepared_at xs k) out_is_empty ∙ is)) where
        nothing : (k : ℕ) → ◌≡◌ {A = Option PreparedTexture} None (Some t) → ⊥
        nothing k e = cc
  prepared_in n k (x ∷ ts) out t e is =
      let texture_prepared = and_then-ok (prepared_if (wanted n) (prepare n x)) _ out e in
      let others_prepared = and_then-ok (prepared_from prepare wanted (suc n) ts) _ out texture_prepared.2 in
      let out_is : texture_prepared.0 ∷ others_prepared.0 ≡ out = cc in
      go k texture_prepared.0 others_prepared.0 (λ m rest later. prepared_in (suc n) m ts others_prepared.0 t rest later) texture_prepared.1 others_prepared.1 (ap (λ (xs : List (Option PreparedTexture)). prepared_at xs k) out_is ∙ is) where
        go : (k : ℕ) (first : Option PreparedTexture) (others : List (Option PreparedTexture)) → ((m : ℕ) → prepared_from prepare wanted (suc n) ts ≡ Ok others → prepared_at others m ≡ Some t → IsPreparedOf prepare ts t) → prepared_if (wanted n) (prepare n x) ≡ Ok first → prepared_from prepare wanted (suc n) ts ≡ Ok others → prepared_at (first ∷ others) k ≡ Some t → IsPreparedOf prepare (x ∷ ts) t
        go zero first others below one rest here = record { number = n; texture = x; among = (0, omega arith, refl); is = prepared_one (wanted n) (prepare n x) t (one ∙ ap Ok here) }
        go (suc k) first others below one rest later = behind x ts t (below k rest later)

-- Q holds of what is made of a texture
module _ (Q : PreparedTexture → Type 0) (bytes : ℕ → List ℕ) (texture : Texture) (made : (patches : List PlacedPatch) → Q (texture_of bytes texture patches)) where
  not_too_big : (number : ℕ) (patches : List PlacedPatch) (t : PreparedTexture) → unless_too_big bytes number texture patches ≡ Ok t → Q t
  unfolding unless_too_big
  not_too_big number patches t e = go (nat_lt MAX_COMPOSITE (composite_size patches texture.width texture.height)) e where
    go : (b : Bool) → cond b (Err (TooBig number)) (Ok (texture_of bytes texture patches)) ≡ Ok t → Q t
    go true e = cc
    go false e = let texture_is : texture_of bytes texture patches ≡ t = cc in subst Q texture_is (made patches)

  not_missing : (number : ℕ) (patches : Option (List PlacedPatch)) (t : PreparedTexture) → unless_missing bytes number texture patches ≡ Ok t → Q t
  unfolding unless_missing
  not_missing number None t e = cc
  not_missing number (Some patches) t e = not_too_big number patches t e

  of_prepared : (last : List ℕ → Option ℕ) (names : List (List ℕ)) (number : ℕ) (t : PreparedTexture) → prepared last bytes names number texture ≡ Ok t → Q t
  unfolding prepared
  of_prepared last names number t e = not_missing number (placed_patches last bytes names texture.patches) t e

-- so Q holds of each prepared texture of a directory, where it holds of what is made of textures of which P holds
pub each_prepared : (P : Texture → Type 0) (Q : PreparedTexture → Type 0) (contents : List (List ℕ)) (lumps : List Lump) (textures : TexturesView) (number : ℕ) (t : PreparedTexture) →
    ((bytes : List ℕ) (i : ℕ) → wrong_record bytes ≡ None → i < list_count bytes → P (texture_in bytes (texture_place bytes i))) →
    ((texture : Texture) → P texture → (patches : List PlacedPatch) → Q (texture_of (lump_bytes contents lumps) texture patches)) →
    AreTexturesOf contents lumps textures → prepared_at textures.prepared number ≡ Some t → Q t
unfolding prepared_textures
each_prepared P Q contents lumps textures number t each made are is =
    let bytes = lump_bytes contents lumps in let source = prepared_in (prepared (last_of lumps) bytes textures.lists.names)
    are.wanted 0 number textures.lists.textures textures.prepared t are.prepared is in
    of_prepared Q bytes source.texture (made source.texture (All-contains P textures.lists.textures source.texture
    (all_lists P each _ _ _ textures.lists are.lists) source.among)) (last_of lumps) textures.lists.names source.number t source.is
