-- A patch of a wanted texture is a patch of a prepared one.
use Rattle.art_rules.proofs.Common.{[], ap, arith, Bool, cond, Contains, eq-eqb, Err, false, inl, inr, List, list_any, nat_lt, None, Ok, Option, option_and_then, option_map, or_left, or_right, refl, Result, slice_get, Some, suc, sym, true, zero, ℕ, ◌+◌, ◌==◌, ◌∙◌, ◌∷◌, ◌≡◌}
use Rattle.level_audit.specs.Rules.{Lump, MAX_COMPOSITE, PlacedPatch, PreparedTexture, TexRefusal, TextureEntry, TextureLists, TooBig, composite_size, is_patch_of, is_patch_of_any, last_of, place_lump, placed_patch, placed_patches, prepared, prepared_from, prepared_if, prepared_textures, texture_of, unless_missing, unless_too_big}
use Rattle.art_rules.specs.Words.{Texture}
use Rattle.texture_build.specs.Asked.{IsWantedPatch}
use Rattle.texture_build.proofs.PlaceLemmas.{lump_placed}
use Rattle.sound_scene.proofs.MemberLemmas.{among_cases, among_none}
use Rattle.art_rules.proofs.Laws.{and_then-ok}

-- a step that gave something
some_step : {X Y : Type 0} (o : Option X) (f : X → Option Y) (y : Y) → option_and_then f o ≡ Some y → (x : X) × (o ≡ Some x) × (f x ≡ Some y)
some_step None f y e = cc
some_step (Some x) f y e = (x, refl, e)

some_made : {X Y : Type 0} (o : Option X) (f : X → Y) (y : Y) → option_map f o ≡ Some y → (x : X) × (o ≡ Some x) × (f x ≡ y)
some_made None f y e = cc
some_made (Some x) f y e = (x, refl, let value_is : f x ≡ y = cc in value_is)

-- the patches of a texture whose lumps are all found
module _ (last : List ℕ → Option ℕ) (bytes : ℕ → List ℕ) (names : List (List ℕ)) (entry : TextureEntry) (lump : ℕ) (is : option_and_then last (slice_get names entry.number) ≡ Some lump) where
  placed_there : (patch : PlacedPatch) → placed_patch last bytes names entry ≡ Some patch → (patch.lump == lump) ≡ true
  unfolding placed_patch place_lump
  placed_there patch e =
      let patch_is : place_lump bytes entry lump ≡ Some patch = sym (ap (option_and_then (place_lump bytes entry)) is) ∙ e in
      eq-eqb patch.lump lump (lump_placed entry lump (Some (bytes lump)) (place_lump bytes entry lump) patch refl patch_is)

  patch_placed : (entries : List TextureEntry) (patches : List PlacedPatch) → placed_patches last bytes names entries ≡ Some patches → Contains entries entry → list_any (λ (patch : PlacedPatch). patch.lump == lump) patches ≡ true
  unfolding placed_patches
  patch_placed [] patches e has = among_none entry has
  patch_placed (first ∷ rest) patches e has =
      let first_patch_is = some_step (placed_patch last bytes names first) (λ patch. option_map (λ patches. patch ∷ patches) (placed_patches last bytes names rest)) patches e in
      let rest_patches_are = some_made (placed_patches last bytes names rest) (λ patches. first_patch_is.0 ∷ patches) patches first_patch_is.2 in
      ap (list_any (λ (patch : PlacedPatch). patch.lump == lump)) (sym rest_patches_are.2)
      ∙ elim (among_cases first rest entry has) [
        | inl same ↦ or_left (first_patch_is.0.lump == lump) (list_any (λ (patch : PlacedPatch). patch.lump == lump) rest_patches_are.0) (placed_there first_patch_is.0 (ap (placed_patch last bytes names) (sym same) ∙ first_patch_is.1))
        | inr later ↦ or_right (first_patch_is.0.lump == lump) (list_any (λ (patch : PlacedPatch). patch.lump == lump) rest_patches_are.0)
            (patch_placed rest rest_patches_are.0 rest_patches_are.1 later)
      ]

  -- a prepared texture has the patches that were placed
  too_big_or : (number : ℕ) (t : Texture) (patches : List PlacedPatch) (made : PreparedTexture) → unless_too_big bytes number t patches ≡ Ok made → patches ≡ made.patches
  unfolding unless_too_big texture_of
  too_big_or number t patches made e = go (nat_lt MAX_COMPOSITE (composite_size patches t.width t.height)) e where
    go : (b : Bool) → cond b (Err (TooBig number)) (Ok (texture_of bytes t patches)) ≡ Ok made → patches ≡ made.patches
    go true k = cc
    go false k = let texture_is : texture_of bytes t patches ≡ made = cc in ap (λ (p : PreparedTexture). p.patches) texture_is

  missing_or : (number : ℕ) (t : Texture) (patches : Option (List PlacedPatch)) (made : PreparedTexture) → unless_missing bytes number t patches ≡ Ok made → patches ≡ Some made.patches
  unfolding unless_missing
  missing_or number t None made e = cc
  missing_or number t (Some patches) made e = ap Some (too_big_or number t patches made e)

  -- the prepared texture has the patch
  texture_has : (number : ℕ) (t : Texture) (made : PreparedTexture) → prepared last bytes names number t ≡ Ok made → Contains t.patches entry → is_patch_of lump (Some made) ≡ true
  unfolding prepared is_patch_of
  texture_has number t made e has = patch_placed t.patches made.patches (missing_or number t (placed_patches last bytes names t.patches) made e) has

-- what is prepared of a wanted texture
module _ (prepare : ℕ → Texture → Result PreparedTexture TexRefusal) (wanted : ℕ → Bool) (p : Option PreparedTexture → Bool) (m : ℕ) (t : Texture) (chosen : wanted m ≡ true) (passes : (made : PreparedTexture) → prepare m t ≡ Ok made → p (Some made) ≡ true) where
  one_passes : (b : Bool) (r : Result PreparedTexture TexRefusal) (first : Option PreparedTexture) → b ≡ true → r ≡ prepare m t → prepared_if b r ≡ Ok first → p first ≡ true
  unfolding prepared_if
  one_passes false r first on same e = cc
  one_passes true (Err refusal) first on same e = cc
  one_passes true (Ok made) first on same e = let first_is_made : Some made ≡ first = cc in ap p (sym first_is_made) ∙ passes made (sym same)

  some_passes : (n k : ℕ) (ts : List Texture) (out : List (Option PreparedTexture)) → prepared_from prepare wanted n ts ≡ Ok out → slice_get ts k ≡ Some t → n + k ≡ m → list_any p out ≡ true
  unfolding prepared_from
  some_passes n k [] out e at same = cc
  some_passes n zero (x ∷ ts) out e at same =
      let first_ok = and_then-ok (prepared_if (wanted n) (prepare n x)) _ out e in
      let rest_ok = and_then-ok (prepared_from prepare wanted (suc n) ts) _ out first_ok.2 in
      let list_is : first_ok.0 ∷ rest_ok.0 ≡ out = cc in
      let number_is : n ≡ m = omega arith in
      let texture_same : x ≡ t = cc in
      ap (list_any p) (sym list_is) ∙ or_left (p first_ok.0) (list_any p rest_ok.0) (one_passes (wanted n) (prepare n x) first_ok.0 (ap wanted number_is ∙ chosen) (ap (λ (i : ℕ). prepare i x) number_is ∙ ap (prepare m) texture_same) first_ok.1)
  some_passes n (suc k) (x ∷ ts) out e at same =
      let first_ok = and_then-ok (prepared_if (wanted n) (prepare n x)) _ out e in
      let rest_ok = and_then-ok (prepared_from prepare wanted (suc n) ts) _ out first_ok.2 in
      let list_is : first_ok.0 ∷ rest_ok.0 ≡ out = cc in
      ap (list_any p) (sym list_is) ∙ or_right (p first_ok.0) (list_any p rest_ok.0) (some_passes (suc n) k ts rest_ok.0 rest_ok.1 at (omega arith))

-- the patch that may be asked for is of one of the prepared textures
pub wanted_patch : (bytes : ℕ → List ℕ) (lumps : List Lump) (lists : TextureLists) (wanted : ℕ → Bool) (textures : List (Option PreparedTexture)) (lump : ℕ) → prepared_textures (last_of lumps) bytes lists wanted ≡ Ok textures → IsWantedPatch lumps lists wanted lump → is_patch_of_any textures lump ≡ true
unfolding prepared_textures is_patch_of_any
wanted_patch bytes lumps lists wanted textures lump e asked =
    some_passes (prepared (last_of lumps) bytes lists.names) wanted (is_patch_of lump) asked.number asked.texture asked.chosen
    (λ made is. texture_has (last_of lumps) bytes lists.names asked.entry lump asked.is asked.number asked.texture made is asked.among) 0 asked.number lists.textures textures e asked.at (omega arith)
