-- The textures that are prepared by a directory that finds their patches: the same, but for the numbers of the patches.
use Rattle.art_rules.proofs.Common.{[], AllByRecursion, ap, Bool, cond, Err, false, List, map, nat_lt, None, Ok, Option, option_and_then, option_map, range_with_len, refl, Result, slice_get, Some, some-injective, subst, suc, sym, true, ℕ, ⊤, ◌∙◌, ◌∷◌, ◌≡◌}
use Rattle.trim_rules.specs.Rules.{ColumnLookup, MAX_COMPOSITE, Patch, PlacedPatch, PreparedTexture, TexRefusal, Texture, TextureEntry, TextureLists, TooBig, column_lookup, column_lookups, composed_count, composite_size, listed, patch_of, place_lump, place_patch, placed_patch, placed_patches, prepared, prepared_from, prepared_if, prepared_textures, texture_of, unless_missing, unless_too_big}
use Rattle.art_rules.proofs.Laws.{and_then-ok}
use Rattle.trim_rules.proofs.AnswerLemmas.{ok_of}
use Rattle.trim_rules.proofs.TexelLemmas.{column_lookup-moved, composed_columns-moved, moved, moved_lookup}

-- a prepared texture under other numbers
abbrev pub move_texture : (ℕ → ℕ) → PreparedTexture → PreparedTexture
move_texture σ t = record { patches = map (moved σ) t.patches; height = t.height; columns = map (moved_lookup σ) t.columns }

-- all lumps of patches are of a kind
abbrev pub PatchIs : (ℕ → Type 0) → PlacedPatch → Type 0
PatchIs Q p = Q p.lump

abbrev pub PatchesAre : (ℕ → Type 0) → Option PreparedTexture → Type 0
PatchesAre Q None = ⊤
PatchesAre Q (Some t) = AllByRecursion (PatchIs Q) t.patches

-- what columns are read from
map_step : (σ : ℕ → ℕ) (f g : ℕ → ColumnLookup) → ((x : ℕ) → g x ≡ moved_lookup σ (f x)) → (ns : List ℕ) → map g ns ≡ map (moved_lookup σ) (map f ns)
map_step σ f g same [] = refl
map_step σ f g same (n ∷ ns) = rw (same n, map_step σ f g same ns) refl

columns-moved : (bytes : ℕ → List ℕ) (σ : ℕ → ℕ) (ps : List PlacedPatch) (width height : ℕ)
    → column_lookups bytes (map (moved σ) ps) width height ≡ map (moved_lookup σ) (column_lookups (λ n. bytes (σ n)) ps width height)
unfolding column_lookups listed
columns-moved bytes σ ps width height =
    map_step σ (column_lookup (λ n. bytes (σ n)) ps height) (column_lookup bytes (map (moved σ) ps) height) (λ x. column_lookup-moved bytes σ ps height x) (range_with_len 0 width)

size-moved : (σ : ℕ → ℕ) (ps : List PlacedPatch) (width height : ℕ) → composite_size (map (moved σ) ps) width height ≡ composite_size ps width height
unfolding composite_size composed_count
size-moved σ ps width height = rw (composed_columns-moved σ ps width) refl

texture-moved : (bytes : ℕ → List ℕ) (σ : ℕ → ℕ) (t : Texture) (ps : List PlacedPatch)
    → texture_of bytes t (map (moved σ) ps) ≡ move_texture σ (texture_of (λ n. bytes (σ n)) t ps)
unfolding texture_of
texture-moved bytes σ t ps =
    ap (λ (columns : List ColumnLookup). record { patches = map (moved σ) ps; height = t.height; columns = columns }) (columns-moved bytes σ ps t.width t.height)

big_step : (bytes : ℕ → List ℕ) (number : ℕ) (t : Texture) (ps : List PlacedPatch) (b : Bool) (p : PreparedTexture)
    → cond b (Err (TooBig number)) (Ok (texture_of bytes t ps)) ≡ Ok p → (b ≡ false) × (texture_of bytes t ps ≡ p)
big_step bytes number t ps true p e = absurd (cc)
big_step bytes number t ps false p e = (refl, ok_of (texture_of bytes t ps) p e)

module _ (σ : ℕ → ℕ) (bytes : ℕ → List ℕ) (last other : List ℕ → Option ℕ) (Q : ℕ → Type 0)
    (finds : (name : List ℕ) (n : ℕ) → last name ≡ Some n → Q n → (k : ℕ) × (other name ≡ Some k) × (σ k ≡ n)) where
  -- a patch
  place_step : (entry : TextureEntry) (k n : ℕ) (o : Option Patch) (p : PlacedPatch) → σ k ≡ n → option_map (place_patch entry n) o ≡ Some p
      → (q : PlacedPatch) × (option_map (place_patch entry k) o ≡ Some q) × (moved σ q ≡ p)
  unfolding place_patch
  place_step entry k n None p same e = absurd (cc)
  place_step entry k n (Some patch) p same e =
      (place_patch entry k patch, refl, ap (λ m. place_patch entry m patch) same ∙ some-injective (place_patch entry n patch) p e)

  number_step : (entry : TextureEntry) (n : ℕ) (o : Option Patch) (p : PlacedPatch) → option_map (place_patch entry n) o ≡ Some p → n ≡ p.lump
  unfolding place_patch
  number_step entry n None p e = absurd (cc)
  number_step entry n (Some patch) p e = ap (λ (q : PlacedPatch). q.lump) (some-injective (place_patch entry n patch) p e)

  found_step : (entry : TextureEntry) (name : List ℕ) (o : Option ℕ) (p : PlacedPatch) → last name ≡ o → option_and_then (place_lump bytes entry) o ≡ Some p
      → Q p.lump → (q : PlacedPatch) × (option_and_then (place_lump (λ n. bytes (σ n)) entry) (other name) ≡ Some q) × (moved σ q ≡ p)
  unfolding place_lump
  found_step entry name None p is e holds = absurd (cc)
  found_step entry name (Some n) p is e holds =
      let lump_found = finds name n is (subst Q (sym (number_step entry n (patch_of (bytes n)) p e)) holds) in
      let placed = place_step entry lump_found.0 n (patch_of (bytes n)) p lump_found.2 e in
      (placed.0, ap (option_and_then (place_lump (λ m. bytes (σ m)) entry)) lump_found.1 ∙ ap (λ m. option_map (place_patch entry lump_found.0) (patch_of (bytes m))) lump_found.2 ∙ placed.1, placed.2)

  named_step : (entry : TextureEntry) (o : Option (List ℕ)) (p : PlacedPatch) → option_and_then (place_lump bytes entry) (option_and_then last o) ≡ Some p
      → Q p.lump → (q : PlacedPatch) × (option_and_then (place_lump (λ n. bytes (σ n)) entry) (option_and_then other o) ≡ Some q) × (moved σ q ≡ p)
  named_step entry None p e holds = absurd (cc)
  named_step entry (Some name) p e holds = found_step entry name (last name) p refl e holds

  -- the patches of a texture
  more_step : (a a' : Option PlacedPatch) (b b' : Option (List PlacedPatch)) (ps : List PlacedPatch)
      → ((p : PlacedPatch) → a ≡ Some p → Q p.lump → (q : PlacedPatch) × (a' ≡ Some q) × (moved σ q ≡ p))
      → ((rest : List PlacedPatch) → b ≡ Some rest → AllByRecursion (PatchIs Q) rest → (qs : List PlacedPatch) × (b' ≡ Some qs) × (map (moved σ) qs ≡ rest))
      → option_and_then (λ patch. option_map (λ patches. patch ∷ patches) b) a ≡ Some ps → AllByRecursion (PatchIs Q) ps
      → (qs : List PlacedPatch) × (option_and_then (λ patch. option_map (λ patches. patch ∷ patches) b') a' ≡ Some qs) × (map (moved σ) qs ≡ ps)
  more_step None a' b b' ps one more e all = absurd (cc)
  more_step (Some p) a' None b' ps one more e all = absurd (cc)
  more_step (Some p) a' (Some rest) b' ps one more e all =
      let list_is : p ∷ rest ≡ ps = some-injective (p ∷ rest) ps e in
      let head_and_rest_hold : AllByRecursion (PatchIs Q) (p ∷ rest) = subst (AllByRecursion (PatchIs Q)) (sym list_is) all in
      let moved_patch = one p refl head_and_rest_hold.0 in let rest_moved = more rest refl head_and_rest_hold.1 in (
        moved_patch.0 ∷ rest_moved.0,
        rw (moved_patch.1, rest_moved.1) refl,
        ap (λ q. q ∷ map (moved σ) rest_moved.0) moved_patch.2 ∙ ap (λ qs. p ∷ qs) rest_moved.2 ∙ list_is,
      )

  placed-moved : (names : List (List ℕ)) (entries : List TextureEntry) (ps : List PlacedPatch) → placed_patches last bytes names entries ≡ Some ps
      → AllByRecursion (PatchIs Q) ps → (qs : List PlacedPatch) × (placed_patches other (λ n. bytes (σ n)) names entries ≡ Some qs) × (map (moved σ) qs ≡ ps)
  unfolding placed_patches placed_patch
  placed-moved names [] ps e all = ([], refl, some-injective [] ps e)
  placed-moved names (entry ∷ rest) ps e all =
      more_step (placed_patch last bytes names entry) (placed_patch other (λ n. bytes (σ n)) names entry)
      (placed_patches last bytes names rest) (placed_patches other (λ n. bytes (σ n)) names rest) ps
      (λ p is holds. named_step entry (slice_get names entry.number) p is holds)
      (λ ps' is holds. placed-moved names rest ps' is holds) e all

  -- a texture
  missing_step : (number : ℕ) (t : Texture) (o o' : Option (List PlacedPatch)) (p : PreparedTexture)
      → ((ps : List PlacedPatch) → o ≡ Some ps → AllByRecursion (PatchIs Q) ps → (qs : List PlacedPatch) × (o' ≡ Some qs) × (map (moved σ) qs ≡ ps))
      → unless_missing bytes number t o ≡ Ok p → AllByRecursion (PatchIs Q) p.patches
      → (q : PreparedTexture) × (unless_missing (λ n. bytes (σ n)) number t o' ≡ Ok q) × (move_texture σ q ≡ p)
  unfolding unless_missing unless_too_big texture_of
  missing_step number t None o' p more e all = absurd (cc)
  missing_step number t (Some ps) o' p more e all =
      let size_step = big_step bytes number t ps (nat_lt MAX_COMPOSITE (composite_size ps t.width t.height)) p e in
      let patches = more ps refl (subst (AllByRecursion (PatchIs Q)) (sym (ap (λ (u : PreparedTexture). u.patches) size_step.1)) all) in
      let not_too_big : nat_lt MAX_COMPOSITE (composite_size patches.0 t.width t.height) ≡ false =
      ap (nat_lt MAX_COMPOSITE) (sym (size-moved σ patches.0 t.width t.height) ∙ ap (λ qs. composite_size qs t.width t.height) patches.2) ∙ size_step.0 in (
        texture_of (λ n. bytes (σ n)) t patches.0,
        ap (unless_missing (λ n. bytes (σ n)) number t) patches.1 ∙ ap (λ b. cond b (Err (TooBig number)) (Ok (texture_of (λ n. bytes (σ n)) t patches.0))) not_too_big,
        sym (texture-moved bytes σ t patches.0) ∙ ap (texture_of bytes t) patches.2 ∙ size_step.1,
      )

  one-moved : (names : List (List ℕ)) (number : ℕ) (t : Texture) (p : PreparedTexture) → prepared last bytes names number t ≡ Ok p
      → AllByRecursion (PatchIs Q) p.patches → (q : PreparedTexture) × (prepared other (λ n. bytes (σ n)) names number t ≡ Ok q) × (move_texture σ q ≡ p)
  unfolding prepared
  one-moved names number t p e all =
      missing_step number t (placed_patches last bytes names t.patches) (placed_patches other (λ n. bytes (σ n)) names t.patches) p
      (λ ps is holds. placed-moved names t.patches ps is holds) e all

  -- one that is wanted or not
  if_step : (b : Bool) (r r' : Result PreparedTexture TexRefusal) (o : Option PreparedTexture)
      → ((p : PreparedTexture) → r ≡ Ok p → AllByRecursion (PatchIs Q) p.patches → (q : PreparedTexture) × (r' ≡ Ok q) × (move_texture σ q ≡ p))
      → prepared_if b r ≡ Ok o → PatchesAre Q o → (u : Option PreparedTexture) × (prepared_if b r' ≡ Ok u) × (option_map (move_texture σ) u ≡ o)
  unfolding prepared_if
  if_step false r r' o one e all = (None, refl, ok_of None o e)
  if_step true (Err reason) r' o one e all = absurd (cc)
  if_step true (Ok p) r' o one e all =
      let option_is : Some p ≡ o = ok_of (Some p) o e in
      let texture_moved = one p refl (subst (PatchesAre Q) (sym option_is) all) in
      (Some texture_moved.0, rw texture_moved.1 refl, ap Some texture_moved.2 ∙ option_is)

  -- all textures
  from-moved : (names : List (List ℕ)) (wanted : ℕ → Bool) (number : ℕ) (textures : List Texture) (ts : List (Option PreparedTexture))
      → prepared_from (prepared last bytes names) wanted number textures ≡ Ok ts → AllByRecursion (PatchesAre Q) ts
      → (us : List (Option PreparedTexture)) × (prepared_from (prepared other (λ n. bytes (σ n)) names) wanted number textures ≡ Ok us) × (map (option_map (move_texture σ)) us ≡ ts)
  unfolding prepared_from
  from-moved names wanted number [] ts e all = ([], refl, ok_of [] ts e)
  from-moved names wanted number (t ∷ rest) ts e all =
      let first_made = and_then-ok (prepared_if (wanted number) (prepared last bytes names number t)) _ ts e in
      let rest_made = and_then-ok (prepared_from (prepared last bytes names) wanted (suc number) rest) _ ts first_made.2 in
      let list_is : first_made.0 ∷ rest_made.0 ≡ ts = ok_of (first_made.0 ∷ rest_made.0) ts rest_made.2 in
      let head_and_rest_hold : AllByRecursion (PatchesAre Q) (first_made.0 ∷ rest_made.0) = subst (AllByRecursion (PatchesAre Q)) (sym list_is) all in
      let moved_texture = if_step (wanted number) (prepared last bytes names number t) (prepared other (λ n. bytes (σ n)) names number t) first_made.0
      (λ p is holds. one-moved names number t p is holds) first_made.1 head_and_rest_hold.0 in
      let rest_moved = from-moved names wanted (suc number) rest rest_made.0 rest_made.1 head_and_rest_hold.1 in (
        moved_texture.0 ∷ rest_moved.0,
        rw (moved_texture.1, rest_moved.1) refl,
        ap (λ o. o ∷ map (option_map (move_texture σ)) rest_moved.0) moved_texture.2 ∙ ap (λ os. first_made.0 ∷ os) rest_moved.2 ∙ list_is,
      )

  -- The prepared textures, by a directory that finds their patches.
  pub prepared-moved : (lists : TextureLists) (wanted : ℕ → Bool) (ts : List (Option PreparedTexture))
      → prepared_textures last bytes lists wanted ≡ Ok ts → AllByRecursion (PatchesAre Q) ts
      → (us : List (Option PreparedTexture)) × (prepared_textures other (λ n. bytes (σ n)) lists wanted ≡ Ok us) × (map (option_map (move_texture σ)) us ≡ ts)
  unfolding prepared_textures
  prepared-moved lists wanted ts e all = from-moved lists.names wanted 0 lists.textures ts e all
