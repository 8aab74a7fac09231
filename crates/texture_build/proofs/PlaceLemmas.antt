-- A patch that is fetched and placed, and the patches of a texture one after the other.
use Rattle.art_rules.proofs.Common.{[], ap, drop, Err, get_or, IfSome, length, List, None, Ok, Option, option_and_then, option_map, refl, Some, split_at, subst, suc, sym, take, take_more, ℕ, ◌++◌, ◌+◌, ◌<◌, ◌∙◌, ◌∷◌, ◌≡◌}
use Rattle.texture_build.specs.Rules.{ColumnLookup, Lump, LumpNo, MissingPatch, Patch, PlacedPatch, TexRefusal, TextureEntry, last_of, patch_of, place_lump, place_patch, placed_patch, placed_patches}
use Rattle.patch_columns.specs.Seen.{columns_with, seen_lookups}
use Rattle.patch_columns.proofs.SeenLemmas.{columns_with-seen}
use Rattle.texture_build.specs.Asked.{patch_lump}
use Rattle.texture_build.specs.Parts.{PatchStep, PatchesPart, or_missing, patches_part, step_of}

placed_lump : (entry : TextureEntry) (lump : ℕ) (patch : Option Patch) (placed : PlacedPatch) → option_map (place_patch entry lump) patch ≡ Some placed → placed.lump ≡ lump
unfolding place_patch
placed_lump entry lump None placed e = cc
placed_lump entry lump (Some patch) placed e =
    let patch_is : place_patch entry lump patch ≡ placed = cc in ap (λ (p : PlacedPatch). p.lump) (sym patch_is)

-- where a patch was placed, it is of that lump
pub lump_placed : (entry : TextureEntry) (lump : ℕ) (live : Option (List ℕ)) (result : Option PlacedPatch) (placed : PlacedPatch) → result ≡ option_and_then (λ bytes. option_map (place_patch entry lump) (patch_of bytes)) live → result ≡ Some placed → placed.lump ≡ lump
lump_placed entry lump None result placed e is = cc
lump_placed entry lump (Some bytes) result placed e is = placed_lump entry lump (patch_of bytes) placed (sym e ∙ is)

placed_live : (bytes : ℕ → List ℕ) (entry : TextureEntry) (lump : ℕ) (live : Option (List ℕ)) (result : Option PlacedPatch) → live ≡ Some (bytes lump) → result ≡ option_and_then (λ bytes. option_map (place_patch entry lump) (patch_of bytes)) live → place_lump bytes entry lump ≡ result
unfolding place_lump
placed_live bytes entry lump live result is e = sym (ap (option_and_then (λ bytes. option_map (place_patch entry lump) (patch_of bytes))) is) ∙ sym e

-- a patch of a live lump, whose bytes are known
pub step_made : (bytes : ℕ → List ℕ) (number : ℕ) (entry : TextureEntry) (lump : ℕ) (live : Option (List ℕ)) (columns new : List ColumnLookup) (result : Option PlacedPatch) (patch : PlacedPatch) → live ≡ Some (bytes lump) →
    result ≡ option_and_then (λ bytes. option_map (place_patch entry lump) (patch_of bytes)) live → IfSome result (λ p. IfSome live (λ xs. new ≡ columns_with xs p columns)) → result ≡ Some patch →
    or_missing number (option_map (step_of bytes columns) (place_lump bytes entry lump)) ≡ Ok (record { patch = patch; columns = new })
unfolding or_missing step_of
step_made bytes number entry lump live columns new result patch known value told is =
    let lump_is : patch.lump ≡ lump = lump_placed entry lump live result patch value is in
    let columns_made : IfSome live (λ xs. new ≡ columns_with xs patch columns) = subst (λ r. IfSome r (λ p. IfSome live (λ xs. new ≡ columns_with xs p columns))) is told in
    let columns_same : new ≡ columns_with (bytes lump) patch columns = subst (λ o. IfSome o (λ xs. new ≡ columns_with xs patch columns)) known columns_made in
    ap (λ o. or_missing number (option_map (step_of bytes columns) o)) (placed_live bytes entry lump live result known value ∙ is)
    ∙ ap (λ xs. Ok (record { patch = patch; columns = xs })) (ap (λ (n : ℕ). columns_with (bytes n) patch columns) lump_is ∙ sym columns_same)

pub step_missing : (bytes : ℕ → List ℕ) (number : ℕ) (entry : TextureEntry) (lump : ℕ) (live : Option (List ℕ)) (columns : List ColumnLookup) (result : Option PlacedPatch) → live ≡ Some (bytes lump) →
    result ≡ option_and_then (λ bytes. option_map (place_patch entry lump) (patch_of bytes)) live → result ≡ None →
    or_missing number (option_map (step_of bytes columns) (place_lump bytes entry lump)) ≡ Err (MissingPatch number)
unfolding or_missing
step_missing bytes number entry lump live columns result known value is =
    ap (λ o. or_missing number (option_map (step_of bytes columns) o)) (placed_live bytes entry lump live result known value ∙ is)

-- the lump of a patch's name
pub entry_lump : (lumps : List Lump) (names : List (List ℕ)) (entry : TextureEntry) (result : Option LumpNo) (lump : LumpNo) → option_map (λ (l : LumpNo). l.0) result ≡ patch_lump lumps names entry → result ≡ Some lump → patch_lump lumps names entry ≡ Some lump.0
entry_lump lumps names entry result lump found is = sym found ∙ ap (option_map (λ (l : LumpNo). l.0)) is

pub entry_none : (lumps : List Lump) (names : List (List ℕ)) (entry : TextureEntry) (result : Option LumpNo) → option_map (λ (l : LumpNo). l.0) result ≡ patch_lump lumps names entry → result ≡ None → patch_lump lumps names entry ≡ None
entry_none lumps names entry result found is = sym found ∙ ap (option_map (λ (l : LumpNo). l.0)) is

pub entry_placed : (bytes : ℕ → List ℕ) (lumps : List Lump) (names : List (List ℕ)) (entry : TextureEntry) (lump : ℕ) → patch_lump lumps names entry ≡ Some lump → place_lump bytes entry lump ≡ placed_patch (last_of lumps) bytes names entry
unfolding placed_patch
entry_placed bytes lumps names entry lump is = sym (ap (option_and_then (place_lump bytes entry)) is)

pub entry_missing : (bytes : ℕ → List ℕ) (number : ℕ) (columns : List ColumnLookup) (lumps : List Lump) (names : List (List ℕ)) (entry : TextureEntry) → patch_lump lumps names entry ≡ None → or_missing number (option_map (step_of bytes columns) (placed_patch (last_of lumps) bytes names entry)) ≡ Err (MissingPatch number)
unfolding placed_patch or_missing
entry_missing bytes number columns lumps names entry is = ap (λ o. or_missing number (option_map (step_of bytes columns) (option_and_then (place_lump bytes entry) o))) is

-- what a value that is not missing tells
pub record IsFound {A B : Type 0} (f : A → B) (found : Option A) (value : B) : Type 0 where
  pub item : A
  pub is : found ≡ Some item
  pub gives : f item ≡ value

pub found_is : {A B : Type 0} (number : ℕ) (f : A → B) (found : Option A) (value : B) → or_missing number (option_map f found) ≡ Ok value → IsFound f found value
unfolding or_missing
found_is number f None value e = cc
found_is number f (Some item) value e = record { item = item; is = refl; gives = cc }

pub missing_is : {A B : Type 0} (number : ℕ) (f : A → B) (found : Option A) (reason : TexRefusal) → or_missing number (option_map f found) ≡ Err reason → (found ≡ None) × (reason ≡ MissingPatch number)
unfolding or_missing
missing_is number f None reason e = (refl, cc)
missing_is number f (Some item) reason e = cc

module _ (last : List ℕ → Option ℕ) (bytes : ℕ → List ℕ) (names : List (List ℕ)) where
  whole : (ps : Option (List PlacedPatch)) → ps ≡ option_map (λ qs. [] ++ qs) ps
  whole None = refl
  whole (Some ps) = refl

  joined : (p : Option PlacedPatch) (ps qs : Option (List PlacedPatch)) →
      option_and_then (λ patch. option_map (λ patches. patch ∷ patches) (option_and_then (λ xs. option_map (λ ys. xs ++ ys) qs) ps)) p
      ≡ option_and_then (λ xs. option_map (λ ys. xs ++ ys) qs) (option_and_then (λ patch. option_map (λ patches. patch ∷ patches) ps) p)
  joined None ps qs = refl
  joined (Some patch) None qs = refl
  joined (Some patch) (Some xs) None = refl
  joined (Some patch) (Some xs) (Some ys) = refl

  placed_patches-append : (xs ys : List TextureEntry) → placed_patches last bytes names (xs ++ ys) ≡ option_and_then (λ ps. option_map (λ qs. ps ++ qs) (placed_patches last bytes names ys)) (placed_patches last bytes names xs)
  unfolding placed_patches
  placed_patches-append [] ys = whole (placed_patches last bytes names ys)
  placed_patches-append (entry ∷ xs) ys =
      ap (λ ps. option_and_then (λ patch. option_map (λ patches. patch ∷ patches) ps) (placed_patch last bytes names entry)) (placed_patches-append xs ys)
      ∙ joined (placed_patch last bytes names entry) (placed_patches last bytes names xs) (placed_patches last bytes names ys)

  placed_push : (entries : List TextureEntry) (entry : TextureEntry) (ps : List PlacedPatch) (patch : PlacedPatch) → placed_patches last bytes names entries ≡ Some ps → placed_patch last bytes names entry ≡ Some patch → placed_patches last bytes names (entries ++ entry ∷ []) ≡ Some (ps ++ patch ∷ [])
  unfolding placed_patches
  placed_push entries entry ps patch e f = placed_patches-append entries (entry ∷ []) ∙ rw (e, f) refl

  placed_stop : (entries more : List TextureEntry) (entry : TextureEntry) (ps : List PlacedPatch) → placed_patches last bytes names entries ≡ Some ps → placed_patch last bytes names entry ≡ None → placed_patches last bytes names (entries ++ entry ∷ more) ≡ None
  unfolding placed_patches
  placed_stop entries more entry ps e f = placed_patches-append entries (entry ∷ more) ∙ rw (e, f) refl

  -- before the first patch
  pub part_none : (number width : ℕ) (columns : List ColumnLookup) → columns ≡ seen_lookups bytes [] width → or_missing number (option_map (patches_part bytes width) (placed_patches last bytes names [])) ≡ Ok (record { patches = []; columns = columns })
  unfolding placed_patches or_missing patches_part
  part_none number width columns e = ap (λ xs. Ok (record { patches = []; columns = xs })) (sym e)

  -- one patch more
  pub part_push : (number width : ℕ) (entries : List TextureEntry) (k : ℕ) (d : TextureEntry) (patches : List PlacedPatch) (columns new : List ColumnLookup) (patch : PlacedPatch) → k < length entries →
      or_missing number (option_map (patches_part bytes width) (placed_patches last bytes names (take k entries))) ≡ Ok (record { patches = patches; columns = columns }) →
      or_missing number (option_map (step_of bytes columns) (placed_patch last bytes names (get_or entries k d))) ≡ Ok (record { patch = patch; columns = new }) →
      or_missing number (option_map (patches_part bytes width) (placed_patches last bytes names (take (k + 1) entries))) ≡ Ok (record { patches = patches ++ patch ∷ []; columns = new })
  unfolding or_missing patches_part step_of
  part_push number width entries k d patches columns new patch l so_far step =
      let patches_placed = found_is number (patches_part bytes width) _ _ so_far in
      let patch_placed = found_is number (step_of bytes columns) _ _ step in
      let patches_are : patches_placed.item ≡ patches = ap (λ (p : PatchesPart). p.patches) patches_placed.gives in
      let columns_are : seen_lookups bytes patches_placed.item width ≡ columns = ap (λ (p : PatchesPart). p.columns) patches_placed.gives in
      let patch_is : patch_placed.item ≡ patch = ap (λ (s : PatchStep). s.patch) patch_placed.gives in
      let new_columns_is : columns_with (bytes patch_placed.item.lump) patch_placed.item columns ≡ new = ap (λ (s : PatchStep). s.columns) patch_placed.gives in
      let patches_more = ap (placed_patches last bytes names) (take_more entries k d l) ∙ placed_push (take k entries) (get_or entries k d) patches_placed.item patch_placed.item patches_placed.is patch_placed.is in
      ap (λ o. or_missing number (option_map (patches_part bytes width) o)) patches_more
      ∙ ap Ok (
      ap (λ xs. record { patches = patches_placed.item ++ patch_placed.item ∷ []; columns = xs }) (sym (columns_with-seen bytes patches_placed.item patch_placed.item width) ∙ ap (columns_with (bytes patch_placed.item.lump) patch_placed.item) columns_are ∙ new_columns_is)
      ∙ ap (λ xs. record { patches = xs ++ patch_placed.item ∷ []; columns = new }) patches_are
      ∙ ap (λ x. record { patches = patches ++ x ∷ []; columns = new }) patch_is)

  -- a patch is missing, and none before it
  pub part_stop : (number width : ℕ) (entries : List TextureEntry) (k : ℕ) (d : TextureEntry) (part : PatchesPart) (columns : List ColumnLookup) (reason : TexRefusal) → k < length entries →
      or_missing number (option_map (patches_part bytes width) (placed_patches last bytes names (take k entries))) ≡ Ok part →
      or_missing number (option_map (step_of bytes columns) (placed_patch last bytes names (get_or entries k d))) ≡ Err reason →
      or_missing number (option_map (patches_part bytes width) (placed_patches last bytes names entries)) ≡ Err reason
  unfolding or_missing
  part_stop number width entries k d part columns reason l so_far step =
      let patches_placed = found_is number (patches_part bytes width) _ _ so_far in
      let patch_missing = missing_is number (step_of bytes columns) _ _ step in
      ap (λ o. or_missing number (option_map (patches_part bytes width) o)) (ap (placed_patches last bytes names) (split_at entries k d l) ∙ placed_stop (take k entries) (drop (suc k) entries) (get_or entries k d) patches_placed.item patches_placed.is patch_missing.0)
      ∙ ap Err (sym patch_missing.1)
