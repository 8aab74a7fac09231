-- A texture that is prepared, and all wanted textures one after the other.
use Rattle.art_rules.proofs.Common.{[], All, ap, arith, Bool, cases_lt, cond, drop, eq-eqb, Err, false, false≢true, get_or, get_or-append, get_or-append_seam, get_or-eq_default, get_or-replicate, IfErr, IfOk, IfSome, inl, inr, is_some, IsNone, IsSome, length, length-append, length-map, length-replicate, length-take-le, List, list_any_at, list_any_none, map, nat_lt, nat_tests, None, Ok, Option, option_map, refl, replicate, Result, slice_get-get_or, Some, split_at, subst, suc, sym, take, take_all, take_more, true, zero, ℕ, ◌++◌, ◌+◌, ◌-◌, ◌<◌, ◌==◌, ◌↔◌, ◌∙◌, ◌∷◌, ◌≡◌, ◌≤◌, get_or-map}
use Rattle.texture_build.specs.Rules.{ColumnLookup, Empty, Fault, Lump, MAX_COMPOSITE, PlacedPatch, PreparedTexture, Refused, ShelfView, TexRefusal, Texture, TextureLists, TooBig, and_then, column_lookups, composite_size, itself, last_of, lookup_of, patches_in, placed_patches, prepared, prepared_from, prepared_if, prepared_textures, texture_at, texture_of, unless_missing, unless_too_big, unlisted}
use Rattle.art_rules.proofs.Laws.{listed-all}
use Rattle.lump_cache.specs.{Zones.Heap, DirectoryView.DirectoryView, Calls.ReadsLumps}
use Rattle.lump_cache.proofs.CallLemmas.{reads_as, reads_then_refused}
use Rattle.patch_columns.specs.Seen.{seen_lookup, seen_lookups}
use Rattle.texture_lists.specs.declared.number.TexNo.{TexNo}
use Rattle.texture_build.specs.Asked.{IsWantedPatch}
use Rattle.texture_build.specs.Parts.{IsEntryPatch, PatchesPart, or_missing, patches_part}
use Rattle.texture_build.specs.Views.{IsListedAs, is_marked, is_wanted, prepared_at}
use Rattle.texture_build.proofs.PlaceLemmas.{found_is, missing_is}

-- columns in which no patch stands
pub empty_seen : (bytes : ℕ → List ℕ) (n : ℕ) → replicate n Empty ≡ seen_lookups bytes [] n
unfolding seen_lookups seen_lookup patches_in lookup_of
empty_seen bytes n = listed-all (seen_lookup bytes []) (replicate n Empty) n Empty (length-replicate n Empty) (λ k l. get_or-replicate n k Empty Empty l)

small_enough : (size : ℕ) → (MAX_COMPOSITE < size → ⊥) → nat_lt MAX_COMPOSITE size ≡ false
small_enough size h = grind (arith, nat_tests)

-- the texture of these patches, where its composite is not too big
pub bound_ok : (bytes : ℕ → List ℕ) (number : ℕ) (t : Texture) (patches : List PlacedPatch) (width height : ℕ) (result : Option PreparedTexture) (texture : PreparedTexture) → width ≡ t.width → height ≡ t.height →
    IsNone result ↔ (MAX_COMPOSITE < composite_size patches width height) → IfSome result (λ p. p ≡ record { patches = patches; height = height; columns = column_lookups bytes patches width height }) → result ≡ Some texture →
    unless_too_big bytes number t patches ≡ Ok texture
unfolding unless_too_big texture_of
bound_ok bytes number t patches width height result texture w h big is e =
    let size_same : composite_size patches width height ≡ composite_size patches t.width t.height = ap (λ (n : ℕ). composite_size patches n height) w ∙ ap (composite_size patches t.width) h in
    let not_too_big : MAX_COMPOSITE < composite_size patches width height → ⊥ = λ l. absurd (false≢true (sym (subst IsNone e (big.1 l)))) in
    let size_fits : nat_lt MAX_COMPOSITE (composite_size patches t.width t.height) ≡ false = ap (nat_lt MAX_COMPOSITE) (sym size_same) ∙ small_enough (composite_size patches width height) not_too_big in
    let texture_made : texture ≡ record { patches = patches; height = height; columns = column_lookups bytes patches width height } = subst (λ o. IfSome o (λ p. p ≡ record { patches = patches; height = height; columns = column_lookups bytes patches width height })) e is in
    ap (λ b. cond b (Err (TooBig number)) (Ok (texture_of bytes t patches))) size_fits
    ∙ ap (λ (n : ℕ). Ok (record { patches = patches; height = t.height; columns = column_lookups bytes patches n t.height })) (sym w)
    ∙ ap (λ (n : ℕ). Ok (record { patches = patches; height = n; columns = column_lookups bytes patches width n })) (sym h)
    ∙ ap Ok (sym texture_made)

too_big : (size : ℕ) → MAX_COMPOSITE < size → nat_lt MAX_COMPOSITE size ≡ true
too_big size h = grind (arith, nat_tests)

pub bound_big : (bytes : ℕ → List ℕ) (number : ℕ) (t : Texture) (patches : List PlacedPatch) (width height : ℕ) (result : Option PreparedTexture) → width ≡ t.width → height ≡ t.height →
    IsNone result ↔ (MAX_COMPOSITE < composite_size patches width height) → result ≡ None → unless_too_big bytes number t patches ≡ Err (TooBig number)
unfolding unless_too_big
bound_big bytes number t patches width height result w h big e =
    let size_same : composite_size patches width height ≡ composite_size patches t.width t.height = ap (λ (n : ℕ). composite_size patches n height) w ∙ ap (composite_size patches t.width) h in
    let size_too_big : nat_lt MAX_COMPOSITE (composite_size patches t.width t.height) ≡ true = ap (nat_lt MAX_COMPOSITE) (sym size_same) ∙ too_big (composite_size patches width height) (big.0 (subst IsNone (sym e) refl)) in
    ap (λ b. cond b (Err (TooBig number)) (Ok (texture_of bytes t patches))) size_too_big

module _ (last : List ℕ → Option ℕ) (bytes : ℕ → List ℕ) (names : List (List ℕ)) (number : ℕ) (t : Texture) (patches : List PlacedPatch) (columns : List ColumnLookup) (width : ℕ) where
  -- what the columns of a texture are whose patches are all placed
  pub texture_seen : (after : List ColumnLookup) → after ≡ columns → length columns ≡ width → or_missing number (option_map (patches_part bytes width) (placed_patches last bytes names t.patches)) ≡ Ok (record { patches = patches; columns = columns }) →
      after ≡ seen_lookups bytes patches (length after)
  unfolding patches_part
  texture_seen after same count placed =
      let patches_placed = found_is number (patches_part bytes width) _ _ placed in
      let patches_are : patches_placed.item ≡ patches = ap (λ (p : PatchesPart). p.patches) patches_placed.gives in
      let columns_are : seen_lookups bytes patches_placed.item width ≡ columns = ap (λ (p : PatchesPart). p.columns) patches_placed.gives in
      let width_is : width ≡ length after = sym count ∙ ap length (sym same) in
      same ∙ sym columns_are ∙ ap (λ xs. seen_lookups bytes xs width) patches_are ∙ ap (seen_lookups bytes patches) width_is

  -- and what it comes to
  pub texture_is : (r : Result PreparedTexture TexRefusal) → or_missing number (option_map (patches_part bytes width) (placed_patches last bytes names t.patches)) ≡ Ok (record { patches = patches; columns = columns }) →
      unless_too_big bytes number t patches ≡ r → prepared last bytes names number t ≡ r
  unfolding prepared unless_missing patches_part
  texture_is r placed bound =
      let patches_placed = found_is number (patches_part bytes width) _ _ placed in
      let patches_are : patches_placed.item ≡ patches = ap (λ (p : PatchesPart). p.patches) patches_placed.gives in
      ap (unless_missing bytes number t) patches_placed.is ∙ ap (unless_too_big bytes number t) patches_are ∙ bound

-- a texture of which a patch is missing
pub texture_missing : (last : List ℕ → Option ℕ) (bytes : ℕ → List ℕ) (names : List (List ℕ)) (number : ℕ) (t : Texture) (width : ℕ) (reason : TexRefusal) →
    or_missing number (option_map (patches_part bytes width) (placed_patches last bytes names t.patches)) ≡ Err reason → prepared last bytes names number t ≡ Err reason
unfolding prepared unless_missing
texture_missing last bytes names number t width reason placed =
    let patches_missing = missing_is number (patches_part bytes width) _ _ placed in
    ap (unless_missing bytes number t) patches_missing.0 ∙ ap Err (sym patches_missing.1)

-- after a part that was passed, a step that is told by the bytes alone
pub tells_bound : {A B C D : Type 0} {v w : ShelfView} {dir : DirectoryView} {a b : Heap} {wants some : ℕ → Type 0} {value : B → A} {first : D → C} {expected : (ℕ → List ℕ) → Result A TexRefusal} {before : (ℕ → List ℕ) → Result C TexRefusal} (part : Result D (Fault TexRefusal)) (found : D) (reason : TexRefusal) (result : Result B (Fault TexRefusal)) →
    ReadsLumps itself v w dir a b some first before part → part ≡ Ok found → ((lump : ℕ) → some lump → wants lump) →
    ((bytes : ℕ → List ℕ) → before bytes ≡ Ok (first found) → IfOk result (λ got. expected bytes ≡ Ok (value got))) →
    IfErr result (λ fault. (fault ≡ Refused reason) × ((bytes : ℕ → List ℕ) → before bytes ≡ Ok (first found) → expected bytes ≡ Err reason)) →
    ReadsLumps itself v w dir a b wants value expected result
tells_bound {v} {w} {dir} {a} {b} {some} {first} {before} part found reason (Ok got) one is among ok err =
    reads_as found got (subst (ReadsLumps itself v w dir a b some first before) is one) among ok
tells_bound {v} {w} {dir} {a} {b} {some} {first} {before} part found reason (Err fault) one is among ok err =
    reads_then_refused fault reason (ap itself err.0) among (subst (ReadsLumps itself v w dir a b some first before) is one) (λ contents told begun. err.1 _ begun)

-- a texture that is wanted, and one that is not
pub if_made : (wanted : Bool) (r : Result PreparedTexture TexRefusal) (texture : PreparedTexture) → wanted ≡ true → r ≡ Ok texture → prepared_if wanted r ≡ Ok (Some texture)
unfolding prepared_if
if_made wanted r texture on is = rw (on, is) refl

pub if_refused : (wanted : Bool) (r : Result PreparedTexture TexRefusal) (reason : TexRefusal) → wanted ≡ true → r ≡ Err reason → prepared_if wanted r ≡ Err reason
unfolding prepared_if
if_refused wanted r reason on is = rw (on, is) refl

pub if_unwanted : (wanted : Bool) (r : Result PreparedTexture TexRefusal) → wanted ≡ false → prepared_if wanted r ≡ Ok None
unfolding prepared_if
if_unwanted wanted r off = rw off refl

module _ (prepare : ℕ → Texture → Result PreparedTexture TexRefusal) (wanted : ℕ → Bool) where
  whole : (r : Result (List (Option PreparedTexture)) TexRefusal) → r ≡ and_then r (λ others. Ok ([] ++ others))
  whole (Ok textures) = refl
  whole (Err reason) = refl

  joined : (p : Result (Option PreparedTexture) TexRefusal) (ps qs : Result (List (Option PreparedTexture)) TexRefusal) →
      and_then p (λ first. and_then (and_then ps (λ xs. and_then qs (λ ys. Ok (xs ++ ys)))) (λ others. Ok (first ∷ others)))
      ≡ and_then (and_then p (λ first. and_then ps (λ others. Ok (first ∷ others)))) (λ xs. and_then qs (λ ys. Ok (xs ++ ys)))
  joined (Err reason) ps qs = refl
  joined (Ok first) (Err reason) qs = refl
  joined (Ok first) (Ok xs) (Err reason) = refl
  joined (Ok first) (Ok xs) (Ok ys) = refl

  prepared_from-append : (n m : ℕ) (xs ys : List Texture) → n + length xs ≡ m → prepared_from prepare wanted n (xs ++ ys) ≡ and_then (prepared_from prepare wanted n xs) (λ ps. and_then (prepared_from prepare wanted m ys) (λ qs. Ok (ps ++ qs)))
  unfolding prepared_from
  prepared_from-append n m [] ys e =
      let numbers_same : n ≡ m = omega arith in
      ap (λ (k : ℕ). prepared_from prepare wanted k ys) numbers_same ∙ whole (prepared_from prepare wanted m ys)
  prepared_from-append n m (t ∷ xs) ys e =
      ap (λ r. and_then (prepared_if (wanted n) (prepare n t)) (λ first. and_then r (λ others. Ok (first ∷ others)))) (prepared_from-append (suc n) m xs ys (omega arith))
      ∙ joined (prepared_if (wanted n) (prepare n t)) (prepared_from prepare wanted (suc n) xs) (prepared_from prepare wanted m ys)

  -- before the first texture
  pub from_none : prepared_from prepare wanted 0 [] ≡ Ok []
  unfolding prepared_from
  from_none = refl

  first_of_rest : (m : ℕ) (t : Texture) (rest : List Texture) (p : Option PreparedTexture) → prepared_if (wanted m) (prepare m t) ≡ Ok p → prepared_from prepare wanted m (t ∷ rest) ≡ and_then (prepared_from prepare wanted (suc m) rest) (λ others. Ok (p ∷ others))
  unfolding prepared_from
  first_of_rest m t rest p e = ap (λ r. and_then r (λ first. and_then (prepared_from prepare wanted (suc m) rest) (λ others. Ok (first ∷ others)))) e

  first_refused : (m : ℕ) (t : Texture) (rest : List Texture) (reason : TexRefusal) → prepared_if (wanted m) (prepare m t) ≡ Err reason → prepared_from prepare wanted m (t ∷ rest) ≡ Err reason
  unfolding prepared_from
  first_refused m t rest reason e = ap (λ r. and_then r (λ first. and_then (prepared_from prepare wanted (suc m) rest) (λ others. Ok (first ∷ others)))) e

  none_after : (m : ℕ) → prepared_from prepare wanted m [] ≡ Ok []
  unfolding prepared_from
  none_after m = refl

  -- one texture more
  pub from_push : (ts : List Texture) (k : ℕ) (ps : List (Option PreparedTexture)) (p : Option PreparedTexture) → k < length ts → prepared_from prepare wanted 0 (take k ts) ≡ Ok ps → prepared_if (wanted k) (prepare k (get_or ts k unlisted)) ≡ Ok p → prepared_from prepare wanted 0 (take (k + 1) ts) ≡ Ok (ps ++ p ∷ [])
  from_push ts k ps p l e step =
      let texture = get_or ts k unlisted in
      let count : 0 + length (take k ts) ≡ k = omega (arith, length-take-le k ts) in
      ap (prepared_from prepare wanted 0) (take_more ts k unlisted l) ∙ prepared_from-append 0 k (take k ts) (texture ∷ []) count
      ∙ ap (λ r. and_then r (λ xs. and_then (prepared_from prepare wanted k (texture ∷ [])) (λ ys. Ok (xs ++ ys)))) e
      ∙ ap (λ r. and_then r (λ ys. Ok (ps ++ ys))) (first_of_rest k texture [] p step ∙ ap (λ r. and_then r (λ others. Ok (p ∷ others))) (none_after (suc k)))

  -- a texture is refused, and none before it
  pub from_stop : (ts : List Texture) (k : ℕ) (ps : List (Option PreparedTexture)) (reason : TexRefusal) → k < length ts → prepared_from prepare wanted 0 (take k ts) ≡ Ok ps → prepared_if (wanted k) (prepare k (get_or ts k unlisted)) ≡ Err reason → prepared_from prepare wanted 0 ts ≡ Err reason
  from_stop ts k ps reason l e step =
      let texture = get_or ts k unlisted in
      let count : 0 + length (take k ts) ≡ k = omega (arith, length-take-le k ts) in
      ap (prepared_from prepare wanted 0) (split_at ts k unlisted l) ∙ prepared_from-append 0 k (take k ts) (texture ∷ drop (suc k) ts) count
      ∙ ap (λ r. and_then r (λ xs. and_then (prepared_from prepare wanted k (texture ∷ drop (suc k) ts)) (λ ys. Ok (xs ++ ys)))) e
      ∙ ap (λ r. and_then r (λ ys. Ok (ps ++ ys))) (first_refused k texture (drop (suc k) ts) reason step)

-- a patch that preparing one texture asks for is one of all that are wanted
pub wanted_patch : {lumps : List Lump} {lists : TextureLists} {wanted : ℕ → Bool} {k : ℕ} → k < length lists.textures → (lump : ℕ) →
    (wanted k ≡ true) × IsEntryPatch lumps lists.names (texture_at lists.textures k).patches lump → IsWantedPatch lumps lists wanted lump
wanted_patch {lists} {k} l lump w =
    record { number = k; texture = texture_at lists.textures k; at = slice_get-get_or lists.textures k unlisted l; chosen = w.0; entry = w.1.entry; among = w.1.among; is = w.1.is }

-- all textures, and the first k
pub from_textures : (last : List ℕ → Option ℕ) (bytes : ℕ → List ℕ) (lists : TextureLists) (wanted : ℕ → Bool) → prepared_textures last bytes lists wanted ≡ prepared_from (prepared last bytes lists.names) wanted 0 lists.textures
unfolding prepared_textures
from_textures last bytes lists wanted = refl

pub from_all : (last : List ℕ → Option ℕ) (bytes : ℕ → List ℕ) (lists : TextureLists) (wanted : ℕ → Bool) (k : ℕ) → length lists.textures ≤ k → prepared_textures last bytes lists wanted ≡ prepared_from (prepared last bytes lists.names) wanted 0 (take k lists.textures)
unfolding prepared_textures
from_all last bytes lists wanted k l = ap (prepared_from (prepared last bytes lists.names) wanted 0) (sym (take_all k lists.textures l))

-- the same numbers are wanted
pub tells_wanted : {B : Type 0} {v w : ShelfView} {dir : DirectoryView} {a b : Heap} {value : B → List (Option PreparedTexture)} (lists : TextureLists) (f g : ℕ → Bool) (result : Result B (Fault TexRefusal)) → ((number : ℕ) → f number ≡ g number) →
    ReadsLumps itself v w dir a b (IsWantedPatch dir.lumps lists f) value (λ bytes. prepared_textures (last_of dir.lumps) bytes lists f) result →
    ReadsLumps itself v w dir a b (IsWantedPatch dir.lumps lists g) value (λ bytes. prepared_textures (last_of dir.lumps) bytes lists g) result
tells_wanted {v} {w} {dir} {a} {b} {value} lists f g result same one =
    let functions_same : f ≡ g = λ i number. same number i in
    subst (λ (h : ℕ → Bool). ReadsLumps itself v w dir a b (IsWantedPatch dir.lumps lists h) value (λ bytes. prepared_textures (last_of dir.lumps) bytes lists h) result) functions_same one

-- the same lists
pub tells_lists : {B : Type 0} {v w : ShelfView} {dir : DirectoryView} {a b : Heap} {value : B → List (Option PreparedTexture)} (before now : TextureLists) (wanted : ℕ → Bool) (result : Result B (Fault TexRefusal)) → before ≡ now →
    ReadsLumps itself v w dir a b (IsWantedPatch dir.lumps before wanted) value (λ bytes. prepared_textures (last_of dir.lumps) bytes before wanted) result →
    ReadsLumps itself v w dir a b (IsWantedPatch dir.lumps now wanted) value (λ bytes. prepared_textures (last_of dir.lumps) bytes now wanted) result
tells_lists {v} {w} {dir} {a} {b} {value} before now wanted result same one =
    subst (λ (lists : TextureLists). ReadsLumps itself v w dir a b (IsWantedPatch dir.lumps lists wanted) value (λ bytes. prepared_textures (last_of dir.lumps) bytes lists wanted) result) same one

-- one texture more, with the columns and rows of its record
pub listed_push : (listed : List Texture) (textures : List (Option PreparedTexture)) (texture : Option PreparedTexture) (k : ℕ) → length textures ≡ k → ((number : ℕ) → IfSome (prepared_at textures number) (IsListedAs (texture_at listed number))) → IfSome texture (IsListedAs (texture_at listed k)) →
    (number : ℕ) → IfSome (prepared_at (textures ++ texture ∷ []) number) (IsListedAs (texture_at listed number))
listed_push listed textures texture k count before now number = elim (cases_lt number k) [
  | inl l ↦ let number_within : number < length textures = omega arith in subst (λ t. IfSome t (IsListedAs (texture_at listed number))) (sym (get_or-append textures (texture ∷ []) None number number_within)) (before number)
  | inr l ↦ listed_last number (number - k) (omega arith)
] where
  listed_last : (number more : ℕ) → number ≡ k + more → IfSome (prepared_at (textures ++ texture ∷ []) number) (IsListedAs (texture_at listed number))
  listed_last number zero e =
      let number_is : number ≡ k = omega arith in let number_is_length : number ≡ length textures = omega arith in
      let last_is : prepared_at (textures ++ texture ∷ []) number ≡ texture = ap (λ (n : ℕ). prepared_at (textures ++ texture ∷ []) n) number_is_length ∙ get_or-append_seam textures texture [] None in
      subst (λ t. IfSome t (IsListedAs (texture_at listed number))) (sym last_is)
      (subst (λ (n : ℕ). IfSome texture (IsListedAs (texture_at listed n))) (sym number_is) now)
  listed_last number (suc more) e =
      let number_past_end : length (textures ++ texture ∷ []) ≤ number = omega (arith, length-append textures (texture ∷ [])) in
      subst (λ t. IfSome t (IsListedAs (texture_at listed number))) (sym (get_or-eq_default (textures ++ texture ∷ []) None number_past_end)) tt

pub listed_none : (listed : List Texture) (textures : List (Option PreparedTexture)) → textures ≡ [] → (number : ℕ) → IfSome (prepared_at textures number) (IsListedAs (texture_at listed number))
listed_none listed textures e number = subst (λ ts. IfSome (prepared_at ts number) (IsListedAs (texture_at listed number))) (sym e) tt

-- there are as many textures as marks
pub count_marked : (textures : List (Option PreparedTexture)) (marks : List Bool) (k : ℕ) → k ≤ length marks → map is_some textures ≡ take k marks → length textures ≡ k
count_marked textures marks k l are = sym (length-map textures is_some) ∙ ap length are ∙ length-take-le k marks l

not_wanted : (wanted : List TexNo) (count number : ℕ) → All (λ (tex : TexNo). tex.0 < count) wanted → count ≤ number → is_wanted wanted number ≡ false
not_wanted wanted count number below h = list_any_none (λ (tex : TexNo). tex.0 == number) wanted (λ k d l. other ((get_or wanted k d).0) (omega (arith, below k d l))) where
  other : (n : ℕ) → n < number → (n == number) ≡ false
  other n l = grind (arith, nat_tests)

-- the marks of wanted textures tell them
pub marks_tell : (marks : List Bool) (wanted : List TexNo) (count number : ℕ) → length marks ≡ count → All (λ (tex : TexNo). tex.0 < count) wanted → (number < count → get_or marks number false ≡ is_wanted wanted number) → is_marked marks number ≡ is_wanted wanted number
marks_tell marks wanted count number e below h = elim (cases_lt number count) [
  | inl l ↦ h l
  | inr l ↦ let past : length marks ≤ number = omega arith in get_or-eq_default marks false past ∙ sym (not_wanted wanted count number below (omega arith))
]

prepared_some : (textures : List (Option PreparedTexture)) (marks : List Bool) (number : ℕ) → number < length marks → map is_some textures ≡ marks → get_or marks number false ≡ true → IsSome (prepared_at textures number)
prepared_some textures marks number l are on =
    let count : length textures ≡ length marks = sym (length-map textures is_some) ∙ ap length are in
    let number_within : number < length textures = omega arith in
    sym (get_or-map is_some textures number None false number_within) ∙ ap (λ xs. get_or xs number false) are ∙ on

-- each wanted texture is prepared
pub wanted_prepared : (textures : List (Option PreparedTexture)) (marks : List Bool) (wanted : List TexNo) (count : ℕ) → length marks ≡ count → All (λ (tex : TexNo). tex.0 < count) wanted → map is_some textures ≡ marks → ((number : ℕ) → is_marked marks number ≡ is_wanted wanted number) → All (λ (tex : TexNo). IsSome (prepared_at textures tex.0)) wanted
wanted_prepared textures marks wanted count e below are tell = λ k d l.
    let tex = get_or wanted k d in
    let tex_within : tex.0 < length marks = omega (arith, below k d l) in
    prepared_some textures marks tex.0 tex_within are (tell tex.0 ∙ list_any_at (λ (t : TexNo). t.0 == tex.0) wanted k d l (eq-eqb tex.0 tex.0 refl))
