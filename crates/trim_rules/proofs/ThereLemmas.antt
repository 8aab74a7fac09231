-- Each lump of the trimmed file's parts is a lump of the given directory.
use Rattle.art_rules.proofs.Common.{[], AllByRecursion, and_parts, ap, arith, Bool, cond, false, filter, length, List, list_any, map, None, not, Option, option_and_then, range_with_len, refl, Some, subst, suc, sym, true, zero, ℕ, ◌++◌, ◌+◌, ◌<◌, ◌==◌, ◌∙◌, ◌∷◌, ◌≡◌, ◌≤◌}
use Rattle.art_rules.proofs.Laws.{greatest-is}
use Rattle.trim_rules.specs.Rules.{COLORMAP, F_END, F_START, Lump, MAP_LUMPS, PLAYPAL, PNAMES, PreparedTexture, S_END, S_START, SceneArt, TEXTURE1, TEXTURE2, are_named, has_flat, has_name, if_label, is_label, is_lump, is_named_in, is_patch_of_any, last_of, lump_at, map_of, patch_lumps}
use Rattle.trim_rules.specs.declared.part.TrimPart.{TrimPart}
use Rattle.trim_rules.specs.declared.part.TrimPart.TheVariants.{Mark}
use Rattle.trim_rules.specs.Parts.{called_lumps, copy_part, fixed_lumps, flat_lumps, group_parts, label_or_copy, label_part, last_list, listed_last, map_parts, picture_lumps, trim_parts}
use Rattle.trim_rules.proofs.TrimmedLemmas.{IsThere}

-- a number that passes is that of a lump
pub passing-there : (passes : Lump → Bool) (lumps : List Lump) (n : ℕ) → is_lump passes lumps n ≡ true → n < length lumps
passing-there passes [] n e = absurd (cc)
passing-there passes (l ∷ ls) zero e = omega arith
passing-there passes (l ∷ ls) (suc n) e = let rest_inside : n < length ls = passing-there passes ls n e in omega arith

abbrev pub IsNumber : List Lump → ℕ → Type 0
IsNumber lumps n = n < length lumps

pub all-append : {X : Type 0} (P : X → Type 0) (xs ys : List X) → AllByRecursion P xs → AllByRecursion P ys → AllByRecursion P (xs ++ ys)
all-append P [] ys a b = b
all-append P (x ∷ xs) ys a b = (a.0, all-append P xs ys a.1 b)

one_kept : (P : ℕ → Type 0) (b : Bool) (n : ℕ) (ns : List ℕ) → P n → AllByRecursion P ns → AllByRecursion P (cond b (n ∷ ns) ns)
one_kept P true n ns one more = (one, more)
one_kept P false n ns one more = more

pub all-filter : (P : ℕ → Type 0) (p : ℕ → Bool) (ns : List ℕ) → AllByRecursion P ns → AllByRecursion P (filter p ns)
all-filter P p [] all = tt
all-filter P p (n ∷ ns) all = one_kept P (p n) n (filter p ns) all.0 (all-filter P p ns all.1)

pub range-below : (a n top : ℕ) → a + n ≤ top → AllByRecursion (λ k. k < top) (range_with_len a n)
range-below a zero top le = tt
range-below a (suc n) top le = (omega arith, range-below (a + 1) n top (omega arith))

pub flats-there : (lumps : List Lump) (art : SceneArt) → AllByRecursion (IsNumber lumps) (flat_lumps lumps art.flats)
unfolding flat_lumps
flats-there lumps art = all-filter (IsNumber lumps) (λ n. list_any (has_flat n) art.flats) (range_with_len 0 (length lumps)) (range-below 0 (length lumps) (length lumps) (omega arith))

pub pictures-there : (lumps : List Lump) (art : SceneArt) → AllByRecursion (IsNumber lumps) (picture_lumps lumps art.pictures)
unfolding picture_lumps
pictures-there lumps art = all-filter (IsNumber lumps) (λ n. list_any (λ m. m == n) art.pictures) (range_with_len 0 (length lumps)) (range-below 0 (length lumps) (length lumps) (omega arith))

last_one : (lumps : List Lump) (name : List ℕ) (o : Option ℕ) → last_of lumps name ≡ o → AllByRecursion (IsNumber lumps) (last_list o)
last_one lumps name None e = tt
last_one lumps name (Some n) e = ((greatest-is (has_name lumps name) (length lumps) n e).0, tt)

listed-there : (lumps : List Lump) (name : List ℕ) → AllByRecursion (IsNumber lumps) (listed_last lumps name)
unfolding listed_last
listed-there lumps name = last_one lumps name (last_of lumps name) refl

pub fixed-there : (lumps : List Lump) → AllByRecursion (IsNumber lumps) (fixed_lumps lumps)
unfolding fixed_lumps
fixed-there lumps =
    let InLumps = IsNumber lumps in
    all-append InLumps (listed_last lumps PLAYPAL) _ (listed-there lumps PLAYPAL)
    (all-append InLumps (listed_last lumps COLORMAP) _ (listed-there lumps COLORMAP)
    (all-append InLumps (listed_last lumps PNAMES) _ (listed-there lumps PNAMES)
    (all-append InLumps (listed_last lumps TEXTURE1) _ (listed-there lumps TEXTURE1) (listed-there lumps TEXTURE2))))

pub called-there : (lumps : List Lump) (prepared : List (Option PreparedTexture)) → AllByRecursion (IsNumber lumps) (called_lumps lumps prepared)
unfolding called_lumps patch_lumps
called-there lumps prepared =
    let InLumps = IsNumber lumps in
    all-append InLumps (fixed_lumps lumps) _ (fixed-there lumps)
    (all-filter InLumps (λ n. not (list_any (λ m. m == n) (fixed_lumps lumps))) (filter (is_patch_of_any prepared) (range_with_len 0 (length lumps)))
    (all-filter InLumps (is_patch_of_any prepared) (range_with_len 0 (length lumps)) (range-below 0 (length lumps) (length lumps) (omega arith))))

-- what a map's label is: the last lump of its name, with the map's lumps behind it
label_step : (lumps : List Lump) (n label : ℕ) (b : Bool) → is_label lumps n ≡ b → cond b (Some n) None ≡ Some label →
    (n ≡ label) × (is_label lumps label ≡ true)
label_step lumps n label true is e = let numbers_same : n ≡ label = cc in (numbers_same, ap (is_label lumps) (sym numbers_same) ∙ is)
label_step lumps n label false is e = absurd (cc)

label_found : (lumps : List Lump) (name : List ℕ) (label : ℕ) (o : Option ℕ) → last_of lumps name ≡ o → option_and_then (if_label lumps) o ≡ Some label
    → (last_of lumps name ≡ Some label) × (is_label lumps label ≡ true)
label_found lumps name label None is e = absurd (cc)
label_found lumps name label (Some n) is e =
    let number_and_label = label_step lumps n label (is_label lumps n) refl e in
    (is ∙ ap Some number_and_label.0, number_and_label.1)

pub label-is : (lumps : List Lump) (name : List ℕ) (label : ℕ) → map_of lumps name ≡ Some label →
    (last_of lumps name ≡ Some label) × (is_label lumps label ≡ true)
label-is lumps name label e = label_found lumps name label (last_of lumps name) refl e

named-there : (lumps : List Lump) (file number : ℕ) (names : List (List ℕ)) → are_named lumps file number names ≡ true
    → AllByRecursion (IsNumber lumps) (range_with_len number (length names))
unfolding are_named
named-there lumps file number [] e = tt
named-there lumps file number (name ∷ names) e =
    let first_and_rest_named = and_parts (is_named_in lumps file name number) (are_named lumps file (suc number) names) e in
    let next : suc number ≡ number + 1 = omega arith in
    (passing-there _ lumps number first_and_rest_named.0, subst (λ k. AllByRecursion (IsNumber lumps) (range_with_len k (length names))) next (named-there lumps file (suc number) names first_and_rest_named.1))

-- the eight lumps behind a label are there
pub behind-there : (lumps : List Lump) (label : ℕ) → is_label lumps label ≡ true → AllByRecursion (IsNumber lumps) (range_with_len (suc label) (length MAP_LUMPS))
unfolding is_label
behind-there lumps label e = named-there lumps (lump_at lumps label).file (suc label) MAP_LUMPS (and_parts _ _ e).0

-- What holds of the four marks, and of each label and copy of a lump, holds of all parts.
module _ (lumps : List Lump) (P : TrimPart → Type 0) (copy : (n : ℕ) → n < length lumps → P (copy_part n)) where
  copied : (ns : List ℕ) → AllByRecursion (IsNumber lumps) ns → AllByRecursion P (map copy_part ns)
  copied [] all = tt
  copied (n ∷ ns) all = (copy n all.0, copied ns all.1)

  grouped : (start : List ℕ) (ns : List ℕ) (end : List ℕ) → P (Mark start) → P (Mark end) → AllByRecursion (IsNumber lumps) ns → AllByRecursion P (group_parts start ns end)
  unfolding group_parts
  grouped start ns end first last all = (first, all-append P (map copy_part ns) (Mark end ∷ []) (copied ns all) (last, tt))

  labelled : (called : Bool) (label : ℕ) → label < length lumps → P (label_part label) → P (label_or_copy called label)
  unfolding label_or_copy
  labelled true label lt one = copy label lt
  labelled false label lt one = one

  level : (name : List ℕ) (called : Bool) (o : Option ℕ) → map_of lumps name ≡ o → ((n : ℕ) → n < length lumps → P (label_part n)) → AllByRecursion P (map_parts called o)
  unfolding map_parts
  level name called None is one = tt
  level name called (Some label) is one =
      let label_is = label-is lumps name label is in
      let label_there = (greatest-is (has_name lumps name) (length lumps) label label_is.0).0 in
      (labelled called label label_there (one label label_there), copied (range_with_len (suc label) (length MAP_LUMPS)) (behind-there lumps label label_is.1))

  pub parts-all : (art : SceneArt) (name : List ℕ) → P (Mark F_START) → P (Mark F_END) → P (Mark S_START) → P (Mark S_END)
      → ((n : ℕ) → n < length lumps → P (label_part n)) → AllByRecursion P (trim_parts lumps art name)
  unfolding trim_parts
  parts-all art name a b c d one =
      let is_name_called = list_any (has_name lumps name) (called_lumps lumps art.prepared) in
      all-append P (group_parts F_START (flat_lumps lumps art.flats) F_END) _ (grouped F_START (flat_lumps lumps art.flats) F_END a b (flats-there lumps art))
      (all-append P (group_parts S_START (picture_lumps lumps art.pictures) S_END) _ (grouped S_START (picture_lumps lumps art.pictures) S_END c d (pictures-there lumps art))
      (all-append P (map_parts is_name_called (map_of lumps name)) _ (level name is_name_called (map_of lumps name) refl one)
      (copied (filter (λ n. not (has_name lumps name n)) (called_lumps lumps art.prepared))
      (all-filter (IsNumber lumps) (λ n. not (has_name lumps name n)) (called_lumps lumps art.prepared) (called-there lumps art.prepared)))))

-- Each part is there.
pub parts-there : (lumps : List Lump) (art : SceneArt) (name : List ℕ) → AllByRecursion (IsThere lumps) (trim_parts lumps art name)
parts-there lumps art name = parts-all lumps (IsThere lumps) (λ n lt. lt) art name tt tt tt tt (λ n lt. lt)
