-- Each lump that is copied is one that the level needs.
use Rattle.art_rules.proofs.Common.{[], All-contains, All-from_recursion, AllByRecursion, ap, arith, Bool, bytes_eq, bytes_eq-Decides, cond, eq-eqb, false, filter, inl, inr, length, List, list_any, map, nat_le, nat_tests, None, not, Ok, Option, option_and_then, option_map_or, or-true, or_cases, range_with_len, refl, Some, subst, suc, sym, true, zero, ℕ, ⊤, ◌+◌, ◌<◌, ◌==◌, ◌∙◌, ◌∷◌, ◌≡◌, ◌≤◌}
use Rattle.wad_trim.specs.Rules.{COLORMAP, COLORMAP_SIZE, Copy, F_END, F_START, Label, Lump, MAP_LUMPS, Mark, NoMap, PALETTE_SIZE, PLAYPAL, PNAMES, S_END, S_START, SceneArt, SceneValue, TEXTURE1, TEXTURE2, ThingLine, TrimPart, called_lumps, colormap_of, copy_part, fixed_lumps, flat_lumps, group_parts, has_flat, has_name, if_long, is_last, is_list, is_map_lump, is_needed, is_patch_of_any, is_wanted_texture, label_of, label_or_copy, last_list, last_of, listed_last, lump_at, map_of, map_parts, patch_lumps, picture_lumps, playpal_of, trim_parts, trim_plan}
use Rattle.sound_scene.specs.Sound.{art_with}
use Rattle.sound_scene.proofs.NeededLemmas.{for_colormap, for_list, for_map, for_palette, for_patch, for_picture}
use Rattle.sound_scene.proofs.SceneLemmas.{IsSceneOf, base_parts}
use Rattle.trim_rules.proofs.{AnswerLemmas.some_value, CalledLemmas.IsLastOfName}
use Rattle.trim_rules.proofs.LastLemmas.{fixed-last, patches-last}
use Rattle.trim_rules.proofs.{MemberLemmas.is_lump-at, OrderLemmas.kept-passing}
use Rattle.trim_rules.proofs.PlanLemmas.{plan-accepted}
use Rattle.trim_rules.proofs.ThereLemmas.{IsNumber, all-append, all-filter, called-there, label-is}
use Rattle.wad_trim.specs.Writes.{IsCopied}

weaker : (P Q : ℕ → Type 0) → ((n : ℕ) → P n → Q n) → (ns : List ℕ) → AllByRecursion P ns → AllByRecursion Q ns
weaker P Q f [] all = tt
weaker P Q f (n ∷ ns) all = (f n all.0, weaker P Q f ns all.1)

-- one that passes is one of which all holds
one_passes : (p : ℕ → Bool) (P : ℕ → Type 0) (ns : List ℕ) → AllByRecursion P ns → list_any p ns ≡ true → (n : ℕ) × (p n ≡ true) × P n
one_passes p P [] all any = absurd (cc)
one_passes p P (n ∷ ns) all any = elim (or_cases (p n) (list_any p ns) any) [
  | inl here ↦ (n, here, all.0)
  | inr later ↦ one_passes p P ns all.1 later
]

last_is : (lumps : List Lump) (name : List ℕ) (n : ℕ) → last_of lumps name ≡ Some n → is_last lumps name n ≡ true
unfolding is_last
last_is lumps name n is = ap (λ o. option_map_or (λ k. k == n) o false) is ∙ eq-eqb n n refl

names_list : (lumps : List Lump) (n : ℕ) → last_of lumps PNAMES ≡ Some n → is_list lumps n ≡ true
unfolding is_list
names_list lumps n is = rw (last_is lumps PNAMES n is) refl

first_list : (lumps : List Lump) (n : ℕ) → last_of lumps TEXTURE1 ≡ Some n → is_list lumps n ≡ true
unfolding is_list
first_list lumps n is = rw (last_is lumps TEXTURE1 n is, or-true) refl

second_list : (lumps : List Lump) (n : ℕ) → last_of lumps TEXTURE2 ≡ Some n → is_list lumps n ≡ true
unfolding is_list
second_list lumps n is = rw (last_is lumps TEXTURE2 n is, or-true) refl

-- the lump of a copy is needed
abbrev IsPartNeeded : List Lump → SceneArt → TrimPart → Type 0
IsPartNeeded lumps art (Mark name) = ⊤
IsPartNeeded lumps art (Label lump) = ⊤
IsPartNeeded lumps art (Copy lump) = is_needed lumps art lump.0 ≡ true

-- a level whose colours and map are found in the directory, and whose patches are the last of their names
module _ (lumps : List Lump) (art : SceneArt) (name : List ℕ)
    (palette : last_of lumps PLAYPAL ≡ Some art.playpal) (colours : last_of lumps COLORMAP ≡ Some art.colormap) (label : map_of lumps name ≡ Some art.label)
    (patches : (n : ℕ) → is_patch_of_any art.prepared n ≡ true → IsLastOfName lumps n) where
  abbrev IsNeeded : ℕ → Type 0
  IsNeeded n = is_needed lumps art n ≡ true

  for_flat : (n : ℕ) → list_any (has_flat n) art.flats ≡ true → is_needed lumps art n ≡ true
  unfolding is_needed
  for_flat n e = rw (e, or-true) refl

  flats : AllByRecursion IsNeeded (flat_lumps lumps art.flats)
  unfolding flat_lumps
  flats = weaker (λ n. list_any (has_flat n) art.flats ≡ true) IsNeeded for_flat _ (kept-passing (λ n. list_any (has_flat n) art.flats) (range_with_len 0 (length lumps)))

  pictures : AllByRecursion IsNeeded (picture_lumps lumps art.pictures)
  unfolding picture_lumps
  pictures = weaker (λ n. list_any (λ m. m == n) art.pictures ≡ true) IsNeeded (for_picture lumps art) _ (kept-passing (λ n. list_any (λ m. m == n) art.pictures) (range_with_len 0 (length lumps)))

  -- the last lump of a name
  one_listed : (wanted : List ℕ) → ((n : ℕ) → last_of lumps wanted ≡ Some n → is_needed lumps art n ≡ true) → (o : Option ℕ) → last_of lumps wanted ≡ o → AllByRecursion IsNeeded (last_list o)
  one_listed wanted needs None is = tt
  one_listed wanted needs (Some n) is = (needs n is, tt)

  listed : (wanted : List ℕ) → ((n : ℕ) → last_of lumps wanted ≡ Some n → is_needed lumps art n ≡ true) → AllByRecursion IsNeeded (listed_last lumps wanted)
  unfolding listed_last
  listed wanted needs = one_listed wanted needs (last_of lumps wanted) refl

  same_last : (wanted : List ℕ) (a n : ℕ) → last_of lumps wanted ≡ Some a → last_of lumps wanted ≡ Some n → (a == n) ≡ true
  same_last wanted a n is js = let number_same : a ≡ n = cc in eq-eqb a n number_same

  fixed : AllByRecursion IsNeeded (fixed_lumps lumps)
  unfolding fixed_lumps
  fixed =
      all-append IsNeeded (listed_last lumps PLAYPAL) _ (listed PLAYPAL (λ n is. for_palette lumps art n (same_last PLAYPAL art.playpal n palette is)))
      (all-append IsNeeded (listed_last lumps COLORMAP) _ (listed COLORMAP (λ n is. for_colormap lumps art n (same_last COLORMAP art.colormap n colours is)))
      (all-append IsNeeded (listed_last lumps PNAMES) _ (listed PNAMES (λ n is. for_list lumps art n (names_list lumps n is)))
      (all-append IsNeeded (listed_last lumps TEXTURE1) _ (listed TEXTURE1 (λ n is. for_list lumps art n (first_list lumps n is)))
      (listed TEXTURE2 (λ n is. for_list lumps art n (second_list lumps n is))))))

  called : AllByRecursion IsNeeded (called_lumps lumps art.prepared)
  unfolding called_lumps patch_lumps
  called =
      all-append IsNeeded (fixed_lumps lumps) _ fixed
      (all-filter IsNeeded (λ n. not (list_any (λ m. m == n) (fixed_lumps lumps))) (filter (is_patch_of_any art.prepared) (range_with_len 0 (length lumps)))
      (weaker (λ n. is_patch_of_any art.prepared n ≡ true) IsNeeded (for_patch lumps art) _ (kept-passing (is_patch_of_any art.prepared) (range_with_len 0 (length lumps)))))

  called_last : AllByRecursion (IsLastOfName lumps) (called_lumps lumps art.prepared)
  unfolding called_lumps patch_lumps
  called_last =
      all-append (IsLastOfName lumps) (fixed_lumps lumps) _ (fixed-last lumps)
      (all-filter (IsLastOfName lumps) (λ n. not (list_any (λ m. m == n) (fixed_lumps lumps))) (filter (is_patch_of_any art.prepared) (range_with_len 0 (length lumps)))
      (weaker (λ n. is_patch_of_any art.prepared n ≡ true) (IsLastOfName lumps) patches _ (kept-passing (is_patch_of_any art.prepared) (range_with_len 0 (length lumps)))))

  both : (P Q : ℕ → Type 0) (ns : List ℕ) → AllByRecursion P ns → AllByRecursion Q ns → AllByRecursion (λ n. P n × Q n) ns
  both P Q [] a b = tt
  both P Q (n ∷ ns) a b = ((a.0, b.0), both P Q ns a.1 b.1)

  -- a label that is called is one of these lumps
  label_needed : list_any (has_name lumps name) (called_lumps lumps art.prepared) ≡ true → is_needed lumps art art.label ≡ true
  label_needed any =
      let all_are_needed = both (λ n. IsNumber lumps n × IsLastOfName lumps n) IsNeeded _ (both (IsNumber lumps) (IsLastOfName lumps) _ (called-there lumps art.prepared) called_last) called in
      let by_name = one_passes (has_name lumps name) (λ n. (IsNumber lumps n × IsLastOfName lumps n) × IsNeeded n)
      (called_lumps lumps art.prepared) all_are_needed any in
      let name_same : (lump_at lumps by_name.0).name ≡ name = (bytes_eq-Decides (lump_at lumps by_name.0).name name).0 (sym (is_lump-at (λ lump. bytes_eq lump.name name) lumps by_name.0 by_name.2.0.0) ∙ by_name.1) in
      let name_is_called : last_of lumps name ≡ Some by_name.0 = ap (last_of lumps) (sym name_same) ∙ by_name.2.0.1 in
      let last_is_label : last_of lumps name ≡ Some art.label = (label-is lumps name art.label label).0 in
      let lumps_same : by_name.0 ≡ art.label = cc in subst IsNeeded lumps_same by_name.2.1

  copied : (ns : List ℕ) → AllByRecursion IsNeeded ns → AllByRecursion (IsPartNeeded lumps art) (map copy_part ns)
  copied [] all = tt
  copied (n ∷ ns) all = (all.0, copied ns all.1)

  grouped : (start ns end : List ℕ) → AllByRecursion IsNeeded ns → AllByRecursion (IsPartNeeded lumps art) (group_parts start ns end)
  unfolding group_parts
  grouped start ns end all = (tt, all-append (IsPartNeeded lumps art) (map copy_part ns) (Mark end ∷ []) (copied ns all) (tt, tt))

  labelled : (b : Bool) → list_any (has_name lumps name) (called_lumps lumps art.prepared) ≡ b → IsPartNeeded lumps art (label_or_copy b art.label)
  unfolding label_or_copy
  labelled true is = label_needed is
  labelled false is = tt

  map_lump : (n : ℕ) → art.label < n → n ≤ art.label + length MAP_LUMPS → is_map_lump art.label n ≡ true
  unfolding is_map_lump
  map_lump n above within = grind (arith, nat_tests)

  behind : (a k : ℕ) → art.label < a → a + k ≤ art.label + length MAP_LUMPS + 1 → AllByRecursion IsNeeded (range_with_len a k)
  behind a zero above within = tt
  behind a (suc k) above within = (for_map lumps art a (map_lump a above (omega (arith, within))), behind (a + 1) k (omega (arith, above)) (omega (arith, within)))

  level : AllByRecursion (IsPartNeeded lumps art) (map_parts (list_any (has_name lumps name) (called_lumps lumps art.prepared)) (map_of lumps name))
  unfolding map_parts
  level =
      rw label (labelled (list_any (has_name lumps name) (called_lumps lumps art.prepared)) refl, copied (range_with_len (suc art.label) (length MAP_LUMPS)) (behind (suc art.label) (length MAP_LUMPS) (omega arith) (omega arith)))

  pub parts-needed : AllByRecursion (IsPartNeeded lumps art) (trim_parts lumps art name)
  unfolding trim_parts
  parts-needed =
      let per_part = IsPartNeeded lumps art in
      all-append per_part (group_parts F_START (flat_lumps lumps art.flats) F_END) _ (grouped F_START (flat_lumps lumps art.flats) F_END flats)
      (all-append per_part (group_parts S_START (picture_lumps lumps art.pictures) S_END) _ (grouped S_START (picture_lumps lumps art.pictures) S_END pictures)
      (all-append per_part (map_parts (list_any (has_name lumps name) (called_lumps lumps art.prepared)) (map_of lumps name)) _ level
      (copied (filter (λ n. not (has_name lumps name n)) (called_lumps lumps art.prepared))
      (all-filter IsNeeded (λ n. not (has_name lumps name n)) (called_lumps lumps art.prepared) called))))

long_last : (lumps : List Lump) (size n : ℕ) (o : Option ℕ) → option_and_then (if_long lumps size) o ≡ Some n → o ≡ Some n
long_last lumps size n None e = absurd (cc)
long_last lumps size n (Some m) e = long_same (nat_le size (lump_at lumps m).size) e
  where
    long_same : (b : Bool) → cond b (Some m) None ≡ Some n → Some m ≡ Some n
    long_same true e = e
    long_same false e = absurd (cc)

palette_last : (lumps : List Lump) (n : ℕ) → playpal_of lumps ≡ Ok n → last_of lumps PLAYPAL ≡ Some n
unfolding playpal_of
palette_last lumps n is = long_last lumps PALETTE_SIZE n (last_of lumps PLAYPAL) (some_value _ _ n is)

colormap_last : (lumps : List Lump) (n : ℕ) → colormap_of lumps ≡ Ok n → last_of lumps COLORMAP ≡ Some n
unfolding colormap_of
colormap_last lumps n is = long_last lumps COLORMAP_SIZE n (last_of lumps COLORMAP) (some_value _ _ n is)

label_last : (lumps : List Lump) (name : List ℕ) (n : ℕ) → label_of lumps name ≡ Ok n → map_of lumps name ≡ Some n
unfolding label_of
label_last lumps name n is = some_value (map_of lumps name) NoMap n is

-- What is copied of an accepted level is needed.
pub copied-needed : (bytes : ℕ → List ℕ) (lumps : List Lump) (lines : List ThingLine) (name : List ℕ) (skill : ℕ) (scene : SceneValue) (pictures : List ℕ) (parts : List TrimPart) (n : ℕ)
    → IsSceneOf bytes lumps lines name skill scene → trim_plan lumps (art_with scene pictures) name ≡ Ok parts → IsCopied parts n
    → is_needed lumps (art_with scene pictures) n ≡ true
copied-needed bytes lumps lines name skill scene pictures parts n made plan copied =
    let art = art_with scene pictures in
    let base = base_parts bytes lumps name scene.base made.base in
    let all_needed = parts-needed lumps art name (palette_last lumps scene.base.playpal base.playpal) (colormap_last lumps scene.base.colormap base.colormap) (label_last lumps name scene.base.label base.label)
    (patches-last lumps bytes scene.base.lists (is_wanted_texture scene.faces.sides scene.faces.sky) scene.prepared made.prepared) in
    let parts_are_needed : AllByRecursion (IsPartNeeded lumps art) parts = subst (AllByRecursion (IsPartNeeded lumps art)) (plan-accepted lumps art name parts plan).0 all_needed in
    All-contains (IsPartNeeded lumps art) parts (copy_part n) (All-from_recursion (IsPartNeeded lumps art) parts parts_are_needed) copied
