-- By the trimmed directory the names of colours and of the lists of textures have the bytes that they have by the given
-- one, or none where they had none.
use Rattle.art_rules.proofs.Common.{[], AllByRecursion, ap, arith, Bool, bytes_eq, bytes_eq-Decides, cond, Decides-eqb, false, filter, inl, inr, length, length-map, List, list_any, map, None, not, Option, option_map, or-cases, or-true_left, or-true_right, refl, Some, some-injective, sym, true, ℕ, ◌++◌, ◌<◌, ◌==◌, ◌∙◌, ◌∷◌, ◌≡◌, ◌⊎◌}
use Rattle.art_rules.proofs.Laws.{greatest-is, none-below_greatest}
use Rattle.trim_rules.specs.Rules.{COLORMAP, F_END, F_START, HEAD_SIZE, Lump, PLAYPAL, PNAMES, PreparedTexture, S_END, S_START, SceneArt, TEXTURE1, TEXTURE2, has_name, last_of, lump_at, lump_bytes, map_of, named_bytes}
use Rattle.trim_rules.specs.declared.part.TrimPart.{TrimPart}
use Rattle.trim_rules.specs.declared.part.TrimPart.TheVariants.{Mark}
use Rattle.trim_rules.specs.Parts.{called_lumps, copy_part, fixed_lumps, label_part, listed_last, part_name, trim_parts}
use Rattle.trim_rules.specs.Files.{part_lump, stored_lumps, trimmed_file, trimmed_lumps}
use Rattle.trim_rules.proofs.BytesLemmas.{part-bytes, put_part}
use Rattle.trim_rules.proofs.CalledLemmas.{IsLastOfName, trimmed_last}
use Rattle.trim_rules.proofs.LastLemmas.{last_of-name, last_of-own}
use Rattle.trim_rules.proofs.MapLemmas.{IsOther, map_name-bytes, none_called}
use Rattle.trim_rules.proofs.MemberLemmas.{is_lump-at}
use Rattle.trim_rules.proofs.NameLemmas.{last_bytes, last_of-stored}
use Rattle.trim_rules.proofs.ThereLemmas.{label-is, parts-all}

pub any_left : (q : ℕ → Bool) (xs ys : List ℕ) → list_any q xs ≡ true → list_any q (xs ++ ys) ≡ true
any_left q [] ys e = absurd (cc)
any_left q (x ∷ xs) ys e =
    or-cases (q x) (list_any q xs) (list_any q (x ∷ (xs ++ ys)) ≡ true) (λ one. or-true_left (q x) _ one) (λ more. or-true_right (q x) _ (any_left q xs ys more)) e

pub any_right : (q : ℕ → Bool) (xs ys : List ℕ) → list_any q ys ≡ true → list_any q (xs ++ ys) ≡ true
any_right q [] ys e = e
any_right q (x ∷ xs) ys e = or-true_right (q x) _ (any_right q xs ys e)

any_that : (q : ℕ → Bool) (n : ℕ) (ns : List ℕ) → list_any (λ m. m == n) ns ≡ true → q n ≡ true → list_any q ns ≡ true
any_that q n [] any is = absurd (cc)
any_that q n (m ∷ ns) any is =
    or-cases (m == n) (list_any (λ k. k == n) ns) (list_any q (m ∷ ns) ≡ true)
    (λ e. or-true_left (q m) _ (ap q ((Decides-eqb m n).0 e) ∙ is)) (λ more. or-true_right (q m) _ (any_that q n ns more is)) any

kept_step : (b : Bool) (m n : ℕ) (ns : List ℕ) → (m ≡ n → b ≡ true) → (list_any (λ k. k == n) ns ≡ true) ⊎ ((m == n) ≡ true) → list_any (λ k. k == n) (cond b (m ∷ ns) ns) ≡ true
kept_step true m n ns same (inl more) = or-true_right (m == n) _ more
kept_step true m n ns same (inr e) = or-true_left (m == n) _ e
kept_step false m n ns same (inl more) = more
kept_step false m n ns same (inr e) = let impossible : false ≡ true = same ((Decides-eqb m n).0 e) in absurd (cc)

pub any_kept : (keep : ℕ → Bool) (n : ℕ) (ns : List ℕ) → keep n ≡ true → list_any (λ m. m == n) ns ≡ true → list_any (λ m. m == n) (filter keep ns) ≡ true
any_kept keep n [] is any = absurd (cc)
any_kept keep n (m ∷ ns) is any =
    kept_step (keep m) m n (filter keep ns) (λ e. ap keep e ∙ is)
    (or-cases (m == n) (list_any (λ k. k == n) ns) ((list_any (λ k. k == n) (filter keep ns) ≡ true) ⊎ ((m == n) ≡ true)) (λ e. inr e) (λ more. inl (any_kept keep n ns is more)) any)

-- a name whose last lump is among those that are called
abbrev pub IsFixed : List Lump → List ℕ → Type 0
IsFixed lumps wanted = (n : ℕ) → last_of lumps wanted ≡ Some n → list_any (λ m. m == n) (fixed_lumps lumps) ≡ true

listed_any : (lumps : List Lump) (wanted : List ℕ) (n : ℕ) → last_of lumps wanted ≡ Some n → list_any (λ m. m == n) (listed_last lumps wanted) ≡ true
unfolding listed_last
listed_any lumps wanted n e = rw e (or-true_left (n == n) false ((Decides-eqb n n).1 refl))

module _ (lumps : List Lump) where
  pub playpal-fixed : IsFixed lumps PLAYPAL
  unfolding fixed_lumps
  playpal-fixed n e = any_left (λ m. m == n) (listed_last lumps PLAYPAL) _ (listed_any lumps PLAYPAL n e)

  pub colormap-fixed : IsFixed lumps COLORMAP
  unfolding fixed_lumps
  colormap-fixed n e =
      any_right (λ m. m == n) (listed_last lumps PLAYPAL) _ (any_left (λ m. m == n) (listed_last lumps COLORMAP) _ (listed_any lumps COLORMAP n e))

  pub pnames-fixed : IsFixed lumps PNAMES
  unfolding fixed_lumps
  pnames-fixed n e =
      any_right (λ m. m == n) (listed_last lumps PLAYPAL) _ (any_right (λ m. m == n) (listed_last lumps COLORMAP) _
      (any_left (λ m. m == n) (listed_last lumps PNAMES) _ (listed_any lumps PNAMES n e)))

  pub texture1-fixed : IsFixed lumps TEXTURE1
  unfolding fixed_lumps
  texture1-fixed n e =
      any_right (λ m. m == n) (listed_last lumps PLAYPAL) _ (any_right (λ m. m == n) (listed_last lumps COLORMAP) _
      (any_right (λ m. m == n) (listed_last lumps PNAMES) _ (any_left (λ m. m == n) (listed_last lumps TEXTURE1) _ (listed_any lumps TEXTURE1 n e))))

  pub texture2-fixed : IsFixed lumps TEXTURE2
  unfolding fixed_lumps
  texture2-fixed n e =
      any_right (λ m. m == n) (listed_last lumps PLAYPAL) _ (any_right (λ m. m == n) (listed_last lumps COLORMAP) _
      (any_right (λ m. m == n) (listed_last lumps PNAMES) _ (any_right (λ m. m == n) (listed_last lumps TEXTURE1) _ (listed_any lumps TEXTURE2 n e))))

fixed_called : (lumps : List Lump) (prepared : List (Option PreparedTexture)) (n : ℕ) → list_any (λ m. m == n) (fixed_lumps lumps) ≡ true → list_any (λ m. m == n) (called_lumps lumps prepared) ≡ true
unfolding called_lumps
fixed_called lumps prepared n any = any_left (λ m. m == n) (fixed_lumps lumps) _ any

module _ (bytes : ℕ → List ℕ) (lumps : List Lump) (art : SceneArt) (name : List ℕ) (label : ℕ) (is : map_of lumps name ≡ Some label)
    (all : AllByRecursion (IsLastOfName lumps) (filter (λ m. not (has_name lumps name m)) (called_lumps lumps art.prepared))) where
  -- a lump that is called has its bytes by its name
  called_step : (wanted : List ℕ) (n : ℕ) (b : Bool) → has_name lumps name n ≡ b → last_of lumps wanted ≡ Some n → list_any (λ m. m == n) (called_lumps lumps art.prepared) ≡ true
      → last_bytes (map (part_lump bytes lumps) (trim_parts lumps art name)) wanted ≡ Some (bytes n)
  called_step wanted n true has e any =
      let found_lump = greatest-is (has_name lumps wanted) (length lumps) n e in
      let map_name : (lump_at lumps n).name ≡ name =
      (bytes_eq-Decides (lump_at lumps n).name name).0 (sym (is_lump-at (λ lump. bytes_eq lump.name name) lumps n found_lump.0) ∙ has) in
      let wanted_is_map_name : wanted ≡ name = sym (last_of-name lumps wanted n e) ∙ map_name in
      let number : label ≡ n = some-injective label n (sym (label-is lumps name label is).0 ∙ sym (ap (last_of lumps) wanted_is_map_name) ∙ e) in
      ap (last_bytes (map (part_lump bytes lumps) (trim_parts lumps art name))) wanted_is_map_name
      ∙ map_name-bytes bytes lumps art name label is (any_that (has_name lumps name) n (called_lumps lumps art.prepared) any has)
      ∙ ap (λ k. Some (bytes k)) number
  called_step wanted n false has e any =
      ap (last_bytes (map (part_lump bytes lumps) (trim_parts lumps art name))) (sym (last_of-name lumps wanted n e))
      ∙ trimmed_last bytes lumps art name n all (last_of-own lumps wanted n e)
      (any_kept (λ m. not (has_name lumps name m)) n (called_lumps lumps art.prepared) (ap not has) any)

  -- a lump that is called, found by its name
  pub called-bytes : (wanted : List ℕ) (n : ℕ) → last_of lumps wanted ≡ Some n → list_any (λ m. m == n) (called_lumps lumps art.prepared) ≡ true
      → last_bytes (map (part_lump bytes lumps) (trim_parts lumps art name)) wanted ≡ Some (bytes n)
  called-bytes wanted n e any = called_step wanted n (has_name lumps name n) refl e any

copy_other : (lumps : List Lump) (wanted : List ℕ) (n : ℕ) → bytes_eq (lump_at lumps n).name wanted ≡ false → IsOther lumps wanted (copy_part n)
unfolding part_name
copy_other lumps wanted n e = e

label_other : (lumps : List Lump) (wanted : List ℕ) (n : ℕ) → bytes_eq (lump_at lumps n).name wanted ≡ false → IsOther lumps wanted (label_part n)
unfolding part_name
label_other lumps wanted n e = e

mark_other : (lumps : List Lump) (wanted mark : List ℕ) → bytes_eq mark wanted ≡ false → IsOther lumps wanted (Mark mark)
unfolding part_name
mark_other lumps wanted mark e = e

-- a name that is no mark of the file
pub record IsNoMark (wanted : List ℕ) : Type 0 where
  pub f_start : bytes_eq F_START wanted ≡ false
  pub f_end : bytes_eq F_END wanted ≡ false
  pub s_start : bytes_eq S_START wanted ≡ false
  pub s_end : bytes_eq S_END wanted ≡ false

-- what is not found stays so
pub none-bytes : (bytes : ℕ → List ℕ) (lumps : List Lump) (art : SceneArt) (name wanted : List ℕ) → IsNoMark wanted → last_of lumps wanted ≡ None
    → last_bytes (map (part_lump bytes lumps) (trim_parts lumps art name)) wanted ≡ None
none-bytes bytes lumps art name wanted marks e =
    let name_differs = λ (n : ℕ) (lt : n < length lumps). sym (is_lump-at (λ lump. bytes_eq lump.name wanted) lumps n lt) ∙ none-below_greatest (has_name lumps wanted) (length lumps) e n lt in
    none_called bytes lumps wanted (trim_parts lumps art name)
    (parts-all lumps (IsOther lumps wanted) (λ n lt. copy_other lumps wanted n (name_differs n lt)) art name
    (mark_other lumps wanted F_START marks.f_start) (mark_other lumps wanted F_END marks.f_end) (mark_other lumps wanted S_START marks.s_start) (mark_other lumps wanted S_END marks.s_end)
    (λ n lt. label_other lumps wanted n (name_differs n lt)))

-- by the directory the last lump of a name has what the last part of that name has
pub named-put : (bytes : ℕ → List ℕ) (lumps : List Lump) (parts : List TrimPart) (wanted : List ℕ)
    → named_bytes (lump_bytes (trimmed_file bytes lumps parts ∷ []) (trimmed_lumps bytes lumps parts)) (trimmed_lumps bytes lumps parts) wanted
    ≡ last_bytes (map (part_lump bytes lumps) parts) wanted
unfolding trimmed_lumps stored_lumps
named-put bytes lumps parts wanted =
    last_of-stored (lump_bytes (trimmed_file bytes lumps parts ∷ []) (trimmed_lumps bytes lumps parts)) HEAD_SIZE (map (part_lump bytes lumps) parts) wanted
    (λ d k lt. let inside : k < length parts = omega (arith, length-map parts (part_lump bytes lumps)) in
    part-bytes bytes lumps parts k ∙ sym (put_part bytes lumps parts d k inside))

module _ (bytes : ℕ → List ℕ) (lumps : List Lump) (art : SceneArt) (name : List ℕ) (label : ℕ) (is : map_of lumps name ≡ Some label)
    (all : AllByRecursion (IsLastOfName lumps) (filter (λ m. not (has_name lumps name m)) (called_lumps lumps art.prepared))) where
  same_step : (wanted : List ℕ) (o : Option ℕ) → IsFixed lumps wanted → IsNoMark wanted → last_of lumps wanted ≡ o
      → last_bytes (map (part_lump bytes lumps) (trim_parts lumps art name)) wanted ≡ option_map bytes o
  same_step wanted None fixed marks e = none-bytes bytes lumps art name wanted marks e
  same_step wanted (Some n) fixed marks e = called-bytes bytes lumps art name label is all wanted n e (fixed_called lumps art.prepared n (fixed n e))

  -- The same bytes by both directories.
  pub named-same : (wanted : List ℕ) → IsFixed lumps wanted → IsNoMark wanted
      → named_bytes (lump_bytes (trimmed_file bytes lumps (trim_parts lumps art name) ∷ []) (trimmed_lumps bytes lumps (trim_parts lumps art name)))
      (trimmed_lumps bytes lumps (trim_parts lumps art name)) wanted ≡ named_bytes bytes lumps wanted
  named-same wanted fixed marks = named-put bytes lumps (trim_parts lumps art name) wanted ∙ same_step wanted (last_of lumps wanted) fixed marks refl
