-- The map of the trimmed file is the label of its third part, and what is called by the map's name is that label.
use Rattle.art_rules.proofs.Common.{[], AllByRecursion, and_parts, ap, append_assoc, arith, Bool, bytes_eq, bytes_eq-Decides, false, filter, get_or-range_with_len, inl, inr, length, List, list_any, map, map-append, None, not, Option, option_and_then, range_with_len, refl, Some, suc, sym, true, zero, ℕ, ◌&&◌, ◌++◌, ◌+◌, ◌<◌, ◌==◌, ◌∙◌, ◌∷◌, ◌≡◌, ◌⊎◌}
use Rattle.trim_rules.specs.Rules.{BEHAVIOR, BEHAVIOR_AFTER, COLORMAP, F_END, F_START, HEAD_SIZE, Lump, MAP_LUMPS, PLAYPAL, PNAMES, PreparedTexture, S_END, S_START, SceneArt, TEXTURE1, TEXTURE2, are_named, has_name, if_label, is_label, is_named_in, last_of, lump_at, map_of, or_else, patch_lumps}
use Rattle.art_rules.proofs.Laws.{greatest-is, greatest-some}
use Rattle.trim_rules.specs.declared.part.TrimPart.{TrimPart}
use Rattle.trim_rules.specs.declared.part.TrimPart.TheVariants.{Mark}
use Rattle.trim_rules.specs.Parts.{called_lumps, copy_part, fixed_lumps, flat_lumps, group_parts, label_or_copy, listed_last, map_parts, part_name, picture_lumps, trim_parts}
use Rattle.trim_rules.specs.Files.{part_bytes, part_lump, stored_from, stored_lumps, trimmed_lumps}
use Rattle.trim_rules.proofs.MemberLemmas.{is_lump-at}
use Rattle.trim_rules.proofs.NameLemmas.{last_bytes, last_bytes-append}
use Rattle.trim_rules.proofs.PlaceLemmas.{part_at, part_at-behind, part_at-copied, stored-name}
use Rattle.trim_rules.proofs.{OrderLemmas.all-at, OrderLemmas.kept-passing, LastLemmas.last_of-name}
use Rattle.trim_rules.proofs.ThereLemmas.{IsNumber, all-append, all-filter, behind-there, called-there, label-is, passing-there}

-- a part whose name is another
abbrev pub IsOther : List Lump → List ℕ → TrimPart → Type 0
IsOther lumps name p = bytes_eq (part_name lumps p) name ≡ false

pub stored-length : (bytes : ℕ → List ℕ) (lumps : List Lump) (place : ℕ) (parts : List TrimPart) → length (stored_from place (map (part_lump bytes lumps) parts)) ≡ length parts
unfolding stored_from
stored-length bytes lumps place [] = refl
stored-length bytes lumps place (p ∷ parts) = ap suc (stored-length bytes lumps (place + length (part_lump bytes lumps p).bytes) parts)

stored-file : (bytes : ℕ → List ℕ) (lumps : List Lump) (place : ℕ) (parts : List TrimPart) (k : ℕ) → (lump_at (stored_from place (map (part_lump bytes lumps) parts)) k).file ≡ 0
unfolding stored_from
stored-file bytes lumps place [] k = refl
stored-file bytes lumps place (p ∷ parts) zero = refl
stored-file bytes lumps place (p ∷ parts) (suc k) = stored-file bytes lumps (place + length (part_lump bytes lumps p).bytes) parts k

length-front : (front rest : List TrimPart) → length (front ++ rest) ≡ length front + length rest
length-front [] rest = let same_length : length rest ≡ 0 + length rest = omega arith in same_length
length-front (p ∷ front) rest = let rest_length : length (front ++ rest) ≡ length front + length rest = length-front front rest in omega arith

-- the last part of a name in a new file
module _ (bytes : ℕ → List ℕ) (lumps : List Lump) (name : List ℕ) (front : List TrimPart) (p : TrimPart) (behind : List TrimPart) where
  named-at : (k : ℕ) → k < length (front ++ p ∷ behind) → has_name (stored_from HEAD_SIZE (map (part_lump bytes lumps) (front ++ p ∷ behind))) name k ≡ bytes_eq (part_name lumps (part_at (front ++ p ∷ behind) k)) name
  named-at k lt =
      let new_lumps = stored_from HEAD_SIZE (map (part_lump bytes lumps) (front ++ p ∷ behind)) in
      let count : length new_lumps ≡ length (front ++ p ∷ behind) = stored-length bytes lumps HEAD_SIZE (front ++ p ∷ behind) in
      is_lump-at (λ lump. bytes_eq lump.name name) new_lumps k (omega arith)
      ∙ ap (λ n. bytes_eq n name) (stored-name bytes lumps HEAD_SIZE (front ++ p ∷ behind) k)

  part_here : part_at (front ++ p ∷ behind) (length front) ≡ p
  part_here = (let no_step : length front ≡ length front + 0 = omega arith in ap (part_at (front ++ p ∷ behind)) no_step) ∙ part_at-behind front (p ∷ behind) 0

  part_later : (j : ℕ) → part_at (front ++ p ∷ behind) (length front + suc j) ≡ part_at behind j
  part_later j = part_at-behind front (p ∷ behind) (suc j)

  pub last-part : part_name lumps p ≡ name → AllByRecursion (IsOther lumps name) behind
      → last_of (stored_from HEAD_SIZE (map (part_lump bytes lumps) (front ++ p ∷ behind))) name ≡ Some (length front)
  last-part is others =
      let new_lumps = stored_from HEAD_SIZE (map (part_lump bytes lumps) (front ++ p ∷ behind)) in
      let count : length new_lumps ≡ length (front ++ p ∷ behind) = stored-length bytes lumps HEAD_SIZE (front ++ p ∷ behind) in
      let parts_length : length (front ++ p ∷ behind) ≡ length front + suc (length behind) = length-front front (p ∷ behind) in
      greatest-some (has_name new_lumps name) (length new_lumps) (length front) (omega arith)
      (named-at (length front) (omega arith) ∙ ap (λ q. bytes_eq (part_name lumps q) name) part_here ∙ (bytes_eq-Decides (part_name lumps p) name).1 is)
      (λ k above below. later k above (omega arith) others) where
        later : (k : ℕ) → length front < k → k < length (front ++ p ∷ behind) → AllByRecursion (IsOther lumps name) behind
            → has_name (stored_from HEAD_SIZE (map (part_lump bytes lumps) (front ++ p ∷ behind))) name k ≡ false
        later k above below others = let distance = gap (length front) k above in
            let parts_length : length (front ++ p ∷ behind) ≡ length front + suc (length behind) = length-front front (p ∷ behind) in
            let is_behind : k ≡ length front + suc distance.0 = distance.1 in
            let inside : distance.0 < length behind = omega arith in
            named-at k below ∙ ap (λ n. bytes_eq (part_name lumps (part_at (front ++ p ∷ behind) n)) name) is_behind
            ∙ ap (λ q. bytes_eq (part_name lumps q) name) (part_later distance.0)
            ∙ all-at (IsOther lumps name) behind distance.0 (Mark []) others inside where
              gap : (a b : ℕ) → a < b → (j : ℕ) × (b ≡ a + suc j)
              gap zero zero lt = absurd (omega arith)
              gap zero (suc b) lt = (b, omega arith)
              gap (suc a) zero lt = absurd (omega arith)
              gap (suc a) (suc b) lt = let distance = gap a b (omega arith) in let is_behind : b ≡ a + suc distance.0 = distance.1 in (distance.0, omega arith)

-- a copied part is one of them
copied-inside : (parts : List TrimPart) (k n : ℕ) → part_at parts k ≡ copy_part n → k < length parts
copied-inside [] k n e = absurd (cc)
copied-inside (p ∷ parts) zero n e = omega arith
copied-inside (p ∷ parts) (suc k) n e = let rest_inside : k < length parts = copied-inside parts k n e in omega arith

-- a copied part in a new file is found by the name of its lump
module _ (bytes : ℕ → List ℕ) (lumps : List Lump) (parts : List TrimPart) where
  copied-named : (k n : ℕ) (name : List ℕ) → part_at parts k ≡ copy_part n
      → is_named_in (stored_from HEAD_SIZE (map (part_lump bytes lumps) parts)) 0 name k ≡ bytes_eq (lump_at lumps n).name name
  unfolding part_name
  copied-named k n name e =
      let new_lumps = stored_from HEAD_SIZE (map (part_lump bytes lumps) parts) in
      let count : length new_lumps ≡ length parts = stored-length bytes lumps HEAD_SIZE parts in
      let part_inside : k < length parts = copied-inside parts k n e in
      let file : (lump_at new_lumps k).file ≡ 0 = stored-file bytes lumps HEAD_SIZE parts k in
      let names_same : (lump_at new_lumps k).name ≡ (lump_at lumps n).name = stored-name bytes lumps HEAD_SIZE parts k ∙ ap (part_name lumps) e in
      is_lump-at (λ lump. lump.file == 0 && bytes_eq lump.name name) new_lumps k (omega arith)
      ∙ rw (file, names_same) refl

  copied-row : (file a n : ℕ) (names : List (List ℕ)) → are_named lumps file n names ≡ true → ((k : ℕ) → k < length names → part_at parts (a + k) ≡ copy_part (n + k))
      → are_named (stored_from HEAD_SIZE (map (part_lump bytes lumps) parts)) 0 a names ≡ true
  unfolding are_named
  copied-row file a n [] e at = refl
  copied-row file a n (name ∷ names) e at =
      let first_and_rest_named = and_parts (is_named_in lumps file name n) (are_named lumps file (suc n) names) e in
      let part_is_copy : part_at parts a ≡ copy_part n = (let same_place : a ≡ a + 0 = omega arith in ap (part_at parts) same_place) ∙ at 0 (omega arith) ∙ (let same_number : n + 0 ≡ n = omega arith in ap copy_part same_number) in
      let lump_there : n < length lumps = passing-there _ lumps n first_and_rest_named.0 in
      let same_name : bytes_eq (lump_at lumps n).name name ≡ true =
      (and_parts ((lump_at lumps n).file == file) (bytes_eq (lump_at lumps n).name name) (sym (is_lump-at (λ lump. lump.file == file && bytes_eq lump.name name) lumps n lump_there) ∙ first_and_rest_named.0)).1 in
      let is_named : is_named_in (stored_from HEAD_SIZE (map (part_lump bytes lumps) parts)) 0 name a ≡ true = copied-named a n name part_is_copy ∙ same_name in
      let next : (k : ℕ) → k < length names → part_at parts (suc a + k) ≡ copy_part (suc n + k) = λ k lt.
      (let same_place : suc a + k ≡ a + suc k = omega arith in ap (part_at parts) same_place) ∙ at (suc k) (omega arith) ∙ (let same_number : n + suc k ≡ suc n + k = omega arith in ap copy_part same_number) in
      let rest_named : are_named (stored_from HEAD_SIZE (map (part_lump bytes lumps) parts)) 0 (suc a) names ≡ true = copied-row file (suc a) (suc n) names first_and_rest_named.1 next in
      rw is_named rest_named

-- what is found by its name in a level that is accepted
pub record HasFixed (lumps : List Lump) (p c n t : ℕ) : Type 0 where
  pub playpal : last_of lumps PLAYPAL ≡ Some p
  pub colormap : last_of lumps COLORMAP ≡ Some c
  pub pnames : last_of lumps PNAMES ≡ Some n
  pub texture1 : last_of lumps TEXTURE1 ≡ Some t

fixed-first : (lumps : List Lump) (p c n t : ℕ) → HasFixed lumps p c n t → fixed_lumps lumps ≡ p ∷ c ∷ n ∷ t ∷ listed_last lumps TEXTURE2
unfolding fixed_lumps listed_last
fixed-first lumps p c n t has = rw (has.playpal, has.colormap, has.pnames, has.texture1) refl

called-first : (lumps : List Lump) (prepared : List (Option PreparedTexture)) (p c n t : ℕ) → HasFixed lumps p c n t
    → (more : List ℕ) × (called_lumps lumps prepared ≡ p ∷ c ∷ n ∷ t ∷ more)
unfolding called_lumps
called-first lumps prepared p c n t has =
    let other_lumps = filter (λ k. not (list_any (λ m. m == k) (fixed_lumps lumps))) (patch_lumps prepared (length lumps)) in
    (listed_last lumps TEXTURE2 ++ other_lumps, ap (λ fs. fs ++ other_lumps) (fixed-first lumps p c n t has))

-- of four numbers of which one fails at most, the third that passes is the third or the fourth
third_step : (q : ℕ → Bool) (p c n t : ℕ) (more : List ℕ) (b1 b2 b3 b4 : Bool) → q p ≡ b1 → q c ≡ b2 → q n ≡ b3 → q t ≡ b4
    → (b1 ≡ false → b2 ≡ false → ⊥) → (b1 ≡ false → b3 ≡ false → ⊥) → (b1 ≡ false → b4 ≡ false → ⊥)
    → (b2 ≡ false → b3 ≡ false → ⊥) → (b2 ≡ false → b4 ≡ false → ⊥) → (b3 ≡ false → b4 ≡ false → ⊥)
    → (part_at (map copy_part (filter q (p ∷ c ∷ n ∷ t ∷ more))) 2 ≡ copy_part n) ⊎ (part_at (map copy_part (filter q (p ∷ c ∷ n ∷ t ∷ more))) 2 ≡ copy_part t)
third_step q p c n t more true true true b4 e f g h pc pn pt cn ct nt = inl (rw (e, f, g) refl)
third_step q p c n t more true true false true e f g h pc pn pt cn ct nt = inr (rw (e, f, g, h) refl)
third_step q p c n t more true false true true e f g h pc pn pt cn ct nt = inr (rw (e, f, g, h) refl)
third_step q p c n t more false true true true e f g h pc pn pt cn ct nt = inr (rw (e, f, g, h) refl)
third_step q p c n t more true true false false e f g h pc pn pt cn ct nt = absurd (nt refl refl)
third_step q p c n t more true false true false e f g h pc pn pt cn ct nt = absurd (ct refl refl)
third_step q p c n t more true false false b4 e f g h pc pn pt cn ct nt = absurd (cn refl refl)
third_step q p c n t more false true true false e f g h pc pn pt cn ct nt = absurd (pt refl refl)
third_step q p c n t more false true false b4 e f g h pc pn pt cn ct nt = absurd (pn refl refl)
third_step q p c n t more false false b3 b4 e f g h pc pn pt cn ct nt = absurd (pc refl refl)

not_false : (b : Bool) → not b ≡ false → b ≡ true
not_false true e = refl
not_false false e = absurd (cc)

not_true : (b : Bool) → not b ≡ true → b ≡ false
not_true true e = absurd (cc)
not_true false e = refl

-- two lumps of two names do not both have the map's
named-of : (lumps : List Lump) (name a : List ℕ) (x : ℕ) → last_of lumps a ≡ Some x → not (has_name lumps name x) ≡ false → a ≡ name
named-of lumps name a x is e =
    let found_lump = greatest-is (has_name lumps a) (length lumps) x is in
    sym (last_of-name lumps a x is)
    ∙ (bytes_eq-Decides (lump_at lumps x).name name).0 (sym (is_lump-at (λ lump. bytes_eq lump.name name) lumps x found_lump.0) ∙ not_false (has_name lumps name x) e)

two_names : (lumps : List Lump) (name a b : List ℕ) (x y : ℕ) → last_of lumps a ≡ Some x → last_of lumps b ≡ Some y → bytes_eq a b ≡ false
    → not (has_name lumps name x) ≡ false → not (has_name lumps name y) ≡ false → ⊥
two_names lumps name a b x y is js differ e f =
    let names_same : a ≡ b = named-of lumps name a x is e ∙ sym (named-of lumps name b y js f) in
    let same_bytes : bytes_eq a b ≡ true = (bytes_eq-Decides a b).1 names_same in
    let impossible : false ≡ true = sym differ ∙ same_bytes in absurd (cc)

-- what is behind a map's label in the file
abbrev pub behind_map : List Lump → List (Option PreparedTexture) → List ℕ → ℕ → List TrimPart
behind_map lumps prepared name label =
    map copy_part (range_with_len (suc label) (length MAP_LUMPS)) ++ map copy_part (filter (λ n. not (has_name lumps name n)) (called_lumps lumps prepared))

abbrev pub front_parts : List Lump → SceneArt → List TrimPart
front_parts lumps art = group_parts F_START (flat_lumps lumps art.flats) F_END ++ group_parts S_START (picture_lumps lumps art.pictures) S_END

abbrev pub is_called : List Lump → SceneArt → List ℕ → Bool
is_called lumps art name = list_any (has_name lumps name) (called_lumps lumps art.prepared)

pub parts-by-map : (lumps : List Lump) (art : SceneArt) (name : List ℕ) (label : ℕ) → map_of lumps name ≡ Some label
    → trim_parts lumps art name ≡ front_parts lumps art ++ label_or_copy (is_called lumps art name) label ∷ behind_map lumps art.prepared name label
unfolding trim_parts map_parts
parts-by-map lumps art name label is =
    let flats = group_parts F_START (flat_lumps lumps art.flats) F_END in
    let pictures = group_parts S_START (picture_lumps lumps art.pictures) S_END in
    let called_copies = map copy_part (filter (λ n. not (has_name lumps name n)) (called_lumps lumps art.prepared)) in
    ap (λ o. flats ++ (pictures ++ (map_parts (is_called lumps art name) o ++ called_copies))) is
    ∙ sym (append_assoc flats pictures (label_or_copy (is_called lumps art name) label ∷ behind_map lumps art.prepared name label))

-- none of these has the map's name
numbers_other : (lumps : List Lump) (name : List ℕ) (label a n : ℕ) → last_of lumps name ≡ Some label → label < a
    → AllByRecursion (IsNumber lumps) (range_with_len a n) → AllByRecursion (IsOther lumps name) (map copy_part (range_with_len a n))
unfolding part_name
numbers_other lumps name label a zero is above all = tt
numbers_other lumps name label a (suc n) is above all =
    let label_is_found = greatest-is (has_name lumps name) (length lumps) label is in (
      sym (is_lump-at (λ lump. bytes_eq lump.name name) lumps a all.0) ∙ label_is_found.2 a above all.0,
      numbers_other lumps name label (a + 1) n is (omega arith) all.1,
    )

called_other : (lumps : List Lump) (name : List ℕ) (ns : List ℕ) → AllByRecursion (IsNumber lumps) ns
    → AllByRecursion (λ n. not (has_name lumps name n) ≡ true) ns → AllByRecursion (IsOther lumps name) (map copy_part ns)
unfolding part_name
called_other lumps name [] all keep = tt
called_other lumps name (n ∷ ns) all keep =
    (sym (is_lump-at (λ lump. bytes_eq lump.name name) lumps n all.0) ∙ not_true (has_name lumps name n) keep.0, called_other lumps name ns all.1 keep.1)

pub behind-other : (lumps : List Lump) (prepared : List (Option PreparedTexture)) (name : List ℕ) (label : ℕ) → map_of lumps name ≡ Some label
    → AllByRecursion (IsOther lumps name) (behind_map lumps prepared name label)
behind-other lumps prepared name label is =
    let label_is_found = label-is lumps name label is in
    let keep = λ (n : ℕ). not (has_name lumps name n) in
    all-append (IsOther lumps name) (map copy_part (range_with_len (suc label) (length MAP_LUMPS))) (map copy_part (filter keep (called_lumps lumps prepared)))
    (numbers_other lumps name label (suc label) (length MAP_LUMPS) label_is_found.0 (omega arith) (behind-there lumps label label_is_found.1))
    (called_other lumps name (filter keep (called_lumps lumps prepared))
    (all-filter (IsNumber lumps) keep (called_lumps lumps prepared) (called-there lumps prepared)) (kept-passing keep (called_lumps lumps prepared)))

label_part-name : (lumps : List Lump) (called : Bool) (label : ℕ) → part_name lumps (label_or_copy called label) ≡ (lump_at lumps label).name
unfolding part_name label_or_copy
label_part-name lumps true label = refl
label_part-name lumps false label = refl

label_part-bytes : (bytes : ℕ → List ℕ) (label : ℕ) → part_bytes bytes (label_or_copy true label) ≡ bytes label
unfolding part_bytes label_or_copy
label_part-bytes bytes label = refl

label-named : (lumps : List Lump) (name : List ℕ) (called : Bool) (label : ℕ) → map_of lumps name ≡ Some label → part_name lumps (label_or_copy called label) ≡ name
label-named lumps name called label is = label_part-name lumps called label ∙ last_of-name lumps name label (label-is lumps name label is).0

-- The map's name called as a lump gives the label with what it has in the file, which are its bytes where it is called.
pub none_called : (bytes : ℕ → List ℕ) (lumps : List Lump) (name : List ℕ) (ps : List TrimPart) → AllByRecursion (IsOther lumps name) ps → last_bytes (map (part_lump bytes lumps) ps) name ≡ None
unfolding last_bytes part_lump
none_called bytes lumps name [] all = refl
none_called bytes lumps name (p ∷ ps) all = rw (none_called bytes lumps name ps all.1, all.0) refl

one_called : (bytes : ℕ → List ℕ) (lumps : List Lump) (name : List ℕ) (p : TrimPart) (ps : List TrimPart) → part_name lumps p ≡ name
    → AllByRecursion (IsOther lumps name) ps → last_bytes (map (part_lump bytes lumps) (p ∷ ps)) name ≡ Some (part_bytes bytes p)
unfolding last_bytes part_lump
one_called bytes lumps name p ps is all =
    let part_has_name : bytes_eq (part_name lumps p) name ≡ true = (bytes_eq-Decides (part_name lumps p) name).1 is in
    rw (none_called bytes lumps name ps all, part_has_name) refl

pub map_name-called : (bytes : ℕ → List ℕ) (lumps : List Lump) (art : SceneArt) (name : List ℕ) (label : ℕ) → map_of lumps name ≡ Some label
    → last_bytes (map (part_lump bytes lumps) (trim_parts lumps art name)) name ≡ Some (part_bytes bytes (label_or_copy (is_called lumps art name) label))
map_name-called bytes lumps art name label is =
    let front = front_parts lumps art in
    let part = label_or_copy (is_called lumps art name) label in
    let parts_behind = behind_map lumps art.prepared name label in
    let lump = part_lump bytes lumps in
    ap (λ ps. last_bytes (map lump ps) name) (parts-by-map lumps art name label is)
    ∙ ap (λ ls. last_bytes ls name) (map-append lump front (part ∷ parts_behind))
    ∙ last_bytes-append (map lump front) (map lump (part ∷ parts_behind)) name
    ∙ ap (λ o. or_else o (last_bytes (map lump front) name))
    (one_called bytes lumps name part parts_behind (label-named lumps name (is_called lumps art name) label is) (behind-other lumps art.prepared name label is))

pub map_name-bytes : (bytes : ℕ → List ℕ) (lumps : List Lump) (art : SceneArt) (name : List ℕ) (label : ℕ) → map_of lumps name ≡ Some label
    → is_called lumps art name ≡ true → last_bytes (map (part_lump bytes lumps) (trim_parts lumps art name)) name ≡ Some (bytes label)
map_name-bytes bytes lumps art name label is called =
    map_name-called bytes lumps art name label is
    ∙ ap (λ b. Some (part_bytes bytes (label_or_copy b label))) called
    ∙ ap Some (label_part-bytes bytes label)

-- the place of the label in the file
abbrev pub map_place : List Lump → SceneArt → ℕ
map_place lumps art = length (front_parts lumps art)

module _ (bytes : ℕ → List ℕ) (lumps : List Lump) (front : List TrimPart) (label : ℕ) (p : TrimPart) (called : List TrimPart) where
  pub row-at : (k : ℕ) → k < length MAP_LUMPS → part_at (front ++ p ∷ (map copy_part (range_with_len (suc label) (length MAP_LUMPS)) ++ called)) (suc (length front) + k) ≡ copy_part (suc label + k)
  row-at k lt =
      let numbers = range_with_len (suc label) (length MAP_LUMPS) in
      let all_parts = front ++ p ∷ (map copy_part numbers ++ called) in
      let count : length numbers ≡ length MAP_LUMPS = refl in
      (let same_place : suc (length front) + k ≡ length front + suc k = omega arith in ap (part_at all_parts) same_place)
      ∙ part_at-behind front (p ∷ (map copy_part numbers ++ called)) (suc k)
      ∙ part_at-copied numbers called k (omega arith)
      ∙ ap copy_part (get_or-range_with_len (suc label) (length MAP_LUMPS) k 0 lt)

  third-at : part_at (front ++ p ∷ (map copy_part (range_with_len (suc label) (length MAP_LUMPS)) ++ called)) (length front + BEHAVIOR_AFTER) ≡ part_at called 2
  third-at =
      let row = map copy_part (range_with_len (suc label) (length MAP_LUMPS)) in
      part_at-behind front (p ∷ (row ++ called)) BEHAVIOR_AFTER ∙ part_at-behind row called 2

  label-whole : (file m : ℕ) → are_named lumps file (suc label) MAP_LUMPS ≡ true → part_at called 2 ≡ copy_part m → bytes_eq (lump_at lumps m).name BEHAVIOR ≡ false
      → is_label (stored_from HEAD_SIZE (map (part_lump bytes lumps) (front ++ p ∷ (map copy_part (range_with_len (suc label) (length MAP_LUMPS)) ++ called)))) (length front) ≡ true
  unfolding is_label
  label-whole file m named is differ =
      let all_parts = front ++ p ∷ (map copy_part (range_with_len (suc label) (length MAP_LUMPS)) ++ called) in
      let new_lumps = stored_from HEAD_SIZE (map (part_lump bytes lumps) all_parts) in
      let in_file : (lump_at new_lumps (length front)).file ≡ 0 = stored-file bytes lumps HEAD_SIZE all_parts (length front) in
      let row : are_named new_lumps 0 (suc (length front)) MAP_LUMPS ≡ true = copied-row bytes lumps all_parts file (suc (length front)) (suc label) MAP_LUMPS named (λ k lt. row-at k lt) in
      let no_behavior : is_named_in new_lumps 0 BEHAVIOR (length front + BEHAVIOR_AFTER) ≡ false =
      copied-named bytes lumps all_parts (length front + BEHAVIOR_AFTER) m BEHAVIOR (third-at ∙ is) ∙ differ in
      rw (in_file, row, no_behavior) refl

if_whole : (ls : List Lump) (n : ℕ) → is_label ls n ≡ true → if_label ls n ≡ Some n
if_whole ls n e = rw e refl

-- The map of the trimmed file is the label of part 3.
pub trimmed-map : (bytes : ℕ → List ℕ) (lumps : List Lump) (art : SceneArt) (name : List ℕ) (label p c n t : ℕ) → map_of lumps name ≡ Some label
    → HasFixed lumps p c n t → map_of (trimmed_lumps bytes lumps (trim_parts lumps art name)) name ≡ Some (map_place lumps art)
unfolding trimmed_lumps stored_lumps is_label
trimmed-map bytes lumps art name label p c n t is has =
    let front = front_parts lumps art in
    let part = label_or_copy (is_called lumps art name) label in
    let keep = λ (k : ℕ). not (has_name lumps name k) in
    let called_copies = map copy_part (filter keep (called_lumps lumps art.prepared)) in
    let behind = behind_map lumps art.prepared name label in
    let label_is_found = label-is lumps name label is in
    let lumps_named : are_named lumps (lump_at lumps label).file (suc label) MAP_LUMPS ≡ true = (and_parts _ _ label_is_found.1).0 in
    let four_called = called-first lumps art.prepared p c n t has in
    let third_called = third_step keep p c n t four_called.0 (keep p) (keep c) (keep n) (keep t) refl refl refl refl
    (two_names lumps name PLAYPAL COLORMAP p c has.playpal has.colormap refl)
    (two_names lumps name PLAYPAL PNAMES p n has.playpal has.pnames refl)
    (two_names lumps name PLAYPAL TEXTURE1 p t has.playpal has.texture1 refl)
    (two_names lumps name COLORMAP PNAMES c n has.colormap has.pnames refl)
    (two_names lumps name COLORMAP TEXTURE1 c t has.colormap has.texture1 refl)
    (two_names lumps name PNAMES TEXTURE1 n t has.pnames has.texture1 refl) in
    let whole : is_label (stored_from HEAD_SIZE (map (part_lump bytes lumps) (front ++ part ∷ behind))) (length front) ≡ true = elim third_called [
      | inl e ↦ label-whole bytes lumps front label part called_copies (lump_at lumps label).file n lumps_named
          (ap (λ ks. part_at (map copy_part (filter keep ks)) 2) four_called.1 ∙ e)
          (ap (λ k. bytes_eq k BEHAVIOR) (last_of-name lumps PNAMES n has.pnames))
      | inr e ↦ label-whole bytes lumps front label part called_copies (lump_at lumps label).file t lumps_named
          (ap (λ ks. part_at (map copy_part (filter keep ks)) 2) four_called.1 ∙ e)
          (ap (λ k. bytes_eq k BEHAVIOR) (last_of-name lumps TEXTURE1 t has.texture1))
    ] in
    let last : last_of (stored_from HEAD_SIZE (map (part_lump bytes lumps) (front ++ part ∷ behind))) name ≡ Some (length front) =
    last-part bytes lumps name front part behind (label-named lumps name (is_called lumps art name) label is) (behind-other lumps art.prepared name label is) in
    ap (λ ps. map_of (stored_from HEAD_SIZE (map (part_lump bytes lumps) ps)) name) (parts-by-map lumps art name label is)
    ∙ ap (option_and_then (if_label (stored_from HEAD_SIZE (map (part_lump bytes lumps) (front ++ part ∷ behind))))) last
    ∙ if_whole (stored_from HEAD_SIZE (map (part_lump bytes lumps) (front ++ part ∷ behind))) (length front) whole
