-- The names of lumps of a directory are spelled as a directory spells them, so that they may be put into a new file.
use Rattle.art_rules.proofs.Common.{[], All, All-append, All-nil, AllByRecursion, ap, arith, before_first, Bool, cond, Decides-eqb, drop, false, length, length-append, length-map, length-replicate, length-take, List, ltb-false, map, min, nat_lt, Ok, refl, replicate, subst, suc, sym, take, to_ascii_uppercase, true, uppercase-uppercase, zero, ℕ, ◌++◌, ◌+◌, ◌-◌, ◌<◌, ◌==◌, ◌∙◌, ◌∷◌, ◌≡◌, ◌≤◌}
use Rattle.art_rules.proofs.Laws.{get_or-listed, lumps_in-length, unless_refused_ok}
use Rattle.trim_rules.specs.Rules.{F_END, F_START, Lump, S_END, S_START, SceneArt, directory, entries_in, entry_at, entry_count, file_lumps, filled, header, lump_at, lump_in, lumps_from, lumps_in, name_of, no_lump, refusal_from}
use Rattle.trim_rules.specs.declared.part.TrimPart.{TrimPart}
use Rattle.trim_rules.specs.declared.part.TrimPart.TheVariants.{Mark}
use Rattle.trim_rules.specs.Parts.{copy_part, label_part, part_name, trim_parts}
use Rattle.trim_rules.specs.Files.{part_lump}
use Rattle.trim_rules.proofs.{LayoutLemmas.IsSpelled, ThereLemmas.parts-all}

-- a name as a directory spells it
pub record IsName (name : List ℕ) : Type 0 where
  pub size : length name ≡ 8
  pub same : name_of name ≡ name

abbrev is_end_byte : ℕ → Bool
is_end_byte byte = byte == 0

one_more : (n x : ℕ) (xs : List ℕ) → take (1 + n) (x ∷ xs) ≡ x ∷ take n xs
one_more n x xs = let is_suc : 1 + n ≡ suc n = omega arith in ap (λ k. take k (x ∷ xs)) is_suc

first_step : (x : ℕ) (xs : List ℕ) (b : Bool) → is_end_byte x ≡ b → before_first is_end_byte (x ∷ xs) ≡ cond b [] (x ∷ before_first is_end_byte xs)
first_step x xs true e = rw e refl
first_step x xs false e = rw e (one_more _ x xs)

abbrev IsLetter : ℕ → Type 0
IsLetter x = is_end_byte x ≡ false

letters_step : (x : ℕ) (xs : List ℕ) (b : Bool) → is_end_byte x ≡ b → AllByRecursion IsLetter xs → AllByRecursion IsLetter (cond b [] (x ∷ xs))
letters_step x xs true e all = tt
letters_step x xs false e all = (e, all)

letters : (xs : List ℕ) → AllByRecursion IsLetter (before_first is_end_byte xs)
letters [] = tt
letters (x ∷ xs) =
    subst (AllByRecursion IsLetter) (sym (first_step x xs (is_end_byte x) refl)) (letters_step x (before_first is_end_byte xs) (is_end_byte x) refl (letters xs))

-- letters, and bytes 0 behind them
before-zeros : (ys : List ℕ) (k : ℕ) → AllByRecursion IsLetter ys → before_first is_end_byte (ys ++ replicate k 0) ≡ ys
before-zeros [] zero all = refl
before-zeros [] (suc k) all = refl
before-zeros (y ∷ ys) k all =
    first_step y (ys ++ replicate k 0) false all.0 ∙ ap (λ zs. y ∷ zs) (before-zeros ys k all.1)

-- a capital is no byte 0
upper_step : (c : ℕ) (a b : Bool) → nat_lt c 97 ≡ a → nat_lt c 123 ≡ b → cond a c (cond b (c - 32) c) ≡ 0 → c ≡ 0
upper_step c true b is js e = e
upper_step c false true is js e = omega (arith, ltb-false)
upper_step c false false is js e = e

upper_zero : (c : ℕ) → to_ascii_uppercase c ≡ 0 → c ≡ 0
upper_zero c e = upper_step c (nat_lt c 97) (nat_lt c 123) refl refl e

letter_step : (c : ℕ) (b : Bool) → (to_ascii_uppercase c == 0) ≡ b → IsLetter c → b ≡ false
letter_step c false e is = refl
letter_step c true e is =
    let letter_is_zero : c ≡ 0 = upper_zero c ((Decides-eqb (to_ascii_uppercase c) 0).0 e) in
    let impossible : true ≡ false = sym ((Decides-eqb c 0).1 letter_is_zero) ∙ is in absurd (cc)

capitals : (xs : List ℕ) → AllByRecursion IsLetter xs → AllByRecursion IsLetter (map to_ascii_uppercase xs)
capitals [] all = tt
capitals (x ∷ xs) all = (letter_step x (to_ascii_uppercase x == 0) refl all.0, capitals xs all.1)

capitals-again : (xs : List ℕ) → map to_ascii_uppercase (map to_ascii_uppercase xs) ≡ map to_ascii_uppercase xs
capitals-again [] = refl
capitals-again (x ∷ xs) = rw (uppercase-uppercase x, capitals-again xs) refl

-- a filled text of eight letters at most is a name
filled-name : (text : List ℕ) → AllByRecursion IsLetter text → length text ≤ 8 → IsName (filled text)
unfolding filled
filled-name text all le =
    let upper = map to_ascii_uppercase text in
    let count : length upper ≡ length text = length-map text to_ascii_uppercase in
    record {
      size = length-append upper (replicate (8 - length text) 0) ∙ rw (length-map, length-replicate) (omega arith);
      same =
          ap filled (before-zeros upper (8 - length text) (capitals text all))
          ∙ ap (λ xs. xs ++ replicate (8 - length upper) 0) (capitals-again text)
          ∙ ap (λ n. upper ++ replicate (8 - n) 0) count;
    }

before_step : (x : ℕ) (xs : List ℕ) (b : Bool) → is_end_byte x ≡ b → length (before_first is_end_byte xs) ≤ length xs →
    length (before_first is_end_byte (x ∷ xs)) ≤ suc (length xs)
before_step x xs true e le = let none_left : length (before_first is_end_byte (x ∷ xs)) ≡ 0 = ap length (first_step x xs true e) in omega arith
before_step x xs false e le =
    let grows_one : length (before_first is_end_byte (x ∷ xs)) ≡ suc (length (before_first is_end_byte xs)) = ap length (first_step x xs false e) in omega arith

before-length : (xs : List ℕ) → length (before_first is_end_byte xs) ≤ length xs
before-length [] = omega arith
before-length (x ∷ xs) = before_step x xs (is_end_byte x) refl (before-length xs)

pub name_of-name : (bytes : List ℕ) → length bytes ≤ 8 → IsName (name_of bytes)
name_of-name bytes le =
    let prefix_not_longer : length (before_first is_end_byte bytes) ≤ length bytes = before-length bytes in
    filled-name (before_first is_end_byte bytes) (letters bytes) (omega arith)

abbrev IsNamed : Lump → Type 0
IsNamed lump = IsName lump.name

taken : (xs : List ℕ) → length (take 8 xs) ≤ 8
taken xs = let length_is : length (take 8 xs) ≡ min 8 (length xs) = length-take 8 xs in omega arith

entry_named : (file : ℕ) (entry : List ℕ) → IsNamed (lump_in file entry)
entry_named file entry = name_of-name (take 8 (drop 8 entry)) (taken (drop 8 entry))

in_named : (file count : ℕ) (entries : List ℕ) → All IsNamed (lumps_in file count entries)
unfolding lumps_in
in_named file count entries k d lt =
    let inside : k < count = omega (arith, lumps_in-length file count entries) in
    subst IsNamed (sym (get_or-listed (λ (index : ℕ). lump_in file (entry_at entries index)) count k d inside)) (entry_named file (entry_at entries k))

file_named : (file : ℕ) (bytes : List ℕ) → All IsNamed (file_lumps file bytes)
unfolding file_lumps
file_named file bytes = in_named file (entry_count (header bytes)) (entries_in (header bytes) bytes)

from_named : (file : ℕ) (contents : List (List ℕ)) → All IsNamed (lumps_from file contents)
unfolding lumps_from
from_named file [] = All-nil IsNamed
from_named file (bytes ∷ rest) = All-append IsNamed (file_lumps file bytes) (lumps_from (suc file) rest) (file_named file bytes) (from_named (suc file) rest)

-- The name of each lump of a directory is one.
pub directory-named : (contents : List (List ℕ)) (lumps : List Lump) → directory contents ≡ Ok lumps → (n : ℕ) → n < length lumps →
    IsName (lump_at lumps n).name
directory-named contents lumps e n lt =
    let lumps_are = (unless_refused_ok (refusal_from 0 0 contents) (lumps_from 0 contents) lumps e).1 in
    subst (All IsNamed) lumps_are (from_named 0 contents) n no_lump lt

-- the names of parts
abbrev IsNamedPart : List Lump → TrimPart → Type 0
IsNamedPart lumps p = IsName (part_name lumps p)

mark_named : (lumps : List Lump) (name : List ℕ) → length name ≡ 8 → name_of name ≡ name → IsNamedPart lumps (Mark name)
unfolding part_name
mark_named lumps name size same = record { size = size; same = same }

copy_named : (lumps : List Lump) (n : ℕ) → IsName (lump_at lumps n).name → IsNamedPart lumps (copy_part n)
unfolding part_name
copy_named lumps n is = is

label_named : (lumps : List Lump) (n : ℕ) → IsName (lump_at lumps n).name → IsNamedPart lumps (label_part n)
unfolding part_name
label_named lumps n is = is

put_spelled : (bytes : ℕ → List ℕ) (lumps : List Lump) (parts : List TrimPart) → AllByRecursion (IsNamedPart lumps) parts →
    AllByRecursion IsSpelled (map (part_lump bytes lumps) parts)
unfolding part_lump
put_spelled bytes lumps [] all = tt
put_spelled bytes lumps (p ∷ parts) all = (record { size = all.0.size; name = all.0.same }, put_spelled bytes lumps parts all.1)

-- The lumps of the trimmed file are spelled as a directory spells them.
pub trimmed-spelled : (bytes : ℕ → List ℕ) (contents : List (List ℕ)) (lumps : List Lump) (art : SceneArt) (name : List ℕ) → directory contents ≡ Ok lumps
    → AllByRecursion IsSpelled (map (part_lump bytes lumps) (trim_parts lumps art name))
unfolding filled
trimmed-spelled bytes contents lumps art name e =
    put_spelled bytes lumps (trim_parts lumps art name)
    (parts-all lumps (IsNamedPart lumps) (λ n lt. copy_named lumps n (directory-named contents lumps e n lt)) art name
    (mark_named lumps F_START refl refl) (mark_named lumps F_END refl refl) (mark_named lumps S_START refl refl) (mark_named lumps S_END refl refl) (λ n lt. label_named lumps n (directory-named contents lumps e n lt)))
