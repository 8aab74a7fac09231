-- The names of a map's lumps, one after the other.
use Rattle.word_rules.proofs.Common.{[], add-one, add-suc, and_parts, arith, Bool, drop, drop-cons, drop_all, false, get_or, length, List, refl, slice_get_cases, suc, sym, true, ℕ, ⊎_elim, ◌+◌, ◌<◌, ◌∙◌, ◌∷◌, ◌≡◌, ◌≤◌}
use Rattle.wad_dir.specs.Rules.{Lump, are_named, is_lump, is_named_in}

-- one name more was found
pub named_more : (lumps : List Lump) (file first i : ℕ) (names : List (List ℕ)) (found : Bool) → i < length names →
    is_named_in lumps file (get_or names i []) (first + i) ≡ true → found ≡ are_named lumps file (first + i) (drop i names) →
    found ≡ are_named lumps file (first + (i + 1)) (drop (i + 1) names)
unfolding are_named
named_more lumps file first i names found lt is so_far =
    so_far ∙ rw (drop-cons names i [] lt, is, add-one, add-suc) refl

-- a name was not found
pub named_not : (lumps : List Lump) (file first i : ℕ) (names : List (List ℕ)) (found : Bool) → i < length names →
    is_named_in lumps file (get_or names i []) (first + i) ≡ false → found ≡ are_named lumps file (first + i) (drop i names) → false ≡ found
unfolding are_named
named_not lumps file first i names found lt is so_far =
    sym (so_far ∙ rw (drop-cons names i [] lt, is) refl)

-- all names were found
pub named_all : (lumps : List Lump) (file first i : ℕ) (names : List (List ℕ)) (found : Bool) → length names ≤ i →
    found ≡ are_named lumps file (first + i) (drop i names) → true ≡ found
unfolding are_named
named_all lumps file first i names found le so_far =
    sym (so_far ∙ rw (drop_all i names le) refl)

there : (passes : Lump → Bool) (lumps : List Lump) (number : ℕ) → is_lump passes lumps number ≡ true → number < length lumps
there passes lumps number is =
    ⊎_elim (λ h. h.1) (λ h. absurd (let false_is_true : false ≡ true = sym (rw h.1 refl) ∙ is in cc)) (slice_get_cases lumps number).1

-- lumps that have names are there
pub named_within : (lumps : List Lump) (file number : ℕ) (names : List (List ℕ)) → number ≤ length lumps → are_named lumps file number names ≡ true →
    number + length names ≤ length lumps
unfolding are_named
named_within lumps file number [] le are = omega arith
named_within lumps file number (name ∷ names) le are =
    let both_named = and_parts (is_named_in lumps file name number) (are_named lumps file (suc number) names) are in
    let number_within : number < length lumps = there _ lumps number both_named.0 in
    let rest_within : suc number + length names ≤ length lumps = named_within lumps file (suc number) names (omega arith) both_named.1 in
    omega arith
