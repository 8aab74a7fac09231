-- The last lump of a name, where lumps stand one after the other in a new file.
use Rattle.art_rules.proofs.Common.{[], ap, arith, Bool, bytes_eq, cond, false, length, List, None, Option, option_map, or_else-assoc, or_else-none_right, refl, slice_index_or, Some, suc, sym, true, zero, ℕ, ◌++◌, ◌+◌, ◌<◌, ◌∙◌, ◌∷◌, ◌≡◌}
use Rattle.trim_rules.specs.Rules.{greatest, has_name, last_of, or_else}
use Rattle.made_rules.specs.Wads as made
use Rattle.trim_rules.specs.Files.{stored_from}

-- the bytes of the last of these lumps that has the name
unfoldable pub last_bytes : List made.Lump → List ℕ → Option (List ℕ)
last_bytes [] name = None
last_bytes (lump ∷ rest) name = or_else (last_bytes rest name) (cond (bytes_eq lump.name name) (Some lump.bytes) None)

-- of two lists the second counts
pub last_bytes-append : (xs ys : List made.Lump) (name : List ℕ)
    → last_bytes (xs ++ ys) name ≡ or_else (last_bytes ys name) (last_bytes xs name)
unfolding last_bytes
last_bytes-append [] ys name = sym (or_else-none_right (last_bytes ys name))
last_bytes-append (x ∷ xs) ys name =
    ap (λ o. or_else o (cond (bytes_eq x.name name) (Some x.bytes) None)) (last_bytes-append xs ys name)
    ∙ sym (or_else-assoc (last_bytes ys name) (last_bytes xs name) (cond (bytes_eq x.name name) (Some x.bytes) None))

-- the greatest of numbers of which the first is 0
front_step : (n : ℕ) (b c : Bool) (o : Option ℕ)
    → cond b (Some (suc n)) (or_else (option_map (λ k. suc k) o) (cond c (Some 0) None))
    ≡ or_else (option_map (λ k. suc k) (cond b (Some n) o)) (cond c (Some 0) None)
front_step n true c o = refl
front_step n false c o = refl

pub greatest-front : (p : ℕ → Bool) (n : ℕ)
    → greatest p (suc n) ≡ or_else (option_map (λ k. suc k) (greatest (λ k. p (suc k)) n)) (cond (p 0) (Some 0) None)
unfolding greatest
greatest-front p zero = refl
greatest-front p (suc n) =
    ap (λ o. cond (p (suc n)) (Some (suc n)) o) (greatest-front p n)
    ∙ front_step n (p (suc n)) (p 0) (greatest (λ k. p (suc k)) n)

named_step : (b : ℕ → List ℕ) (o : Option ℕ) (c : Bool)
    → option_map b (or_else (option_map (λ k. suc k) o) (cond c (Some 0) None))
    ≡ or_else (option_map (λ k. b (suc k)) o) (cond c (Some (b 0)) None)
named_step b None true = refl
named_step b None false = refl
named_step b (Some k) c = refl

-- a function gives the bytes of each of these lumps
abbrev pub GivesBytesOf : (ℕ → List ℕ) → List made.Lump → Type 0
GivesBytesOf b lumps = (d : made.Lump) (k : ℕ) → k < length lumps → b k ≡ (slice_index_or lumps k d).bytes

-- by the directory the last lump of a name has the bytes of the last that was put
pub last_of-stored : (b : ℕ → List ℕ) (place : ℕ) (lumps : List made.Lump) (name : List ℕ) → GivesBytesOf b lumps
    → option_map b (last_of (stored_from place lumps) name) ≡ last_bytes lumps name
unfolding last_bytes stored_from greatest
last_of-stored b place [] name gives = refl
last_of-stored b place (lump ∷ rest) name gives =
    let stored_rest = stored_from (place + length lump.bytes) rest in
    let all_lumps = stored_from place (lump ∷ rest) in
    ap (option_map b) (greatest-front (has_name all_lumps name) (length stored_rest))
    ∙ named_step b (last_of stored_rest name) (bytes_eq lump.name name)
    ∙ ap (λ o. or_else o (cond (bytes_eq lump.name name) (Some (b 0)) None))
    (last_of-stored (λ k. b (suc k)) (place + length lump.bytes) rest name (λ d k lt. gives d (suc k) (omega arith)))
    ∙ ap (λ bytes. or_else (last_bytes rest name) (cond (bytes_eq lump.name name) (Some bytes) None)) (gives lump 0 (omega arith))
