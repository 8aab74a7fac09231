-- Laws of `greatest`, and an index as it grows.
use Rattle.word_rules.proofs.Common.{add-one, ap, arith, Bool, BTreeMap, bytes_eq, Err, false, get_or, get_or-replicate, IfOk, IfSome, is_eq, length, List, nat_cmp, None, Ok, Option, option_map, refl, replicate, Result, slice_cmp, slice_get, Some, suc, sym, texts_ties, true, Updates, zero, ℕ, ◌&&◌, ◌+◌, ◌<◌, ◌∙◌, ◌≡◌}
use Rattle.wad_dir.specs.Rules.{Lump, LumpNo, greatest, has_name, last_of}
use Rattle.word_rules.proofs.LeastLemmas.{greatest-is}
use Rattle.wad_dir.specs.Indexes.{indexed}

-- two tests that agree on each number below n
pub greatest_agrees : (p q : ℕ → Bool) (n : ℕ) → ((k : ℕ) → k < n → p k ≡ q k) → greatest p n ≡ greatest q n
unfolding greatest
greatest_agrees p q zero agree = refl
greatest_agrees p q (suc n) agree =
    rw (agree n (omega arith), greatest_agrees p q n (λ k lt. agree k (omega arith))) refl

-- a lump that was found is there
pub found_there : (p : ℕ → Bool) (n : ℕ) (found : Option LumpNo) → option_map (λ (lump : LumpNo). lump.0) found ≡ greatest p n → IfSome found (λ lump. lump.0 < n)
found_there p n None e = tt
found_there p n (Some lump) e = (greatest-is p n lump.0 (sym e)).0

-- a name was put into the index
pub name_indexed : (marked : List Bool) (lumps : List Lump) (i : ℕ) (lump : Lump) (key name : List ℕ) (old new : BTreeMap (List ℕ) ℕ) →
    slice_get lumps i ≡ Some lump → get_or marked i false ≡ true → key ≡ lump.name → Updates (slice_cmp nat_cmp) old new key (Some i) →
    indexed old name ≡ greatest (λ number. get_or marked number false && has_name lumps name number) i →
    indexed new name ≡ greatest (λ number. get_or marked number false && has_name lumps name number) (i + 1)
unfolding greatest
name_indexed marked lumps i lump key name old new at is_marked is_key updates so_far =
    let names_same : is_eq (slice_cmp nat_cmp key name) ≡ bytes_eq lump.name name = sym (texts_ties key name) ∙ ap (λ k. bytes_eq k name) is_key in
    updates.0 name ∙ rw (add-one, names_same, so_far, at, is_marked) refl

-- where each lump is marked, the last of a name is found
pub all_marked : (marked : List Bool) (lumps : List Lump) (name : List ℕ) → marked ≡ replicate (length lumps) true →
    greatest (λ number. get_or marked number false && has_name lumps name number) (length lumps) ≡ last_of lumps name
all_marked marked lumps name e =
    greatest_agrees _ _ (length lumps) (λ k lt. ap (λ b. b && has_name lumps name k) (ap (λ v. get_or v k false) e ∙ get_or-replicate (length lumps) k true false lt))

-- an index tells the same by two definitions that agree
pub indexed_alike : {E : Type 0} (result : Result (BTreeMap (List ℕ) ℕ) E) (p q : List ℕ → Option ℕ) → ((name : List ℕ) → p name ≡ q name) →
    IfOk result (λ index. (name : List ℕ) → indexed index name ≡ p name) → IfOk result (λ index. (name : List ℕ) → indexed index name ≡ q name)
indexed_alike (Ok index) p q alike told = λ name. told name ∙ alike name
indexed_alike (Err fault) p q alike told = tt
