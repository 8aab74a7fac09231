-- The lumps of a group, as a walk finds them.
use Rattle.word_rules.proofs.Common.{[], add-one, ap, append-nil, arith, Bool, cond, Err, false, filter, filter-append, get_or, IfOk, length, List, map, map-append, map-id, map-range_with_len_more, None, not, Ok, Option, range_with_len, refl, Result, slice_get, Some, suc, sym, true, zero, zero-add, ℕ, ◌&&◌, ◌++◌, ◌+◌, ◌<◌, ◌==◌, ◌||◌, ◌∙◌, ◌∷◌, ◌≡◌}
use Rattle.wad_dir.specs.Rules.{Flats, Group, Lump, LumpNo, flat_of, greatest, has_name, is_end, is_lump, is_member, is_start, listed, mark_before, members, starts_in}
use Rattle.word_rules.proofs.ListedLemmas.{get_or-listed, listed-more}
use Rattle.std.specs.declared.vec.Vec.{Vec}
use Rattle.wad_dir.specs.Indexes.{is_grouped}
use Rattle.wad_dir.proofs.IndexLemmas.{greatest_agrees}

-- the three cases of a mark
mark_cases : (group : Group) (lumps : List Lump) (i file at_file : ℕ) (starts ends : Bool) (before found : Option ℕ) →
    starts_in group lumps file (Some i) ≡ (starts && at_file == file) → is_grouped before file ≡ starts_in group lumps file found →
    is_grouped (cond starts (Some at_file) (cond ends None before)) file ≡ starts_in group lumps file (cond (starts || ends) (Some i) found)
mark_cases group lumps i file at_file true ends before found at so_far = sym at
mark_cases group lumps i file at_file false true before found at so_far = sym at
mark_cases group lumps i file at_file false false before found at so_far = so_far

-- the open group after a lump
pub grouped_step : (group : Group) (lumps : List Lump) (i file : ℕ) (lump : Lump) (before next : Option ℕ) → slice_get lumps i ≡ Some lump →
    next ≡ cond (is_start group lump.name) (Some lump.file) (cond (is_end group lump.name) None before) →
    is_grouped before file ≡ starts_in group lumps file (mark_before group lumps i) →
    is_grouped next file ≡ starts_in group lumps file (mark_before group lumps (i + 1))
unfolding greatest
grouped_step group lumps i file lump before next at is so_far =
    let mark : is_lump (λ lump. is_start group lump.name || is_end group lump.name) lumps i ≡ (is_start group lump.name || is_end group lump.name) = rw at refl in
    rw (is, add-one, mark) (mark_cases group lumps i file lump.file (is_start group lump.name) (is_end group lump.name) before (mark_before group lumps i) (rw at refl) so_far)

-- whether a lump stands in the group
pub member_step : (group : Group) (lumps : List Lump) (i : ℕ) (lump : Lump) (before : Option ℕ) (old new : List Bool) (inside : Bool) → slice_get lumps i ≡ Some lump →
    inside ≡ (not (is_end group lump.name) && is_grouped before lump.file) → is_grouped before lump.file ≡ starts_in group lumps lump.file (mark_before group lumps i) →
    new ≡ old ++ inside ∷ [] → old ≡ listed (is_member group lumps) i → new ≡ listed (is_member group lumps) (i + 1)
member_step group lumps i lump before old new inside at test grouped pushed so_far =
    let member_is : inside ≡ is_member group lumps i = test ∙ ap (λ b. not (is_end group lump.name) && b) grouped ∙ sym (rw at refl) in
    rw (pushed, so_far, member_is) (sym (listed-more (is_member group lumps) i))

-- where the members are marked, the last flat of a name is found
pub flats_marked : (marked : List Bool) (lumps : List Lump) (name : List ℕ) → marked ≡ listed (is_member Flats lumps) (length lumps) →
    greatest (λ number. get_or marked number false && has_name lumps name number) (length lumps) ≡ flat_of lumps name
flats_marked marked lumps name e =
    greatest_agrees _ _ (length lumps) (λ k lt. ap (λ b. b && has_name lumps name k)
    (ap (λ v. get_or v k false) e ∙ get_or-listed (is_member Flats lumps) (length lumps) k false lt))

range_more : (n : ℕ) → range_with_len 0 (n + 1) ≡ range_with_len 0 n ++ n ∷ []
range_more n =
    sym (map-id (range_with_len 0 (n + 1))) ∙ map-range_with_len_more (λ (k : ℕ). k) 0 n n (zero-add n) ∙ ap (λ v. v ++ n ∷ []) (map-id (range_with_len 0 n))

filter_last : (p : ℕ → Bool) (n : ℕ) → filter p (range_with_len 0 (suc n)) ≡ filter p (range_with_len 0 n) ++ cond (p n) (n ∷ []) []
filter_last p n = ap (λ k. filter p (range_with_len 0 k)) (sym (add-one n)) ∙ ap (filter p) (range_more n) ∙ filter-append p (range_with_len 0 n) (n ∷ [])

-- two tests that agree on each number below n
filter_agrees : (p q : ℕ → Bool) (n : ℕ) → ((k : ℕ) → k < n → p k ≡ q k) → filter p (range_with_len 0 n) ≡ filter q (range_with_len 0 n)
filter_agrees p q zero agree = refl
filter_agrees p q (suc n) agree =
    let filters_same : filter p (range_with_len 0 n) ++ cond (p n) (n ∷ []) [] ≡ filter q (range_with_len 0 n) ++ cond (q n) (n ∷ []) [] =
    rw (agree n (omega arith), filter_agrees p q n (λ k lt. agree k (omega arith))) refl in
    filter_last p n ∙ filters_same ∙ sym (filter_last q n)

-- where the members are marked, the marked numbers are theirs
pub members_marked : (group : Group) (marked : List Bool) (lumps : List Lump) → length marked ≡ length lumps → marked ≡ listed (is_member group lumps) (length lumps) →
    filter (λ number. get_or marked number false) (range_with_len 0 (length marked)) ≡ members group lumps
unfolding members
members_marked group marked lumps many e =
    ap (λ n. filter (λ number. get_or marked number false) (range_with_len 0 n)) many
    ∙ filter_agrees _ _ (length lumps) (λ k lt. ap (λ v. get_or v k false) e ∙ get_or-listed (is_member group lumps) (length lumps) k false lt)

-- a number that is not marked changes nothing
pub not_listed : (marked : List Bool) (i : ℕ) (found : List LumpNo) → get_or marked i false ≡ false →
    map (λ (lump : LumpNo). lump.0) found ≡ filter (λ number. get_or marked number false) (range_with_len 0 i) →
    map (λ (lump : LumpNo). lump.0) found ≡ filter (λ number. get_or marked number false) (range_with_len 0 (i + 1))
not_listed marked i found is_marked so_far =
    so_far ∙ rw (range_more, filter-append, is_marked) (sym (append-nil _))

-- a marked number more
pub listed_more : (marked : List Bool) (i : ℕ) (old new : List LumpNo) (lump : LumpNo) → get_or marked i false ≡ true → lump.0 ≡ i → new ≡ old ++ lump ∷ [] →
    map (λ (lump : LumpNo). lump.0) old ≡ filter (λ number. get_or marked number false) (range_with_len 0 i) →
    map (λ (lump : LumpNo). lump.0) new ≡ filter (λ number. get_or marked number false) (range_with_len 0 (i + 1))
listed_more marked i old new lump is_marked is pushed so_far =
    rw (pushed, map-append, so_far, is, range_more, filter-append, is_marked) refl

-- two lists of numbers that are one
pub numbers_alike : {A E : Type 0} (result : Result (Vec LumpNo A) E) (xs ys : List ℕ) → xs ≡ ys →
    IfOk result (λ found. map (λ (lump : LumpNo). lump.0) found.items ≡ xs) → IfOk result (λ found. map (λ (lump : LumpNo). lump.0) found.items ≡ ys)
numbers_alike (Ok found) xs ys alike told = told ∙ alike
numbers_alike (Err fault) xs ys alike told = tt
