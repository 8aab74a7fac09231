-- Where a directory has one start and one end of a group, the lumps between them are the group.
use Rattle.art_rules.proofs.Common.{[], ap, append-nil, arith, Bool, cases_lt, false, filter, filter-append, inl, inr, length, List, None, not, or-false_false, or-true_right, range_with_len, refl, Some, suc, true, zero, zero-add, ℕ, ◌&&◌, ◌++◌, ◌+◌, ◌-◌, ◌<◌, ◌==◌, ◌||◌, ◌∙◌, ◌∷◌, ◌≡◌, ◌≤◌}
use Rattle.art_rules.proofs.Laws.{greatest-none, greatest-some}
use Rattle.trim_rules.specs.Rules.{Group, Lump, is_end, is_lump, is_member, is_start, lump_at, mark_before, members, starts_in}

-- a lump that is there passes where its record does
pub is_lump-at : (passes : Lump → Bool) (lumps : List Lump) (n : ℕ) → n < length lumps → is_lump passes lumps n ≡ passes (lump_at lumps n)
is_lump-at passes [] n lt = absurd (omega arith)
is_lump-at passes (l ∷ ls) zero lt = refl
is_lump-at passes (l ∷ ls) (suc n) lt = is_lump-at passes ls n (omega arith)

-- A directory of one file has one start and one end of a group, with so many lumps between them.
pub record HasGroup (group : Group) (lumps : List Lump) (start count : ℕ) : Type 0 where
  pub inside : start + suc count < length lumps
  pub files : (k : ℕ) → k < length lumps → (lump_at lumps k).file ≡ 0
  pub starts : is_start group (lump_at lumps start).name ≡ true
  pub ends : is_end group (lump_at lumps (start + suc count)).name ≡ true
  pub no_start : (k : ℕ) → k < length lumps → start < k → is_start group (lump_at lumps k).name ≡ false
  pub no_end : (k : ℕ) → k < length lumps → start < k → k < start + suc count → is_end group (lump_at lumps k).name ≡ false
  pub before : (k : ℕ) → k < start → (is_start group (lump_at lumps k).name || is_end group (lump_at lumps k).name) ≡ false
  pub behind : (k : ℕ) → k < length lumps → start + suc count < k → (is_start group (lump_at lumps k).name || is_end group (lump_at lumps k).name) ≡ false

module _ (group : Group) (lumps : List Lump) (start count : ℕ) (has : HasGroup group lumps start count) where
  -- the nearest mark before a lump between the two
  pub between-mark : (n : ℕ) → start < n → n ≤ start + suc count → mark_before group lumps n ≡ Some start
  between-mark n after upto =
      greatest-some (is_lump (λ lump. is_start group lump.name || is_end group lump.name) lumps) n start after
      (let start_inside : start < length lumps = omega (arith, has.inside) in
      is_lump-at (λ lump. is_start group lump.name || is_end group lump.name) lumps start start_inside ∙ rw has.starts refl)
      (λ k above below.
      let lump_inside : k < length lumps = omega (arith, has.inside) in
      let before_end : k < start + suc count = omega arith in
      is_lump-at (λ lump. is_start group lump.name || is_end group lump.name) lumps k lump_inside
      ∙ or-false_false _ _ (has.no_start k lump_inside above) (has.no_end k lump_inside above before_end))

  -- those between them are of the group
  pub between-member : (n : ℕ) → start < n → n < start + suc count → is_member group lumps n ≡ true
  between-member n after below =
      let lump_inside : n < length lumps = omega (arith, has.inside) in
      let start_inside : start < length lumps = omega (arith, has.inside) in
      let file : (lump_at lumps n).file ≡ 0 = has.files n lump_inside in
      let file' : (lump_at lumps start).file ≡ 0 = has.files start start_inside in
      let at_most_end : n ≤ start + suc count = omega arith in
      is_lump-at (λ lump. not (is_end group lump.name) && starts_in group lumps lump.file (mark_before group lumps n)) lumps n lump_inside
      ∙ rw (has.no_end n lump_inside after below, between-mark n after at_most_end, file)
      (is_lump-at (λ lump. is_start group lump.name && lump.file == 0) lumps start start_inside ∙ rw (has.starts, file') refl)

  -- those up to the start are not
  pub front-member : (n : ℕ) → n ≤ start → is_member group lumps n ≡ false
  front-member n upto =
      let lump_inside : n < length lumps = omega (arith, has.inside) in
      let no_mark : mark_before group lumps n ≡ None =
      greatest-none (is_lump (λ lump. is_start group lump.name || is_end group lump.name) lumps) n
      (λ k below. let earlier_inside : k < length lumps = omega arith in let index_before_start : k < start = omega arith in
      is_lump-at (λ lump. is_start group lump.name || is_end group lump.name) lumps k earlier_inside ∙ has.before k index_before_start) in
      is_lump-at (λ lump. not (is_end group lump.name) && starts_in group lumps lump.file (mark_before group lumps n)) lumps n lump_inside
      ∙ rw no_mark (none_and (is_end group (lump_at lumps n).name)) where
        none_and : (b : Bool) → (not b && false) ≡ false
        none_and true = refl
        none_and false = refl

  -- nor are the end and those behind it
  pub behind-member : (n : ℕ) → n < length lumps → start + suc count ≤ n → is_member group lumps n ≡ false
  behind-member n lt from =
      is_lump-at (λ lump. not (is_end group lump.name) && starts_in group lumps lump.file (mark_before group lumps n)) lumps n lt
      ∙ elim (cases_lt (start + suc count) n) [
        | inl later ↦
            let end : ℕ = start + suc count in
            let end_inside : start + suc count < length lumps = has.inside in
            let start_before_end : start < start + suc count = omega arith in
            let mark : mark_before group lumps n ≡ Some (start + suc count) =
            greatest-some (is_lump (λ lump. is_start group lump.name || is_end group lump.name) lumps) n (start + suc count) later
            (is_lump-at (λ lump. is_start group lump.name || is_end group lump.name) lumps (start + suc count) end_inside
            ∙ or-true_right (is_start group (lump_at lumps (start + suc count)).name) _ has.ends)
            (λ k past below. let inside : k < length lumps = omega arith in
            is_lump-at (λ lump. is_start group lump.name || is_end group lump.name) lumps k inside ∙ has.behind k inside past) in
            rw mark (and_false (not (is_end group (lump_at lumps n).name)) _
            (is_lump-at (λ lump. is_start group lump.name && lump.file == (lump_at lumps n).file) lumps (start + suc count) end_inside
            ∙ rw (has.no_start (start + suc count) end_inside start_before_end) refl))
        | inr same ↦
            let is_end_place : n ≡ start + suc count = omega arith in
            let lump_is_end : is_end group (lump_at lumps n).name ≡ true = ap (λ k. is_end group (lump_at lumps k).name) is_end_place ∙ has.ends in
            rw lump_is_end refl
      ] where
        and_false : (a b : Bool) → b ≡ false → (a && b) ≡ false
        and_false true b e = e
        and_false false b e = refl

-- numbers that all fail, and that all pass
filter-failing : (p : ℕ → Bool) (a n : ℕ) → ((k : ℕ) → a ≤ k → k < a + n → p k ≡ false) → filter p (range_with_len a n) ≡ []
filter-failing p a zero fails = refl
filter-failing p a (suc n) fails =
    rw (fails a (omega arith) (omega arith)) (filter-failing p (a + 1) n (λ k from below. fails k (omega arith) (omega arith)))

filter-passing : (p : ℕ → Bool) (a n : ℕ) → ((k : ℕ) → a ≤ k → k < a + n → p k ≡ true) → filter p (range_with_len a n) ≡ range_with_len a n
filter-passing p a zero passes = refl
filter-passing p a (suc n) passes =
    rw (passes a (omega arith) (omega arith))
    (ap (λ ks. a ∷ ks) (filter-passing p (a + 1) n (λ k from below. passes k (omega arith) (omega arith))))

range-split : (a m n : ℕ) → range_with_len a (m + n) ≡ range_with_len a m ++ range_with_len (a + m) n
range-split a zero n = let same_start : a + 0 ≡ a = omega arith in let same_count : 0 + n ≡ n = omega arith in rw (same_start, same_count) refl
range-split a (suc m) n =
    let same_start : (a + 1) + m ≡ a + suc m = omega arith in
    let same_count : suc m + n ≡ suc (m + n) = omega arith in
    rw same_count (ap (λ ks. a ∷ ks) (range-split (a + 1) m n ∙ ap (λ k. range_with_len (a + 1) m ++ range_with_len k n) same_start))

-- the lumps of the group, in order
pub group-members : (group : Group) (lumps : List Lump) (start count : ℕ) → HasGroup group lumps start count
    → members group lumps ≡ range_with_len (suc start) count
unfolding members
group-members group lumps start count has =
    let count_behind_group : ℕ = length lumps - (suc start + count) in
    let inside : start + suc count < length lumps = has.inside in
    let whole : length lumps ≡ suc start + (count + (length lumps - (suc start + count))) = omega arith in
    let numbers_within = range_with_len (0 + suc start) count in
    let is_of_group = is_member group lumps in
    ap (λ n. filter is_of_group (range_with_len 0 n)) whole
    ∙ ap (filter is_of_group) (range-split 0 (suc start) (count + (length lumps - (suc start + count)))
    ∙ ap (λ ks. range_with_len 0 (suc start) ++ ks) (range-split (0 + suc start) count (length lumps - (suc start + count))))
    ∙ filter-append is_of_group (range_with_len 0 (suc start)) (range_with_len (0 + suc start) count ++ range_with_len ((0 + suc start) + count) (length lumps - (suc start + count)))
    ∙ rw (filter-failing is_of_group 0 (suc start) (λ k from below. front-member group lumps start count has k (omega arith)))
    (filter-append is_of_group (range_with_len (0 + suc start) count) (range_with_len ((0 + suc start) + count) (length lumps - (suc start + count)))
    ∙ rw (
      filter-passing is_of_group (0 + suc start) count (λ k from below. between-member group lumps start count has k (omega arith) (omega arith)),
      filter-failing is_of_group ((0 + suc start) + count) (length lumps - (suc start + count))
          (λ k from below. behind-member group lumps start count has k (omega (arith, inside)) (omega arith)),
    )
    (append-nil (range_with_len (0 + suc start) count) ∙ ap (λ a. range_with_len a count) (zero-add (suc start))))
