-- Words of a list of bytes: what a written word changes, and what it leaves.
use Rattle.zone_rules.proofs.Common.{◌≡◌, ℕ, zero, suc, ◌+◌, ◌*◌, ◌-◌, ◌<◌, ◌≤◌, ◌^◌, List, [], ◌∷◌, ◌++◌, length, take, drop, get_or, refl, sym, ap, ap₂, ◌∙◌, arith, inl, inr, ◌⊎◌, get_or-drop, get_or-take, get_or_append_left, get_or-append_right, length-take, length-drop, length-append, drop_at, drop-drop, append_assoc}
use Rattle.byteorder.specs.Endian.{little_number, little_bytes}
use Rattle.byteorder.specs.Numbers.{little_number-reads_back}
use Rattle.zone_heap.specs.Headers.{with_word, header_in, with_use, ASKED_AT, OWNER_AT, TAG_AT, NEXT_AT}
use Rattle.zone_heap.specs.Rules.{WORD_SIZE, word_at}

-- a word, read from a place on
pub word_from : (xs : List ℕ) (at k : ℕ) → word_at (drop at xs) k ≡ word_at xs (at + k)
unfolding word_at
word_from xs at k = ap (little_number WORD_SIZE) (drop-drop k at xs)

-- a header is read from a place on by its four words
pub header_from : (xs : List ℕ) (at : ℕ)
    → header_in (drop at xs) ≡ record { size = word_at xs at; asked = word_at xs (at + ASKED_AT); owner = word_at xs (at + OWNER_AT); tag = word_at xs (at + TAG_AT) }
header_from xs at =
    let size_is : word_at (drop at xs) 0 ≡ word_at xs at = word_from xs at 0 ∙ ap (word_at xs) (let place_is : at + 0 ≡ at = omega arith in place_is) in
    let asked_is = word_from xs at ASKED_AT in let owner_is = word_from xs at OWNER_AT in let tag_is = word_from xs at TAG_AT in
    λ i. record { size = size_is i; asked = asked_is i; owner = owner_is i; tag = tag_is i }

-- written words keep the length
pub length-with_word : (xs : List ℕ) (at x : ℕ) → at + WORD_SIZE ≤ length xs → length (with_word xs at x) ≡ length xs
unfolding with_word
length-with_word xs at x h = simp (length-append, length-take, length-drop) (omega arith)

-- what a header says of a use ends where its ring begins
pub length-with_use : (xs : List ℕ) (at a o t : ℕ) → at + NEXT_AT ≤ length xs → length (with_use xs at a o t) ≡ length xs
length-with_use xs at a o t h =
    let asked_kept = length-with_word xs (at + ASKED_AT) a (omega arith) in
    let owner_kept = length-with_word (with_word xs (at + ASKED_AT) a) (at + OWNER_AT) o (omega arith) in
    let tag_kept = length-with_word (with_word (with_word xs (at + ASKED_AT) a) (at + OWNER_AT) o) (at + TAG_AT) t (omega arith) in
    tag_kept ∙ owner_kept ∙ asked_kept

-- a byte outside the word stays
byte_below : (xs : List ℕ) (at x k : ℕ) → at + WORD_SIZE ≤ length xs → k < at → get_or (with_word xs at x) k 0 ≡ get_or xs k 0
unfolding with_word
byte_below xs at x k h l =
    let front_length : length (take at xs) ≡ at = simp length-take (omega arith) in
    get_or_append_left (take at xs) _ 0 k (omega arith) ∙ get_or-take at xs k 0 l

byte_above : (xs : List ℕ) (at x k : ℕ) → at + WORD_SIZE ≤ length xs → at + WORD_SIZE ≤ k → get_or (with_word xs at x) k 0 ≡ get_or xs k 0
unfolding with_word
byte_above xs at x k h l =
    let front_length : length (take at xs) ≡ at = simp length-take (omega arith) in
    get_or-append_right (take at xs) (little_bytes WORD_SIZE x ++ drop WORD_SIZE (drop at xs)) at k 0 front_length (omega arith)
    ∙ get_or-append_right (little_bytes WORD_SIZE x) (drop WORD_SIZE (drop at xs)) WORD_SIZE (k - at) 0 refl (omega arith)
    ∙ get_or-drop WORD_SIZE (drop at xs) (k - at - WORD_SIZE) 0 ∙ get_or-drop at xs (WORD_SIZE + (k - at - WORD_SIZE)) 0
    ∙ ap (λ n. get_or xs n 0) (let place_is : at + (WORD_SIZE + (k - at - WORD_SIZE)) ≡ k = omega arith in place_is)

-- a word is its four bytes
abbrev pub of_bytes : ℕ → ℕ → ℕ → ℕ → ℕ
of_bytes a b c d = a + 256 * (b + 256 * (c + 256 * (d + 256 * 0)))

word_is : (xs : List ℕ) (at : ℕ) → word_at xs at ≡ of_bytes (get_or xs (at + 0) 0) (get_or xs (at + 1) 0) (get_or xs (at + 2) 0) (get_or xs (at + 3) 0)
unfolding word_at
word_is xs at = rw (← get_or-drop at xs 0 0, ← get_or-drop at xs 1 0, ← get_or-drop at xs 2 0, ← get_or-drop at xs 3 0) refl

-- words of the same bytes are the same
pub same_word : (xs ys : List ℕ) (at : ℕ) → ((k : ℕ) → at ≤ k → k < at + WORD_SIZE → get_or xs k 0 ≡ get_or ys k 0) → word_at xs at ≡ word_at ys at
same_word xs ys at s =
    word_is xs at ∙ rw (s (at + 0) (omega arith) (omega arith), s (at + 1) (omega arith) (omega arith), s (at + 2) (omega arith) (omega arith), s (at + 3) (omega arith) (omega arith)) (sym (word_is ys at))

-- a written word leaves the others, and is read back
pub word_other : (xs : List ℕ) (at x k : ℕ) → at + WORD_SIZE ≤ length xs → (k + WORD_SIZE ≤ at) ⊎ (at + WORD_SIZE ≤ k) → word_at (with_word xs at x) k ≡ word_at xs k
word_other xs at x k h (inl l) = same_word (with_word xs at x) xs k (λ j a b. byte_below xs at x j h (omega arith))
word_other xs at x k h (inr l) = same_word (with_word xs at x) xs k (λ j a b. byte_above xs at x j h (omega arith))

pub word_same : (xs : List ℕ) (at x : ℕ) → at + WORD_SIZE ≤ length xs → x < 2 ^ 32 → word_at (with_word xs at x) at ≡ x
unfolding with_word word_at
word_same xs at x h small =
    let front_length : length (take at xs) ≡ at = simp length-take (omega arith) in
    ap (little_number WORD_SIZE) (drop_at (take at xs) (little_bytes WORD_SIZE x ++ drop WORD_SIZE (drop at xs)) at front_length) ∙ little_number-reads_back WORD_SIZE x (drop WORD_SIZE (drop at xs)) small

-- a word of a part, in what the part stands in
pub word_in_front : (c b : List ℕ) (k : ℕ) → k + WORD_SIZE ≤ length c → word_at (c ++ b) k ≡ word_at c k
word_in_front c b k h = same_word (c ++ b) c k (λ j l m. get_or_append_left c b 0 j (omega arith))

-- a word written into the first of two lists, or into the second
pub written_in_front : (c b : List ℕ) (k x : ℕ) → k + WORD_SIZE ≤ length c → with_word (c ++ b) k x ≡ with_word c k x ++ b
unfolding with_word
written_in_front c b k x h =
    let front_same : take k (c ++ b) ≡ take k c = take_front c b k (omega arith) in
    let behind_same : drop WORD_SIZE (drop k (c ++ b)) ≡ drop WORD_SIZE (drop k c) ++ b =
    ap (drop WORD_SIZE) (drop_front c b k (omega arith)) ∙ drop_front (drop k c) b WORD_SIZE (simp length-drop (omega arith)) in
    ap₂ (λ u v. u ++ (little_bytes WORD_SIZE x ++ v)) front_same behind_same ∙ ap (λ v. take k c ++ v) (sym (append_assoc (little_bytes WORD_SIZE x) (drop WORD_SIZE (drop k c)) b))
    ∙ sym (append_assoc (take k c) (little_bytes WORD_SIZE x ++ drop WORD_SIZE (drop k c)) b) where
      take_front : (c b : List ℕ) (k : ℕ) → k ≤ length c → take k (c ++ b) ≡ take k c
      take_front c b zero h = refl
      take_front [] b (suc k) h = absurd (omega arith)
      take_front (x ∷ c) b (suc k) h = ap (λ xs. x ∷ xs) (take_front c b k (omega arith))

      drop_front : (c b : List ℕ) (k : ℕ) → k ≤ length c → drop k (c ++ b) ≡ drop k c ++ b
      drop_front c b zero h = refl
      drop_front [] b (suc k) h = absurd (omega arith)
      drop_front (x ∷ c) b (suc k) h = drop_front c b k (omega arith)

pub written_behind : (a b : List ℕ) (k x : ℕ) → with_word (a ++ b) (length a + k) x ≡ a ++ with_word b k x
unfolding with_word
written_behind a b k x =
    ap₂ (λ u v. u ++ (little_bytes WORD_SIZE x ++ drop WORD_SIZE v)) (take_behind a) (drop_behind a) ∙ append_assoc a (take k b) (little_bytes WORD_SIZE x ++ drop WORD_SIZE (drop k b)) where
      take_behind : (a : List ℕ) → take (length a + k) (a ++ b) ≡ a ++ take k b
      take_behind [] = ap (λ n. take n b) (let sum_is : 0 + k ≡ k = omega arith in sum_is)
      take_behind (y ∷ a) =
          ap (λ n. take n (y ∷ (a ++ b))) (let sum_is : suc (length a) + k ≡ suc (length a + k) = omega arith in sum_is) ∙ ap (λ xs. y ∷ xs) (take_behind a)

      drop_behind : (a : List ℕ) → drop (length a + k) (a ++ b) ≡ drop k b
      drop_behind [] = ap (λ n. drop n b) (let sum_is : 0 + k ≡ k = omega arith in sum_is)
      drop_behind (y ∷ a) = ap (λ n. drop n (y ∷ (a ++ b))) (let sum_is : suc (length a) + k ≡ suc (length a + k) = omega arith in sum_is) ∙ drop_behind a

-- a word of a part between others is written in the part alone
pub written_within : (a c b : List ℕ) (k at x : ℕ) → at ≡ length a + k → k + WORD_SIZE ≤ length c → with_word (a ++ (c ++ b)) at x ≡ a ++ (with_word c k x ++ b)
written_within a c b k at x e h = ap (λ n. with_word (a ++ (c ++ b)) n x) e ∙ written_behind a (c ++ b) k x ∙ ap (λ ys. a ++ ys) (written_in_front c b k x h)

pub used_within : (a c b : List ℕ) (at asked owner tag : ℕ) → at ≡ length a → NEXT_AT ≤ length c
    → with_use (a ++ (c ++ b)) at asked owner tag ≡ a ++ (with_use c 0 asked owner tag ++ b)
used_within a c b at asked owner tag e h =
    let asked_written = with_word c ASKED_AT asked in let owner_written = with_word asked_written OWNER_AT owner in
    let asked_kept = length-with_word c ASKED_AT asked (omega arith) in let owner_kept = length-with_word asked_written OWNER_AT owner (omega arith) in
    ap (λ xs. with_word (with_word xs (at + OWNER_AT) owner) (at + TAG_AT) tag) (written_within a c b ASKED_AT (at + ASKED_AT) asked (omega arith) (omega arith))
    ∙ ap (λ xs. with_word xs (at + TAG_AT) tag) (written_within a asked_written b OWNER_AT (at + OWNER_AT) owner (omega arith) (omega arith))
    ∙ written_within a owner_written b TAG_AT (at + TAG_AT) tag (omega arith) (omega arith)

-- what is behind a word stays
pub drop-with_word : (xs : List ℕ) (at x n : ℕ) → at + WORD_SIZE ≤ length xs → at + WORD_SIZE ≤ n → drop n (with_word xs at x) ≡ drop n xs
unfolding with_word
drop-with_word xs at x n h l =
    let front_length : length (take at xs) ≡ at = simp length-take (omega arith) in
    let bytes_behind_word = n - (at + WORD_SIZE) in let sum_is : n ≡ at + (WORD_SIZE + bytes_behind_word) = omega arith in let behind_word = drop WORD_SIZE (drop at xs) in
    ap (λ m. drop m (with_word xs at x)) sum_is ∙ sym (drop-drop (WORD_SIZE + bytes_behind_word) at (with_word xs at x)) ∙ ap (drop (WORD_SIZE + bytes_behind_word)) (drop_at (take at xs) (little_bytes WORD_SIZE x ++ behind_word) at front_length) ∙ sym (drop-drop bytes_behind_word WORD_SIZE (little_bytes WORD_SIZE x ++ behind_word)) ∙ drop-drop bytes_behind_word WORD_SIZE (drop at xs)
    ∙ drop-drop (WORD_SIZE + bytes_behind_word) at xs ∙ ap (λ m. drop m xs) (sym sum_is)

-- a word of a part between others is the part's
pub word_within : (a c b : List ℕ) (k at : ℕ) → at ≡ length a + k → k + WORD_SIZE ≤ length c → word_at (a ++ (c ++ b)) at ≡ word_at c k
word_within a c b k at e h = ap (word_at (a ++ (c ++ b))) e ∙ sym (word_from (a ++ (c ++ b)) (length a) k)
    ∙ ap (λ xs. word_at xs k) (drop_at a (c ++ b) (length a) refl) ∙ word_in_front c b k h
