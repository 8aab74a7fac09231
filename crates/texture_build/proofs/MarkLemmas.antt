-- Marks by number: what is set, and the numbers that are marked.
use Rattle.art_rules.proofs.Common.{[], ap, append-nil, arith, Bool, cond, false, filter, filter-append, get_or, length, List, Option, range_with_len, refl, suc, sym, take, take-append-le, take-length, true, zero, zero-add, ℕ, ◌++◌, ◌+◌, ◌<◌, ◌∙◌, ◌∷◌, ◌≡◌, ◌≤◌}
use Rattle.art_rules.specs.Words.{is_patch_of_any, patch_lumps, PreparedTexture}
use Rattle.art_rules.proofs.EachLemmas.{range_more}

-- two tests that agree at each number keep the same ones
pub filter_same : (f g : ℕ → Bool) (a n : ℕ) → ((k : ℕ) → k < a + n → f k ≡ g k) → filter f (range_with_len a n) ≡ filter g (range_with_len a n)
filter_same f g a zero same = refl
filter_same f g a (suc n) same =
    ap (λ b. cond b (a ∷ filter f (range_with_len (a + 1) n)) (filter f (range_with_len (a + 1) n))) (same a (omega arith))
    ∙ ap (λ xs. cond (g a) (a ∷ xs) xs) (filter_same f g (a + 1) n (λ k l. same k (omega arith)))

-- the marked numbers are the patches' lumps
pub lumps_marked : (marks : List Bool) (textures : List (Option PreparedTexture)) (n : ℕ) → length marks ≡ n → ((k : ℕ) → k < n → get_or marks k false ≡ is_patch_of_any textures k) → filter (λ k. get_or marks k false) (range_with_len 0 (length marks)) ≡ patch_lumps textures n
unfolding patch_lumps
lumps_marked marks textures n e same =
    ap (λ (m : ℕ). filter (λ k. get_or marks k false) (range_with_len 0 m)) e ∙ filter_same (λ k. get_or marks k false) (is_patch_of_any textures) 0 n (λ k l. same k (omega arith))

no_lumps : (a n : ℕ) → filter (is_patch_of_any []) (range_with_len a n) ≡ []
unfolding is_patch_of_any
no_lumps a zero = refl
no_lumps a (suc n) = no_lumps (a + 1) n

-- no texture has a patch
pub lumps_none : (n : ℕ) → [] ≡ patch_lumps [] n
unfolding patch_lumps
lumps_none n = sym (no_lumps 0 n)

-- the numbers up to n that pass, where n does and where it does not
pub passed_on : (passes : ℕ → Bool) (n : ℕ) → passes n ≡ true → filter passes (range_with_len 0 (n + 1)) ≡ filter passes (range_with_len 0 n) ++ n ∷ []
passed_on passes n e =
    ap (filter passes) (range_more 0 n ∙ ap (λ m. range_with_len 0 n ++ m ∷ []) (zero-add n)) ∙ filter-append passes (range_with_len 0 n) (n ∷ [])
    ∙ ap (λ b. filter passes (range_with_len 0 n) ++ cond b (n ∷ []) []) e

pub passed_off : (passes : ℕ → Bool) (n : ℕ) → passes n ≡ false → filter passes (range_with_len 0 (n + 1)) ≡ filter passes (range_with_len 0 n)
passed_off passes n e =
    ap (filter passes) (range_more 0 n ∙ ap (λ m. range_with_len 0 n ++ m ∷ []) (zero-add n)) ∙ filter-append passes (range_with_len 0 n) (n ∷ [])
    ∙ ap (λ b. filter passes (range_with_len 0 n) ++ cond b (n ∷ []) []) e ∙ append-nil (filter passes (range_with_len 0 n))

-- a list behind which others stand
pub same_front : {X : Type 0} (n : ℕ) (xs ys : List X) → length xs ≡ n → take n (xs ++ ys) ≡ xs
same_front n xs ys e = let count_within_length : n ≤ length xs = omega arith in rw take-append-le (ap (λ (m : ℕ). take m xs) (sym e) ∙ take-length xs)
