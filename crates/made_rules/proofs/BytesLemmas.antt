-- Laws of `halves`, `words` and `records`.
use Rattle.word_rules.proofs.Common.{[], ap, arith, common_steps, flat_map, flat_map_more, List, range_with_len, refl, suc, sym, take, to_le_bytes, w32, zero, ℕ, ◌++◌, ◌+◌, ◌∙◌, ◌∷◌, ◌≡◌}
use Rattle.word_rules.specs.Listed.{listed}
use Rattle.word_rules.proofs.ListedLemmas.{listing}
use Rattle.made_rules.specs.Bytes.{half, word_bytes, halves, words, records}

-- none put behind the bytes that are there
pub halves-none : (bytes : List ℕ) → bytes ≡ bytes ++ halves []
unfolding halves
halves-none bytes = grind (arith, common_steps)

-- one more number put
pub halves-more : (bytes ns : List ℕ) (n : ℕ) → (bytes ++ halves ns) ++ half n ≡ bytes ++ halves (ns ++ n ∷ [])
unfolding halves
halves-more bytes ns n = flat_map_more half bytes ns n

pub words-none : (bytes : List ℕ) → bytes ≡ bytes ++ words []
unfolding words
words-none bytes = grind (arith, common_steps)

pub words-more : (bytes ns : List ℕ) (n : ℕ) → (bytes ++ words ns) ++ word_bytes n ≡ bytes ++ words (ns ++ n ∷ [])
unfolding words
words-more bytes ns n = flat_map_more word_bytes bytes ns n

range-more : (a n : ℕ) → range_with_len a (suc n) ≡ range_with_len a n ++ (a + n) ∷ []
range-more a zero = grind arith
range-more a (suc n) = grind (arith, range-more (a + 1) n)

-- no record put
pub records-none : (bytes : List ℕ) (f : ℕ → List ℕ) → bytes ≡ bytes ++ records f 0
unfolding records
records-none bytes f = grind (arith, common_steps)

-- one more record put
pub records-more : (bytes : List ℕ) (f : ℕ → List ℕ) (n : ℕ) → (bytes ++ records f n) ++ f n ≡ bytes ++ records f (n + 1)
unfolding records
records-more bytes f n =
    let range_grows : range_with_len 0 (n + 1) ≡ range_with_len 0 n ++ n ∷ [] = grind (arith, range-more 0 n) in
    flat_map_more f bytes (range_with_len 0 n) n ∙ ap (λ ns. bytes ++ flat_map f ns) (sym range_grows)

-- the same of a lump that begins with its records
pub records-first : (f : ℕ → List ℕ) → [] ≡ records f 0
unfolding records
records-first f = refl

pub records-next : (f : ℕ → List ℕ) (n : ℕ) → records f n ++ f n ≡ records f (n + 1)
records-next f n = grind (arith, common_steps, records-more [] f n)

-- for `grind`: the loops that put bytes
pub ruleset filling = (halves-none, halves-more, words-none, words-more, records-none, records-more, records-first, records-next)

-- a list put behind bytes, one more value at a time
pub listed-behind_none : (bytes : List ℕ) (f : ℕ → ℕ) → bytes ≡ bytes ++ listed f 0
listed-behind_none bytes f = grind (arith, common_steps, listing)

pub listed-behind_more : (bytes : List ℕ) (f : ℕ → ℕ) (n : ℕ) → (bytes ++ listed f n) ++ f n ∷ [] ≡ bytes ++ listed f (n + 1)
listed-behind_more bytes f n = grind (arith, common_steps, listing)

pub ruleset listing_behind = (listed-behind_none, listed-behind_more)
