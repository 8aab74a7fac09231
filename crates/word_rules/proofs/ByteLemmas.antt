-- Laws of `half_at` and `word_at`, for all bytes and places; a byte past the end is 0.
use Rattle.std.proofs.Common.{◌≡◌, ℕ, ◌+◌, ◌*◌, ◌^◌, List, drop, slice_index, ap, ◌∙◌, arith}
use Rattle.std.proofs.lemmas.List.{get_or-drop}
use Rattle.word_rules.specs.Bytes.{byte_at, half_at, word_at}

dropped : (bytes : List ℕ) (place k at : ℕ) → place + k ≡ at → slice_index (drop place bytes) k ≡ byte_at bytes at
unfolding byte_at
dropped bytes place k at e = get_or-drop place bytes k 0 ∙ ap (slice_index bytes) e

-- a half word is its two bytes
pub half_at-bytes : (bytes : List ℕ) (place : ℕ) → half_at bytes place ≡ byte_at bytes place + 2 ^ 8 * byte_at bytes (place + 1)
unfolding half_at
half_at-bytes bytes place =
    let low = dropped bytes place 0 place (omega arith) in
    let high = dropped bytes place 1 (place + 1) (omega arith) in
    omega arith

-- a word is its two half words
pub word_at-halves : (bytes : List ℕ) (place : ℕ) → word_at bytes place ≡ half_at bytes place + 2 ^ 16 * half_at bytes (place + 2)
unfolding word_at
word_at-halves bytes place =
    let low_half = half_at-bytes bytes place in
    let high_half = half_at-bytes bytes (place + 2) in
    let first = dropped bytes place 0 place (omega arith) in
    let second = dropped bytes place 1 (place + 1) (omega arith) in
    let third = dropped bytes place 2 (place + 2) (omega arith) in
    let fourth = dropped bytes place 3 (place + 2 + 1) (omega arith) in
    omega arith

-- for `grind`: a number is what its parts are
pub ruleset number_parts = (half_at-bytes, word_at-halves)
