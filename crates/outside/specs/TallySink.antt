-- A sink that counts the bytes that it takes, and adds them up.
use Rattle.std.specs.Prelude.{◌≡◌, ℕ, ◌+◌, ◌%◌, ◌^◌, List, length, sum}

-- the number of bytes and their sum, both modulo 2^64
pub record Tally : Type 0 where
  pub count : ℕ
  pub sum : ℕ

-- these bytes are as many as were counted, and add up to the sum
pub record IsTallyOf (tally : Tally) (bytes : List ℕ) : Type 0 where
  pub count : length bytes % 2 ^ 64 ≡ tally.count
  pub sum : sum bytes % 2 ^ 64 ≡ tally.sum

-- the tally with a piece more
abbrev pub tally_with : Tally → List ℕ → Tally
tally_with tally piece = record {
  count = (tally.count + length piece) % 2 ^ 64;
  sum = (tally.sum + sum piece) % 2 ^ 64;
}
