-- What a tally stands for after a put.
use Rattle.std.proofs.Common.{◌≡◌, ℕ, ◌+◌, ◌%◌, ◌^◌, List, length, length-append, ap, sym, ◌∙◌}
use Rattle.std.specs.Prelude.{sum}
use Rattle.std.proofs.Math.Nat.{mod-add-mod}
use Rattle.std.proofs.lemmas.List.Sums.{sum_by-append}
use Rattle.outside.specs.{Sink.Grew, TallySink.Tally, TallySink.IsTallyOf, TallySink.tally_with}

-- a count modulo m after n more
counted_on : (m before now n : ℕ) → before % m ≡ now → (before + n) % m ≡ (now + n) % m
counted_on m before now n e = sym (mod-add-mod before m n) ∙ ap (λ v. (v + n) % m) e

pub tallied : (old new : Tally) (piece : List ℕ) → new ≡ tally_with old piece →
    Grew (IsTallyOf old) (IsTallyOf new) piece
tallied old new piece e = record {
  each = λ before stood. rw e (record {
    count = ap (λ v. v % 2 ^ 64) (length-append before piece) ∙ counted_on (2 ^ 64) (length before) old.count (length piece) stood.count;
    sum = ap (λ v. v % 2 ^ 64) (sum_by-append (λ n. n) before piece) ∙ counted_on (2 ^ 64) (sum before) old.sum (sum piece) stood.sum;
  });
}
