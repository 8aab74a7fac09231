use Rattle.std.proofs.Common.{◌≡◌, ◌<◌, ℕ, false}
use Rattle.art_rules.specs.Words.{is_wrong, texture_place}
use Rattle.texture_lists.proofs.lists.wrong_record.Given as goal

abbrev pub invariant-loop-i : goal.invariant-loop-i
invariant-loop-i l = (k : ℕ) → k < l.i → is_wrong l.bytes (texture_place l.bytes k) ≡ false
