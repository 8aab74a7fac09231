use Rattle.art_rules.proofs.Common.{List, Ok, range_with_len, Some, take, ℕ, ◌≡◌}
use Rattle.sprite_book.specs.Rules.{Mention, each_of, is_of_frame, last_that, picture_or_missing}
use Rattle.sprite_book.specs.Indexes.{IsIndexOf}
use Rattle.sprite_book.proofs.pictures.fill_pictures.Given as goal

abbrev pub invariant-loop-k : goal.invariant-loop-k
invariant-loop-k l = (all : List ℕ → List Mention) → IsIndexOf l.index all → last_that (is_of_frame l.need.frame) (all l.need.sprite) ≡ Some l.last →
    each_of (picture_or_missing (all l.need.sprite) l.need) (range_with_len 0 l.k) ≡ Ok (take l.k l.pictures)
