-- What the indexes of a directory hold.
use Rattle.std.specs.Prelude.{ℕ, ◌==◌, Bool, false, List, Option, None, Some}
use Rattle.std.specs.Ordering.{nat_cmp}
use Rattle.std.specs.Cmp.Lexicographic.{slice_cmp}
use Rattle.std.specs.BTreeMap.{BTreeMap, get}

-- the number that an index has for a name
abbrev pub indexed : BTreeMap (List ℕ) ℕ → List ℕ → Option ℕ
indexed index name = get (slice_cmp nat_cmp) index name

-- the file that has an open group is this one
abbrev pub is_grouped : Option ℕ → ℕ → Bool
is_grouped None file = false
is_grouped (Some grouped) file = grouped == file
