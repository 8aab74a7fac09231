-- The sectors that a view has entered, as marks by number.
use Rattle.std.specs.Prelude.{ℕ, Bool, false, List, slice_index_or}

-- a leaf of that sector was entered
abbrev pub has_entered : List Bool → ℕ → Bool
has_entered marks sector = slice_index_or marks sector false
