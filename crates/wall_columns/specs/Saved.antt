-- The openings of a view, and what a fragment saves among them: three lists, each at its place.
use Rattle.std.specs.Prelude.{ℕ, ◌+◌, ◌++◌, ℤ, List, Option, Some, None, length, take, drop}
use Rattle.wall_columns.specs.declared.notes.SavePlaces.{SavePlaces}

-- the openings that are saved, and how many there is room for
pub record OpeningsView : Type 0 where
  pub saved : List ℤ
  pub room : ℕ

-- numbers with a list written over them from a place on
unfoldable pub with_list : List ℤ → ℕ → List ℤ → List ℤ
with_list xs place list = take place xs ++ (list ++ drop (place + length list) xs)

-- with a list that is saved at a place, where it is saved
unfoldable pub with_saved : List ℤ → Option ℕ → List ℤ → List ℤ
with_saved xs None list = xs
with_saved xs (Some place) list = with_list xs place list

-- what a fragment saves: its texture columns, and then its ceiling and its floor clips
unfoldable pub lists_saved : SavePlaces → List ℤ → List ℤ → List ℤ → List ℤ → List ℤ
lists_saved places columns ceilings floors xs =
    with_saved (with_saved (with_saved xs places.masked columns) places.top ceilings)
    places.bottom floors
