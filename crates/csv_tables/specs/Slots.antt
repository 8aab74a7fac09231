-- The numbers of a thing table's lines, by type.
use Rattle.std.specs.Prelude.{◌≡◌, ℕ, zero, suc, ◌<◌, ◌≤◌, List, length, Option, None, option_map, get_or, slice_get}
use Rattle.level_rules.specs.{declared.ThingRow.ThingRow, declared.ThingLine.ThingLine}
use Rattle.csv_tables.specs.declared.things.TheConstants.{TYPES}
use Rattle.level_rules.specs.Types.{row_of}

-- the row of the line with that number, counted from 1
unfoldable pub numbered_row : List ThingLine → ℕ → Option ThingRow
numbered_row lines zero = None
numbered_row lines (suc n) = option_map (λ line. line.row) (slice_get lines n)

-- each type has the number of its line, or 0
pub record AreNumbersOf (lines : List ThingLine) (numbers : List ℕ) : Type 0 where
  pub all : length numbers ≡ TYPES
  pub within : (kind : ℕ) → get_or numbers kind 0 ≤ length lines
  pub rows : (kind : ℕ) → kind < TYPES → numbered_row lines (get_or numbers kind 0) ≡ row_of lines kind
