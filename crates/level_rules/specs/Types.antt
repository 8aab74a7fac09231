-- How the things of a type look.
use Rattle.std.specs.Prelude.{ℕ, cond, ◌==◌, List, [], ◌∷◌, Option, Some, None}
use Rattle.level_rules.specs.{declared.ThingRow.ThingRow, declared.ThingLine.ThingLine}

-- the row of a type: that of the first line that has it
unfoldable pub row_of : List ThingLine → ℕ → Option ThingRow
row_of [] kind = None
row_of (line ∷ lines) kind = cond (line.kind == kind) (Some line.row) (row_of lines kind)
