-- The rows of a table, each read where those before it were taken.
use Rattle.std.specs.Prelude.{ℕ, ◌+◌, List, [], ◌∷◌, ◌++◌, length, Result, Ok}
use Rattle.csv_tables.specs.{declared.fault.CsvRefusal.CsvRefusal, Records.then_checked}

-- the rows so far and those of the records that follow, or the first refusal: `read` takes the
-- rows before, the row's number, counted from 1, and its fields
unfoldable pub rows_after : {A : Type 0} → (List A → ℕ → List (List ℕ) → Result A CsvRefusal) → List A → List (List (List ℕ)) → Result (List A) CsvRefusal
rows_after read rows [] = Ok rows
rows_after read rows (fields ∷ rest) = then_checked (read rows (length rows + 1) fields) (λ row. rows_after read (rows ++ row ∷ []) rest)
