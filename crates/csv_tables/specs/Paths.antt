-- The views of a path, or what is refused first of its file.
use Rattle.std.specs.Prelude.{ℕ, ◌≤◌, cond, ◌==◌, List, [], ◌∷◌, Result, Ok, Err, codes}
use Rattle.csv_tables.specs.declared.fault.CsvRefusal.{CsvRefusal}
use Rattle.csv_tables.specs.declared.fault.CsvRefusal.TheVariants.{Header}
use Rattle.view_rules.specs.declared.Eye.{Eye}
use Rattle.csv_tables.specs.declared.path.TheConstants.{LIT_WIDTH, MAX_ANGLE, MAX_COLORMAP, MAX_EXTRALIGHT, MAX_VIEWS, PLAIN_WIDTH}
use Rattle.csv_tables.specs.Records.{then_checked, is_header, checked_shape, table_records}
use Rattle.csv_tables.specs.{Columns.natural_column, Columns.place_column, Rows.rows_after}

-- the light of a view is within its range
abbrev pub HasLightInRange : Eye → Type 0
HasLightInRange view = (view.extralight ≤ MAX_EXTRALIGHT) × (view.colormap ≤ MAX_COLORMAP)

abbrev pub plain_header : List (List ℕ)
plain_header = codes "x" ∷ codes "y" ∷ codes "z" ∷ codes "angle" ∷ []

abbrev pub lit_header : List (List ℕ)
lit_header = codes "x" ∷ codes "y" ∷ codes "z" ∷ codes "angle" ∷ codes "extralight" ∷ codes "colormap" ∷ []

-- how many columns a path with this header has
unfoldable pub path_width : List (List ℕ) → Result ℕ CsvRefusal
path_width head = cond (is_header plain_header head) (Ok PLAIN_WIDTH) (cond (is_header lit_header head) (Ok LIT_WIDTH) (Err Header))

-- a column of the light, 0 in a path that has none
unfoldable pub light_column : ℕ → ℕ → ℕ → ℕ → List (List ℕ) → Result ℕ CsvRefusal
light_column width row column high fields = cond (width == PLAIN_WIDTH) (Ok 0) (natural_column row column high fields)

-- the view of a row with the right number of fields, its columns from left to right
unfoldable pub view_of_fields : ℕ → ℕ → List (List ℕ) → Result Eye CsvRefusal
view_of_fields width row fields =
    then_checked (place_column row 0 fields) (λ x.
    then_checked (place_column row 1 fields) (λ y.
    then_checked (place_column row 2 fields) (λ z.
    then_checked (natural_column row 3 MAX_ANGLE fields) (λ angle.
    then_checked (light_column width row 4 MAX_EXTRALIGHT fields) (λ extralight.
    then_checked (light_column width row 5 MAX_COLORMAP fields) (λ colormap.
    Ok (record { x = x; y = y; z = z; angle = angle; extralight = extralight; colormap = colormap })))))))

unfoldable pub path_row : ℕ → ℕ → List (List ℕ) → Result Eye CsvRefusal
path_row width row fields = then_checked (checked_shape MAX_VIEWS width row fields) (λ _. view_of_fields width row fields)

abbrev pub path_rows : ℕ → List (List (List ℕ)) → Result (List Eye) CsvRefusal
path_rows width rows = rows_after (λ _. path_row width) [] rows

-- the header and the rows under it
unfoldable pub path_of_records : List (List (List ℕ)) → Result (List Eye) CsvRefusal
path_of_records [] = Err Header
path_of_records (head ∷ rows) = then_checked (path_width head) (λ width. path_rows width rows)

-- the views of a file, or its first refusal
unfoldable pub path_in : List ℕ → Result (List Eye) CsvRefusal
path_in bytes = then_checked (table_records bytes) path_of_records
