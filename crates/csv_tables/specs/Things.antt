-- How the things of each type look, or what is refused first of the file.
use Rattle.std.specs.Prelude.{ℕ, ◌≤◌, cond, List, [], ◌∷◌, Option, is_some, Result, Ok, Err, codes}
use Rattle.csv.specs.Records.{field_at}
use Rattle.csv_tables.specs.declared.fault.CsvRefusal.{CsvRefusal}
use Rattle.csv_tables.specs.{declared.fault.CsvRefusal.TheVariants.Repeat, Rows.rows_after}
use Rattle.level_rules.specs.{declared.ThingRow.ThingRow, declared.ThingLine.ThingLine}
use Rattle.level_rules.specs.Types.{row_of}
use Rattle.csv_tables.specs.declared.things.TheConstants.{MAX_HANG, MAX_THINGS, MAX_TYPE, THING_WIDTH}
use Rattle.csv_tables.specs.declared.columns.TheConstants.{FIRST_FRAME, LAST_FRAME}
use Rattle.csv_tables.specs.Records.{then_checked, checked_shape, rows_under, table_records}
use Rattle.csv_tables.specs.Columns.{flag_column, frame_column, natural_column, sprite_field}

-- the frame is a frame letter, and the distance from the ceiling within its range
abbrev pub IsThingInRange : ThingRow → Type 0
IsThingInRange row = (FIRST_FRAME ≤ row.frame) × (row.frame ≤ LAST_FRAME) × (row.hang ≤ MAX_HANG)

abbrev pub IsLineInRange : ThingLine → Type 0
IsLineInRange line = (line.kind ≤ MAX_TYPE) × IsThingInRange line.row

abbrev pub thing_header : List (List ℕ)
thing_header = codes "type" ∷ codes "sprite" ∷ codes "frame" ∷ codes "bright" ∷ codes "hang" ∷ codes "shadow" ∷ []

-- the line of a row with the right number of fields, its columns from left to right
unfoldable pub line_of_fields : ℕ → List (List ℕ) → Result ThingLine CsvRefusal
line_of_fields row fields =
    then_checked (natural_column row 0 MAX_TYPE fields) (λ kind.
    then_checked (sprite_field row 1 (field_at fields 1)) (λ sprite.
    then_checked (frame_column row 2 (field_at fields 2)) (λ frame.
    then_checked (flag_column row 3 fields) (λ bright.
    then_checked (natural_column row 4 MAX_HANG fields) (λ hang.
    then_checked (flag_column row 5 fields) (λ shadow.
    Ok (record { kind = kind; row = record { sprite = sprite; frame = frame; bright = bright; hang = hang; shadow = shadow } })))))))

unfoldable pub thing_line : ℕ → List (List ℕ) → Result ThingLine CsvRefusal
thing_line row fields = then_checked (checked_shape MAX_THINGS THING_WIDTH row fields) (λ _. line_of_fields row fields)

-- a line of a type that no earlier line has
unfoldable pub not_repeated : Option ThingRow → ℕ → ThingLine → Result ThingLine CsvRefusal
not_repeated earlier row line = cond (is_some earlier) (Err (Repeat row)) (Ok line)

unfoldable pub read_line : List ThingLine → ℕ → List (List ℕ) → Result ThingLine CsvRefusal
read_line lines row fields = then_checked (thing_line row fields) (λ line. not_repeated (row_of lines line.kind) row line)

abbrev pub thing_lines : List (List (List ℕ)) → Result (List ThingLine) CsvRefusal
thing_lines rows = rows_after read_line [] rows

-- the header and the rows under it
unfoldable pub lines_of_records : List (List (List ℕ)) → Result (List ThingLine) CsvRefusal
lines_of_records records = then_checked (rows_under thing_header records) thing_lines

-- the lines of a file, or its first refusal
unfoldable pub things_in_table : List ℕ → Result (List ThingLine) CsvRefusal
things_in_table bytes = then_checked (table_records bytes) lines_of_records
