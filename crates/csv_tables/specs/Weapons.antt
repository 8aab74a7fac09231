-- The weapon layers of a path's views, or what is refused first of the file.
use Rattle.std.specs.Prelude.{ℕ, ◌≤◌, List, [], ◌∷◌, Result, Ok, codes}
use Rattle.csv.specs.Records.{field_at}
use Rattle.csv_tables.specs.declared.fault.CsvRefusal.{CsvRefusal}
use Rattle.csv_tables.specs.{declared.weapons.WeaponRow.WeaponRow, Rows.rows_after}
use Rattle.csv_tables.specs.declared.weapons.TheConstants.{MAX_VIEW, MAX_WEAPONS, WEAPON_WIDTH}
use Rattle.csv_tables.specs.declared.columns.TheConstants.{FIRST_FRAME, LAST_FRAME}
use Rattle.csv_tables.specs.Records.{then_checked, checked_shape, rows_under, table_records}
use Rattle.csv_tables.specs.Columns.{flag_column, frame_column, natural_column, place_column, sprite_field}

-- the number of the view is one that a path may have, and the frame is a frame letter
abbrev pub IsWeaponInRange : WeaponRow → Type 0
IsWeaponInRange row = (row.view ≤ MAX_VIEW) × (FIRST_FRAME ≤ row.frame) × (row.frame ≤ LAST_FRAME)

abbrev pub weapon_header : List (List ℕ)
weapon_header = codes "view" ∷ codes "sprite" ∷ codes "frame" ∷ codes "bright" ∷ codes "sx" ∷ codes "sy" ∷ []

-- the layer of a row with the right number of fields, its columns from left to right
unfoldable pub weapon_of : ℕ → List (List ℕ) → Result WeaponRow CsvRefusal
weapon_of row fields =
    then_checked (natural_column row 0 MAX_VIEW fields) (λ view.
    then_checked (sprite_field row 1 (field_at fields 1)) (λ sprite.
    then_checked (frame_column row 2 (field_at fields 2)) (λ frame.
    then_checked (flag_column row 3 fields) (λ bright.
    then_checked (place_column row 4 fields) (λ sx.
    then_checked (place_column row 5 fields) (λ sy.
    Ok (record { view = view; sprite = sprite; frame = frame; bright = bright; sx = sx; sy = sy })))))))

unfoldable pub weapon_row : ℕ → List (List ℕ) → Result WeaponRow CsvRefusal
weapon_row row fields = then_checked (checked_shape MAX_WEAPONS WEAPON_WIDTH row fields) (λ _. weapon_of row fields)

abbrev pub weapon_rows : List (List (List ℕ)) → Result (List WeaponRow) CsvRefusal
weapon_rows rows = rows_after (λ _. weapon_row) [] rows

-- the header and the rows under it
unfoldable pub weapons_of_records : List (List (List ℕ)) → Result (List WeaponRow) CsvRefusal
weapons_of_records records = then_checked (rows_under weapon_header records) weapon_rows

-- the layers of a file, or its first refusal
unfoldable pub weapons_in : List ℕ → Result (List WeaponRow) CsvRefusal
weapons_in bytes = then_checked (table_records bytes) weapons_of_records
