-- Worked tables.
use Rattle.std.specs.Prelude.{◌≡◌, ℕ, true, [], ◌∷◌, Ok, Err, pos, negsuc, codes, refl}
use Rattle.csv.specs.{Records.field_at, Reading.records_from, Reading.strip_bom}
use Rattle.csv.specs.Machine.{next_record}
use Rattle.csv_tables.specs.declared.fault.CsvRefusal.TheVariants.{Fields, Number, Range, Repeat}
use Rattle.numerals.specs.Numerals.{digits_after, is_numeral, numeral}
use Rattle.csv_tables.specs.{Numbers.is_negative, Numbers.number, Rows.rows_after}
use Rattle.csv_tables.specs.Records.{is_header, csv_records, checked_shape, rows_under, table_records}
use Rattle.csv_tables.specs.Columns.{capital, flag_column, frame_column, in_range, integer_column, is_frame_letter, is_sprite, natural_column, natural_of, number_in, place_column, sprite_field}
use Rattle.csv_tables.specs.Paths.{light_column, path_in, path_of_records, path_row, path_width, view_of_fields}
use Rattle.csv_tables.specs.Things.{line_of_fields, lines_of_records, not_repeated, read_line, thing_line, things_in_table}
use Rattle.level_rules.specs.Types.{row_of}
use Rattle.csv_tables.specs.Weapons.{weapon_of, weapon_row, weapons_in, weapons_of_records}

-- what the rows below unfold
unfoldable pub tables_unfolded : ℕ
unfolding records_from strip_bom next_record field_at digits_after is_negative is_numeral number numeral is_header csv_records checked_shape rows_under table_records capital flag_column frame_column in_range integer_column is_frame_letter is_sprite natural_column natural_of number_in place_column sprite_field rows_after light_column path_in path_of_records path_row path_width view_of_fields line_of_fields lines_of_records not_repeated read_line row_of thing_line things_in_table weapon_of weapon_row weapons_in weapons_of_records
tables_unfolded = 0

-- a view, with a quoted name and a leading zero
pub path_quoted : path_in (codes "x,\"y\",z,angle\n1,-02,3,4\n") ≡ Ok (record { x = pos 1; y = negsuc 1; z = pos 3; angle = 4; extralight = 0; colormap = 0 } ∷ [])
unfolding tables_unfolded
path_quoted = refl

-- no row at all
pub path_empty : path_in (codes "x,y,z,angle") ≡ Ok []
unfolding tables_unfolded
path_empty = refl

-- a plus is no part of a number
pub path_plus : path_in (codes "x,y,z,angle\n1,2,+3,4\n") ≡ Err (Number 1 2)
unfolding tables_unfolded
path_plus = refl

-- the least place is taken, and the one below it is not
pub path_least : path_in (codes "x,y,z,angle\n0,-2147483648,0,0\n-2147483649,0,0,0") ≡ Err (Range 2 0)
unfolding tables_unfolded
path_least = refl

-- a blank line is no row, and a row has as many fields as the header
pub path_wide : path_in (codes "x,y,z,angle\r\n\r\n1,2,3,4,5\r\n") ≡ Err (Fields 1)
unfolding tables_unfolded
path_wide = refl

-- a repeated type is told before the next row is read
pub things_repeated : things_in_table (codes "type,sprite,frame,bright,hang,shadow\n5,TREE,A,0,0,0\n5,TREE,B,0,0,0\nx") ≡ Err (Repeat 2)
unfolding tables_unfolded
things_repeated = refl

-- small letters are read as capitals
pub weapons_small : weapons_in (codes "view,sprite,frame,bright,sx,sy\n0,punG,b,1,-5,6") ≡ Ok (record { view = 0; sprite = codes "PUNG"; frame = 66; bright = true; sx = negsuc 4; sy = pos 6 } ∷ [])
unfolding tables_unfolded
weapons_small = refl
