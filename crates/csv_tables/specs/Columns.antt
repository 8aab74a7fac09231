-- The values of a row's columns, by row, column and field.
use Rattle.std.specs.Prelude.{ℕ, Bool, cond, nat_le, ◌==◌, ◌&&◌, int_lt, List, length, map, Option, Some, None, Result, Ok, Err, ℤ, pos, negsuc, slice_index}
use Rattle.std.specs.List.{list_all}
use Rattle.std.specs.Char.{to_ascii_uppercase}
use Rattle.csv.specs.Records.{field_at}
use Rattle.csv_tables.specs.{declared.fault.CsvRefusal.CsvRefusal, Numbers.number}
use Rattle.csv_tables.specs.declared.fault.CsvRefusal.TheVariants.{Fields, Number, Range}
use Rattle.csv_tables.specs.declared.columns.TheConstants.{FIRST_FRAME, FIRST_VISIBLE, GREATEST_PLACE, LAST_FRAME, LAST_VISIBLE, LEAST_PLACE, SPRITE_LENGTH}
use Rattle.csv_tables.specs.Records.{then_checked}

-- a number from low to high
unfoldable pub in_range : ℕ → ℕ → ℤ → ℤ → ℤ → Result ℤ CsvRefusal
in_range row column low high z = cond (int_lt z low) (Err (Range row column)) (cond (int_lt high z) (Err (Range row column)) (Ok z))

unfoldable pub number_in : ℕ → ℕ → ℤ → ℤ → Option ℤ → Result ℤ CsvRefusal
number_in row column low high None = Err (Number row column)
number_in row column low high (Some z) = in_range row column low high z

-- a column that is a number from low to high
unfoldable pub integer_column : ℕ → ℕ → ℤ → ℤ → Option (List ℕ) → Result ℤ CsvRefusal
integer_column row column low high None = Err (Fields row)
integer_column row column low high (Some text) = number_in row column low high (number text)

-- a place: any number of 32 bits with a sign
unfoldable pub place_column : ℕ → ℕ → List (List ℕ) → Result ℤ CsvRefusal
place_column row column fields = integer_column row column LEAST_PLACE GREATEST_PLACE (field_at fields column)

-- a number from 0 to high
unfoldable pub natural_of : Result ℤ CsvRefusal → Result ℕ CsvRefusal
natural_of (Ok (pos n)) = Ok n
natural_of (Ok (negsuc n)) = Ok 0
natural_of (Err e) = Err e

unfoldable pub natural_column : ℕ → ℕ → ℕ → List (List ℕ) → Result ℕ CsvRefusal
natural_column row column high fields = natural_of (integer_column row column (pos 0) (pos high) (field_at fields column))

-- a flag: 0 or 1
unfoldable pub flag_column : ℕ → ℕ → List (List ℕ) → Result Bool CsvRefusal
flag_column row column fields = then_checked (natural_column row column 1 fields) (λ flag. Ok (flag == 1))

-- four bytes from `!` to `~`, small letters as capitals
unfoldable pub is_sprite : List ℕ → Bool
is_sprite text = (length text == SPRITE_LENGTH) && list_all (λ b. nat_le FIRST_VISIBLE b && nat_le b LAST_VISIBLE) text

unfoldable pub sprite_field : ℕ → ℕ → Option (List ℕ) → Result (List ℕ) CsvRefusal
sprite_field row column None = Err (Fields row)
sprite_field row column (Some text) = cond (is_sprite text) (Ok (map to_ascii_uppercase text)) (Err (Range row column))

-- one of the bytes from `A` to `]`, small letters as capitals
unfoldable pub capital : List ℕ → ℕ
capital text = to_ascii_uppercase (slice_index text 0)

unfoldable pub is_frame_letter : List ℕ → Bool
is_frame_letter text = (length text == 1) && (nat_le FIRST_FRAME (capital text) && nat_le (capital text) LAST_FRAME)

unfoldable pub frame_column : ℕ → ℕ → Option (List ℕ) → Result ℕ CsvRefusal
frame_column row column None = Err (Fields row)
frame_column row column (Some text) = cond (is_frame_letter text) (Ok (capital text)) (Err (Range row column))
