-- The first records of a file say what its table is, where they go past the limit of rows, which a weapon table keeps.
use Rattle.view_rules.proofs.Common.{◌≡◌, ℕ, zero, suc, ◌+◌, ◌<◌, ◌≤◌, Bool, true, false, cond, nat_lt, List, [], ◌∷◌, length, take, Result, Ok, Err, IfOk, refl, ap, sym, ◌∙◌, arith, nat_tests}
use Rattle.csv_tables.specs.declared.fault.CsvRefusal.{CsvRefusal}
use Rattle.csv_tables.specs.declared.fault.CsvRefusal.TheVariants.{Header, TooMany}
use Rattle.view_rules.specs.declared.Eye.{Eye}
use Rattle.csv_tables.specs.declared.path.TheConstants.{MAX_VIEWS}
use Rattle.level_rules.specs.declared.ThingLine.{ThingLine}
use Rattle.csv_tables.specs.declared.things.TheConstants.{MAX_THINGS, THING_WIDTH}
use Rattle.csv_tables.specs.declared.weapons.WeaponRow.{WeaponRow}
use Rattle.csv_tables.specs.declared.weapons.TheConstants.{MAX_WEAPONS, WEAPON_WIDTH}
use Rattle.csv_tables.specs.Records.{csv_records, checked_shape, is_header, rows_under, table_records, then_checked}
use Rattle.csv_tables.specs.Paths.{path_in, path_of_records, path_row, path_width}
use Rattle.csv_tables.specs.Things.{thing_header, thing_lines, lines_of_records, read_line, thing_line, things_in_table}
use Rattle.csv_tables.specs.Weapons.{weapon_header, weapon_row, weapon_rows, weapons_in, weapons_of_records}
use Rattle.csv_tables.proofs.RowLemmas.{and_then-err, and_then-same, rows_after-first}
use Rattle.csv_tables.proofs.RowSentences.{ok-err, rows_after-within}

-- a row past the limit is one too many
row_shape-past : (limit width row : ℕ) (fields : List (List ℕ)) → limit < row → checked_shape limit width row fields ≡ Err TooMany
unfolding checked_shape
row_shape-past limit width row fields past = let past_limit : nat_lt limit row ≡ true = grind (arith, nat_tests) in rw past_limit refl

path_row-past : (width row : ℕ) (fields : List (List ℕ)) → MAX_VIEWS < row → path_row width row fields ≡ Err TooMany
unfolding path_row
path_row-past width row fields past = and_then-err _ _ TooMany (row_shape-past MAX_VIEWS width row fields past)

thing_line-past : (row : ℕ) (fields : List (List ℕ)) → MAX_THINGS < row → thing_line row fields ≡ Err TooMany
unfolding thing_line
thing_line-past row fields past = and_then-err _ _ TooMany (row_shape-past MAX_THINGS THING_WIDTH row fields past)

read_line-past : (lines : List ThingLine) (row : ℕ) (fields : List (List ℕ)) → MAX_THINGS < row → read_line lines row fields ≡ Err TooMany
unfolding read_line
read_line-past lines row fields past = and_then-err _ _ TooMany (thing_line-past row fields past)

weapon_row-past : (row : ℕ) (fields : List (List ℕ)) → MAX_WEAPONS < row → weapon_row row fields ≡ Err TooMany
unfolding weapon_row
weapon_row-past row fields past = and_then-err _ _ TooMany (row_shape-past MAX_WEAPONS WEAPON_WIDTH row fields past)

path_of_records-first : (n : ℕ) (records : List (List (List ℕ))) → MAX_VIEWS + 2 ≤ n → path_of_records (take n records) ≡ path_of_records records
unfolding path_of_records
path_of_records-first zero records l = absurd (omega arith)
path_of_records-first (suc n) [] l = refl
path_of_records-first (suc n) (head ∷ rows) l =
    and_then-same (path_width head) _ _ (λ width. rows_after-first (λ _. path_row width) MAX_VIEWS n [] rows (λ _ row fields past. path_row-past width row fields past) (omega arith) (omega arith))

-- what is read of the rows under a header
under-first : {A : Type 0} (header : Bool) (short rows : List (List (List ℕ))) (read : List (List (List ℕ)) → Result A CsvRefusal) → read short ≡ read rows → then_checked (cond header (Ok short) (Err Header)) read ≡ then_checked (cond header (Ok rows) (Err Header)) read
under-first true short rows read same = same
under-first false short rows read same = refl

lines_of_records-first : (n : ℕ) (records : List (List (List ℕ))) → MAX_THINGS + 2 ≤ n → lines_of_records (take n records) ≡ lines_of_records records
unfolding lines_of_records rows_under
lines_of_records-first zero records l = absurd (omega arith)
lines_of_records-first (suc n) [] l = refl
lines_of_records-first (suc n) (head ∷ rows) l =
    under-first (is_header thing_header head) (take n rows) rows thing_lines (rows_after-first read_line MAX_THINGS n [] rows (λ lines row fields past. read_line-past lines row fields past) (omega arith) (omega arith))

weapons_of_records-first : (n : ℕ) (records : List (List (List ℕ))) → MAX_WEAPONS + 2 ≤ n → weapons_of_records (take n records) ≡ weapons_of_records records
unfolding weapons_of_records rows_under
weapons_of_records-first zero records l = absurd (omega arith)
weapons_of_records-first (suc n) [] l = refl
weapons_of_records-first (suc n) (head ∷ rows) l =
    under-first (is_header weapon_header head) (take n rows) rows weapon_rows (rows_after-first (λ _. weapon_row) MAX_WEAPONS n [] rows (λ _ row fields past. weapon_row-past row fields past) (omega arith) (omega arith))

-- a table read from the first records of a file that is not too long
module _ (bytes : List ℕ) (records : List (List (List ℕ))) (whole : table_records bytes ≡ Ok (csv_records bytes)) where
  pub path_in-first : (r : Result (List Eye) CsvRefusal) → records ≡ take (MAX_VIEWS + 2) (csv_records bytes) → path_of_records records ≡ r → path_in bytes ≡ r
  unfolding path_in
  path_in-first r first e = rw whole (sym (path_of_records-first (MAX_VIEWS + 2) (csv_records bytes) (omega arith)) ∙ ap path_of_records (sym first) ∙ e)

  pub things_in-first : (r : Result (List ThingLine) CsvRefusal) → records ≡ take (MAX_THINGS + 2) (csv_records bytes) → lines_of_records records ≡ r → things_in_table bytes ≡ r
  unfolding things_in_table
  things_in-first r first e = rw whole (sym (lines_of_records-first (MAX_THINGS + 2) (csv_records bytes) (omega arith)) ∙ ap lines_of_records (sym first) ∙ e)

  pub weapons_in-first : (r : Result (List WeaponRow) CsvRefusal) → records ≡ take (MAX_WEAPONS + 2) (csv_records bytes) → weapons_of_records records ≡ r → weapons_in bytes ≡ r
  unfolding weapons_in
  weapons_in-first r first e = rw whole (sym (weapons_of_records-first (MAX_WEAPONS + 2) (csv_records bytes) (omega arith)) ∙ ap weapons_of_records (sym first) ∙ e)

-- an Ok value under a header is that of the rows
under-ok : {A : Type 0} (header : Bool) (rows : List (List (List ℕ))) (read : List (List (List ℕ)) → Result A CsvRefusal) (a : A) → then_checked (cond header (Ok rows) (Err Header)) read ≡ Ok a → read rows ≡ Ok a
under-ok true rows read a e = e
under-ok false rows read a e = absurd (ok-err a Header (sym e))

-- a weapon table has no more rows than its limit
pub weapons_of_records-within : (records : List (List (List ℕ))) (rows : List WeaponRow) → weapons_of_records records ≡ Ok rows → length rows ≤ MAX_WEAPONS
unfolding weapons_of_records rows_under
weapons_of_records-within [] rows e = absurd (ok-err rows Header (sym e))
weapons_of_records-within (head ∷ records) rows e =
    rows_after-within (λ _. weapon_row) MAX_WEAPONS [] rows records (λ _ row fields past. weapon_row-past row fields past) (omega arith) (under-ok (is_header weapon_header head) records weapon_rows rows e)

-- what holds of an Ok value, from what held of it before
pub if_ok-map : {A E : Type 0} (r : Result A E) (P Q : A → Type 0) → ((value : A) → P value → Q value) → IfOk r P → IfOk r Q
if_ok-map (Ok value) P Q f h = f value h
if_ok-map (Err fault) P Q f h = tt
