-- What `rows_after` says of the rows before each record, and of how many rows there are.
use Rattle.view_rules.proofs.Common.{◌≡◌, ℕ, suc, ◌+◌, ◌<◌, ◌≤◌, List, [], ◌∷◌, ◌++◌, length, take, get_or, Result, Ok, Err, refl, ap, sym, ◌∙◌, arith, ◌⊎◌, inl, inr, length-append, cases_eq}
use Rattle.csv_tables.specs.declared.fault.CsvRefusal.{CsvRefusal}
use Rattle.csv_tables.specs.{declared.fault.CsvRefusal.TheVariants.TooMany, Rows.rows_after}

-- record k is read where the rows before it were taken, with the next row's number
pub record ReadsTo {A : Type 0} (read : List A → ℕ → List (List ℕ) → Result A CsvRefusal) (rows : List A) (records : List (List (List ℕ))) (k : ℕ) (found : Result A CsvRefusal) : Type 0 where
  pub before : List A
  pub taken : rows_after read rows (take k records) ≡ Ok before
  pub is_read : read before (length before + 1) (get_or records k []) ≡ found

pub ok-err : {A : Type 0} (a : A) (refusal : CsvRefusal) → ◌≡◌ {A = Result A CsvRefusal} (Ok a) (Err refusal) → ⊥
ok-err a refusal e = cc

err-same : {A : Type 0} (a b : CsvRefusal) → ◌≡◌ {A = Result A CsvRefusal} (Err a) (Err b) → a ≡ b
err-same a b e = cc

parted : {A : Type 0} (r : Result A CsvRefusal) → ((a : A) × (r ≡ Ok a)) ⊎ ((e : CsvRefusal) × (r ≡ Err e))
parted (Ok a) = inl (a, refl)
parted (Err e) = inr (e, refl)

-- where the table is refused, some record is, and those before it were taken
pub rows_after-err : {A : Type 0} (read : List A → ℕ → List (List ℕ) → Result A CsvRefusal) (rows : List A) (records : List (List (List ℕ))) (refusal : CsvRefusal)
    → rows_after read rows records ≡ Err refusal → (k : ℕ) × (k < length records) × ReadsTo read rows records k (Err refusal)
unfolding rows_after
rows_after-err read rows [] refusal e = absurd (ok-err rows refusal e)
rows_after-err read rows (fields ∷ rest) refusal e =
    elim (parted (read rows (length rows + 1) fields)) [
      | inl taken ↦
          let rest_refused : rows_after read (rows ++ taken.0 ∷ []) rest ≡ Err refusal = rw taken.1 at e in
          let refused_record = rows_after-err read (rows ++ taken.0 ∷ []) rest refusal rest_refused in (
            suc refused_record.0,
            omega (arith, refused_record.1),
            record {
              before = refused_record.2.before;
              taken = rw taken.1 refused_record.2.taken;
              is_read = refused_record.2.is_read;
            },
          )
      | inr refused ↦
          let refusal_same : refused.0 ≡ refusal = err-same refused.0 refusal (rw refused.1 at e) in
          (0, omega arith, record { before = rows; taken = refl; is_read = refused.1 ∙ ap Err refusal_same })
    ]

-- where it is not, there is a row for each record
pub rows_after-length : {A : Type 0} (read : List A → ℕ → List (List ℕ) → Result A CsvRefusal) (rows all : List A) (records : List (List (List ℕ)))
    → rows_after read rows records ≡ Ok all → length all ≡ length rows + length records
unfolding rows_after
rows_after-length read rows all [] e = let rows_same : rows ≡ all = cc in let lengths_same : length rows ≡ length all = ap length rows_same in omega arith
rows_after-length read rows all (fields ∷ rest) e =
    elim (parted (read rows (length rows + 1) fields)) [
      | inl taken ↦
          let rest_accepted : rows_after read (rows ++ taken.0 ∷ []) rest ≡ Ok all = rw taken.1 at e in
          let all_length = rows_after-length read (rows ++ taken.0 ∷ []) all rest rest_accepted in
          let longer_by_row : length (rows ++ taken.0 ∷ []) ≡ length rows + 1 = length-append rows (taken.0 ∷ []) in omega (arith, all_length, longer_by_row)
      | inr refused ↦ absurd (ok-err all refused.0 (sym e ∙ rw refused.1 refl))
    ]

-- and no more rows than the limit, where each row past it is one too many
pub rows_after-within : {A : Type 0} (read : List A → ℕ → List (List ℕ) → Result A CsvRefusal) (limit : ℕ) (rows all : List A) (records : List (List (List ℕ)))
    → ((rows : List A) (row : ℕ) (fields : List (List ℕ)) → limit < row → read rows row fields ≡ Err TooMany)
    → length rows ≤ limit → rows_after read rows records ≡ Ok all → length all ≤ limit
unfolding rows_after
rows_after-within read limit rows all [] past l e =
    let rows_same : rows ≡ all = cc in let lengths_same : length rows ≡ length all = ap length rows_same in omega arith
rows_after-within read limit rows all (fields ∷ rest) past l e =
    elim (parted (read rows (length rows + 1) fields)) [
      | inl taken ↦
          let rest_accepted : rows_after read (rows ++ taken.0 ∷ []) rest ≡ Ok all = rw taken.1 at e in
          elim (cases_eq (length rows) limit) [
            | inl full ↦ absurd (ok-err taken.0 TooMany (sym taken.1 ∙ past rows (length rows + 1) fields (omega (arith, full))))
            | inr free ↦
                let longer_by_row : length (rows ++ taken.0 ∷ []) ≡ length rows + 1 = length-append rows (taken.0 ∷ []) in
                rows_after-within read limit (rows ++ taken.0 ∷ []) all rest past (omega (arith, l, free, longer_by_row)) rest_accepted
          ]
      | inr refused ↦ absurd (ok-err all refused.0 (sym e ∙ rw refused.1 refl))
    ]
