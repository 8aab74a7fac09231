-- Laws of `rows_after`, for a loop over the records, and for a table of which the first ones are read.
use Rattle.view_rules.proofs.Common.{◌≡◌, ℕ, zero, suc, ◌+◌, ◌<◌, ◌≤◌, List, [], ◌∷◌, ◌++◌, length, map, take, drop, get_or, Result, Ok, Err, refl, ap, sym, ◌∙◌, arith, inl, inr, All, drop_of_length-le, at_drop_more, get_or-map, length-append, length-map, All-push, cases_eq}
use Rattle.csv_tables.specs.declared.fault.CsvRefusal.{CsvRefusal}
use Rattle.csv_tables.specs.declared.fault.CsvRefusal.TheVariants.{TooMany}
use Rattle.csv_tables.specs.declared.fault.CsvFault.{CsvFault}
use Rattle.csv_tables.specs.{declared.fault.CsvFault.TheVariants.Refused, Records.then_checked}
use Rattle.csv_tables.specs.Rows.{rows_after}

-- the records are at their end
pub rows_after-end : {A : Type 0} (read : List A → ℕ → List (List ℕ) → Result A CsvRefusal) (rows : List A) (records : List (List (List ℕ))) (i : ℕ) → length records ≤ i → rows_after read rows (drop i records) ≡ Ok rows
unfolding rows_after
rows_after-end read rows records i l =
    let no_record_left : drop i records ≡ [] = drop_of_length-le records l in
    rw no_record_left refl

-- one record more
rows_after-more : {A : Type 0} (read : List A → ℕ → List (List ℕ) → Result A CsvRefusal) (rows : List A) (records : List (List (List ℕ))) (i : ℕ) (fields : List (List ℕ)) → i < length records → get_or records i [] ≡ fields → length rows ≡ i
    → rows_after read rows (drop i records) ≡ then_checked (read rows (i + 1) fields) (λ row. rows_after read (rows ++ row ∷ []) (drop (i + 1) records))
unfolding rows_after
rows_after-more read rows records i fields l g n =
    let next_record_is = at_drop_more (rows_after read rows) records i [] l in
    rw (next_record_is, g, n) refl

pub rows_after-taken : {A : Type 0} (read : List A → ℕ → List (List ℕ) → Result A CsvRefusal) (rows : List A) (records : List (List (List ℕ))) (i : ℕ) (fields : List (List ℕ)) (row : A) → i < length records → get_or records i [] ≡ fields → length rows ≡ i
    → read rows (i + 1) fields ≡ Ok row → rows_after read rows (drop i records) ≡ rows_after read (rows ++ row ∷ []) (drop (i + 1) records)
rows_after-taken read rows records i fields row l g n e = rows_after-more read rows records i fields l g n ∙ rw e refl

pub rows_after-refused : {A : Type 0} (read : List A → ℕ → List (List ℕ) → Result A CsvRefusal) (rows : List A) (records : List (List (List ℕ))) (i : ℕ) (fields : List (List ℕ)) (refusal : CsvRefusal) → i < length records → get_or records i [] ≡ fields → length rows ≡ i
    → read rows (i + 1) fields ≡ Err refusal → rows_after read rows (drop i records) ≡ Err refusal
rows_after-refused read rows records i fields refusal l g n e = rows_after-more read rows records i fields l g n ∙ rw e refl

pub and_then-same : {A B : Type 0} (r : Result A CsvRefusal) (f g : A → Result B CsvRefusal) → ((a : A) → f a ≡ g a) → then_checked r f ≡ then_checked r g
and_then-same (Ok a) f g h = h a
and_then-same (Err e) f g h = refl

pub and_then-err : {A B : Type 0} (r : Result A CsvRefusal) (f : A → Result B CsvRefusal) (e : CsvRefusal) → r ≡ Err e → then_checked r f ≡ Err e
and_then-err r f e h = rw h refl

-- where each row past the limit is one too many, the records past the first of those say nothing
pub rows_after-first : {A : Type 0} (read : List A → ℕ → List (List ℕ) → Result A CsvRefusal) (limit n : ℕ) (rows : List A) (records : List (List (List ℕ)))
    → ((rows : List A) (row : ℕ) (fields : List (List ℕ)) → limit < row → read rows row fields ≡ Err TooMany)
    → length rows ≤ limit → limit < length rows + n → rows_after read rows (take n records) ≡ rows_after read rows records
unfolding rows_after
rows_after-first read limit zero rows records past l m = absurd (omega arith)
rows_after-first read limit (suc n) rows [] past l m = refl
rows_after-first {A} read limit (suc n) rows (fields ∷ records) past l m =
    elim (cases_eq (length rows) limit) [
      | inl full ↦
          let refused = past rows (length rows + 1) fields (omega arith) in
          and_then-err _ _ TooMany refused ∙ sym (and_then-err _ _ TooMany refused)
      | inr open_ ↦
          and_then-same (read rows (length rows + 1) fields) _ _ (λ row.
          let longer_by_row : length (rows ++ row ∷ []) ≡ length rows + 1 = length-append rows (row ∷ []) in
          rows_after-first read limit n (rows ++ row ∷ []) records past (omega (arith, longer_by_row)) (omega (arith, longer_by_row)))
    ]

-- two refusals of one result
pub refusal-same : {T : Type 0} (a b : CsvRefusal) → ◌≡◌ {A = Result T CsvFault} (Err (Refused a)) (Err (Refused b)) → a ≡ b
refusal-same a b e = cc

-- the rows so far, one a record, and those of the records from i on, are those of all records
pub record ReadSoFar {A R : Type 0} (kept : A → Type 0) (read : List A → ℕ → List (List ℕ) → Result A CsvRefusal) (fields_of : R → List (List ℕ)) (records : List R) (rows : List A) (i : ℕ) : Type 0 where
  pub so_far : rows_after read [] (map fields_of records) ≡ rows_after read rows (drop i (map fields_of records))
  pub count : length rows ≡ i
  pub all : All kept rows

-- the record at i among the fields
within_fields : {R : Type 0} (fields_of : R → List (List ℕ)) (records : List R) (i : ℕ) → i < length records → i < length (map fields_of records)
within_fields fields_of records i l = let records_length = length-map records fields_of in rw records_length l

fields_at : {R : Type 0} (fields_of : R → List (List ℕ)) (records : List R) (i : ℕ) (record_ : R) → i < length records → record_ ≡ get_or records i record_ → get_or (map fields_of records) i [] ≡ fields_of record_
fields_at fields_of records i record_ l is = get_or-map fields_of records i record_ [] l ∙ ap fields_of (sym is)

pub read_more : {A R : Type 0} (kept : A → Type 0) (read : List A → ℕ → List (List ℕ) → Result A CsvRefusal) (fields_of : R → List (List ℕ)) (records : List R) (rows : List A) (i : ℕ) (record_ : R) (row : A) → ReadSoFar kept read fields_of records rows i
    → i < length records → record_ ≡ get_or records i record_ → Ok row ≡ read rows (i + 1) (fields_of record_) → kept row → ReadSoFar kept read fields_of records (rows ++ row ∷ []) (i + 1)
read_more kept read fields_of records rows i record_ row old l is e k = record {
  so_far = old.so_far ∙ rows_after-taken read rows (map fields_of records) i (fields_of record_) row (within_fields fields_of records i l) (fields_at fields_of records i record_ l is) old.count (sym e);
  count = length-append rows (row ∷ []) ∙ ap (λ n. n + 1) old.count;
  all = All-push kept rows row old.all k;
}

pub read_refused : {A R T : Type 0} (kept : A → Type 0) (read : List A → ℕ → List (List ℕ) → Result A CsvRefusal) (fields_of : R → List (List ℕ)) (records : List R) (rows : List A) (i : ℕ) (record_ : R) (a b : CsvRefusal) → ReadSoFar kept read fields_of records rows i
    → i < length records → record_ ≡ get_or records i record_ → Err a ≡ read rows (i + 1) (fields_of record_) → ◌≡◌ {A = Result T CsvFault} (Err (Refused a)) (Err (Refused b)) → rows_after read [] (map fields_of records) ≡ Err b
read_refused {A} {R} {T} kept read fields_of records rows i record_ a b old l is e same =
    old.so_far ∙ rows_after-refused read rows (map fields_of records) i (fields_of record_) b (within_fields fields_of records i l) (fields_at fields_of records i record_ l is) old.count (sym e ∙ ap Err (refusal-same {T = T} a b same))

pub read_to_end : {A R : Type 0} (kept : A → Type 0) (read : List A → ℕ → List (List ℕ) → Result A CsvRefusal) (fields_of : R → List (List ℕ)) (records : List R) (rows : List A) (i : ℕ) → ReadSoFar kept read fields_of records rows i
    → length records ≤ i → rows_after read [] (map fields_of records) ≡ Ok rows
read_to_end kept read fields_of records rows i old l = let records_length = length-map records fields_of in old.so_far ∙ rows_after-end read rows (map fields_of records) i (rw records_length l)
