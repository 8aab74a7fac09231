-- Laws of the records of a text, and of a header.
use Rattle.view_rules.proofs.Common.{Bor, ◌≡◌, ℕ, zero, suc, ◌+◌, ◌<◌, ◌≤◌, Bool, true, false, ◌&&◌, List, [], ◌∷◌, ◌++◌, length, drop, take, map, get_or, if◌then◌else◌, ◌⊎◌, inl, inr, Option, Some, None, refl, ap, sym, ◌∙◌, arith, bytes_eq, option_map_or, length-map, drop_of_length-le}
use Rattle.csv.specs.Machine.{Read, ends_at_end, field_after, fields_after, is_end, next_record, step}
use Rattle.csv.specs.{declared.reader.Reader.Reader, declared.error.ErrorKind.ErrorKind}
use Rattle.csv.specs.declared.error.ErrorKind.TheVariants as kind
use Rattle.csv.specs.Reading.{ExplainsRead, is_flexible, Reached, records_from, default_config, strip_bom}
use Rattle.csv.specs.{Records.field_at, declared.parser.Config.Config, declared.parser.State.State}
use Rattle.csv.specs.declared.parser.State.TheVariants as st
use Rattle.csv_tables.specs.Records.{is_header, is_of_length, csv_records}

none-some : {A : Type 0} (x : A) → ◌≡◌ {A = Option A} None (Some x) → ⊥
none-some x e = cc

if_some : {A : Type 0} (b : Bool) (x y : Option A) (p : A) → (if b then x else y) ≡ Some p → (x ≡ Some p) ⊎ (y ≡ Some p)
if_some true x y p e = inl e
if_some false x y p e = inr e

-- a record at the end of the bytes leaves none
next-at_end : (cfg : Config) (s : State) (fields : List (List ℕ)) (field : List ℕ) (p : Read) → next_record cfg s fields field [] ≡ Some p → (p.1 ≡ st.StartRecord) × (p.2 ≡ [])
unfolding next_record
next-at_end cfg s fields field p e =
    elim (if_some (ends_at_end s) (Some (fields ++ (field ∷ []), st.StartRecord, [])) None p e) [
      | inl h ↦ let read_is : ◌≡◌ {A = Read} (fields ++ (field ∷ []), st.StartRecord, []) p = cc in (sym (ap (λ (q : Read). q.1) read_is), sym (ap (λ (q : Read). q.2) read_is))
      | inr h ↦ absurd (none-some p h)
    ]

-- a record leaves no more bytes than there were, and fewer where there were any
next-shorter : (cfg : Config) (s : State) (fields : List (List ℕ)) (field xs : List ℕ) (p : Read) → next_record cfg s fields field xs ≡ Some p → length p.2 ≤ length xs
unfolding next_record
next-shorter cfg s fields field [] p e = let at_end = next-at_end cfg s fields field p e in let none_left : length p.2 ≡ 0 = ap length at_end.1 in omega arith
next-shorter cfg s fields field (c ∷ rest) p e =
    elim (if_some (is_end (step cfg s c).1) (Some (fields_after (step cfg s c).1 fields field, (step cfg s c).0, rest)) (next_record cfg (step cfg s c).0 (fields_after (step cfg s c).1 fields field) (field_after (step cfg s c).1 c field) rest) p e) [
      | inl h ↦
          let read_is : ◌≡◌ {A = Read} (fields_after (step cfg s c).1 fields field, (step cfg s c).0, rest) p = cc in
          let rest_length_same : length rest ≡ length p.2 = ap (λ (q : Read). length q.2) read_is in
          omega arith
      | inr h ↦ let rest_shorter = next-shorter cfg (step cfg s c).0 (fields_after (step cfg s c).1 fields field) (field_after (step cfg s c).1 c field) rest p h in omega arith
    ]

next-fewer : (cfg : Config) (s : State) (fields : List (List ℕ)) (field : List ℕ) (c : ℕ) (rest : List ℕ) (p : Read) → next_record cfg s fields field (c ∷ rest) ≡ Some p → length p.2 ≤ length rest
unfolding next_record
next-fewer cfg s fields field c rest p e =
    elim (if_some (is_end (step cfg s c).1) (Some (fields_after (step cfg s c).1 fields field, (step cfg s c).0, rest)) (next_record cfg (step cfg s c).0 (fields_after (step cfg s c).1 fields field) (field_after (step cfg s c).1 c field) rest) p e) [
      | inl h ↦
          let read_is : ◌≡◌ {A = Read} (fields_after (step cfg s c).1 fields field, (step cfg s c).0, rest) p = cc in
          let rest_length_same : length rest ≡ length p.2 = ap (λ (q : Read). length q.2) read_is in
          omega arith
      | inr h ↦ next-shorter cfg (step cfg s c).0 (fields_after (step cfg s c).1 fields field) (field_after (step cfg s c).1 c field) rest p h
    ]

-- no record begins at the end of the bytes
start-none : (cfg : Config) → next_record cfg st.StartRecord [] [] [] ≡ None
unfolding next_record
start-none cfg = refl

-- with no bytes left there is one record at most
reached-last : (cfg : Config) (s s2 : State) (ys : List ℕ) (r : List (List ℕ)) (rs : List (List (List ℕ))) → Reached cfg s [] (r ∷ rs) s2 ys → rs ≡ []
unfolding Reached
reached-last cfg s s2 ys r [] h = refl
reached-last cfg s s2 ys r (q ∷ qs) h =
    let ends_empty = next-at_end cfg s [] [] h.0 h.1 in
    let next_is : next_record cfg h.0.1 [] [] h.0.2 ≡ Some h.3.0 = h.3.1 in
    absurd (none-some h.3.0 (sym (start-none cfg) ∙ rw (ends_empty.0, ends_empty.1) at next_is))

no-more : (cfg : Config) (m n : ℕ) → take n (records_from cfg m st.StartRecord []) ≡ []
unfolding records_from next_record
no-more cfg zero zero = refl
no-more cfg zero (suc n) = refl
no-more cfg (suc m) zero = refl
no-more cfg (suc m) (suc n) = refl

-- the records that were reached are the first ones of the text
reached-take : (cfg : Config) (s s2 : State) (xs ys : List ℕ) (rows : List (List (List ℕ))) (m : ℕ) → Reached cfg s xs rows s2 ys → length xs < m → take (length rows) (records_from cfg m s xs) ≡ rows
unfolding Reached records_from
reached-take cfg s s2 xs ys [] m h l = refl
reached-take cfg s s2 xs ys (r ∷ rs) zero h l = absurd (omega arith)
reached-take cfg s s2 [] ys (r ∷ rs) (suc m) h l =
    let no_more_rows = reached-last cfg s s2 ys r rs h in
    rw (h.1, no_more_rows) (ap (λ (t : List (List ℕ)). t ∷ []) (sym h.2))
reached-take cfg s s2 (c ∷ xs) ys (r ∷ rs) (suc m) h l =
    let bytes_fewer = next-fewer cfg s [] [] c xs h.0 h.1 in
    let rest_reached = reached-take cfg h.0.1 s2 h.0.2 ys rs m h.3 (omega arith) in
    rw (h.1, rest_reached) (ap (λ (t : List (List ℕ)). t ∷ rs) (sym h.2))

-- and all of them where none comes after
reached-end : (cfg : Config) (s s2 : State) (xs ys : List ℕ) (rows : List (List (List ℕ))) (m n : ℕ) → Reached cfg s xs rows s2 ys → next_record cfg s2 [] [] ys ≡ None → length xs < m → length rows ≤ n → take n (records_from cfg m s xs) ≡ rows
unfolding Reached records_from
reached-end cfg s s2 xs ys [] m zero h e l k = refl
reached-end cfg s s2 xs ys [] zero (suc n) h e l k = absurd (omega arith)
reached-end cfg s s2 xs ys [] (suc m) (suc n) h e l k = let no_record_left : next_record cfg s [] [] xs ≡ None = rw (h.0, h.1) e in rw no_record_left refl
reached-end cfg s s2 xs ys (r ∷ rs) m zero h e l k = absurd (omega arith)
reached-end cfg s s2 xs ys (r ∷ rs) zero (suc n) h e l k = absurd (omega arith)
reached-end cfg s s2 [] ys (r ∷ rs) (suc m) (suc n) h e l k =
    let no_more_rows = reached-last cfg s s2 ys r rs h in
    let ends_empty = next-at_end cfg s [] [] h.0 h.1 in
    let no_record_behind = no-more cfg m n in
    rw (h.1, ends_empty.0, ends_empty.1, no_record_behind, no_more_rows) (ap (λ (t : List (List ℕ)). t ∷ []) (sym h.2))
reached-end cfg s s2 (c ∷ xs) ys (r ∷ rs) (suc m) (suc n) h e l k =
    let bytes_fewer = next-fewer cfg s [] [] c xs h.0 h.1 in
    let rest_reached = reached-end cfg h.0.1 s2 h.0.2 ys rs m n h.3 e (omega arith) (omega arith) in
    rw (h.1, rest_reached) (ap (λ (t : List (List ℕ)). t ∷ rs) (sym h.2))

-- a loop that stops at its limit
pub first_records-full : (n : ℕ) (bytes ys : List ℕ) (s2 : State) (rows : List (List (List ℕ))) → Reached default_config st.StartRecord (strip_bom bytes) rows s2 ys → length rows ≡ n → rows ≡ take n (csv_records bytes)
unfolding csv_records
first_records-full n bytes ys s2 rows h e = rw (← e) (sym (reached-take default_config st.StartRecord s2 (strip_bom bytes) ys rows (length (strip_bom bytes) + 1) h (omega arith)))

-- a loop that came to the end
pub first_records-end : (n : ℕ) (bytes ys : List ℕ) (s2 : State) (rows : List (List (List ℕ))) → Reached default_config st.StartRecord (strip_bom bytes) rows s2 ys → next_record default_config s2 [] [] ys ≡ None → length rows ≤ n → rows ≡ take n (csv_records bytes)
unfolding csv_records
first_records-end n bytes ys s2 rows h e l = sym (reached-end default_config st.StartRecord s2 (strip_bom bytes) ys rows (length (strip_bom bytes) + 1) n h e (omega arith) l)

false-end : (b : Bool) → (b && false) ≡ false
false-end true = refl
false-end false = refl

-- a header has as many fields as names
pub is_header-length : (names fields : List (List ℕ)) → ¬ (length fields ≡ length names) → is_header names fields ≡ false
unfolding is_header
is_header-length [] [] d = absurd (d refl)
is_header-length [] (f ∷ fs) d = refl
is_header-length (n ∷ ns) [] d = refl
is_header-length (n ∷ ns) (f ∷ fs) d =
    let rest_differs = is_header-length ns fs (λ e. d (ap suc e)) in
    rw rest_differs (false-end (bytes_eq f n))

-- field i of a header is its name
pub is_header-step : (names fields : List (List ℕ)) (i : ℕ) → i < length names → length fields ≡ length names → is_header (drop i names) (drop i fields) ≡ (option_map_or (λ f. bytes_eq f (get_or names i [])) (field_at fields i) false && is_header (drop (i + 1) names) (drop (i + 1) fields))
unfolding is_header field_at
is_header-step [] fields i l e = absurd (omega arith)
is_header-step (n ∷ ns) [] i l e = absurd (omega (arith, e))
is_header-step (n ∷ ns) (f ∷ fs) zero l e = refl
is_header-step (n ∷ ns) (f ∷ fs) (suc i) l e =
    let rest_step = is_header-step ns fs i (omega arith) (omega (arith, e)) in
    let next_index_is : suc i + 1 ≡ suc (i + 1) = omega arith in
    rw next_index_is rest_step

pub is_header-end : is_header [] [] ≡ true
unfolding is_header
is_header-end = refl

pub ruleset header_steps = (is_header-length, is_header-step, is_header-end)

-- one field more of a header, and the end of the names
pub is_header-at : (names : List (Bor (List ℕ))) (fields : List (List ℕ)) (i : ℕ) (text : List ℕ) (r : Bool) → i < length names → length fields ≡ length names → r ≡ option_map_or (λ f. bytes_eq f text) (field_at fields i) false → get_or (map (λ n. n.now) names) i [] ≡ text → is_header (drop i (map (λ n. n.now) names)) (drop i fields) ≡ (r && is_header (drop (i + 1) (map (λ n. n.now) names)) (drop (i + 1) fields))
is_header-at names fields i text r l e h g =
    let name_count : length (map (λ (n : Bor (List ℕ)). n.now) names) ≡ length names = length-map names (λ n. n.now) in
    rw (h, ← g) (is_header-step (map (λ n. n.now) names) fields i (rw name_count l) (e ∙ sym name_count))

pub is_header-done : (names : List (Bor (List ℕ))) (fields : List (List ℕ)) (i : ℕ) → length names ≤ i → length fields ≡ length names → is_header (drop i (map (λ n. n.now) names)) (drop i fields) ≡ true
is_header-done names fields i l e =
    let name_count : length (map (λ (n : Bor (List ℕ)). n.now) names) ≡ length names = length-map names (λ n. n.now) in
    let no_names_left : drop i (map (λ (n : Bor (List ℕ)). n.now) names) ≡ [] = drop_of_length-le (map (λ (n : Bor (List ℕ)). n.now) names) (rw name_count l) in
    let no_fields_left : drop i fields ≡ [] = drop_of_length-le fields (rw e l) in
    rw (no_names_left, no_fields_left) is_header-end

pub true-false : true ≡ false → ⊥
true-false e = cc

-- where records may have any length, none is refused for its length
pub any-length : {R : Type 0} (rem : R → Option (List ℕ)) (a b : Reader R) (k : ErrorKind) → is_flexible a ≡ true → ExplainsRead rem a b false k → is_of_length k ≡ false
unfolding is_of_length
any-length rem a b (kind.UnequalLengths place expected len) f h = absurd (true-false (sym f ∙ h.0))
any-length rem a b (kind.Io e) f h = refl
any-length rem a b (kind.Utf8 place why) f h = refl
any-length rem a b kind.OutOfMemory f h = refl
any-length rem a b (kind.Serialize text) f h = refl
any-length rem a b (kind.Deserialize place why) f h = refl
