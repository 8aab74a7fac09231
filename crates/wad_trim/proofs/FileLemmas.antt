-- The bytes of a trimmed file, in the order in which they are written.
use Rattle.art_rules.proofs.Common.{[], add-zero, All, ap, append_assoc, arith, codes, drop, drop-cons, flat_map, flat_map-append, flat_map-cons, get_or, length, length-append, length-map, List, map, refl, suc, sum_by, sum_by-cons, sum_by_more, sym, take, take-append-drop, take_all, take_more, zero, ℕ, ◌*◌, ◌++◌, ◌+◌, ◌<◌, ◌∙◌, ◌∷◌, ◌≡◌, ◌≤◌}
use Rattle.wad_trim.specs.Rules.{AllWithin, Copy, ENTRY_SIZE, HEADER_SIZE, HEAD_SIZE, Label, Lump, LumpNo, MAX_FILE_BYTES, Mark, TrimPart, contents, entries, file_of, file_size, lump_bytes, no_lump, part_bytes, part_lump, part_name, part_size, parts_size, trimmed_file, wad_file, word_bytes}
use Rattle.art_rules.proofs.Laws.{lump_bytes-length}
use Rattle.wad_trim.specs.{Plans.FitsFile, Plans.entries_from, Writes.IsCopied, Writes.IsPartThere}

-- a part as an entry at a place
abbrev pub entry : List Lump → ℕ → TrimPart → List ℕ
entry lumps place part = word_bytes place ++ (word_bytes (part_size lumps part) ++ part_name lumps part)

entries-append : (lumps : List Lump) (place : ℕ) (xs ys : List TrimPart) →
    entries_from lumps place (xs ++ ys) ≡ entries_from lumps place xs ++ entries_from lumps (place + parts_size lumps xs) ys
unfolding entries_from parts_size
entries-append lumps place [] ys = ap (λ (n : ℕ). entries_from lumps n ys) (sym (add-zero place))
entries-append lumps place (x ∷ xs) ys =
    let next = place + part_size lumps x in
    let place_same : next + parts_size lumps xs ≡ place + parts_size lumps (x ∷ xs) = omega (arith, sum_by-cons (part_size lumps) x xs) in
    ap (λ (es : List ℕ). entry lumps place x ++ es) (entries-append lumps next xs ys)
    ∙ sym (append_assoc (entry lumps place x) (entries_from lumps next xs) (entries_from lumps (next + parts_size lumps xs) ys))
    ∙ ap (λ (n : ℕ). (entry lumps place x ++ entries_from lumps next xs) ++ entries_from lumps n ys) place_same

entries-one : (lumps : List Lump) (place : ℕ) (part : TrimPart) (rest : List TrimPart) →
    entries_from lumps place (part ∷ rest) ≡ entry lumps place part ++ entries_from lumps (place + part_size lumps part) rest
unfolding entries_from
entries-one lumps place part rest = refl

-- what the parts behind an index have
abbrev pub entries_behind : List Lump → List TrimPart → ℕ → TrimPart → List ℕ
entries_behind lumps parts i d = entries_from lumps (HEADER_SIZE + parts_size lumps (take i parts) + part_size lumps (get_or parts i d)) (drop (suc i) parts)

-- the entries so far, the next one, and those behind it
entries-left : (lumps : List Lump) (parts : List TrimPart) (i : ℕ) (d : TrimPart) → i < length parts →
    entries_from lumps HEADER_SIZE (take i parts) ++ (entry lumps (HEADER_SIZE + parts_size lumps (take i parts)) (get_or parts i d) ++ entries_behind lumps parts i d)
    ≡ entries_from lumps HEADER_SIZE parts
entries-left lumps parts i d l =
    let place = HEADER_SIZE + parts_size lumps (take i parts) in
    ap (λ (es : List ℕ). entries_from lumps HEADER_SIZE (take i parts) ++ es)
    (sym (entries-one lumps place (get_or parts i d) (drop (suc i) parts)) ∙ ap (entries_from lumps place) (sym (drop-cons parts i d l)))
    ∙ sym (entries-append lumps HEADER_SIZE (take i parts) (drop i parts))
    ∙ ap (entries_from lumps HEADER_SIZE) (take-append-drop i parts)

entries-last : (lumps : List Lump) (place : ℕ) (part : TrimPart) → entries_from lumps place (part ∷ []) ≡ entry lumps place part
unfolding entries_from
entries-last lumps place part = append_nil (entry lumps place part) where
  append_nil : (xs : List ℕ) → xs ++ [] ≡ xs
  append_nil [] = refl
  append_nil (x ∷ xs) = ap (λ ys. x ∷ ys) (append_nil xs)

-- one entry more
entries-more : (lumps : List Lump) (parts : List TrimPart) (i : ℕ) (d : TrimPart) → i < length parts →
    entries_from lumps HEADER_SIZE (take i parts) ++ entry lumps (HEADER_SIZE + parts_size lumps (take i parts)) (get_or parts i d)
    ≡ entries_from lumps HEADER_SIZE (take (i + 1) parts)
entries-more lumps parts i d l =
    ap (λ (es : List ℕ). entries_from lumps HEADER_SIZE (take i parts) ++ es) (sym (entries-last lumps (HEADER_SIZE + parts_size lumps (take i parts)) (get_or parts i d)))
    ∙ sym (entries-append lumps HEADER_SIZE (take i parts) (get_or parts i d ∷ []))
    ∙ ap (entries_from lumps HEADER_SIZE) (sym (take_more parts i d l))

-- the entry of the next part, by its place, its size and its name
module _ (lumps : List Lump) (parts : List TrimPart) (i : ℕ) (part : TrimPart) {place size : ℕ} {name : List ℕ} (l : i < length parts) (is : part ≡ get_or parts i part)
    (p : place ≡ HEADER_SIZE + parts_size lumps (take i parts)) (s : size ≡ part_size lumps part) (n : name ≡ part_name lumps part) where
  entry-is : word_bytes place ++ (word_bytes size ++ name) ≡ entry lumps (HEADER_SIZE + parts_size lumps (take i parts)) (get_or parts i part)
  entry-is =
      ap (λ (k : ℕ). word_bytes k ++ (word_bytes size ++ name)) p
      ∙ ap (λ (k : ℕ). word_bytes (HEADER_SIZE + parts_size lumps (take i parts)) ++ (word_bytes k ++ name)) s
      ∙ ap (λ (v : List ℕ). word_bytes (HEADER_SIZE + parts_size lumps (take i parts)) ++ (word_bytes (part_size lumps part) ++ v)) n
      ∙ ap (entry lumps (HEADER_SIZE + parts_size lumps (take i parts))) is

  pub entry-left : entries_from lumps HEADER_SIZE (take i parts) ++ ((word_bytes place ++ (word_bytes size ++ name)) ++ entries_behind lumps parts i part) ≡ entries_from lumps HEADER_SIZE parts
  entry-left = ap (λ (v : List ℕ). entries_from lumps HEADER_SIZE (take i parts) ++ (v ++ entries_behind lumps parts i part)) entry-is ∙ entries-left lumps parts i part l

  pub entry-more : entries_from lumps HEADER_SIZE (take i parts) ++ (word_bytes place ++ (word_bytes size ++ name)) ≡ entries_from lumps HEADER_SIZE (take (i + 1) parts)
  entry-more = ap (λ (v : List ℕ). entries_from lumps HEADER_SIZE (take i parts) ++ v) entry-is ∙ entries-more lumps parts i part l

-- no part yet
pub entries-none : (lumps : List Lump) (place : ℕ) → entries_from lumps place [] ≡ []
unfolding entries_from
entries-none lumps place = refl

-- the size of one part more
pub size-more : (lumps : List Lump) (parts : List TrimPart) (i : ℕ) (part : TrimPart) → i < length parts → part ≡ get_or parts i part →
    parts_size lumps (take (i + 1) parts) ≡ parts_size lumps (take i parts) + part_size lumps part
unfolding parts_size
size-more lumps parts i part l is = sum_by_more (part_size lumps) parts i part l ∙ ap (λ p. sum_by (part_size lumps) (take i parts) + part_size lumps p) (sym is)

size-append : (lumps : List Lump) (xs ys : List TrimPart) → parts_size lumps (xs ++ ys) ≡ parts_size lumps xs + parts_size lumps ys
unfolding parts_size
size-append lumps [] ys = omega arith
size-append lumps (x ∷ xs) ys = omega (arith, sum_by-cons (part_size lumps) x (xs ++ ys), sum_by-cons (part_size lumps) x xs, size-append lumps xs ys)

-- the parts up to one are no larger than all
pub size-within : (lumps : List Lump) (parts : List TrimPart) (i : ℕ) (part : TrimPart) → i < length parts → part ≡ get_or parts i part →
    parts_size lumps (take i parts) + part_size lumps part ≤ parts_size lumps parts
size-within lumps parts i part l is =
    let sizes_add_up : parts_size lumps (take (i + 1) parts) + parts_size lumps (drop (i + 1) parts) ≡ parts_size lumps parts =
    sym (size-append lumps (take (i + 1) parts) (drop (i + 1) parts)) ∙ ap (parts_size lumps) (take-append-drop (i + 1) parts) in
    omega (arith, sizes_add_up, size-more lumps parts i part l is)

-- a lump that a part copies is copied
any_default : (xs : List TrimPart) (j : ℕ) (x y : TrimPart) → j < length xs → get_or xs j x ≡ get_or xs j y
any_default [] j x y lt = absurd (omega arith)
any_default (z ∷ xs) zero x y lt = refl
any_default (z ∷ xs) (suc j) x y lt = any_default xs j x y (omega (arith, lt))

pub copied-among : (parts : List TrimPart) (i : ℕ) (part : TrimPart) (lump : LumpNo) → i < length parts → part ≡ get_or parts i part → part ≡ Copy lump → (n : ℕ) → n ≡ lump.0 → IsCopied parts n
copied-among parts i part lump l is copy n e =
    (i, l, any_default parts i (Copy (record { 0 = n })) part l ∙ sym is ∙ copy ∙ ap (λ (k : ℕ). Copy (record { 0 = k })) (sym e))

pub bytes-one : (part : TrimPart) (lump : LumpNo) → part ≡ Copy lump → (bytes : ℕ → List ℕ) → bytes lump.0 ≡ part_bytes bytes part
unfolding part_bytes
bytes-one part lump is bytes = ap (part_bytes bytes) (sym is)

-- one that copies none has no bytes
pub bytes-none : (part : TrimPart) → ((lump : LumpNo) → part ≡ Copy lump → ⊥) → (bytes : ℕ → List ℕ) → part_bytes bytes part ≡ []
unfolding part_bytes
bytes-none (Mark name) other bytes = refl
bytes-none (Label lump) other bytes = refl
bytes-none (Copy lump) other bytes = absurd (other lump refl)

-- no part has a size
pub size-none : (lumps : List Lump) → parts_size lumps [] ≡ 0
unfolding parts_size
size-none lumps = refl

-- what fits a file: its bytes before the entries
pub fits-size : (lumps : List Lump) (parts : List TrimPart) → FitsFile lumps parts → HEADER_SIZE + parts_size lumps parts ≤ MAX_FILE_BYTES
unfolding file_size
fits-size lumps parts fits = let room : HEAD_SIZE + parts_size lumps parts + ENTRY_SIZE * length parts ≤ MAX_FILE_BYTES = fits.bytes in omega (arith, room)

-- the header of a file of parts
abbrev pub head_of : List Lump → List TrimPart → List ℕ
head_of lumps parts = codes "IWAD" ++ (word_bytes (length parts) ++ word_bytes (HEADER_SIZE + parts_size lumps parts))

-- the bytes of parts, one after the other
abbrev pub bytes_by : (ℕ → List ℕ) → List TrimPart → List ℕ
bytes_by bytes parts = flat_map (part_bytes bytes) parts

-- the header and the bytes of the parts below an index
abbrev pub so_far : List Lump → List TrimPart → ℕ → (ℕ → List ℕ) → List ℕ
so_far lumps parts i bytes = head_of lumps parts ++ bytes_by bytes (take i parts)

-- the bytes so far, those of the next part, and those behind it
pub bytes-left : (bytes : ℕ → List ℕ) (parts : List TrimPart) (i : ℕ) (d : TrimPart) → i < length parts →
    bytes_by bytes (take i parts) ++ (part_bytes bytes (get_or parts i d) ++ bytes_by bytes (drop (suc i) parts)) ≡ bytes_by bytes parts
bytes-left bytes parts i d l =
    ap (λ (v : List ℕ). bytes_by bytes (take i parts) ++ v) (sym (flat_map-cons (part_bytes bytes) (get_or parts i d) (drop (suc i) parts)) ∙ ap (bytes_by bytes) (sym (drop-cons parts i d l)))
    ∙ sym (flat_map-append (part_bytes bytes) (take i parts) (drop i parts)) ∙ ap (bytes_by bytes) (take-append-drop i parts)

-- the bytes of one part more
pub bytes-more : (bytes : ℕ → List ℕ) (parts : List TrimPart) (i : ℕ) (d : TrimPart) → i < length parts →
    bytes_by bytes (take i parts) ++ part_bytes bytes (get_or parts i d) ≡ bytes_by bytes (take (i + 1) parts)
bytes-more bytes parts i d l =
    ap (λ (v : List ℕ). bytes_by bytes (take i parts) ++ v) (sym (flat_map_one (part_bytes bytes (get_or parts i d))))
    ∙ sym (flat_map-append (part_bytes bytes) (take i parts) (get_or parts i d ∷ []))
    ∙ ap (bytes_by bytes) (sym (take_more parts i d l)) where
      flat_map_one : (xs : List ℕ) → xs ++ [] ≡ xs
      flat_map_one [] = refl
      flat_map_one (x ∷ xs) = ap (λ ys. x ∷ ys) (flat_map_one xs)

-- parts of which each is there
module _ (files : List (List ℕ)) (lumps : List Lump) (within : AllWithin files lumps) where
  part-sized : (p : TrimPart) → IsPartThere (length lumps) p → length (part_bytes (lump_bytes files lumps) p) ≡ part_size lumps p
  unfolding part_bytes part_size
  part-sized (Mark name) there = refl
  part-sized (Label lump) there = refl
  part-sized (Copy lump) there = lump_bytes-length files lumps lump.0 (within lump.0 no_lump there)

  behind : (p : TrimPart) (parts : List TrimPart) → All (IsPartThere (length lumps)) (p ∷ parts) → All (IsPartThere (length lumps)) parts
  behind p parts there = λ i d l. there (suc i) d (omega (arith, l))

  first : (p : TrimPart) (parts : List TrimPart) → All (IsPartThere (length lumps)) (p ∷ parts) → IsPartThere (length lumps) p
  first p parts there = there 0 p (omega arith)

  whole-size : (parts : List TrimPart) → All (IsPartThere (length lumps)) parts → length (contents (map (part_lump (lump_bytes files lumps) lumps) parts)) ≡ parts_size lumps parts
  unfolding contents parts_size part_lump
  whole-size [] there = refl
  whole-size (p ∷ parts) there =
      length-append (part_bytes (lump_bytes files lumps) p) (contents (map (part_lump (lump_bytes files lumps) lumps) parts))
      ∙ rw (part-sized p (first p parts there), whole-size parts (behind p parts there)) (sym (sum_by-cons (part_size lumps) p parts))

  whole-bytes : (parts : List TrimPart) → contents (map (part_lump (lump_bytes files lumps) lumps) parts) ≡ bytes_by (lump_bytes files lumps) parts
  unfolding contents part_lump
  whole-bytes [] = refl
  whole-bytes (p ∷ parts) = ap (λ (v : List ℕ). part_bytes (lump_bytes files lumps) p ++ v) (whole-bytes parts)

  whole-entries : (place : ℕ) (parts : List TrimPart) → All (IsPartThere (length lumps)) parts → entries place (map (part_lump (lump_bytes files lumps) lumps) parts) ≡ entries_from lumps place parts
  unfolding entries entries_from part_lump
  whole-entries place [] there = refl
  whole-entries place (p ∷ parts) there =
      let size = part-sized p (first p parts there) in
      let rest_entries = entries_from lumps (place + part_size lumps p) parts in
      ap (λ (n : ℕ). word_bytes place ++ word_bytes n ++ part_name lumps p ++ entries (place + n) (map (part_lump (lump_bytes files lumps) lumps) parts)) size
      ∙ ap (λ (v : List ℕ). word_bytes place ++ word_bytes (part_size lumps p) ++ part_name lumps p ++ v) (whole-entries (place + part_size lumps p) parts (behind p parts there))
      ∙ ap (λ (v : List ℕ). v ++ rest_entries) (append_assoc (word_bytes place) (word_bytes (part_size lumps p)) (part_name lumps p))

  -- header, bytes and entries are the file
  pub whole-file : (parts : List TrimPart) → All (IsPartThere (length lumps)) parts →
      (head_of lumps parts ++ bytes_by (lump_bytes files lumps) parts) ++ entries_from lumps HEADER_SIZE parts ≡ trimmed_file (lump_bytes files lumps) lumps parts
  unfolding trimmed_file wad_file file_of
  whole-file parts there =
      let put = map (part_lump (lump_bytes files lumps) lumps) parts in
      let all_entries = entries_from lumps HEADER_SIZE parts in
      sym (ap (λ (n : ℕ). codes "IWAD" ++ word_bytes n ++ word_bytes (HEAD_SIZE + length (contents put)) ++ contents put ++ entries HEAD_SIZE put) (length-map parts (part_lump (lump_bytes files lumps) lumps))
      ∙ ap (λ (n : ℕ). codes "IWAD" ++ word_bytes (length parts) ++ word_bytes (HEAD_SIZE + n) ++ contents put ++ entries HEAD_SIZE put) (whole-size parts there)
      ∙ ap (λ (v : List ℕ). codes "IWAD" ++ word_bytes (length parts) ++ word_bytes (HEAD_SIZE + parts_size lumps parts) ++ v ++ entries HEAD_SIZE put) (whole-bytes parts)
      ∙ ap (λ (v : List ℕ). codes "IWAD" ++ word_bytes (length parts) ++ word_bytes (HEAD_SIZE + parts_size lumps parts) ++ bytes_by (lump_bytes files lumps) parts ++ v) (whole-entries HEAD_SIZE parts there)
      ∙ ap (λ (v : List ℕ). v ++ bytes_by (lump_bytes files lumps) parts ++ all_entries) (append_assoc (codes "IWAD") (word_bytes (length parts)) (word_bytes (HEADER_SIZE + parts_size lumps parts))))

  -- the header and the bytes of all parts, and then the entries
  pub file-ended : (parts : List TrimPart) (i : ℕ) → length parts ≤ i → All (IsPartThere (length lumps)) parts →
      so_far lumps parts i (lump_bytes files lumps) ++ entries_from lumps HEADER_SIZE parts ≡ trimmed_file (lump_bytes files lumps) lumps parts
  file-ended parts i l there =
      ap (λ (some : List TrimPart). (head_of lumps parts ++ bytes_by (lump_bytes files lumps) some) ++ entries_from lumps HEADER_SIZE parts) (take_all i parts l)
      ∙ whole-file parts there

  regroup : (h t p d e : List ℕ) → (h ++ t) ++ (p ++ (d ++ e)) ≡ (h ++ (t ++ (p ++ d))) ++ e
  regroup h t p d e = simp append_assoc

  -- the bytes of a part, and what is left of the file
  pub file-left : (parts : List TrimPart) (i : ℕ) (part : TrimPart) → i < length parts → part ≡ get_or parts i part → All (IsPartThere (length lumps)) parts →
      so_far lumps parts i (lump_bytes files lumps) ++ (part_bytes (lump_bytes files lumps) part ++ (bytes_by (lump_bytes files lumps) (drop (suc i) parts) ++ entries_from lumps HEADER_SIZE parts))
      ≡ trimmed_file (lump_bytes files lumps) lumps parts
  file-left parts i part l is there =
      let bytes = lump_bytes files lumps in
      let all_entries = entries_from lumps HEADER_SIZE parts in
      ap (λ (p : TrimPart). so_far lumps parts i bytes ++ (part_bytes bytes p ++ (bytes_by bytes (drop (suc i) parts) ++ all_entries))) is
      ∙ regroup (head_of lumps parts) (bytes_by bytes (take i parts)) (part_bytes bytes (get_or parts i part)) (bytes_by bytes (drop (suc i) parts)) all_entries
      ∙ ap (λ (v : List ℕ). (head_of lumps parts ++ v) ++ all_entries) (bytes-left bytes parts i part l)
      ∙ whole-file parts there

  -- all behind the header
  pub file-begun : (parts : List TrimPart) → All (IsPartThere (length lumps)) parts →
      head_of lumps parts ++ (bytes_by (lump_bytes files lumps) parts ++ entries_from lumps HEADER_SIZE parts) ≡ trimmed_file (lump_bytes files lumps) lumps parts
  file-begun parts there = sym (append_assoc (head_of lumps parts) (bytes_by (lump_bytes files lumps) parts) (entries_from lumps HEADER_SIZE parts)) ∙ whole-file parts there

-- the header and the bytes of one part more
pub so_far-more : (lumps : List Lump) (bytes : ℕ → List ℕ) (parts : List TrimPart) (i : ℕ) (part : TrimPart) → i < length parts → part ≡ get_or parts i part →
    so_far lumps parts i bytes ++ part_bytes bytes part ≡ so_far lumps parts (i + 1) bytes
so_far-more lumps bytes parts i part l is =
    ap (λ (p : TrimPart). so_far lumps parts i bytes ++ part_bytes bytes p) is
    ∙ append_assoc (head_of lumps parts) (bytes_by bytes (take i parts)) (part_bytes bytes (get_or parts i part))
    ∙ ap (λ (v : List ℕ). head_of lumps parts ++ v) (bytes-more bytes parts i part l)
