-- A new file of lumps is a WAD whose directory lists them.
use Rattle.art_rules.proofs.Common.{[], AllByRecursion, and-false_right, ap, append-nil, append_assoc, arith, codes, cond, drop, drop-append-add, drop-append_seam, drop-drop, false, from_le_bytes, from_le_bytes-to_le_bytes_4, get_or, length, length-append, List, lt-false, nat_lt, None, not, Ok, option_map, position_or_len, position_or_len_is, refl, Some, suc, sym, take, take-append_seam, take-length, to_le_bytes, true, w32, zero, ℕ, ◌*◌, ◌++◌, ◌+◌, ◌<◌, ◌==◌, ◌^◌, ◌∙◌, ◌∷◌, ◌≡◌, ◌≤◌}
use Rattle.word_rules.specs.Bytes.{word_at}
use Rattle.art_rules.proofs.Laws.{listed-all}
use Rattle.trim_rules.specs.Rules.{ENTRY_SIZE, Entry, HEADER_SIZE, HEAD_SIZE, LETTER_COUNT, Lump, MAX_LUMPS, contents, directory, directory_place, entries, entries_in, entry_at, entry_count, entry_refusal, file_lumps, file_of, header, header_refusal, is_wad, lump_in, lumps_from, lumps_in, name_of, no_lump, passes_end, refusal_from, wad_file, whole_header_refusal, word_bytes}
use Rattle.made_rules.specs.Wads as made
use Rattle.trim_rules.specs.Files.{stored_from, stored_lumps}

-- the number that four bytes spell
pub word_value : (n : ℕ) (xs : List ℕ) → n < 2 ^ 32 → word_at (word_bytes n ++ xs) 0 ≡ n
unfolding word_bytes word_at
word_value n xs lt = let same_word : from_le_bytes w32 (to_le_bytes w32 n) ≡ n = from_le_bytes-to_le_bytes_4 n lt in omega (arith, same_word)

-- a name as a directory spells it
pub record IsSpelled (lump : made.Lump) : Type 0 where
  pub size : length lump.name ≡ 8
  pub name : name_of lump.name ≡ lump.name

same_lump : (p p' s s' : ℕ) (n n' : List ℕ) → p ≡ p' → s ≡ s' → n ≡ n'
    → (let stored : Lump = record { file = 0; place = p; size = s; name = n } in stored) ≡ record { file = 0; place = p'; size = s'; name = n' }
same_lump p p' s s' n n' e f g = cc

entry : ℕ → made.Lump → List ℕ
entry place lump = (word_bytes place ++ word_bytes (length lump.bytes)) ++ lump.name

entry-length : (place : ℕ) (lump : made.Lump) → IsSpelled lump → length (entry place lump) ≡ 16
unfolding entry word_bytes
entry-length place lump spelled = rw (length-append, spelled.size) refl

name_part : (place : ℕ) (lump : made.Lump) → IsSpelled lump → name_of (take 8 (drop 8 (entry place lump))) ≡ lump.name
unfolding entry word_bytes
name_part place lump spelled =
    ap name_of (ap (λ n. take n lump.name) (sym spelled.size) ∙ take_all lump.name) ∙ spelled.name where
      take_all : (xs : List ℕ) → take (length xs) xs ≡ xs
      take_all [] = refl
      take_all (x ∷ xs) = ap (λ ys. x ∷ ys) (take_all xs)

-- an entry spells its lump
entry-lump : (place : ℕ) (lump : made.Lump) → IsSpelled lump → place < 2 ^ 32 → length lump.bytes < 2 ^ 32
    → lump_in 0 (entry place lump) ≡ record { file = 0; place = place; size = length lump.bytes; name = lump.name }
unfolding entry word_bytes word_at
entry-lump place lump spelled p s =
    same_lump _ _ _ _ _ _ (word_value place (word_bytes (length lump.bytes) ++ lump.name) p) (word_value (length lump.bytes) lump.name s) (name_part place lump spelled)

entries-first : (place : ℕ) (lump : made.Lump) (rest : List made.Lump) → entries place (lump ∷ rest) ≡ entry place lump ++ entries (place + length lump.bytes) rest
unfolding entries entry
entries-first place lump rest = refl

pub entries-length : (place : ℕ) (lumps : List made.Lump) → AllByRecursion IsSpelled lumps → length (entries place lumps) ≡ 16 * length lumps
unfolding entries
entries-length place [] spelled = refl
entries-length place (lump ∷ rest) spelled =
    ap length (entries-first place lump rest)
    ∙ length-append (entry place lump) (entries (place + length lump.bytes) rest)
    ∙ rw (entry-length place lump spelled.0, entries-length (place + length lump.bytes) rest spelled.1) (omega arith)

-- entry k of the directory
first_entry : (place : ℕ) (lump : made.Lump) (rest : List made.Lump) → IsSpelled lump → entry_at (entries place (lump ∷ rest)) 0 ≡ entry place lump
first_entry place lump rest spelled =
    ap (λ es. take 16 es) (entries-first place lump rest)
    ∙ ap (λ n. take n (entry place lump ++ entries (place + length lump.bytes) rest)) (sym (entry-length place lump spelled))
    ∙ take-append_seam (entry place lump) (entries (place + length lump.bytes) rest)

later_entry : (place : ℕ) (lump : made.Lump) (rest : List made.Lump) (k : ℕ) → IsSpelled lump
    → entry_at (entries place (lump ∷ rest)) (suc k) ≡ entry_at (entries (place + length lump.bytes) rest) k
later_entry place lump rest k spelled =
    let entries_size_step : 16 * suc k ≡ 16 + 16 * k = omega arith in
    let all_entries = entries place (lump ∷ rest) in
    ap (λ es. take 16 es)
    (ap (λ n. drop n all_entries) entries_size_step
    ∙ sym (drop-drop (16 * k) 16 all_entries)
    ∙ ap (drop (16 * k))
    (ap (drop 16) (entries-first place lump rest)
    ∙ ap (λ n. drop n (entry place lump ++ entries (place + length lump.bytes) rest)) (sym (entry-length place lump spelled))
    ∙ drop-append_seam (entry place lump) (entries (place + length lump.bytes) rest)))

stored-entry : (place : ℕ) (lumps : List made.Lump) (k : ℕ) (d : Lump) → AllByRecursion IsSpelled lumps → place + length (contents lumps) < 2 ^ 32
    → k < length lumps → get_or (stored_from place lumps) k d ≡ lump_in 0 (entry_at (entries place lumps) k)
unfolding stored_from contents
stored-entry place [] k d spelled fits lt = absurd (omega arith)
stored-entry place (lump ∷ rest) zero d spelled fits lt =
    let length_adds : length (lump.bytes ++ contents rest) ≡ length lump.bytes + length (contents rest) = length-append lump.bytes (contents rest) in
    sym (ap (lump_in 0) (first_entry place lump rest spelled.0) ∙ entry-lump place lump spelled.0 (omega arith) (omega (arith, length_adds)))
stored-entry place (lump ∷ rest) (suc k) d spelled fits lt =
    let length_adds : length (lump.bytes ++ contents rest) ≡ length lump.bytes + length (contents rest) = length-append lump.bytes (contents rest) in
    stored-entry (place + length lump.bytes) rest k d spelled.1 (omega (arith, length_adds)) (omega arith)
    ∙ ap (lump_in 0) (sym (later_entry place lump rest k spelled.0))

stored-length : (place : ℕ) (lumps : List made.Lump) → length (stored_from place lumps) ≡ length lumps
unfolding stored_from
stored-length place [] = refl
stored-length place (lump ∷ rest) = ap suc (stored-length (place + length lump.bytes) rest)

-- the lumps that the entries spell
pub lumps_in-entries : (place : ℕ) (lumps : List made.Lump) → AllByRecursion IsSpelled lumps → place + length (contents lumps) < 2 ^ 32
    → lumps_in 0 (length lumps) (entries place lumps) ≡ stored_from place lumps
unfolding lumps_in
lumps_in-entries place lumps spelled fits =
    sym (listed-all (λ index. lump_in 0 (entry_at (entries place lumps) index)) (stored_from place lumps) (length lumps) no_lump
    (stored-length place lumps) (λ k lt. stored-entry place lumps k no_lump spelled fits lt))

-- no lump passes the end of the file
stored-within : (place size : ℕ) (lumps : List made.Lump) → place + length (contents lumps) ≤ size → (k : ℕ) (d : Lump) → k < length lumps
    → passes_end size (get_or (stored_from place lumps) k d) ≡ false
unfolding stored_from contents
stored-within place size [] fits k d lt = absurd (omega arith)
stored-within place size (lump ∷ rest) fits zero d lt =
    let length_adds : length (lump.bytes ++ contents rest) ≡ length lump.bytes + length (contents rest) = length-append lump.bytes (contents rest) in
    let inside : place + length lump.bytes ≤ size = omega (arith, length_adds) in
    and-false_right (not (length lump.bytes == 0)) _ (lt-false size (place + length lump.bytes) inside)
stored-within place size (lump ∷ rest) fits (suc k) d lt =
    let length_adds : length (lump.bytes ++ contents rest) ≡ length lump.bytes + length (contents rest) = length-append lump.bytes (contents rest) in
    stored-within (place + length lump.bytes) size rest (omega (arith, length_adds)) k d (omega arith)

no_entry-refused : (place size : ℕ) (lumps : List made.Lump) → place + length (contents lumps) ≤ size → entry_refusal 0 size (stored_from place lumps) ≡ None
unfolding entry_refusal
no_entry-refused place size lumps fits =
    let all_lumps = stored_from place lumps in
    let end : position_or_len (passes_end size) all_lumps ≡ length all_lumps =
    position_or_len_is (passes_end size) all_lumps (length all_lumps) no_lump (omega arith)
    (λ k lt. stored-within place size lumps fits k no_lump (omega (arith, stored-length place lumps)))
    (λ lt. absurd (omega arith)) in
    ap (λ n. option_map (λ index. Entry 0 index) (cond (nat_lt n (length all_lumps)) (Some n) None)) end
    ∙ rw (lt-false (length all_lumps) (length all_lumps) (omega arith)) refl

-- the first twelve bytes of the file of so many lumps whose directory begins there
pub front : ℕ → ℕ → List ℕ
front count place = (codes "IWAD" ++ word_bytes count) ++ word_bytes place

pub front-length : (count place : ℕ) → length (front count place) ≡ 12
unfolding front word_bytes
front-length count place = refl

-- where the directory of a new file begins
pub directory_at : List made.Lump → ℕ
directory_at lumps = HEAD_SIZE + length (contents lumps)

pub directory_at-is : (lumps : List made.Lump) → directory_at lumps ≡ 12 + length (contents lumps)
unfolding directory_at
directory_at-is lumps = refl

pub file-parts : (lumps : List made.Lump) → wad_file lumps ≡ front (length lumps) (directory_at lumps) ++ (contents lumps ++ entries HEAD_SIZE lumps)
unfolding wad_file file_of front directory_at
file-parts lumps =
    append_assoc (front (length lumps) (directory_at lumps)) (contents lumps) (entries HEAD_SIZE lumps)

pub wad_file-length : (lumps : List made.Lump) → AllByRecursion IsSpelled lumps
    → length (wad_file lumps) ≡ directory_at lumps + 16 * length lumps
wad_file-length lumps spelled =
    let front_size : ℕ = length (front (length lumps) (directory_at lumps)) in
    ap length (file-parts lumps)
    ∙ length-append (front (length lumps) (directory_at lumps)) (contents lumps ++ entries HEAD_SIZE lumps)
    ∙ rw (front-length (length lumps) (directory_at lumps), length-append (contents lumps) (entries HEAD_SIZE lumps), entries-length HEAD_SIZE lumps spelled)
    (let directory_is : directory_at lumps ≡ 12 + length (contents lumps) = directory_at-is lumps in omega arith)

file-header : (lumps : List made.Lump) → header (wad_file lumps) ≡ front (length lumps) (directory_at lumps)
file-header lumps =
    let head = front (length lumps) (directory_at lumps) in
    ap (take 12) (file-parts lumps)
    ∙ ap (λ n. take n (head ++ (contents lumps ++ entries HEAD_SIZE lumps))) (sym (front-length (length lumps) (directory_at lumps)))
    ∙ take-append_seam head (contents lumps ++ entries HEAD_SIZE lumps)

front-count : (count place : ℕ) → count < 2 ^ 32 → entry_count (front count place) ≡ count
unfolding front word_at
front-count count place lt = word_value count (word_bytes place) lt

front-place : (count place : ℕ) → place < 2 ^ 32 → directory_place (front count place) ≡ place
unfolding front word_bytes word_at
front-place count place lt = word_value place [] lt

front-wad : (count place : ℕ) → is_wad (take LETTER_COUNT (front count place)) ≡ true
unfolding front word_bytes
front-wad count place = refl

-- the entries of a new file
file-entries : (lumps : List made.Lump) → AllByRecursion IsSpelled lumps → length lumps < 2 ^ 32 → directory_at lumps < 2 ^ 32
    → entries_in (header (wad_file lumps)) (wad_file lumps) ≡ entries HEAD_SIZE lumps
file-entries lumps spelled few fits =
    let head = front (length lumps) (directory_at lumps) in
    let directory_bytes = entries HEAD_SIZE lumps in
    let contents_and_entries = contents lumps ++ directory_bytes in
    let place : directory_place (header (wad_file lumps)) ≡ directory_at lumps = ap (λ h. directory_place h) (file-header lumps) ∙ front-place (length lumps) (directory_at lumps) fits in
    let count : entry_count (header (wad_file lumps)) ≡ length lumps = ap (λ h. entry_count h) (file-header lumps) ∙ front-count (length lumps) (directory_at lumps) few in
    let place_by_lengths : directory_at lumps ≡ length head + length (contents lumps) = directory_at-is lumps ∙ ap (λ n. n + length (contents lumps)) (sym (front-length (length lumps) (directory_at lumps))) in
    let dropped : drop (directory_at lumps) (wad_file lumps) ≡ directory_bytes =
    ap (drop (directory_at lumps)) (file-parts lumps)
    ∙ ap (λ n. drop n (head ++ contents_and_entries)) place_by_lengths
    ∙ drop-append-add head contents_and_entries (length (contents lumps))
    ∙ drop-append_seam (contents lumps) directory_bytes in
    ap (λ n. take (ENTRY_SIZE * n) (drop (directory_place (header (wad_file lumps))) (wad_file lumps))) count
    ∙ ap (λ n. take (ENTRY_SIZE * length lumps) (drop n (wad_file lumps))) place
    ∙ ap (take (ENTRY_SIZE * length lumps)) dropped
    ∙ ap (λ n. take n directory_bytes) (sym (entries-length HEAD_SIZE lumps spelled))
    ∙ take-length directory_bytes

file-lumps : (lumps : List made.Lump) → AllByRecursion IsSpelled lumps → length lumps < 2 ^ 32 → directory_at lumps < 2 ^ 32
    → file_lumps 0 (wad_file lumps) ≡ stored_from HEAD_SIZE lumps
unfolding file_lumps
file-lumps lumps spelled few fits =
    let count : entry_count (header (wad_file lumps)) ≡ length lumps = ap (λ h. entry_count h) (file-header lumps) ∙ front-count (length lumps) (directory_at lumps) few in
    ap (λ n. lumps_in 0 n (entries_in (header (wad_file lumps)) (wad_file lumps))) count
    ∙ ap (lumps_in 0 (length lumps)) (file-entries lumps spelled few fits)
    ∙ lumps_in-entries HEAD_SIZE lumps spelled (let directory_is : directory_at lumps ≡ 12 + length (contents lumps) = directory_at-is lumps in omega arith)

header-unrefused : (lumps : List made.Lump) → AllByRecursion IsSpelled lumps → length lumps ≤ MAX_LUMPS → directory_at lumps < 2 ^ 32
    → header_refusal 0 0 (wad_file lumps) ≡ None
unfolding whole_header_refusal
header-unrefused lumps spelled few fits =
    let count_below_word : length lumps < 2 ^ 32 = omega arith in
    let size : length (wad_file lumps) ≡ directory_at lumps + 16 * length lumps = wad_file-length lumps spelled in
    let directory_is : directory_at lumps ≡ 12 + length (contents lumps) = directory_at-is lumps in
    let place : directory_place (header (wad_file lumps)) ≡ directory_at lumps = ap (λ h. directory_place h) (file-header lumps) ∙ front-place (length lumps) (directory_at lumps) fits in
    let count : entry_count (header (wad_file lumps)) ≡ length lumps = ap (λ h. entry_count h) (file-header lumps) ∙ front-count (length lumps) (directory_at lumps) count_below_word in
    let wad : is_wad (take LETTER_COUNT (header (wad_file lumps))) ≡ true = ap (λ h. is_wad (take LETTER_COUNT h)) (file-header lumps) ∙ front-wad (length lumps) (directory_at lumps) in
    let whole : nat_lt (length (wad_file lumps)) HEADER_SIZE ≡ false = lt-false (length (wad_file lumps)) HEADER_SIZE (omega arith) in
    let inside : nat_lt (length (wad_file lumps)) (directory_place (header (wad_file lumps)) + ENTRY_SIZE * entry_count (header (wad_file lumps))) ≡ false =
    lt-false _ _ (omega arith) in
    let not_too_many : nat_lt MAX_LUMPS (0 + entry_count (header (wad_file lumps))) ≡ false = lt-false _ _ (omega arith) in
    rw (whole, wad, inside, not_too_many) refl

-- The directory of a new file lists its lumps, where their names are spelled as a directory spells them, they are
-- not too many, and the directory begins below 2^32.
pub directory-of_file : (lumps : List made.Lump) → AllByRecursion IsSpelled lumps → length lumps ≤ MAX_LUMPS → directory_at lumps < 2 ^ 32
    → directory (wad_file lumps ∷ []) ≡ Ok (stored_lumps lumps)
unfolding refusal_from lumps_from stored_lumps
directory-of_file lumps spelled few fits =
    let count_below_word : length lumps < 2 ^ 32 = omega arith in
    let directory_is : directory_at lumps ≡ 12 + length (contents lumps) = directory_at-is lumps in
    let size : length (wad_file lumps) ≡ directory_at lumps + 16 * length lumps = wad_file-length lumps spelled in
    let lumps_are : file_lumps 0 (wad_file lumps) ≡ stored_from HEAD_SIZE lumps = file-lumps lumps spelled count_below_word fits in
    let none_refused : entry_refusal 0 (length (wad_file lumps)) (file_lumps 0 (wad_file lumps)) ≡ None =
    ap (entry_refusal 0 (length (wad_file lumps))) lumps_are ∙ no_entry-refused HEAD_SIZE (length (wad_file lumps)) lumps (omega arith) in
    rw (header-unrefused lumps spelled few fits, none_refused) (ap Ok (append-nil (file_lumps 0 (wad_file lumps)) ∙ lumps_are))
