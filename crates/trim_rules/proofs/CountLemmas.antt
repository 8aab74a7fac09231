-- A directory lists no more lumps than it may.
use Rattle.art_rules.proofs.Common.{[], ap, arith, Bool, false, if◌then◌else◌, length, length-append, List, ltb-false, nat_lt, None, not, Ok, Option, or_else-none, refl, Some, suc, take, true, ℕ, ◌++◌, ◌+◌, ◌∷◌, ◌≡◌, ◌≤◌}
use Rattle.trim_rules.specs.Rules.{DirRefusal, HEADER_SIZE, LETTER_COUNT, Lump, MAX_LUMPS, NotWad, Short, TooMany, directory, directory_place, directory_size, entry_count, file_lumps, file_refusal, header, header_refusal, is_wad, lumps_from, refusal_from, unless_refused, whole_header_refusal}
use Rattle.art_rules.proofs.Laws.{file_lumps-length}

else_none : (b : Bool) (refusal : DirRefusal) (o : Option DirRefusal) → (if b then Some refusal else o) ≡ None → (b ≡ false) × (o ≡ None)
else_none true refusal o e = absurd (cc)
else_none false refusal o e = (refl, e)

header_few : (file before size : ℕ) (head : List ℕ) → whole_header_refusal file before size head ≡ None → before + entry_count head ≤ MAX_LUMPS
unfolding whole_header_refusal
header_few file before size head e =
    let letters = else_none (not (is_wad (take LETTER_COUNT head))) (NotWad file) _ e in
    let short = else_none (nat_lt size (directory_place head + directory_size head)) (Short file) _ letters.1 in
    let count_fits : nat_lt MAX_LUMPS (before + entry_count head) ≡ false = (else_none (nat_lt MAX_LUMPS (before + entry_count head)) TooMany None short.1).0 in
    omega (arith, ltb-false)

file_few : (file before : ℕ) (bytes : List ℕ) → file_refusal file before bytes ≡ None → before + entry_count (header bytes) ≤ MAX_LUMPS
file_few file before bytes e =
    let head = or_else-none (header_refusal file before bytes) _ e in
    header_few file before (length bytes) (header bytes) (else_none (nat_lt (length bytes) HEADER_SIZE) (Short file) _ head.0).1

from_few : (file before : ℕ) (contents : List (List ℕ)) → before ≤ MAX_LUMPS → refusal_from file before contents ≡ None → before + length (lumps_from file contents) ≤ MAX_LUMPS
unfolding refusal_from lumps_from
from_few file before [] le e = omega arith
from_few file before (bytes ∷ rest) le e =
    let none_refused = or_else-none (file_refusal file before bytes) (refusal_from (suc file) (before + entry_count (header bytes)) rest) e in
    let rest_few = from_few (suc file) (before + entry_count (header bytes)) rest (file_few file before bytes none_refused.0) none_refused.1 in
    let count : length (file_lumps file bytes) ≡ entry_count (header bytes) = file_lumps-length file bytes in
    let lengths_add_up : length (file_lumps file bytes ++ lumps_from (suc file) rest) ≡ length (file_lumps file bytes) + length (lumps_from (suc file) rest) =
    length-append (file_lumps file bytes) (lumps_from (suc file) rest) in
    omega arith

directory_step : (o : Option DirRefusal) (found lumps : List Lump) → unless_refused o found ≡ Ok lumps → (o ≡ None) × (found ≡ lumps)
directory_step None found lumps e = (refl, cc)
directory_step (Some refusal) found lumps e = absurd (cc)

-- at most 65535
pub directory-few : (contents : List (List ℕ)) (lumps : List Lump) → directory contents ≡ Ok lumps → length lumps ≤ MAX_LUMPS
directory-few contents lumps e =
    let unrefused_and_listed = directory_step (refusal_from 0 0 contents) (lumps_from 0 contents) lumps e in
    let at_most_max : 0 + length (lumps_from 0 contents) ≤ MAX_LUMPS = from_few 0 0 contents (omega arith) unrefused_and_listed.0 in
    let lengths_same : length (lumps_from 0 contents) ≡ length lumps = ap length unrefused_and_listed.1 in
    omega arith
